-- One more property has its place.
use Rattle.std.proofs.Common.{rules, ◌≡◌, ◌+◌, ◌<◌, ◌++◌, [], ◌∷◌, length, take, get_or, sym, ap, ◌∙◌}
use Rattle.std.proofs.lemmas.List.{take_more}
use Rattle.term_model.specs.declared.packages.Property.{Property}
use Rattle.term_model.proofs.PlaceLaws.{record_placed}
use Rattle.attribute_rules.proofs.property_places.places_among.Goals as goal

pub loop-place-preserved : goal.loop-place-preserved
loop-place-preserved c =
    let properties = c.args.properties.now in
    let place = c.loop-place.place in
    let property : Property = c.index-properties-place.result in
    let within : place < length properties = search rules in
    let one : get_or properties place property ≡ property = sym c.index-properties-place.is in
    let behind : place ≡ length (take place properties) = search rules in
    record_placed (λ (one : Property). one.attribute) c.loop-place.places c.add_place.new.places
    (take place properties) (take (place + 1) properties) property (get_or properties place property).attribute place
    (take_more properties place property within ∙ ap (λ (x : Property). take place properties ++ x ∷ []) one)
    (ap (λ (x : Property). x.attribute) one) behind c.loop-place.invariant c.in_ok-add_place.ensures
