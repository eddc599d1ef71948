-- What is found is the property at the place.
use Rattle.std.proofs.Common.{◌≡◌, None, Some, sym, ap, ◌∙◌}
use Rattle.std.specs.BTreeMap.{get}
use Rattle.std.specs.Cmp.Lexicographic.{slice_cmp}
use Rattle.std.specs.Option.{option_copied}
use Rattle.std.specs.Ordering.{nat_cmp}
use Rattle.term_model.specs.declared.packages.Property.{Property}
use Rattle.term_model.proofs.PlaceLaws.{found_at, lent}
use Rattle.attribute_rules.proofs.property_places.property_among.Goals as goal

pub returns-in-Some : goal.returns-in-Some
returns-in-Some c = λ has.
    let there : get (slice_cmp nat_cmp) c.args.places.now c.args.id.now ≡ Some c.in-Some.place.now =
    sym c.get.ensures.value ∙ ap option_copied c.in-Some.is in
    lent c.args.properties.now c.in-Some.place.now c.get-in-Some.result c.get-in-Some.ensures.lookup.0
    c.get-in-Some.ensures.lookup.1
    ∙ sym
    (found_at (λ (property : Property). property.attribute) c.args.properties.now c.args.id.now
    (Some c.in-Some.place.now) (sym (has c.args.id.now) ∙ there))

pub returns-in-None : goal.returns-in-None
returns-in-None c = λ has.
    let there : get (slice_cmp nat_cmp) c.args.places.now c.args.id.now ≡ None =
    sym c.get.ensures.value ∙ ap option_copied c.in-None.is in
    sym
    (found_at (λ (property : Property). property.attribute) c.args.properties.now c.args.id.now None
    (sym (has c.args.id.now) ∙ there))
