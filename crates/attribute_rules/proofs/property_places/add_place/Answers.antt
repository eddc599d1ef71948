-- One more property has a place, or its attribute has one already.
use Rattle.std.proofs.Common.{◌≡◌, true, false, sym, ap, ◌∙◌}
use Rattle.std.specs.BTreeMap.{get}
use Rattle.std.specs.Cmp.Lexicographic.{slice_cmp}
use Rattle.std.specs.Option.{is_some}
use Rattle.std.specs.Ordering.{nat_cmp}
use Rattle.term_model.specs.Places.{place_with}
use Rattle.term_model.proofs.PlaceLaws.{place_inserted, place_there}
use Rattle.attribute_rules.proofs.property_places.add_place.Goals as goal

pub returns-in_ok-insert : goal.returns-in_ok-insert
returns-in_ok-insert c = λ q.
    let places = c.args.places.now in
    let absent : is_some (get (slice_cmp nat_cmp) places c.in_ok-id.id) ≡ false =
    ap (λ id. is_some (get (slice_cmp nat_cmp) places id)) c.in_ok-id.ensures
    ∙ sym c.contains_key.ensures ∙ c.if-not-contains_key.true in
    place_inserted places c.insert.new.self c.in_ok-id.id c.args.place absent c.in_ok-insert.ensures.updates.0 q
    ∙ ap (λ id. place_with id c.args.place q (get (slice_cmp nat_cmp) places q)) c.in_ok-id.ensures

pub returns-else-not-contains_key : goal.returns-else-not-contains_key
returns-else-not-contains_key c =
    let there : is_some (get (slice_cmp nat_cmp) c.args.places.now c.args.id.now) ≡ true =
    sym c.contains_key.ensures ∙ c.if-not-contains_key.false in
    place_there c.args.places.now c.args.id.now c.args.place there
