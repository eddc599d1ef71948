-- One more identifier has a place.
use Rattle.std.proofs.Common.{◌≡◌, false, sym, ◌∙◌}
use Rattle.std.specs.BTreeMap.{get}
use Rattle.std.specs.Cmp.Lexicographic.{slice_cmp}
use Rattle.std.specs.Option.{is_some}
use Rattle.std.specs.Ordering.{nat_cmp}
use Rattle.term_model.proofs.PlaceLaws.{place_inserted}
use Rattle.term_model.proofs.places.add_place.Goals as goal

pub returns-in_ok-insert-clause-added : goal.returns-in_ok-insert-clause-added
returns-in_ok-insert-clause-added c =
    let absent : is_some (get (slice_cmp nat_cmp) c.args.places.now c.args.id) ≡ false =
    sym c.contains_key.ensures ∙ c.if-not-contains_key.true in
    place_inserted c.args.places.now c.insert.new.self c.args.id c.args.place absent c.in_ok-insert.ensures.updates.0
