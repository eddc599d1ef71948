-- What stands at the place.
use Rattle.std.proofs.Common.{Some, sym, ap, ◌∙◌}
use Rattle.attribute_rules.proofs.PlaceLaws.{stands_at, stands_nowhere}
use Rattle.attribute_rules.proofs.places.attribute_of.Goals as goal

pub returns-in-Some : goal.returns-in-Some
returns-in-Some c = λ rise.
    let xs = c.args.attributes.now in
    let id = c.args.id.now in
    let at = stands_at xs id c.in-Some.place (sym (c.in-Some.ensures.place rise)) in
    ap Some c.index-attributes-place.is ∙ sym (at.found c.index-attributes-place.result)

pub returns-in-None : goal.returns-in-None
returns-in-None c = λ rise.
    sym (stands_nowhere c.args.attributes.now c.args.id.now (sym (c.in-None.ensures.place rise))).none
