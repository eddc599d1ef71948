-- Here it stands, and none in front of it has the identifier.
use Rattle.std.proofs.Common.{rules, ◌≤◌, length, sym, ◌∙◌, arith}
use Rattle.attribute_rules.proofs.PlaceLaws.{first_at, nowhere}
use Rattle.attribute_rules.proofs.places.first_place.Goals as goal

pub returns-then-eq-clause-place : goal.returns-then-eq-clause-place
returns-then-eq-clause-place c =
    sym (first_at c.args.attributes.now c.args.id.now c.loop-place.place c.index-attributes-place.result
    (search rules) c.loop-place.invariant (sym c.eq.ensures ∙ c.if-eq.true))

pub returns-clause-place : goal.returns-clause-place
returns-clause-place c =
    let past : length c.args.attributes.now ≤ c.loop-place.place = search rules in
    sym (nowhere c.args.attributes.now c.args.id.now
    (λ k d low high. c.loop-place.invariant k d low (omega (arith, past, high))))
