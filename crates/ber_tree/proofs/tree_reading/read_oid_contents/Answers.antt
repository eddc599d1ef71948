use Rattle.std.proofs.Common.{◌∙◌, arith, rules, Fits, w32}
use Rattle.std.proofs.lemmas.List.{take_rest}
use Rattle.ber_tree.proofs.IdentifierSteps.{spelt_more, goes_on}
use Rattle.ber_tree.proofs.tree_reading.read_oid_contents.Goals as goal
use Rattle.ber_tree.proofs.tree_reading.read_oid_contents.Goals.{in_default-via-in-Some-read_subidentifier+else-as_slice-lt-MOST_ARCS}
use Rattle.ber_tree.proofs.tree_reading.read_oid_contents.Goals.{in_default-via-in_default}

pub loop-at-preserved : goal.loop-at-preserved
loop-at-preserved c =
    let octets = c.args.octets.now in
    let at = c.loop-at.at in
    let found = rw (take_rest octets at) at c.in-Some-read_subidentifier.ensures.found in
    let small : Fits w32 c.in-Some-read_subidentifier.arc = search rules in
    rw c.in_ok-push-in-Some-read_subidentifier.ensures.items
    (spelt_more octets at c.in-Some-read_subidentifier.size c.in-Some-read_subidentifier.arc c.loop-at.arcs.items
    c.loop-at.invariant (omega arith) found.0 found.2 (omega arith))

pub returns-in_default-clause-none : goal.returns-in_default-clause-none
returns-in_default-clause-none c = λ arcs oid fits e.
    let octets = c.args.octets.now in
    let at = c.loop-at.at in
    let g = goes_on octets at c.loop-at.arcs.items arcs c.loop-at.invariant c.loop-at-test.true oid fits e in
    let few = g.few in
    elim c.in_default.branch [
      | in_default-via-in-Some-read_subidentifier+else-as_slice-lt-MOST_ARCS w ↦ absurd (omega arith)
      | in_default-via-in_default w ↦ w.in_default.ensures.none g.arc g.rest g.small (take_rest octets at ∙ g.spelt)
    ]
