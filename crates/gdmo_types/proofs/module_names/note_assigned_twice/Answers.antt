-- An assignment more, and all of them.
use Rattle.std.proofs.Common.{◌<◌, ◌≤◌, arith, length, map}
use Rattle.std.proofs.Math.Path.{subst}
use Rattle.std.proofs.lemmas.List.{length-map}
use Rattle.asn1_names.specs.TermViews.{assignment_term, module_term}
use Rattle.asn1_numbers.proofs.HeldLaws.{get_map}
use Rattle.gdmo_names.specs.FaultSets.{Notes}
use Rattle.gdmo_types.specs.ModuleNames.{AssignedAgain}
use Rattle.gdmo_types.specs.PlaceFaults.{AtPlaces}
use Rattle.gdmo_types.proofs.ModuleNameLaws.{HasNames, Nothing_first, assigned, assigned_noted, names_step}
use Rattle.gdmo_types.proofs.PlaceFaultLaws.{before_all, before_step}
use Rattle.gdmo_types.proofs.StepLaws.{got_at}
use Rattle.gdmo_types.proofs.module_names.note_assigned_twice.Goals as goal

pub loop-assignment-preserved : goal.loop-assignment-preserved
loop-assignment-preserved c =
    let items = c.deref-assignment-items.result.now in
    let k = c.loop-assignment.assignment-index in
    let item = c.assignment-item.result in
    let within : k < length items = omega (arith, c.loop-assignment-test.true) in
    let at = get_map assignment_term items k item (got_at items k item within c.assignment-item.is) in (
      names_step Nothing_first assigned (map assignment_term items) k (assignment_term item) c.loop-assignment.names
          c.note_name.new.names at c.loop-assignment.invariant.0 c.in_ok-note_name.ensures.names,
      before_step (AssignedAgain (module_term c.args.text.now)) (map assignment_term items) k (assignment_term item) at
          c.loop-assignment.invariant.1
          (assigned_noted (module_term c.args.text.now) k (assignment_term item) c.loop-assignment.names
          c.loop-assignment.faults.first c.note_name.new.faults.first
          (subst (λ xs. HasNames Nothing_first assigned (map assignment_term xs) k c.loop-assignment.names)
          c.deref-assignment-items.ensures.value c.loop-assignment.invariant.0) c.in_ok-note_name.ensures.faults),
    )

pub returns : goal.returns
returns c =
    let items = c.deref-assignment-items.result.now in
    let k = c.loop-assignment.assignment-index in
    let same = length-map items assignment_term in
    let past : length (map assignment_term items) ≤ k = omega (arith, same, c.loop-assignment-test.false) in
    subst (λ xs. Notes (AtPlaces (AssignedAgain (module_term c.args.text.now)) (map assignment_term xs))
    c.args.faults.now.first c.loop-assignment.faults.first) c.deref-assignment-items.ensures.value
    (before_all (AssignedAgain (module_term c.args.text.now)) (map assignment_term items) k past
    c.loop-assignment.invariant.1)
