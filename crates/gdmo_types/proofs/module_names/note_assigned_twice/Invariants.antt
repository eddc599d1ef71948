-- The names so far, and which of them came again.
use Rattle.std.proofs.Common.{map}
use Rattle.asn1_names.specs.TermViews.{assignment_term, module_term}
use Rattle.gdmo_names.specs.FaultSets.{Notes}
use Rattle.gdmo_types.specs.ModuleNames.{AssignedAgain}
use Rattle.gdmo_types.specs.PlaceFaults.{BeforePlace}
use Rattle.gdmo_types.proofs.ModuleNameLaws.{HasNames, Nothing_first, assigned}
use Rattle.gdmo_types.proofs.module_names.note_assigned_twice.Given as goal

abbrev pub invariant-loop-assignment : goal.invariant-loop-assignment
invariant-loop-assignment l =
    HasNames Nothing_first assigned (map assignment_term l.assignment-items) l.assignment-index l.names
    × Notes (BeforePlace (AssignedAgain (module_term l.text)) (map assignment_term l.assignment-items)
    l.assignment-index) l.initial.faults.first l.faults.first
