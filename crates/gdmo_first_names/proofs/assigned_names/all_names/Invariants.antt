-- The names of the assignments so far.
use Rattle.gdmo_first_names.specs.DefinedNames.{AreNamesBelow}
use Rattle.gdmo_first_names.specs.ReadModules.{HasModules}
use Rattle.gdmo_names.specs.PartTerms.{PartTerms}
use Rattle.gdmo_first_names.proofs.assigned_names.all_names.Given as goal

abbrev pub invariant-loop-number : goal.invariant-loop-number
invariant-loop-number l = (parts : PartTerms) → HasModules parts l.numbers → AreNamesBelow parts l.number l.assigned
