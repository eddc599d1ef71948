-- The assignments of the modules so far have been looked at.
use Rattle.std.proofs.Common.{List, drop}
use Rattle.asn1_names.specs.AssignmentNumbers.{all_numbered}
use Rattle.asn1_names.specs.ModuleTerms.{ModuleTerm}
use Rattle.linked_parts.specs.declared.linked.Linked.{Linked}
use Rattle.filled_syntaxes.specs.JudgedAssignments.{AreJudged}
use Rattle.filled_syntaxes.specs.KnownThings.{AreNamedThings}
use Rattle.filled_syntaxes.proofs.named_things.NamedThings.assigned_values.Given as goal

abbrev pub invariant-loop-module : goal.invariant-loop-module
invariant-loop-module l = (ms : List ModuleTerm) (linked : Linked) → AreNamedThings ms linked l.self →
    AreJudged ms linked (all_numbered l.module-index (drop l.module-index ms)) l.values.items l.initial.bad.first
    l.bad.first
