-- The assignments so far have been looked at, behind those of the modules before.
use Rattle.std.proofs.Common.{◌≡◌, ◌++◌, ℕ, List, Option, Some, drop, map}
use Rattle.std.specs.Prelude.{slice_get}
use Rattle.asn1_names.specs.AssignmentNumbers.{Numbered, numbered_from}
use Rattle.asn1_names.specs.ModuleTerms.{ModuleTerm}
use Rattle.asn1_names.specs.TermViews.{assignment_term, module_term}
use Rattle.linked_parts.specs.declared.linked.Linked.{Linked}
use Rattle.filled_syntaxes.specs.JudgedAssignments.{AreJudged}
use Rattle.filled_syntaxes.specs.KnownThings.{AreNamedThings}
use Rattle.filled_syntaxes.specs.declared.bad_texts.TextPlace.{TextPlace}
use Rattle.filled_syntaxes.proofs.named_things.NamedThings.add_values.Given as goal

abbrev pub invariant-loop-assignment : goal.invariant-loop-assignment
invariant-loop-assignment l = (ms : List ModuleTerm) (linked : Linked) (m : ℕ) (behind : List Numbered)
    (before : Option TextPlace) → AreNamedThings ms linked l.self → slice_get ms m ≡ Some (module_term l.text) →
    AreJudged ms linked (numbered_from m 0 (map assignment_term l.own) ++ behind) l.initial.values.items before
    l.initial.bad.first →
    AreJudged ms linked (numbered_from m l.assignment-index (map assignment_term (drop l.assignment-index l.own))
    ++ behind) l.values.items before l.bad.first
