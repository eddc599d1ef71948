use Rattle.std.proofs.Common.{take}
use Rattle.std.specs.Prelude.{IsTrue}
use Rattle.asn1_names.specs.TermViews.{module_terms, type_term}
use Rattle.asn1_resolve.specs.FaultSets.{AnyOf, Either, In, IsFirstOf}
use Rattle.asn1_resolve.specs.TypeFaults.{IsFew, OwnFaults}
use Rattle.asn1_resolve.proofs.RowLaws.{AlternativeFaults, ComponentFaults}
use Rattle.asn1_resolve.proofs.type_faults.+judge_type.Given as goal

abbrev pub invariant-loop-component : goal.invariant-loop-component
invariant-loop-component l =
    (IsTrue l.told → IsFew (module_terms l.facts) l.home.module (type_term l.of)) → IsFirstOf (In l.home.document
    (Either (OwnFaults (IsTrue l.told) (module_terms l.facts) l.home.module (type_term l.of)) (AnyOf
    (ComponentFaults (IsTrue l.told) (module_terms l.facts) l.home.module)
    (take l.component-index l.component-items)))) l.first

abbrev pub invariant-loop-alternative : goal.invariant-loop-alternative
invariant-loop-alternative l =
    (IsTrue l.told → IsFew (module_terms l.facts) l.home.module (type_term l.of)) → IsFirstOf (In l.home.document
    (Either (OwnFaults (IsTrue l.told) (module_terms l.facts) l.home.module (type_term l.of)) (AnyOf
    (AlternativeFaults (IsTrue l.told) (module_terms l.facts) l.home.module)
    (take l.alternative-index l.alternative-items)))) l.first
