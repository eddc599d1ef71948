use Rattle.std.proofs.Common.{map, take}
use Rattle.asn1_names.specs.TermViews.{limit_term, module_terms, type_term}
use Rattle.asn1_resolve.specs.FaultSets.{AnyOf, In, IsFirstOf}
use Rattle.asn1_resolve.specs.TypeFaults.{LimitFaults}
use Rattle.asn1_resolve.proofs.constraint_faults.judge_limits.Given as goal

abbrev pub invariant-loop-constraint : goal.invariant-loop-constraint
invariant-loop-constraint l = IsFirstOf (In l.home.document (AnyOf
    (LimitFaults (module_terms l.numbers) l.home.module (type_term l.of))
    (map limit_term (take l.constraint-index l.constraints)))) l.first
