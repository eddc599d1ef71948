use Rattle.std.proofs.Common.{map, take}
use Rattle.asn1_names.specs.Constraining.{Constrains}
use Rattle.asn1_names.specs.TermViews.{limit_term, module_terms, type_term}
use Rattle.asn1_types.specs.BuiltSyntaxes.{TakesLimits}
use Rattle.asn1_types.proofs.constraining.constrained.Given as goal

abbrev pub invariant-loop-constraint : goal.invariant-loop-constraint
invariant-loop-constraint l =
    TakesLimits (module_terms l.numbers) l.home (type_term l.of) (map limit_term l.constraints) l.fn.syntax →
    Constrains (module_terms l.numbers) l.home (type_term l.of)
    (map limit_term (take l.constraint-index l.constraints)) l.fn.syntax l.left
