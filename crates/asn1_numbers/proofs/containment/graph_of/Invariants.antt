-- The targets of the assignments so far.
use Rattle.std.proofs.Common.{ℕ, Vec, Global}
use Rattle.std.specs.Prelude.{map}
use Rattle.asn1_names.specs.TermViews.{module_terms}
use Rattle.asn1_numbers.specs.NamedTargets.{AreTargets}
use Rattle.asn1_numbers.proofs.EachLaws.{EachIs}
use Rattle.asn1_numbers.proofs.containment.graph_of.Given as goal

abbrev pub invariant-loop-number : goal.invariant-loop-number
invariant-loop-number l =
    EachIs (AreTargets (module_terms l.tables)) l.number (map (λ (xs : Vec ℕ Global). xs.items) l.targets.items)
