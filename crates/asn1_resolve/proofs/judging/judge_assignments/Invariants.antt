use Rattle.std.proofs.Common.{ℕ, ◌<◌}
use Rattle.asn1_names.specs.TermViews.{module_terms}
use Rattle.asn1_resolve.specs.AllFaults.{Below, FaultsAt}
use Rattle.asn1_resolve.specs.FaultSets.{IsFirstOf}
use Rattle.asn1_resolve.specs.ToldFaults.{IsCounted}
use Rattle.asn1_resolve.proofs.judging.judge_assignments.Given as goal

abbrev pub invariant-loop-number : goal.invariant-loop-number
invariant-loop-number l = IsFirstOf (Below (FaultsAt (module_terms l.facts)) l.number) l.first
    × ((k : ℕ) → k < l.number → IsCounted (module_terms l.facts) k)
