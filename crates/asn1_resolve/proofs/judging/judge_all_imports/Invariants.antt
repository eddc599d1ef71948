use Rattle.asn1_names.specs.TermViews.{module_terms}
use Rattle.asn1_resolve.specs.AllFaults.{Below, ImportFaultsAt}
use Rattle.asn1_resolve.specs.FaultSets.{IsFirstOf}
use Rattle.asn1_resolve.proofs.judging.judge_all_imports.Given as goal

abbrev pub invariant-loop-place : goal.invariant-loop-place
invariant-loop-place l = IsFirstOf (Below (ImportFaultsAt (module_terms l.tables)) l.place) l.first
