use Rattle.std.proofs.Common.{map, take}
use Rattle.asn1_names.specs.TermViews.{import_term, module_terms}
use Rattle.asn1_resolve.specs.AllFaults.{ImportFaults}
use Rattle.asn1_resolve.specs.FaultSets.{AnyOf, In, IsFirstOf}
use Rattle.asn1_resolve.proofs.import_faults.judge_groups.Given as goal

abbrev pub invariant-loop-group : goal.invariant-loop-group
invariant-loop-group l = IsFirstOf (In l.home.document (AnyOf (ImportFaults (module_terms l.tables))
    (map import_term (take l.group-index l.groups)))) l.first
