-- One more import.
use Rattle.asn1_names.specs.TermViews.{import_term, module_terms}
use Rattle.asn1_resolve.specs.AllFaults.{ImportFaults}
use Rattle.asn1_resolve.proofs.FirstFaults.{any_none, view_end, view_step}
use Rattle.asn1_resolve.proofs.import_faults.judge_groups.Goals as goal

pub loop-group-init : goal.loop-group-init
loop-group-init c = any_none (ImportFaults (module_terms c.args.tables.now))

pub loop-group-preserved : goal.loop-group-preserved
loop-group-preserved c = view_step (ImportFaults (module_terms c.args.tables.now)) import_term c.args.groups.now
    c.loop-group.group-index c.group-item.result c.loop-group-test.true c.group-item.is c.earlier-first.ensures
    c.loop-group.invariant c.judge_import.ensures

pub returns : goal.returns
returns c = view_end (ImportFaults (module_terms c.args.tables.now)) import_term c.args.groups.now
    c.loop-group.group-index c.loop-group-test.false c.loop-group.invariant
