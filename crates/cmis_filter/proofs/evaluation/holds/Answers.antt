use Rattle.cmis_filter.proofs.FilterLaws.{computed}
use Rattle.cmis_filter.proofs.evaluation.holds.Goals as goal

pub returns-clause-truth : goal.returns-clause-truth
returns-clause-truth c =
    computed c.args.set.now.attributes c.args.object.now.attrs c.args.filter.now c.filter_truth.result
    c.filter_truth.ensures.truth
