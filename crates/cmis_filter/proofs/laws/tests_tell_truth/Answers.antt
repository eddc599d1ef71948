use Rattle.cmis_filter.proofs.FilterLaws.{is_true, true_is}
use Rattle.cmis_filter.proofs.laws.tests_tell_truth.Goals as goal

pub returns : goal.returns
returns c = λ records attributes tree. (true_is records attributes tree, is_true records attributes tree)
