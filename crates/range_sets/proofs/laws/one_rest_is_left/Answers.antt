use Rattle.range_sets.proofs.OneForm.{one_rest}
use Rattle.range_sets.proofs.laws.one_rest_is_left.Goals as goal

pub returns : goal.returns
returns c = λ before after other ranges h k. one_rest before ranges after other h k
