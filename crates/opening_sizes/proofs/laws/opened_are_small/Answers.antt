use Rattle.opening_sizes.proofs.Sizes.{opened_are_small}
use Rattle.opening_sizes.proofs.laws.opened_are_small.Goals as goal

pub returns : goal.returns
returns c = opened_are_small
