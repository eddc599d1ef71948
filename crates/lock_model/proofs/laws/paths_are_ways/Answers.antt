use Rattle.lock_model.proofs.Depths.{paths_are_ways}
use Rattle.lock_model.proofs.laws.paths_are_ways.Goals as goal

pub returns : goal.returns
returns c = paths_are_ways
