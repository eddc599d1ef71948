-- Numbers tell types.
use Rattle.gdmo_types.proofs.ComparedLaws.{other_stated}
use Rattle.gdmo_types.proofs.compared_types.other_stated_is_told.Goals as goal

pub returns : goal.returns
returns c = other_stated
