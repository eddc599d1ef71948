-- Numbers tell types.
use Rattle.gdmo_types.proofs.ComparedLaws.{other_types}
use Rattle.gdmo_types.proofs.compared_types.other_types_are_told.Goals as goal

pub returns : goal.returns
returns c = other_types
