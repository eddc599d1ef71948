use Rattle.lock_model.proofs.Effects.{create_keeps_to_unit}
use Rattle.lock_model.proofs.laws.creates_keep_to_units.Goals as goal

pub returns : goal.returns
returns c = create_keeps_to_unit
