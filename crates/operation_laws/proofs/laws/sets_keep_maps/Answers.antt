use Rattle.operation_laws.proofs.KeptMaps.{sets_keep_maps}
use Rattle.operation_laws.proofs.laws.sets_keep_maps.Goals as goal

pub returns : goal.returns
returns c = sets_keep_maps
