use Rattle.operation_laws.proofs.KeptMaps.{gets_change_nothing}
use Rattle.operation_laws.proofs.laws.gets_change_nothing.Goals as goal

pub returns : goal.returns
returns c = gets_change_nothing
