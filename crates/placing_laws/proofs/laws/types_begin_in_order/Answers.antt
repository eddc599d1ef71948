use Rattle.placing_laws.proofs.ModuleTypes.{types_in_order}
use Rattle.placing_laws.proofs.laws.types_begin_in_order.Goals as goal

pub returns : goal.returns
returns c = types_in_order
