use Rattle.agent_model.proofs.RoomLaws.{filled_once}
use Rattle.agent_model.proofs.laws.filled_once.Goals as goal

pub returns : goal.returns
returns c = filled_once
