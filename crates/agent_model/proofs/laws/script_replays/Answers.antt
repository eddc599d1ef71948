use Rattle.agent_model.proofs.ScriptLaws.{script_replays}
use Rattle.agent_model.proofs.laws.script_replays.Goals as goal

pub returns : goal.returns
returns c = script_replays
