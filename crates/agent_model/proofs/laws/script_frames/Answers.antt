use Rattle.agent_model.proofs.FrameLaws.{script_frames}
use Rattle.agent_model.proofs.laws.script_frames.Goals as goal

pub returns : goal.returns
returns c = script_frames
