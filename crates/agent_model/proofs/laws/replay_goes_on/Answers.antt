use Rattle.agent_model.proofs.HistoryLaws.{replay_append}
use Rattle.agent_model.proofs.laws.replay_goes_on.Goals as goal

pub returns : goal.returns
returns c = replay_append
