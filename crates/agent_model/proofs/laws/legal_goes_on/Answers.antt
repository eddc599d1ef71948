use Rattle.agent_model.proofs.HistoryLaws.{legal_append}
use Rattle.agent_model.proofs.laws.legal_goes_on.Goals as goal

pub returns : goal.returns
returns c = legal_append
