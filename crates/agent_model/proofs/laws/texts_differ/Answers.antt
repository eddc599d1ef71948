use Rattle.agent_model.proofs.TextLaws.{texts_differ}
use Rattle.agent_model.proofs.laws.texts_differ.Goals as goal

pub returns : goal.returns
returns c = texts_differ
