use Rattle.agent_model.proofs.TextLaws.{print_tells_journal}
use Rattle.agent_model.proofs.laws.print_tells_journal.Goals as goal

pub returns : goal.returns
returns c = print_tells_journal
