use Rattle.agent_model.proofs.HistoryLaws.{out_begins}
use Rattle.agent_model.proofs.laws.placed_stays.Goals as goal

pub returns : goal.returns
returns c = λ agent number xs ys. let b = out_begins agent number xs ys in (b.rest, b.whole)
