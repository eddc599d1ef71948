use Rattle.term_model.proofs.MapLaws.{names_rise}
use Rattle.term_model.proofs.laws.names_rise.Goals as goal

pub returns : goal.returns
returns c = names_rise
