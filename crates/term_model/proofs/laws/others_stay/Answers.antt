use Rattle.term_model.proofs.MapLaws.{others_stay}
use Rattle.term_model.proofs.laws.others_stay.Goals as goal

pub returns : goal.returns
returns c = others_stay
