use Rattle.term_model.proofs.MapLaws.{stored_is_found}
use Rattle.term_model.proofs.laws.stored_is_found.Goals as goal

pub returns : goal.returns
returns c = stored_is_found
