use Rattle.term_model.proofs.MapLaws.{equal_maps}
use Rattle.term_model.proofs.laws.equal_maps.Goals as goal

pub returns : goal.returns
returns c = equal_maps
