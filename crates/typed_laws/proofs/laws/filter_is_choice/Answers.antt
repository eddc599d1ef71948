use Rattle.typed_laws.proofs.FilterChoice.{filter_is_choice}
use Rattle.typed_laws.proofs.laws.filter_is_choice.Goals as goal

pub returns : goal.returns
returns c = filter_is_choice
