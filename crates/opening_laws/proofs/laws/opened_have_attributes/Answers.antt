use Rattle.opening_laws.proofs.Objects.{opened_attributes}
use Rattle.opening_laws.proofs.laws.opened_have_attributes.Goals as goal

pub returns : goal.returns
returns c = opened_attributes
