use Rattle.opening_laws.proofs.Objects.{opened_objects}
use Rattle.opening_laws.proofs.laws.opened_have_objects.Goals as goal

pub returns : goal.returns
returns c = opened_objects
