use Rattle.opening_laws.proofs.Built.{opened_superiors}
use Rattle.opening_laws.proofs.laws.opened_have_superiors.Goals as goal

pub returns : goal.returns
returns c = opened_superiors
