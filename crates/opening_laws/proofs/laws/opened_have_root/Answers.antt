use Rattle.opening_laws.proofs.Built.{opened_root}
use Rattle.opening_laws.proofs.laws.opened_have_root.Goals as goal

pub returns : goal.returns
returns c = opened_root
