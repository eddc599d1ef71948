use Rattle.opening_laws.proofs.Built.{opened_by_name}
use Rattle.opening_laws.proofs.laws.opened_are_by_name.Goals as goal

pub returns : goal.returns
returns c = opened_by_name
