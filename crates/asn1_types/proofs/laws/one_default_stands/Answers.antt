-- One text at a path.
use Rattle.asn1_types.proofs.DefaultOnce.{one_default_text}
use Rattle.asn1_types.proofs.laws.one_default_stands.Goals as goal

pub returns : goal.returns
returns c = λ ms meant path v w one other h k. one_default_text h k
