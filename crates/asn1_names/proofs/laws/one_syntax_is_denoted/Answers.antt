use Rattle.asn1_names.proofs.DenotedOnce.{one_syntax}
use Rattle.asn1_names.proofs.laws.one_syntax_is_denoted.Goals as goal

pub returns : goal.returns
returns c = λ ms m of one other h k. one_syntax h k
