use Rattle.scope_select.proofs.PrefixLaws.{is_then_within, within_is}
use Rattle.scope_select.proofs.laws.test_tells_within.Goals as goal

pub returns : goal.returns
returns c = λ base scope name. (within_is base scope name, is_then_within base scope name)
