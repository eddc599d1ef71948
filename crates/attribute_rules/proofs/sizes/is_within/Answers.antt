-- The header's length is that of any contents of this length.
use Rattle.std.proofs.Common.{arith}
use Rattle.attribute_rules.proofs.WeightLaws.{header_within}
use Rattle.attribute_rules.proofs.sizes.is_within.Goals as goal

pub returns-then-contents : goal.returns-then-contents
returns-then-contents c = header_within c.args.contents c.with_header.result (omega arith) c.with_header.ensures
