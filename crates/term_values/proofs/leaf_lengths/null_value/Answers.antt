use Rattle.std.specs.Prelude.{[]}
use Rattle.std.proofs.Common.{refl}
use Rattle.term_values.proofs.leaf_lengths.null_value.Goals as goal

pub returns : goal.returns
returns c = c.with_header.ensures [] refl
