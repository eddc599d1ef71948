use Rattle.term_values.specs.ValueContents.{bits_contents}
use Rattle.term_values.proofs.leaf_lengths.bits_value.Goals as goal

pub returns : goal.returns
returns c = c.with_header.ensures (bits_contents c.args.value.now) c.bits_length-contents.ensures
