use Rattle.term_values.specs.ValueContents.{whole_contents}
use Rattle.term_values.proofs.leaf_lengths.whole_value.Goals as goal

pub returns : goal.returns
returns c = c.with_header.ensures (whole_contents c.args.value.now) c.whole_length-contents.ensures
