use Rattle.term_values.specs.ValueContents.{time_contents}
use Rattle.term_values.proofs.leaf_lengths.time_value.Goals as goal

pub returns : goal.returns
returns c = c.with_header.ensures (time_contents c.args.value.now) c.time_length-contents.ensures
