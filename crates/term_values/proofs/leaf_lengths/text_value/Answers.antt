use Rattle.term_values.specs.ValueContents.{text_contents}
use Rattle.term_values.proofs.leaf_lengths.text_value.Goals as goal

pub returns : goal.returns
returns c = c.with_header.ensures (text_contents c.args.value.now) c.text_length-contents.ensures
