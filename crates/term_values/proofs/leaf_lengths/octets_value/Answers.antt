use Rattle.term_values.specs.ValueContents.{octets_contents}
use Rattle.term_values.proofs.leaf_lengths.octets_value.Goals as goal

pub returns : goal.returns
returns c = c.with_header.ensures (octets_contents c.args.value.now) c.octets_length-contents.ensures
