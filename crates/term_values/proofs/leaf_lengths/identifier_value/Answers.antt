use Rattle.term_values.specs.ValueContents.{identifier_contents}
use Rattle.term_values.proofs.leaf_lengths.identifier_value.Goals as goal

pub returns : goal.returns
returns c = c.with_header.ensures (identifier_contents c.args.value.now) c.identifier_contents_length-contents.ensures
