use Rattle.term_values.specs.ValueContents.{truth_contents}
use Rattle.term_values.proofs.leaf_lengths.truth_value.Goals as goal

pub returns : goal.returns
returns c = c.with_header.ensures (truth_contents c.args.value.now) c.truth_length-contents.ensures
