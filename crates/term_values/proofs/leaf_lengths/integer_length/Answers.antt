use Rattle.term_values.proofs.LengthSigns.{negative, not_negative}
use Rattle.term_values.proofs.leaf_lengths.integer_length.Goals as goal

pub returns-then-value-lt0 : goal.returns-then-value-lt0
returns-then-value-lt0 c =
    negative c.args.value c.signed_length.result c.ranges.value c.if-value-lt0.true c.signed_length.ensures.exact
    c.signed_length.ensures.within

pub returns-else-value-lt0 : goal.returns-else-value-lt0
returns-else-value-lt0 c =
    not_negative c.args.value c.signed_length-else-value-lt0.result c.ranges.value c.if-value-lt0.false
    c.signed_length-else-value-lt0.ensures.exact c.signed_length-else-value-lt0.ensures.within
