use Rattle.std.proofs.Common.{ap, ◌∙◌, ◌+◌}
use Rattle.term_values.proofs.LengthCounts.{header_counts}
use Rattle.term_values.specs.Lengths.{counted}
use Rattle.term_values.specs.Der.{identifier_octets}
use Rattle.term_values.proofs.leaf_lengths.with_header.Goals as goal

pub returns : goal.returns
returns c = λ octets e.
    c.plus.ensures ∙ (ap (λ h. counted (h + c.args.contents)) c.plus-header.ensures
    ∙ header_counts (identifier_octets c.args.constructed c.args.tag) octets c.identifier_length-front.result
    c.length_length-size.result c.args.contents e c.identifier_length-front.ensures c.length_length-size.ensures)
