-- The tags with the numbers before the one at the index.
use Rattle.std.proofs.Common.{map, take}
use Rattle.term_values.specs.Beginnings.{is_one_of}
use Rattle.term_values.specs.Tag.{context}
use Rattle.asn1_tags.specs.GatheredTags.{GainsTags}
use Rattle.asn1_tags.proofs.tag_sets.push_contexts.Given as goal

abbrev pub invariant-loop-number : goal.invariant-loop-number
invariant-loop-number l = GainsTags l.fn.into l.into (is_one_of (map context (take l.number-index l.numbers)))
