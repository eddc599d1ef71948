-- The tags before the one at the index are added.
use Rattle.std.proofs.Common.{◌≡◌, ◌||◌, take}
use Rattle.term_values.specs.Beginnings.{is_one_of}
use Rattle.term_values.specs.declared.tag.Tag.{Tag}
use Rattle.asn1_tags.specs.TagRuns.{has_key}
use Rattle.asn1_tags.proofs.tag_runs.add_tags.Given as goal

abbrev pub invariant-loop-tag : goal.invariant-loop-tag
invariant-loop-tag l = (other : Tag) →
    has_key l.keys other ≡ (has_key l.fn.keys other || is_one_of (take l.tag-index l.tags) other)
