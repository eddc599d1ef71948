use Rattle.std.proofs.Common.{◌≡◌, drop}
use Rattle.term_values.specs.Beginnings.{has_tag, parts_tags}
use Rattle.term_values.specs.PartsView.{parts_listed}
use Rattle.ber_values.proofs.tagging.+beginning.Given as goal

abbrev pub invariant-one_begins-loop-part : goal.invariant-one_begins-loop-part
invariant-one_begins-loop-part l =
    has_tag (parts_tags (parts_listed l.part-items)) l.tag
    ≡ has_tag (parts_tags (parts_listed (drop l.part-index l.part-items))) l.tag
