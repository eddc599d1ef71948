use Rattle.std.proofs.Common.{rules, ◌≡◌, ◌+◌, true, drop, List, ◌∷◌, Some, ap, ◌∙◌}
use Rattle.std.proofs.lemmas.List.{drop_more}
use Rattle.ber_values.proofs.StringLaws.{bit_segment_read}
use Rattle.ber_values.specs.Appending.{bits_appended, bits_kept}
use Rattle.term_values.specs.LeafReading.{bits_in}
use Rattle.term_values.specs.Tag.{is_same_tag}
use Rattle.term_values.specs.TreeTags.{tag_of}
use Rattle.term_values.specs.UniversalTags.{bit_string}
use Rattle.ber_values.proofs.string_reading.+bit_segments.Goals as goal

pub append_bit_segments-loop-tree-preserved : goal.append_bit_segments-loop-tree-preserved
append_bit_segments-loop-tree-preserved t c =
    let trees = c.as_slice-tree-items.result.now in
    let left = drop c.loop-tree.tree-index trees in
    let rest = drop (c.loop-tree.tree-index + 1) trees in
    let more : left ≡ c.tree-item.result ∷ rest =
    drop_more trees c.loop-tree.tree-index c.tree-item.result (search rules) ∙ ap (λ x. x ∷ rest) (search rules) in
    let zeros : c.loop-tree.unused ≡ 0 = search rules in
    let tag : is_same_tag (tag_of c.tree-item.result) bit_string ≡ true = search rules in
    let read : bits_appended c.loop-tree.into.items (bits_in c.tree-item.result)
    ≡ bits_kept c.append_bits.new.into.items (Some c.in-Some.bits) = search rules in
    c.loop-tree.invariant
    ∙ bit_segment_read c.loop-tree.into.items c.append_bits.new.into.items c.loop-tree.unused c.in-Some.bits left
    c.tree-item.result rest more zeros tag read
