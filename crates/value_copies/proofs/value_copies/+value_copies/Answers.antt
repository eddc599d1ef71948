-- All parts.
use Rattle.std.proofs.Common.{◌≡◌, ◌≤◌, ◌∙◌, ap, arith, length, map, sym, take}
use Rattle.std.proofs.Math.Path.{subst}
use Rattle.asn1_values_syntax.specs.ValueTrees.{content_tree, part_tree}
use Rattle.value_copies.proofs.PartLaws.{parts_copied}
use Rattle.value_copies.proofs.value_copies.+value_copies.Goals as goal

pub copy_content-returns-after-loop-part : goal.copy_content-returns-after-loop-part
copy_content-returns-after-loop-part t c =
    let parts = c.in-Parts.parts in
    let own = c.deref-part-items.ensures.value in
    let past : length parts.items ≤ c.loop-part.part-index =
    subst (λ xs. length xs ≤ c.loop-part.part-index) own (omega (arith, c.loop-part-test.false)) in
    parts_copied parts c.loop-part.copies c.loop-part.part-index past
    (subst (λ xs. map part_tree c.loop-part.copies.items ≡ map part_tree (take c.loop-part.part-index xs)) own
    c.loop-part.invariant) ∙ sym (ap content_tree c.in-Parts.is)
