use Rattle.std.proofs.Common.{rules, ◌≡◌, ◌+◌, true, false, drop, List, ◌∷◌, sym, ap, ◌∙◌}
use Rattle.std.proofs.lemmas.List.{drop_more}
use Rattle.term_values.specs.Beginnings.{begins, has_tag, parts_tags}
use Rattle.term_values.specs.PartsView.{parts_listed}
use Rattle.ber_values.proofs.BeginningLaws.{part_begins, part_passes}
use Rattle.ber_values.proofs.tagging.+beginning.Goals as goal

pub one_begins-returns-then-begins : goal.one_begins-returns-then-begins
one_begins-returns-then-begins t c =
    let parts = c.as_slice-part-items.result.now in
    let left = drop c.loop-part.part-index parts in
    let rest = drop (c.loop-part.part-index + 1) parts in
    let more : left ≡ c.part-item.result ∷ rest = drop_more parts c.loop-part.part-index c.part-item.result
    (search rules) ∙ ap (λ x. x ∷ rest) (search rules) in
    let whole : c.args.parts.now ≡ parts_listed parts = search rules in
    let begun : begins c.part-item.result.syntax c.args.tag ≡ true = search rules in
    rw whole (sym (c.loop-part.invariant ∙ part_begins c.part-item.result left rest c.args.tag more begun))

pub one_begins-loop-part-preserved : goal.one_begins-loop-part-preserved
one_begins-loop-part-preserved t c =
    let parts = c.as_slice-part-items.result.now in
    let left = drop c.loop-part.part-index parts in
    let rest = drop (c.loop-part.part-index + 1) parts in
    let more : left ≡ c.part-item.result ∷ rest = drop_more parts c.loop-part.part-index c.part-item.result
    (search rules) ∙ ap (λ x. x ∷ rest) (search rules) in
    let begun : begins c.part-item.result.syntax c.args.tag ≡ false = search rules in
    c.loop-part.invariant ∙ part_passes c.part-item.result left rest c.args.tag more begun
