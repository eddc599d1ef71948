use Rattle.std.proofs.Common.{rules, ◌≡◌, IfOk, get_or, sym, subst, ap, ◌∙◌, arith}
use Rattle.term_values.specs.FilterTrees.{is_attribute_id, are_attribute_parts}
use Rattle.term_values.specs.Tree.{listed}
use Rattle.ber_values.proofs.CountLaws.{not_two, just_two}
use Rattle.ber_values.proofs.filter_reading.are_attribute_parts.Goals as goal

pub returns-in-len1 : goal.returns-in-len1
returns-in-len1 c =
    let whole : c.args.trees.now ≡ listed c.as_slice.result.now = search rules in
    rw whole (sym (not_two c.as_slice.result.now (λ two. omega arith)))

pub returns-in-len2 : goal.returns-in-len2
returns-in-len2 c =
    let whole : c.args.trees.now ≡ listed c.as_slice.result.now = search rules in
    let first : get_or c.as_slice.result.now 0 c.id-item.result ≡ c.id-item.result = search rules in
    let same : are_attribute_parts c.args.trees.now ≡ is_attribute_id c.id-item.result =
    ap are_attribute_parts whole ∙ just_two c.as_slice.result.now c.id-item.result (omega arith)
    ∙ ap is_attribute_id first in
    subst (λ b. IfOk c.is_attribute_id.result (λ found. found ≡ b)) (sym same) c.is_attribute_id.ensures

pub returns-in-len3-up : goal.returns-in-len3-up
returns-in-len3-up c =
    let whole : c.args.trees.now ≡ listed c.as_slice.result.now = search rules in
    rw whole (sym (not_two c.as_slice.result.now (λ two. omega arith)))
