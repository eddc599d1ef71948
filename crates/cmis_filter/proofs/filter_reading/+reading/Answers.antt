use Rattle.std.proofs.Common.{rules, ◌≡◌, ◌+◌, drop, [], ◌∷◌, ◌++◌, Some, ap, sym, arith, ◌∙◌, option_map}
use Rattle.std.proofs.lemmas.List.{drop_more}
use Rattle.term_values.specs.Tree.{listed}
use Rattle.term_model.specs.FilterReading.{filter_in, filters_in}
use Rattle.ber_values.proofs.DecodingLaws.{nothing_left}
use Rattle.cmis_filter.proofs.PartCounts.{no_one_filter}
use Rattle.cmis_filter.proofs.ReadingLaws.{filter_read, filters_all, filters_before}
use Rattle.cmis_filter.proofs.filter_reading.+reading.Goals as goal

pub filters_of-loop-tree-preserved : goal.filters_of-loop-tree-preserved
filters_of-loop-tree-preserved t c =
    let records = c.args.set.now.attributes in
    let all = c.as_slice-tree-items.result.now in
    let left = drop c.loop-tree.tree-index all in
    let rest = drop (c.loop-tree.tree-index + 1) all in
    let more : left ≡ c.tree-item.result ∷ rest =
    drop_more all c.loop-tree.tree-index c.tree-item.result (search rules) ∙ ap (λ x. x ∷ rest) (search rules) in
    let is : filter_in records c.tree-item.result ≡ Some c.in-Some.filter = search rules in
    let pushed : c.push.new.self.items ≡ c.loop-tree.items.items ++ c.in-Some.filter ∷ [] = search rules in
    c.loop-tree.invariant ∙ filter_read records c.loop-tree.items.items c.tree-item.result left rest c.in-Some.filter
    more is
    ∙ ap (λ xs. option_map (filters_before xs) (filters_in records (listed rest))) (sym pushed)

pub filters_of-returns : goal.filters_of-returns
filters_of-returns t c =
    let records = c.args.set.now.attributes in
    let all = c.as_slice-tree-items.result.now in
    let none : drop c.loop-tree.tree-index all ≡ [] = nothing_left all c.loop-tree.tree-index (omega arith) in
    let whole : c.args.trees.now ≡ listed all = search rules in
    sym (ap (filters_in records) whole ∙ c.loop-tree.invariant
    ∙ ap (λ xs. option_map (filters_before c.loop-tree.items.items) (filters_in records (listed xs))) none
    ∙ ap Some (filters_all c.loop-tree.items.items))

pub one_filter_of-returns-in-len2-up : goal.one_filter_of-returns-in-len2-up
one_filter_of-returns-in-len2-up t c =
    let whole : c.args.trees.now ≡ listed c.as_slice.result.now = search rules in
    rw whole (sym (no_one_filter c.args.set.now.attributes c.as_slice.result.now (omega arith)))
