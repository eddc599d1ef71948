use Rattle.std.proofs.Common.{rules, ◌≡◌, ◌+◌, drop, [], ◌∷◌, ◌++◌, Some, ap, sym, arith, ◌∙◌, option_map}
use Rattle.std.proofs.lemmas.List.{append-nil, drop_more}
use Rattle.term_values.specs.Tree.{listed}
use Rattle.term_model.specs.FilterReading.{piece_in, pieces_in}
use Rattle.ber_values.proofs.DecodingLaws.{nothing_left}
use Rattle.cmis_filter.proofs.ReadingLaws.{piece_read, pieces_before}
use Rattle.cmis_filter.proofs.item_reading.read_pieces.Goals as goal

pub loop-tree-preserved : goal.loop-tree-preserved
loop-tree-preserved c =
    let records = c.args.set.now.attributes in
    let all = c.as_slice-tree-items.result.now in
    let left = drop c.loop-tree.tree-index all in
    let rest = drop (c.loop-tree.tree-index + 1) all in
    let more : left ≡ c.tree-item.result ∷ rest =
    drop_more all c.loop-tree.tree-index c.tree-item.result (search rules) ∙ ap (λ x. x ∷ rest) (search rules) in
    let is : piece_in records c.tree-item.result ≡ Some c.in-Some.piece = search rules in
    let pushed : c.push.new.self.items ≡ c.loop-tree.items.items ++ c.in-Some.piece ∷ [] = search rules in
    c.loop-tree.invariant ∙ piece_read records c.loop-tree.items.items c.tree-item.result left rest c.in-Some.piece
    more is
    ∙ ap (λ xs. option_map (pieces_before xs) (pieces_in records (listed rest))) (sym pushed)

pub returns : goal.returns
returns c =
    let records = c.args.set.now.attributes in
    let all = c.as_slice-tree-items.result.now in
    let none : drop c.loop-tree.tree-index all ≡ [] = nothing_left all c.loop-tree.tree-index (omega arith) in
    let whole : c.args.trees.now ≡ listed all = search rules in
    sym (ap (pieces_in records) whole ∙ c.loop-tree.invariant
    ∙ ap (λ xs. option_map (pieces_before c.loop-tree.items.items) (pieces_in records (listed xs))) none
    ∙ ap Some (append-nil c.loop-tree.items.items))
