use Rattle.std.proofs.Common.{rules, ◌≡◌, ◌+◌, drop, [], ◌∷◌, ◌++◌, Some, ap, sym, arith, ◌∙◌, option_map}
use Rattle.std.proofs.lemmas.List.{drop_more}
use Rattle.term_values.specs.Typed.TypedValue.{Many, Pick}
use Rattle.term_model.specs.FilterTruth.{pieces_listed}
use Rattle.ber_values.proofs.DecodingLaws.{nothing_left, values_all}
use Rattle.ber_values.specs.Left.{values_before}
use Rattle.cmis_filter.proofs.ReadingLaws.{value_read}
use Rattle.cmis_filter.proofs.item_reading.pieces_value.Goals as goal

pub loop-piece-preserved : goal.loop-piece-preserved
loop-piece-preserved c =
    let all = c.args.pieces.now in
    let left = drop c.loop-piece.piece-index all in
    let rest = drop (c.loop-piece.piece-index + 1) all in
    let more : left ≡ c.piece-item.result ∷ rest =
    drop_more all c.loop-piece.piece-index c.piece-item.result (search rules) ∙ ap (λ x. x ∷ rest) (search rules) in
    let is : c.piece-item.result.given.value ≡ Some c.in-Some.value = search rules in
    let pushed : c.push.new.self.items
    ≡ c.loop-piece.items.items ++ Pick c.piece-item.result.kind c.in-Some.value ∷ [] = search rules in
    c.loop-piece.invariant ∙ value_read c.loop-piece.items.items c.piece-item.result left rest c.in-Some.value more is
    ∙ ap (λ xs. option_map (values_before xs) (pieces_listed rest)) (sym pushed)

pub returns : goal.returns
returns c =
    let all = c.args.pieces.now in
    let none : drop c.loop-piece.piece-index all ≡ [] = nothing_left all c.loop-piece.piece-index (omega arith) in
    sym (ap (option_map Many) (c.loop-piece.invariant
    ∙ ap (λ xs. option_map (values_before c.loop-piece.items.items) (pieces_listed xs)) none
    ∙ ap Some (values_all c.loop-piece.items.items)))
