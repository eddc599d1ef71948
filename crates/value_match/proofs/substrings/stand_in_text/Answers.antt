use Rattle.std.proofs.Common.{rules, ◌≡◌, ◌+◌, ◌∷◌, drop, sym, ap, ◌∙◌, subst, arith}
use Rattle.std.proofs.lemmas.Bool.{false≢true}
use Rattle.std.proofs.lemmas.List.{drop_more}
use Rattle.term_values.specs.Typed.{listed}
use Rattle.term_values.specs.Typed.TypedValue.{Text}
use Rattle.term_values.specs.MatchingPieces.{StandFrom}
use Rattle.value_match.proofs.PieceLaws.{taken_on, taken_back, taken_never}
use Rattle.value_match.proofs.substrings.stand_in_text.Goals as goal

pub returns-in-None : goal.returns-in-None
returns-in-None c =
    let xs = c.args.pieces.now in
    let i = c.loop-piece.piece-index in
    let x = c.piece-item.result in
    let front : drop i xs ≡ x ∷ drop (i + 1) xs = drop_more xs i x (omega arith)
    ∙ ap (λ z. z ∷ drop (i + 1) xs) (search rules) in (
      λ e. absurd (false≢true e),
      λ stand. absurd (taken_never Text c.args.text.now c.loop-piece.from x (listed (drop (i + 1) xs))
          c.in-None.ensures
          (subst (λ zs. StandFrom Text c.args.text.now c.loop-piece.from (listed zs)) front
          (c.loop-piece.invariant.0 stand))),
    )

pub loop-piece-preserved : goal.loop-piece-preserved
loop-piece-preserved c =
    let xs = c.args.pieces.now in
    let i = c.loop-piece.piece-index in
    let x = c.piece-item.result in
    let text = c.args.text.now in
    let rest = listed (drop (i + 1) xs) in
    let front : drop i xs ≡ x ∷ drop (i + 1) xs = drop_more xs i x (omega arith)
    ∙ ap (λ z. z ∷ drop (i + 1) xs) (search rules) in (
      λ stand. taken_on Text text c.loop-piece.from c.in-Some.end x rest c.in-Some.ensures
          (subst (λ zs. StandFrom Text text c.loop-piece.from (listed zs)) front (c.loop-piece.invariant.0 stand)),
      λ stand. c.loop-piece.invariant.1 (subst (λ zs. StandFrom Text text c.loop-piece.from (listed zs)) (sym front)
          (taken_back Text text c.loop-piece.from c.in-Some.end x rest c.in-Some.ensures stand)),
      c.in-Some.ensures.2,
    )
