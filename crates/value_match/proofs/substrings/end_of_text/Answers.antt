use Rattle.std.proofs.Common.{rules, ◌≡◌, sym, subst}
use Rattle.term_values.specs.Typed.TypedValue.{Text, Pick}
use Rattle.value_match.specs.FirstEnd.{IsFirstEndOf}
use Rattle.value_match.proofs.PieceLaws.{first_of_text}
use Rattle.value_match.proofs.substrings.end_of_text.Goals as goal

pub returns-in-Text : goal.returns-in-Text
returns-in-Text c =
    let is : c.args.value.now ≡ Pick c.in-Pick.kind (Text c.as_slice.result.now) = search rules in
    subst (λ v. IsFirstEndOf Text v c.args.text.now c.args.from c.end_of_piece.result) (sym is)
    (first_of_text c.in-Pick.kind c.as_slice.result.now c.args.text.now c.args.from c.end_of_piece.result
    c.end_of_piece.ensures)
