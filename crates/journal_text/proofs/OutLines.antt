-- The lines of associations, one more at the end.
use Rattle.std.proofs.Common.{◌≡◌, ℕ, ◌+◌, ◌<◌, List, [], ◌∷◌, ◌++◌, length, take, get_or, length-take, refl, ap, ◌∙◌}
use Rattle.std.proofs.Common.{sym, append_assoc, arith}
use Rattle.std.proofs.lemmas.List.{take_more}
use Rattle.std.specs.Prelude.{codes}
use Rattle.agent_model.specs.declared.agent_state.Association.{Association}
use Rattle.term_model.specs.LineTexts.{two_words}
use Rattle.agent_model.specs.Texts.{out_lines, placed_text}

abbrev pub text : ℕ → Association → List ℕ
text number a = two_words (codes "out ") number (placed_text a.placed)

nothing_behind : (xs : List ℕ) → xs ++ [] ≡ xs
nothing_behind [] = refl
nothing_behind (x ∷ xs) = ap (λ rest. x ∷ rest) (nothing_behind xs)

pub out_lines-push : (number : ℕ) (front : List Association) (a : Association) →
    out_lines number (front ++ a ∷ []) ≡ out_lines number front ++ text (number + length front) a
out_lines-push number [] a =
    let here : number ≡ number + 0 = omega arith in
    nothing_behind (text number a) ∙ ap (λ n. text n a) here
out_lines-push number (x ∷ front) a =
    let there : (number + 1) + length front ≡ number + length (x ∷ front) = omega arith in
    ap (λ rest. text number x ++ rest) (out_lines-push (number + 1) front a)
    ∙ (sym (append_assoc (text number x) (out_lines (number + 1) front) (text ((number + 1) + length front) a))
    ∙ ap (λ n. (text number x ++ out_lines (number + 1) front) ++ text n a) there)

pub out_lines-more : (number : ℕ) (all : List Association) (i : ℕ) (a : Association) → i < length all
    → a ≡ get_or all i a →
    out_lines number (take (i + 1) all) ≡ out_lines number (take i all) ++ text (number + i) a
out_lines-more number all i a within same =
    let counted : length (take i all) ≡ i = omega (arith, length-take i all) in
    ap (out_lines number) (take_more all i a within)
    ∙ (out_lines-push number (take i all) (get_or all i a)
    ∙ (ap (λ n. out_lines number (take i all) ++ text (number + n) (get_or all i a)) counted
    ∙ ap (λ x. out_lines number (take i all) ++ text (number + i) x) (sym same)))
