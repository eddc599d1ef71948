-- Strings as they are read.
use Rattle.std.proofs.Common.{◌≡◌, ℕ, Bool, true, false, cond, List, [], ◌∷◌, ◌++◌, ◌+◌, ◌<◌, length, get_or, drop}
use Rattle.std.proofs.Common.{arith, refl, ap, sym, ◌∙◌, append_assoc, Option, None, Some}
use Rattle.std.proofs.lemmas.Bool.Decides.{nat_tests}
use Rattle.std.proofs.lemmas.List.{drop_more}
use Rattle.std.specs.Prelude.{◌≢◌, ◌==◌, option_map}
use Rattle.asn1_leaf_values.specs.Literals.{undoubled}

one_more : (before : List ℕ) (x : ℕ) (rest : Option (List ℕ))
    → option_map (λ xs. before ++ xs) (option_map (λ xs. x ∷ xs) rest) ≡ option_map
    (λ xs. (before ++ x ∷ []) ++ xs) rest
one_more before x None = refl
one_more before x (Some xs) = ap Some (sym (append_assoc before (x ∷ []) xs))

differs : (a b : ℕ) → a ≢ b → (a == b) ≡ false
differs a b h = grind (arith, nat_tests)

same : (a : ℕ) → (a == a) ≡ true
same a = grind (arith, nat_tests)

pub octet_read : (delimiter x : ℕ) (before left rest : List ℕ) → left ≡ x ∷ rest → x ≢ delimiter
    → option_map (λ xs. before ++ xs) (undoubled delimiter left)
    ≡ option_map (λ xs. (before ++ x ∷ []) ++ xs) (undoubled delimiter rest)
octet_read delimiter x before left [] e h = rw (e, differs x delimiter h) refl
octet_read delimiter x before left (y ∷ others) e h =
    rw (e, differs x delimiter h) (one_more before x (undoubled delimiter (y ∷ others)))

pub double_read : (delimiter x y : ℕ) (before left rest : List ℕ) → left ≡ x ∷ (y ∷ rest) → x ≡ delimiter
    → y ≡ delimiter
    → option_map (λ xs. before ++ xs) (undoubled delimiter left)
    ≡ option_map (λ xs. (before ++ x ∷ []) ++ xs) (undoubled delimiter rest)
double_read delimiter x y before left rest e h k =
    rw (e, h, k, same delimiter) (one_more before delimiter (undoubled delimiter rest))

pub string_ends : (delimiter x : ℕ) (before left : List ℕ) → left ≡ x ∷ [] → x ≡ delimiter
    → option_map (λ xs. before ++ xs) (undoubled delimiter left) ≡ Some (before ++ [])
string_ends delimiter x before left e h = rw (e, h, same delimiter) refl

pub string_breaks : (delimiter x y : ℕ) (before left rest : List ℕ) → left ≡ x ∷ (y ∷ rest) → x ≡ delimiter
    → y ≢ delimiter → option_map (λ xs. before ++ xs) (undoubled delimiter left) ≡ None
string_breaks delimiter x y before left rest e h k = rw (e, h, same delimiter, differs y delimiter k) refl

pub two_more : (text : List ℕ) (at : ℕ) → at + 1 < length text
    → drop at text ≡ get_or text at 0 ∷ (get_or text (at + 1) 0 ∷ drop (at + 2) text)
two_more text at h =
    let next : at + 1 + 1 ≡ at + 2 = omega arith in
    drop_more text at 0 (omega arith) ∙ ap (λ ys. get_or text at 0 ∷ ys) (drop_more text (at + 1) 0 h
    ∙ ap (λ k. get_or text (at + 1) 0 ∷ drop k text) next)
