-- PlaceCounts: how many tokens of a tree stand at a place of the text, and how many of the first tokens of a list do.
use Rattle.std.proofs.Common.{◌≡◌, ℕ, zero, suc, ◌+◌, ◌≤◌, List, [], ◌∷◌, Some, refl, ◌∙◌, ap, subst, arith}
use Rattle.std.proofs.Common.{slice_get, ◌==◌, Bool, true, false, ◌⊎◌, inl, inr}
use Rattle.std.proofs.lemmas.Bool.{eq-eqb, eqb-true}
use Rattle.token_grammar.specs.declared.token.Token.{Token}
use Rattle.token_grammar.specs.Form.{Tree, Bare, Leaf, Pair, First, Second, Absent, Present, Empty, After, Numbered}

-- 1 of a token that stands at the place
one_if : Bool → ℕ
one_if true = 1
one_if false = 0

pub one_at : ℕ → Token → ℕ
one_at p token = one_if (token.at == p)

pub there_or_not : (p : ℕ) (token : Token) → (one_at p token ≡ 0) ⊎ ((one_at p token ≡ 1) × (token.at ≡ p))
unfolding one_at one_if
there_or_not p token = told (token.at == p) (eqb-true token.at p)
  where
    told : (b : Bool) → (b ≡ true → token.at ≡ p) → (one_if b ≡ 0) ⊎ ((one_if b ≡ 1) × (token.at ≡ p))
    told true same = inr (refl, same refl)
    told false same = inl refl

pub one_here : (p : ℕ) (token : Token) → token.at ≡ p → one_at p token ≡ 1
unfolding one_at one_if
one_here p token same = ap one_if (eq-eqb token.at p same)

abbrev pub leaves : ℕ → Tree → ℕ
leaves p Bare = 0
leaves p (Leaf token) = one_at p token
leaves p (Pair a b) = leaves p a + leaves p b
leaves p (First a) = leaves p a
leaves p (Second a) = leaves p a
leaves p Absent = 0
leaves p (Present a) = leaves p a
leaves p Empty = 0
leaves p (After a b) = leaves p a + leaves p b
leaves p (Numbered n a) = leaves p a

-- of the first i tokens
abbrev pub up_to : ℕ → List Token → ℕ → ℕ
up_to p [] i = 0
up_to p (token ∷ tokens) zero = 0
up_to p (token ∷ tokens) (suc i) = one_at p token + up_to p tokens i

next_one : (p : ℕ) (tokens : List Token) (i : ℕ) {token : Token} → slice_get tokens i ≡ Some token →
    up_to p tokens (suc i) ≡ up_to p tokens i + one_at p token
next_one p [] i get = absurd (cc)
next_one p (x ∷ tokens) zero {token} get =
    let same : one_at p x ≡ one_at p token = cc in
    let none : up_to p tokens zero ≡ 0 = nothing tokens in
    omega arith
  where
    nothing : (ts : List Token) → up_to p ts zero ≡ 0
    nothing [] = refl
    nothing (t ∷ ts) = refl
next_one p (x ∷ tokens) (suc i) get = let more = next_one p tokens i get in omega arith

pub one_more : (p : ℕ) (tokens : List Token) (i k : ℕ) {token : Token} → slice_get tokens i ≡ Some token → k ≡ i + 1 →
    up_to p tokens k ≡ up_to p tokens i + one_at p token
one_more p tokens i k get next =
    let e : k ≡ suc i = omega arith in
    ap (up_to p tokens) e ∙ next_one p tokens i get

next_rises : (p : ℕ) (tokens : List Token) (i : ℕ) → up_to p tokens i ≤ up_to p tokens (suc i)
next_rises p [] i = omega arith
next_rises p (x ∷ tokens) zero = omega arith
next_rises p (x ∷ tokens) (suc i) = let more = next_rises p tokens i in omega arith

pub count_rises : (p : ℕ) (tokens : List Token) (i : ℕ) → up_to p tokens i ≤ up_to p tokens (i + 1)
count_rises p tokens i =
    let e : suc i ≡ i + 1 = omega arith in
    subst (λ k. up_to p tokens i ≤ up_to p tokens k) e (next_rises p tokens i)
