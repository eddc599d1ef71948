-- TreeRanges: the tokens of a tree stand at rising places within bounds, in the order of the tree.
use Rattle.std.proofs.Common.{◌≡◌, ℕ, zero, suc, ◌+◌, ◌<◌, ◌≤◌, List, [], ◌∷◌, Some, refl, ◌∙◌, ap, arith, slice_get}
use Rattle.token_grammar.specs.declared.token.Token.{Token}
use Rattle.token_grammar.specs.Form.{Tree, Bare, Leaf, Pair, First, Second, Absent, Present, Empty, After, Numbered}
use Rattle.placing_laws.proofs.TokenPlaces.{AreRising}

abbrev pub Ranged : ℕ → Tree → ℕ → Type 0
Ranged low Bare high = low ≤ high
Ranged low (Leaf token) high = (low ≤ token.at) × (token.at < high)
Ranged low (Pair a b) high = (between : ℕ) × Ranged low a between × Ranged between b high
Ranged low (First a) high = Ranged low a high
Ranged low (Second a) high = Ranged low a high
Ranged low Absent high = low ≤ high
Ranged low (Present a) high = Ranged low a high
Ranged low Empty high = low ≤ high
Ranged low (After a b) high = (between : ℕ) × Ranged low a between × Ranged between b high
Ranged low (Numbered n a) high = Ranged low a high

pub range_order : (a : Tree) {low high : ℕ} → Ranged low a high → low ≤ high
range_order Bare within = within
range_order (Leaf token) within = let first = within.0 in let second = within.1 in omega arith
range_order (Pair a b) within =
    let first = range_order a within.1 in let second = range_order b within.2 in omega arith
range_order (First a) within = range_order a within
range_order (Second a) within = range_order a within
range_order Absent within = within
range_order (Present a) within = range_order a within
range_order Empty within = within
range_order (After a b) within =
    let first = range_order a within.1 in let second = range_order b within.2 in omega arith
range_order (Numbered n a) within = range_order a within

pub range_wider : (a : Tree) (low high further : ℕ) → high ≤ further → Ranged low a high → Ranged low a further
range_wider Bare low high further more within = omega arith
range_wider (Leaf token) low high further more within = let second = within.1 in (within.0, omega arith)
range_wider (Pair a b) low high further more within =
    (within.0, within.1, range_wider b within.0 high further more within.2)
range_wider (First a) low high further more within = range_wider a low high further more within
range_wider (Second a) low high further more within = range_wider a low high further more within
range_wider Absent low high further more within = omega arith
range_wider (Present a) low high further more within = range_wider a low high further more within
range_wider Empty low high further more within = omega arith
range_wider (After a b) low high further more within =
    (within.0, within.1, range_wider b within.0 high further more within.2)
range_wider (Numbered n a) low high further more within = range_wider a low high further more within

-- the place behind the first i tokens
abbrev pub reach : ℕ → List Token → ℕ → ℕ
reach from [] i = from
reach from (token ∷ tokens) zero = from
reach from (token ∷ tokens) (suc i) = reach (token.at + 1) tokens i

reach_none : (from : ℕ) (tokens : List Token) → reach from tokens zero ≡ from
reach_none from [] = refl
reach_none from (token ∷ tokens) = refl

pub reach_at : (from : ℕ) (tokens : List Token) (i : ℕ) {token : Token} → AreRising from tokens →
    slice_get tokens i ≡ Some token → reach from tokens i ≤ token.at
reach_at from [] i rising get = absurd (cc)
reach_at from (x ∷ tokens) zero {token} rising get =
    let same : x.at ≡ token.at = cc in let first = rising.0 in omega arith
reach_at from (x ∷ tokens) (suc i) rising get = reach_at (x.at + 1) tokens i rising.1 get

reach_next : (from : ℕ) (tokens : List Token) (i : ℕ) {token : Token} → slice_get tokens i ≡ Some token →
    reach from tokens (suc i) ≡ token.at + 1
reach_next from [] i get = absurd (cc)
reach_next from (x ∷ tokens) zero {token} get =
    let same : x.at ≡ token.at = cc in reach_none (x.at + 1) tokens ∙ ap (λ k. k + 1) same
reach_next from (x ∷ tokens) (suc i) get = reach_next (x.at + 1) tokens i get

pub reach_behind : (from : ℕ) (tokens : List Token) (i k : ℕ) {token : Token} → slice_get tokens i ≡ Some token →
    k ≡ i + 1 → reach from tokens k ≡ token.at + 1
reach_behind from tokens i k get next =
    let e : k ≡ suc i = omega arith in ap (reach from tokens) e ∙ reach_next from tokens i get

reach_on : (from : ℕ) (tokens : List Token) (i : ℕ) → AreRising from tokens →
    reach from tokens i ≤ reach from tokens (suc i)
reach_on from [] i rising = omega arith
reach_on from (x ∷ tokens) zero rising =
    let first = rising.0 in let e = reach_none (x.at + 1) tokens in omega arith
reach_on from (x ∷ tokens) (suc i) rising = reach_on (x.at + 1) tokens i rising.1

pub reach_rises : (from : ℕ) (tokens : List Token) (i : ℕ) → AreRising from tokens →
    reach from tokens i ≤ reach from tokens (i + 1)
reach_rises from tokens i rising =
    let more = reach_on from tokens i rising in
    let e : i + 1 ≡ suc i = omega arith in
    let same = ap (reach from tokens) e in
    omega arith
