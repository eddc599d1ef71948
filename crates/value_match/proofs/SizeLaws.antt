-- The first sizes of alternatives and of members, one by one.
use Rattle.std.proofs.Common.{◌≡◌, ◌≤◌, ◌<◌, ◌+◌, ℕ, zero, suc, List, [], ◌∷◌, length, drop, get_or, refl, ap, ◌∙◌}
use Rattle.std.proofs.Common.{arith}
use Rattle.std.proofs.lemmas.List.{drop_all}
use Rattle.term_values.specs.PartsView.{parts_listed}
use Rattle.term_values.specs.Syntaxes.{TypeSyntax}
use Rattle.term_values.specs.Typed.{TypedValue}
use Rattle.term_values.specs.declared.syntax.Part.{Part}
use Rattle.value_match.specs.FirstSizes.{first_size, front_size, pick_size}

pub size_at : (xs : List Part) (k : ℕ) (d : Part) (value : TypedValue) → k < length xs
    → pick_size (parts_listed xs) k value ≡ first_size (get_or xs k d).syntax value
size_at [] k d value h = absurd (omega arith)
size_at (x ∷ xs) zero d value h = refl
size_at (x ∷ xs) (suc k) d value h = size_at xs k d value (omega arith)

pub size_past : (xs : List Part) (k : ℕ) (value : TypedValue) → length xs ≤ k
    → pick_size (parts_listed xs) k value ≡ 0
size_past [] k value h = refl
size_past (x ∷ xs) zero value h = absurd (omega arith)
size_past (x ∷ xs) (suc k) value h = size_past xs k value (omega arith)

pub front_of : (member : TypeSyntax) (i : ℕ) (xs : List TypedValue) (x : TypedValue)
    → drop i xs ≡ x ∷ drop (i + 1) xs → front_size member (drop i xs) ≡ first_size member x
front_of member i xs x e = ap (front_size member) e

pub front_past : (member : TypeSyntax) (i : ℕ) (xs : List TypedValue) → length xs ≤ i
    → front_size member (drop i xs) ≡ 0
front_past member i xs h = ap (front_size member) (drop_all i xs h)

pub size_of : (xs : List Part) (k : ℕ) (d : Part) (value : TypedValue) → k < length xs → get_or xs k d ≡ d
    → pick_size (parts_listed xs) k value ≡ first_size d.syntax value
size_of xs k d value h e = size_at xs k d value h ∙ ap (λ (p : Part). first_size p.syntax value) e
