-- Values in a row that are not one, or not two.
use Rattle.std.proofs.Common.{◌≡◌, List, [], ◌∷◌, length, None, refl}
use Rattle.term_values.specs.Tree.{TreeValue, listed}
use Rattle.term_model.specs.Parts.{one, two}

pub not_one : (xs : List TreeValue) → (length xs ≡ 1 → ⊥) → None ≡ one (listed xs)
not_one [] other = refl
not_one (a ∷ []) other = absurd (other refl)
not_one (a ∷ b ∷ xs) other = refl

pub not_two : (xs : List TreeValue) → (length xs ≡ 2 → ⊥) → None ≡ two (listed xs)
not_two [] other = refl
not_two (a ∷ []) other = refl
not_two (a ∷ b ∷ []) other = absurd (other refl)
not_two (a ∷ b ∷ c ∷ xs) other = refl
