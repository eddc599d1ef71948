-- Lists of trees that are not of one or two.
use Rattle.std.proofs.Common.{◌≡◌, ◌≤◌, ℕ, false, List, [], ◌∷◌, length, get_or, Option, None, refl, arith}
use Rattle.term_values.specs.FilterTrees.{is_attribute_id, are_attribute_parts, is_one_attribute_id, is_one_item}
use Rattle.term_values.specs.FilterTrees.{is_one_filter}
use Rattle.term_values.specs.Decoding.{one_in}
use Rattle.term_values.specs.Tree.{TreeValue, listed}
use Rattle.term_values.specs.Typed.{TypedValue}

pub not_two : (xs : List TreeValue) → (length xs ≡ 2 → ⊥) → are_attribute_parts (listed xs) ≡ false
not_two [] other = refl
not_two (x ∷ []) other = refl
not_two (x ∷ (y ∷ [])) other = absurd (other refl)
not_two (x ∷ (y ∷ (z ∷ zs))) other = refl

pub just_two : (xs : List TreeValue) (d : TreeValue) → length xs ≡ 2
    → are_attribute_parts (listed xs) ≡ is_attribute_id (get_or xs 0 d)
just_two [] d two = absurd (omega arith)
just_two (x ∷ []) d two = absurd (omega arith)
just_two (x ∷ (y ∷ [])) d two = refl
just_two (x ∷ (y ∷ (z ∷ zs))) d two = absurd (omega arith)

pub no_one_id : (xs : List TreeValue) → 2 ≤ length xs → is_one_attribute_id (listed xs) ≡ false
no_one_id [] h = absurd (omega arith)
no_one_id (x ∷ []) h = absurd (omega arith)
no_one_id (x ∷ (y ∷ ys)) h = refl

pub no_one_item : (xs : List TreeValue) → 2 ≤ length xs → is_one_item (listed xs) ≡ false
no_one_item [] h = absurd (omega arith)
no_one_item (x ∷ []) h = absurd (omega arith)
no_one_item (x ∷ (y ∷ ys)) h = refl

pub no_one_filter : (xs : List TreeValue) → 2 ≤ length xs → is_one_filter (listed xs) ≡ false
no_one_filter [] h = absurd (omega arith)
no_one_filter (x ∷ []) h = absurd (omega arith)
no_one_filter (x ∷ (y ∷ ys)) h = refl

pub no_one_value : (value : TreeValue → Option TypedValue) (xs : List TreeValue) → 2 ≤ length xs
    → one_in value (listed xs) ≡ None
no_one_value value [] h = absurd (omega arith)
no_one_value value (x ∷ []) h = absurd (omega arith)
no_one_value value (x ∷ (y ∷ ys)) h = refl
