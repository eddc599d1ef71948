-- Lists of trees that are not of one or two.
use Rattle.std.proofs.Common.{◌≡◌, ◌≤◌, List, [], ◌∷◌, length, None, refl, arith}
use Rattle.term_values.specs.Tree.{TreeValue, listed}
use Rattle.term_model.specs.declared.schema.AttrRec.{AttrRec}
use Rattle.term_model.specs.Assertions.{given_in}
use Rattle.term_model.specs.FilterReading.{one_filter_in, one_id_in, one_item_in}

pub no_given : (records : List AttrRec) (xs : List TreeValue) → (length xs ≡ 2 → ⊥)
    → given_in records (listed xs) ≡ None
no_given records [] other = refl
no_given records (x ∷ []) other = refl
no_given records (x ∷ (y ∷ [])) other = absurd (other refl)
no_given records (x ∷ (y ∷ (z ∷ zs))) other = refl

pub no_one_id : (xs : List TreeValue) → 2 ≤ length xs → one_id_in (listed xs) ≡ None
no_one_id [] h = absurd (omega arith)
no_one_id (x ∷ []) h = absurd (omega arith)
no_one_id (x ∷ (y ∷ ys)) h = refl

pub no_one_item : (records : List AttrRec) (xs : List TreeValue) → 2 ≤ length xs
    → one_item_in records (listed xs) ≡ None
no_one_item records [] h = absurd (omega arith)
no_one_item records (x ∷ []) h = absurd (omega arith)
no_one_item records (x ∷ (y ∷ ys)) h = refl

pub no_one_filter : (records : List AttrRec) (xs : List TreeValue) → 2 ≤ length xs
    → one_filter_in records (listed xs) ≡ None
no_one_filter records [] h = absurd (omega arith)
no_one_filter records (x ∷ []) h = absurd (omega arith)
no_one_filter records (x ∷ (y ∷ ys)) h = refl
