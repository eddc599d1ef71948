-- LeftLaws: what a further type leaves of bounds (X.680, section 51).
use Rattle.std.proofs.Common.{◌≡◌, ◌&&◌, ◌++◌, ◌∷◌, [], List, Bool, true, false, refl, ◌∙◌, sym, ap}
use Rattle.std.proofs.lemmas.List.Folds.{list_all-append}
use Rattle.std.specs.List.{list_all}

and_true : (x : Bool) → (x && true) ≡ x
and_true true = refl
and_true false = refl

and_in_turn : (x y z : Bool) → (x && y && z) ≡ (x && (y && z))
and_in_turn true y z = refl
and_in_turn false y z = refl

-- a test of the elements of a list and of one behind it
all_and_one : {X : Type 0} (test : X → Bool) (xs : List X) (x : X) →
    list_all test (xs ++ x ∷ []) ≡ (list_all test xs && test x)
all_and_one test xs x =
    list_all-append test xs (x ∷ []) ∙ ap (λ last. list_all test xs && last) (and_true (test x))

-- what was left by some, and of that by one more
pub left_by_more : {X : Type 0} (test : X → Bool) (xs : List X) (x : X) (left before own : Bool) →
    left ≡ (before && test x) → before ≡ (own && list_all test xs) → left ≡ (own && list_all test (xs ++ x ∷ []))
left_by_more test xs x left before own now known =
    now ∙ ap (λ held. held && test x) known ∙ and_in_turn own (list_all test xs) (test x)
    ∙ ap (λ all. own && all) (sym (all_and_one test xs x))
