-- RootLaws: the first element that passes a test, as a loop looks for it.
use Rattle.std.proofs.Common.{◌≡◌, ◌∙◌, ◌+◌, ◌∷◌, [], ℕ, suc, zero, List, Option, None, Some, ap}
use Rattle.std.proofs.Common.{Bool, cond, false, refl, sym, take, true}
use Rattle.std.specs.Prelude.{find, slice_get}
use Rattle.std.specs.Option.{option_or}
use Rattle.std.proofs.lemmas.List.Folds.{find-append}
use Rattle.std.proofs.lemmas.Option.{none-some, same_Some}
use Rattle.schema_records.proofs.EachLaws.{take_one}

not_this : {A : Type 0} (b : Bool) (x : A) (others : Option A) → cond b (Some x) others ≡ None →
    (b ≡ false) × (others ≡ None)
not_this true x others none = absurd (none-some x (sym none))
not_this false x others none = (refl, none)

pub first_found : {A : Type 0} (p : A → Bool) (xs : List A) (i : ℕ) (x : A) → find p (take i xs) ≡ None →
    slice_get xs i ≡ Some x → p x ≡ true → find p xs ≡ Some x
first_found p [] i x none at passes = absurd (none-some x at)
first_found p (y ∷ ys) zero x none at passes =
    ap (λ b. cond b (Some y) (find p ys)) (ap p (same_Some y x at) ∙ passes) ∙ at
first_found p (y ∷ ys) (suc i) x none at passes =
    let other = not_this (p y) y (find p (take i ys)) none in
    ap (λ b. cond b (Some y) (find p ys)) other.0 ∙ first_found p ys i x other.1 at passes

pub none_further : {A : Type 0} (p : A → Bool) (xs : List A) (i : ℕ) (x : A) → find p (take i xs) ≡ None →
    slice_get xs i ≡ Some x → p x ≡ false → find p (take (i + 1) xs) ≡ None
none_further p xs i x none at fails = ap (find p) (take_one xs i x at) ∙ find-append p (take i xs) (x ∷ [])
    ∙ ap (λ o. option_or o (find p (x ∷ []))) none ∙ ap (λ b. cond b (Some x) None) fails
