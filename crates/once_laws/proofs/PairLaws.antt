-- PairLaws: what holds of all pairs of a list: of those of two lists in a row, and of two elements in either order.
use Rattle.std.specs.Prelude.{◌≡◌, ◌≢◌, ◌<◌, ◌⊎◌, ◌++◌, ◌∷◌, [], suc, List, Some, All, AllPairs, Contains}
use Rattle.std.specs.Prelude.{get_or, slice_get}
use Rattle.std.proofs.Common.{◌∙◌, ap, arith, inl, inr, sym}
use Rattle.std.proofs.lemmas.Bool.{cases_order}
use Rattle.std.proofs.lemmas.List.Elements.{All-append, Contains-get_or}
use Rattle.std.proofs.lemmas.List.Kept.{AllPairs-cons}
use Rattle.std.proofs.lemmas.Option.{same_Some, slice_get-get_or}
use Rattle.gdmo_names.specs.PartTerms.{Placed}
use Rattle.registered_laws.proofs.ApartLaws.{pair_at}
use Rattle.registered_laws.proofs.TableLaws.{first_of, later_of}

-- the first of a list with each of the others, and these with each other
pub first_pairs : {A : Type 0} (R : A → A → Type 0) (x : A) (xs : List A) → AllPairs R (x ∷ xs) → All (R x) xs
first_pairs R x xs all n d within = all 0 (suc n) d (omega (arith, within)) (omega (arith, within))

pub other_pairs : {A : Type 0} (R : A → A → Type 0) (x : A) (xs : List A) → AllPairs R (x ∷ xs) → AllPairs R xs
other_pairs R x xs all i j d less within = all (suc i) (suc j) d (omega (arith, less)) (omega (arith, within))

pub pairs_append : {A : Type 0} (R : A → A → Type 0) (xs ys : List A) → AllPairs R xs → AllPairs R ys →
    ((x y : A) → Contains xs x → Contains ys y → R x y) → AllPairs R (xs ++ ys)
pairs_append R [] ys one two across = two
pairs_append R (x ∷ xs) ys one two across = AllPairs-cons R x (xs ++ ys)
    (All-append (R x) xs ys (first_pairs R x xs one)
    (λ n d within. across x (get_or ys n d) (first_of x xs) (Contains-get_or ys n d within)))
    (pairs_append R xs ys (other_pairs R x xs one) two (λ y z here there. across y z (later_of x y xs here) there))

-- the place of an element
pub place_at : {A : Type 0} (xs : List A) (x : A) (has : Contains xs x) → slice_get xs has.0 ≡ Some x
place_at xs x has = slice_get-get_or xs has.0 x has.1 ∙ ap Some has.2

-- two templates of a list that are two, in either order
pub either_pair : (R : Placed → Placed → Type 0) (xs : List Placed) → ((x y : Placed) → R x y → R y x) →
    AllPairs R xs → (x y : Placed) → Contains xs x → Contains xs y → x ≢ y → R x y
either_pair R xs turned all x y here there apart = by (cases_order here.0 there.0)
  where
    by : (here.0 ≡ there.0) ⊎ ((here.0 < there.0) ⊎ (there.0 < here.0)) → R x y
    by (inl same) = absurd (apart (same_Some x y
        (sym (place_at xs x here) ∙ ap (slice_get xs) same ∙ place_at xs y there)))
    by (inr (inl less)) = pair_at R xs here.0 there.0 x y all less (place_at xs x here) (place_at xs y there)
    by (inr (inr more)) =
        turned y x (pair_at R xs there.0 here.0 y x all more (place_at xs y there) (place_at xs x here))
