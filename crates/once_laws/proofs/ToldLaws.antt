-- ToldLaws: a list that tells of some elements of another one, in their order; what holds of all pairs of the one gives
-- what holds of all pairs of the other.
use Rattle.std.specs.Prelude.{◌++◌, ◌∷◌, [], suc, List, All, AllPairs, map}
use Rattle.std.proofs.Common.{arith}
use Rattle.std.proofs.lemmas.List.Elements.{All-cons, All-nil}
use Rattle.std.proofs.lemmas.List.Kept.{AllPairs-cons}
use Rattle.gdmo_names.specs.InStep.{AreEach}
use Rattle.linked_types.specs.PartIdentifiers.{AreEach as AreRecordsOf}
use Rattle.once_laws.proofs.PairLaws.{first_pairs, other_pairs}

-- each element of the second list tells of one of the first, in the order of these
pub data TellsSome {A B : Type 0} (is : A → B → Type 0) : List A → List B → Type 0 where
  no_more : TellsSome is [] []
  one : {x : A} {y : B} {xs : List A} {ys : List B} → is x y → TellsSome is xs ys → TellsSome is (x ∷ xs) (y ∷ ys)
  left_out : {x : A} {xs : List A} {ys : List B} → TellsSome is xs ys → TellsSome is (x ∷ xs) ys

pub told_append : {A B : Type 0} (is : A → B → Type 0) {xs zs : List A} {ys ws : List B} → TellsSome is xs ys →
    TellsSome is zs ws → TellsSome is (xs ++ zs) (ys ++ ws)
told_append is no_more further = further
told_append is (one told rest) further = one told (told_append is rest further)
told_append is (left_out rest) further = left_out (told_append is rest further)

-- a part of what tells
pub told_map : {A B C : Type 0} (is : A → C → Type 0) (part : B → C) {xs : List A} {ys : List B} →
    TellsSome (λ x y. is x (part y)) xs ys → TellsSome is xs (map part ys)
told_map is part no_more = no_more
told_map is part (one told rest) = one told (told_map is part rest)
told_map is part (left_out rest) = left_out (told_map is part rest)

-- what tells of linked parts that tell of templates, or of rules
pub told_each : {A L B : Type 0} (linked : A → L → Type 0) (record_of : L → B → Type 0) (is : A → B → Type 0) →
    ((x : A) (l : L) (y : B) → linked x l → record_of l y → is x y) → (xs : List A) (ls : List L) (ys : List B) →
    AreEach linked xs ls → AreRecordsOf record_of ls ys → TellsSome is xs ys
told_each linked record_of is step [] [] [] one_each each = no_more
told_each linked record_of is step [] [] (y ∷ ys) one_each each = absurd each
told_each linked record_of is step [] (l ∷ ls) ys one_each each = absurd one_each
told_each linked record_of is step (x ∷ xs) [] ys one_each each = absurd one_each
told_each linked record_of is step (x ∷ xs) (l ∷ ls) [] one_each each = absurd each
told_each linked record_of is step (x ∷ xs) (l ∷ ls) (y ∷ ys) one_each each =
    one (step x l y one_each.0 each.0) (told_each linked record_of is step xs ls ys one_each.1 each.1)

told_all : {A B : Type 0} (is : A → B → Type 0) (P : A → Type 0) (Q : B → Type 0) →
    ((x : A) (y : B) → P x → is x y → Q y) → {xs : List A} {ys : List B} → TellsSome is xs ys → All P xs → All Q ys
told_all is P Q step no_more all = All-nil Q
told_all is P Q step (one {x = x} {y = y} {ys = ys} told rest) all = All-cons Q y ys
    (step x y (all 0 x (omega arith)) told)
    (told_all is P Q step rest (λ n d within. all (suc n) d (omega (arith, within))))
told_all is P Q step (left_out rest) all =
    told_all is P Q step rest (λ n d within. all (suc n) d (omega (arith, within)))

pub told_pairs : {A B : Type 0} (is : A → B → Type 0) (R : A → A → Type 0) (S : B → B → Type 0) →
    ((x z : A) (y w : B) → R x z → is x y → is z w → S y w) → {xs : List A} {ys : List B} → TellsSome is xs ys →
    AllPairs R xs → AllPairs S ys
told_pairs is R S step no_more all = λ i j d less within. absurd (omega (arith, within))
told_pairs is R S step (one {x = x} {y = y} {xs = xs} {ys = ys} told rest) all = AllPairs-cons S y ys
    (told_all is (R x) (S y) (λ z w pair its. step x z y w pair told its) rest (first_pairs R x xs all))
    (told_pairs is R S step rest (other_pairs R x xs all))
told_pairs is R S step (left_out {x = x} {xs = xs} rest) all = told_pairs is R S step rest (other_pairs R x xs all)
