-- What a search of a list finds, and elements that are told apart by what is said of each.
use Rattle.std.proofs.Common.{◌≡◌, ◌≢◌, ℕ, suc, Bool, true, false, List, [], ◌∷◌, ◌++◌, Option, None, Some}
use Rattle.std.proofs.Common.{refl, sym, ap, ◌∙◌, arith, subst, inl, inr}
use Rattle.std.proofs.lemmas.Bool.{and_parts, false≢true, or_cases}
use Rattle.std.proofs.lemmas.List.Elements.{All-cons, All-contains, All-head, All-tail}
use Rattle.std.proofs.lemmas.List.Kept.{AllPairs-cons}
use Rattle.std.specs.List.{list_all, list_any}
use Rattle.std.specs.Option.{option_map_or}
use Rattle.std.specs.Prelude.{All, AllPairs, Contains, IfSome, find, map}
use Rattle.set_laws.proofs.Members.{either_way, first_or_later, here, nowhere, there}

-- ---- tests

find_gets : {X : Type 0} (p : X → Bool) (xs : List X) → IfSome (find p xs) (λ x. Contains xs x × (p x ≡ true))
find_gets p [] = tt
find_gets {X} p (x ∷ xs) =
    either_way (λ found. IfSome found (λ y. Contains (x ∷ xs) y × (p y ≡ true))) (p x) (Some x) (find p xs)
    (λ e. (here x xs, e)) (λ e. further (find p xs) (find_gets p xs))
  where
    further : (found : Option X) → IfSome found (λ y. Contains xs y × (p y ≡ true))
        → IfSome found (λ y. Contains (x ∷ xs) y × (p y ≡ true))
    further None h = tt
    further (Some y) h = (there x y xs h.0, h.1)

pub found_is : {X : Type 0} (p : X → Bool) (xs : List X) (x : X) → find p xs ≡ Some x → Contains xs x × (p x ≡ true)
found_is p xs x e = subst (λ found. IfSome found (λ y. Contains xs y × (p y ≡ true))) e (find_gets p xs)

-- what is tested of an element that may be there
pub mapped_is : {X : Type 0} (p : X → Bool) (found : Option X) → option_map_or p found false ≡ true
    → (x : X) × (found ≡ Some x) × (p x ≡ true)
mapped_is p None e = absurd (false≢true e)
mapped_is p (Some x) e = (x, refl, e)

pub any_gets : {X : Type 0} (p : X → Bool) (xs : List X) → list_any p xs ≡ true → (x : X) × (p x ≡ true)
any_gets p [] e = absurd (false≢true e)
any_gets p (x ∷ xs) e = elim (or_cases (p x) (list_any p xs) e) [
  | inl is ↦ (x, is)
  | inr later ↦ any_gets p xs later
]

pub all_gets : {X : Type 0} (p : X → Bool) (xs : List X) (x : X) → list_all p xs ≡ true → Contains xs x → p x ≡ true
all_gets p [] x e at = absurd (nowhere x at)
all_gets p (first ∷ xs) x e at =
    let parts = and_parts (p first) (list_all p xs) e in
    elim (first_or_later first x xs at) [
      | inl same ↦ subst (λ y. p y ≡ true) same parts.0
      | inr later ↦ all_gets p xs x parts.1 later
    ]

-- ---- elements told apart

pub pairs_head : {X : Type 0} (R : X → X → Type 0) (x : X) (xs : List X) → AllPairs R (x ∷ xs) → All (R x) xs
pairs_head R x xs pairs = λ i d h. pairs 0 (suc i) d (omega arith) (omega arith)

pub pairs_tail : {X : Type 0} (R : X → X → Type 0) (x : X) (xs : List X) → AllPairs R (x ∷ xs) → AllPairs R xs
pairs_tail R x xs pairs = λ i j d h k. pairs (suc i) (suc j) d (omega arith) (omega arith)

all_front : {X : Type 0} (P : X → Type 0) (xs ys : List X) → All P (xs ++ ys) → All P xs
all_front P [] ys all = λ i d h. absurd (omega (arith, h))
all_front P (x ∷ xs) ys all =
    All-cons P x xs (All-head P x (xs ++ ys) all) (all_front P xs ys (All-tail P x (xs ++ ys) all))

pub pairs_front : {X : Type 0} (R : X → X → Type 0) (xs ys : List X) → AllPairs R (xs ++ ys) → AllPairs R xs
pairs_front R [] ys pairs = λ i j d h k. absurd (omega (arith, k))
pairs_front R (x ∷ xs) ys pairs =
    AllPairs-cons R x xs (all_front (R x) xs ys (pairs_head R x (xs ++ ys) pairs))
    (pairs_front R xs ys (pairs_tail R x (xs ++ ys) pairs))

pub pairs_behind : {X : Type 0} (R : X → X → Type 0) (xs ys : List X) → AllPairs R (xs ++ ys) → AllPairs R ys
pairs_behind R [] ys pairs = pairs
pairs_behind R (x ∷ xs) ys pairs = pairs_behind R xs ys (pairs_tail R x (xs ++ ys) pairs)

all_of_map : {X : Type 0} (P : List ℕ → Type 0) (f : X → List ℕ) (xs : List X) → All P (map f xs)
    → All (λ x. P (f x)) xs
all_of_map P f [] all = λ i d h. absurd (omega (arith, h))
all_of_map P f (x ∷ xs) all =
    All-cons (λ y. P (f y)) x xs (All-head P (f x) (map f xs) all)
    (all_of_map P f xs (All-tail P (f x) (map f xs) all))

pub pairs_of_map : {X : Type 0} (f : X → List ℕ) (xs : List X) → AllPairs ◌≢◌ (map f xs)
    → AllPairs (λ one other. f one ≢ f other) xs
pairs_of_map f [] pairs = λ i j d h k. absurd (omega (arith, k))
pairs_of_map f (x ∷ xs) pairs =
    AllPairs-cons (λ one other. f one ≢ f other) x xs
    (all_of_map (λ other. f x ≢ other) f xs (pairs_head ◌≢◌ (f x) (map f xs) pairs))
    (pairs_of_map f xs (pairs_tail ◌≢◌ (f x) (map f xs) pairs))

pub once_same : {X : Type 0} (f : X → List ℕ) (xs : List X) (x y : X) → AllPairs (λ one other. f one ≢ f other) xs
    → Contains xs x → Contains xs y → f x ≡ f y → x ≡ y
once_same f [] x y pairs at also same = absurd (nowhere x at)
once_same f (first ∷ xs) x y pairs at also same =
    let apart = pairs_head (λ one other. f one ≢ f other) first xs pairs in
    let later = pairs_tail (λ one other. f one ≢ f other) first xs pairs in
    elim (first_or_later first x xs at) [
      | inl is ↦ elim (first_or_later first y xs also) [
        | inl equal ↦ sym is ∙ equal
        | inr behind ↦ absurd (All-contains (λ other. f first ≢ f other) xs y apart behind (ap f is ∙ same))
      ]
      | inr behind ↦ elim (first_or_later first y xs also) [
        | inl equal ↦ absurd (All-contains (λ other. f first ≢ f other) xs x apart behind (ap f equal ∙ sym same))
        | inr further ↦ once_same f xs x y later behind further same
      ]
    ]
