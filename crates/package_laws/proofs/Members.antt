-- Elements of lists.
use Rattle.std.proofs.Common.{◌≡◌, ◌⊎◌, ℕ, zero, suc, Bool, true, false, List, [], ◌∷◌, refl, sym, arith}
use Rattle.std.proofs.Common.{ap, ◌∙◌, subst, inl, inr, ⊎_elim}
use Rattle.std.proofs.lemmas.Bool.{false≢true}
use Rattle.std.proofs.lemmas.Bool.Decides.{Decides-or}
use Rattle.std.proofs.lemmas.List.Elements.{Contains-append_cases, Contains-append_left, Contains-append_right}
use Rattle.std.proofs.lemmas.Slice.Eq.{bytes_eq-Decides}
use Rattle.std.specs.Prelude.{Contains, Decides, filter, flat_map, map, if◌then◌else◌}
use Rattle.term_model.specs.Comparing.{is_same_oid}
use Rattle.term_model.specs.PresentPackages.{is_among}

pub here : {X : Type 0} (x : X) (xs : List X) → Contains (x ∷ xs) x
here x xs = (0, omega arith, refl)

pub there : {X : Type 0} (x y : X) (xs : List X) → Contains xs y → Contains (x ∷ xs) y
there x y xs at = (suc at.0, omega (arith, at.1), at.2)

pub nowhere : {X : Type 0} (y : X) → Contains [] y → ⊥
nowhere y at = omega (arith, at.1)

pub first_or_later : {X : Type 0} (x y : X) (xs : List X) → Contains (x ∷ xs) y → (x ≡ y) ⊎ Contains xs y
first_or_later x y xs (zero, within, same) = inl same
first_or_later x y xs (suc k, within, same) = inr (k, omega arith, same)

pub joined : {X : Type 0} (x y : X) (xs : List X) → (x ≡ y) ⊎ Contains xs y → Contains (x ∷ xs) y
joined x y xs h = ⊎_elim (λ same. subst (Contains (x ∷ xs)) same (here x xs)) (λ later. there x y xs later) h

-- what holds of both branches
pub either_way : {X : Type 0} (P : X → Type 0) (b : Bool) (x y : X) → (b ≡ true → P x) → (b ≡ false → P y)
    → P (if b then x else y)
either_way P true x y first second = first refl
either_way P false x y first second = second refl

-- ---- identifiers

pub same_id : (a b : List ℕ) → Decides (is_same_oid a b) (a ≡ b)
same_id a b = bytes_eq-Decides a b

pub is_among_Decides : (ids : List (List ℕ)) (id : List ℕ) → Decides (is_among ids id) (Contains ids id)
is_among_Decides [] id = (λ e. absurd (false≢true e), λ at. absurd (nowhere id at))
is_among_Decides (first ∷ ids) id =
    let either = Decides-or (is_same_oid first id) (is_among ids id) (same_id first id) (is_among_Decides ids id) in
    (λ e. joined first id ids (either.0 e), λ at. either.1 (first_or_later first id ids at))

-- ---- what lists are made of

pub flat_map_from : {X Y : Type 0} (f : X → List Y) (xs : List X) (y : Y) → Contains (flat_map f xs) y
    → (x : X) × Contains xs x × Contains (f x) y
flat_map_from f [] y at = absurd (nowhere y at)
flat_map_from f (x ∷ xs) y at =
    elim (Contains-append_cases (f x) (flat_map f xs) y at) [
      | inl first ↦ (x, here x xs, first)
      | inr later ↦ (let h = flat_map_from f xs y later in (h.0, there x h.0 xs h.1, h.2))
    ]

pub flat_map_gets : {X Y : Type 0} (f : X → List Y) (xs : List X) (x : X) (y : Y) → Contains xs x → Contains (f x) y
    → Contains (flat_map f xs) y
flat_map_gets f [] x y at inside = absurd (nowhere x at)
flat_map_gets f (first ∷ xs) x y at inside =
    elim (first_or_later first x xs at) [
      | inl same ↦
          Contains-append_left (f first) (flat_map f xs) y (subst (λ z. Contains (f z) y) (sym same) inside)
      | inr later ↦ Contains-append_right (f first) (flat_map f xs) y (flat_map_gets f xs x y later inside)
    ]

pub map_from : {X Y : Type 0} (f : X → Y) (xs : List X) (y : Y) → Contains (map f xs) y
    → (x : X) × Contains xs x × (f x ≡ y)
map_from f [] y at = absurd (nowhere y at)
map_from f (x ∷ xs) y at =
    elim (first_or_later (f x) y (map f xs) at) [
      | inl same ↦ (x, here x xs, same)
      | inr later ↦ (let h = map_from f xs y later in (h.0, there x h.0 xs h.1, h.2))
    ]

pub map_gets : {X Y : Type 0} (f : X → Y) (xs : List X) (x : X) → Contains xs x → Contains (map f xs) (f x)
map_gets f [] x at = absurd (nowhere x at)
map_gets f (first ∷ xs) x at =
    elim (first_or_later first x xs at) [
      | inl same ↦ joined (f first) (f x) (map f xs) (inl (ap f same))
      | inr later ↦ there (f first) (f x) (map f xs) (map_gets f xs x later)
    ]

pub filter_from : {X : Type 0} (p : X → Bool) (xs : List X) (y : X) → Contains (filter p xs) y
    → Contains xs y × (p y ≡ true)
filter_from p [] y at = absurd (nowhere y at)
filter_from {X} p (x ∷ xs) y at =
    either_way (λ zs. Contains zs y → Contains (x ∷ xs) y × (p y ≡ true)) (p x) (x ∷ filter p xs) (filter p xs)
    (λ e in_both. elim (first_or_later x y (filter p xs) in_both) [
      | inl same ↦ (joined x y xs (inl same), subst (λ z. p z ≡ true) same e)
      | inr later ↦ more (filter_from p xs y later)
    ])
    (λ e later. more (filter_from p xs y later)) at
  where
    more : Contains xs y × (p y ≡ true) → Contains (x ∷ xs) y × (p y ≡ true)
    more h = (there x y xs h.0, h.1)

pub filter_gets : {X : Type 0} (p : X → Bool) (xs : List X) (y : X) → Contains xs y → p y ≡ true
    → Contains (filter p xs) y
filter_gets p [] y at e = absurd (nowhere y at)
filter_gets p (x ∷ xs) y at e =
    elim (first_or_later x y xs at) [
      | inl same ↦ either_way (λ zs. Contains zs y) (p x) (x ∷ filter p xs) (filter p xs)
          (λ passes. joined x y (filter p xs) (inl same))
          (λ fails. absurd (false≢true (sym fails ∙ (ap p same ∙ e))))
      | inr later ↦ either_way (λ zs. Contains zs y) (p x) (x ∷ filter p xs) (filter p xs)
          (λ passes. there x y (filter p xs) (filter_gets p xs y later e))
          (λ fails. filter_gets p xs y later e)
    ]
