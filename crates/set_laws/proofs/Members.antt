-- Elements of lists.
use Rattle.std.proofs.Common.{◌≡◌, ◌⊎◌, zero, suc, Bool, true, false, List, [], ◌∷◌, refl, arith}
use Rattle.std.proofs.Common.{subst, inl, inr, ⊎_elim}
use Rattle.std.specs.Prelude.{Contains, map, if◌then◌else◌}

pub here : {X : Type 0} (x : X) (xs : List X) → Contains (x ∷ xs) x
here x xs = (0, omega arith, refl)

pub there : {X : Type 0} (x y : X) (xs : List X) → Contains xs y → Contains (x ∷ xs) y
there x y xs at = (suc at.0, omega (arith, at.1), at.2)

pub nowhere : {X : Type 0} (y : X) → Contains [] y → ⊥
nowhere y at = omega (arith, at.1)

pub first_or_later : {X : Type 0} (x y : X) (xs : List X) → Contains (x ∷ xs) y → (x ≡ y) ⊎ Contains xs y
first_or_later x y xs (zero, within, same) = inl same
first_or_later x y xs (suc k, within, same) = inr (k, omega arith, same)

pub joined : {X : Type 0} (x y : X) (xs : List X) → (x ≡ y) ⊎ Contains xs y → Contains (x ∷ xs) y
joined x y xs h = ⊎_elim (λ same. subst (Contains (x ∷ xs)) same (here x xs)) (λ later. there x y xs later) h

-- what holds of both branches
pub either_way : {X : Type 0} (P : X → Type 0) (b : Bool) (x y : X) → (b ≡ true → P x) → (b ≡ false → P y)
    → P (if b then x else y)
either_way P true x y first second = first refl
either_way P false x y first second = second refl

pub map_gets : {X Y : Type 0} (f : X → Y) (xs : List X) (x : X) → Contains xs x → Contains (map f xs) (f x)
map_gets f [] x at = absurd (nowhere x at)
map_gets f (first ∷ xs) x at =
    elim (first_or_later first x xs at) [
      | inl same ↦ subst (λ y. Contains (f first ∷ map f xs) (f y)) same (here (f first) (map f xs))
      | inr later ↦ there (f first) (f x) (map f xs) (map_gets f xs x later)
    ]
