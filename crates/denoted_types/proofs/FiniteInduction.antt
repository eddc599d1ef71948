-- FiniteInduction: where no node leads to itself, and all to which a node leads are in a list, what holds of each node
-- as soon as it holds of all to which that one leads at once holds of each node.
use Rattle.std.proofs.Common.{◌≡◌, ℕ, zero, suc, ◌<◌, ◌≤◌, ⊎_elim, List, [], ◌∷◌, length, get_or}
use Rattle.std.proofs.Common.{Contains, refl, sym, ◌∙◌, subst, arith, eq-or-lt_of_le}

-- ---- a list without the element at a place

abbrev without : {X : Type 0} → List X → ℕ → List X
without [] k = []
without (x ∷ xs) zero = xs
without (x ∷ xs) (suc k) = x ∷ without xs k

fewer : {X : Type 0} (xs : List X) (k : ℕ) → k < length xs → length xs ≡ suc (length (without xs k))
fewer [] k within = absurd (omega arith)
fewer (x ∷ xs) zero within = refl
fewer (x ∷ xs) (suc k) within = let rest = fewer xs k (omega arith) in omega (arith, rest)

-- each element but the one that stands there is left
stays : {X : Type 0} (xs : List X) (k : ℕ) (y z : X) → get_or xs k y ≡ y → ¬ (y ≡ z) → (j : ℕ) → j < length xs →
    get_or xs j z ≡ z → Contains (without xs k) z
stays [] k y z at apart j within is = absurd (omega arith)
stays (x ∷ xs) zero y z at apart zero within is = absurd (apart (sym at ∙ is))
stays (x ∷ xs) zero y z at apart (suc j) within is = (j, omega arith, is)
stays (x ∷ xs) (suc k) y z at apart zero within is = (0, omega arith, is)
stays (x ∷ xs) (suc k) y z at apart (suc j) within is =
    let rest = stays xs k y z at apart j (omega arith) is in
    let below = rest.1 in
    (suc rest.0, omega (arith, below), rest.2)

-- ---- what holds of each node

-- `At x y`: x leads to y at once; `Far x y`: x leads to y, directly or not
module _ {X : Type 0} (At Far : X → X → Type 0) (Holds : X → Type 0) (at_once : (x y : X) → At x y → Far x y)
    (onward : (x y z : X) → At x y → Far y z → Far x z)
    (step : (x : X) → ((y : X) → At x y → Holds y) → Holds x) where
  by_length : (n : ℕ) (xs : List X) (x : X) → length xs ≡ n → ((y : X) → Far x y → ¬ Far y y) →
      ((y : X) → Far x y → Contains xs y) → Holds x
  by_length zero xs x size apart listed = step x (λ y at.
      let within = (listed y (at_once x y at)).1 in
      absurd (omega (arith, size, within)))
  by_length (suc n) xs x size apart listed = step x (λ y at.
      let here = listed y (at_once x y at) in
      let less = fewer xs here.0 here.1 in
      by_length n (without xs here.0) y (omega (arith, size, less)) (λ z far. apart z (onward x y z at far))
      (λ z far.
      let there = listed z (onward x y z at far) in
      stays xs here.0 y z here.2
      (λ same. apart y (at_once x y at) (subst (Far y) (sym same) far)) there.0 there.1 there.2))

  -- of a node to which only such nodes are led as don't lead to themselves, and are in a list
  pub finite_induction : (xs : List X) (x : X) → ((y : X) → Far x y → ¬ Far y y) → ((y : X) → Far x y → Contains xs y) →
      Holds x
  finite_induction xs x apart listed = by_length (length xs) xs x refl apart listed

-- ---- nodes that are numbers below one

abbrev numbers_below : ℕ → List ℕ
numbers_below zero = []
numbers_below (suc n) = n ∷ numbers_below n

is_below : (n k : ℕ) → k < n → Contains (numbers_below n) k
is_below zero k within = absurd (omega arith)
is_below (suc n) k within =
    let no_more : k ≤ n = omega arith in
    ⊎_elim (λ same. (0, omega arith, sym same))
    (λ less.
    let rest = is_below n k less in
    let below = rest.1 in
    (suc rest.0, omega (arith, below), rest.2))
    (eq-or-lt_of_le no_more)

pub induction_below : (At Far : ℕ → ℕ → Type 0) (Holds : ℕ → Type 0) → ((x y : ℕ) → At x y → Far x y) →
    ((x y z : ℕ) → At x y → Far y z → Far x z) → ((x : ℕ) → ((y : ℕ) → At x y → Holds y) → Holds x) →
    (n x : ℕ) → ((y : ℕ) → Far x y → ¬ Far y y) → ((y : ℕ) → Far x y → y < n) → Holds x
induction_below At Far Holds at_once onward step n x apart below =
    finite_induction At Far Holds at_once onward step (numbers_below n) x apart (λ y far. is_below n y (below y far))
