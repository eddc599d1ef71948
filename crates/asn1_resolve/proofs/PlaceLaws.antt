-- PlaceLaws: an assignment with a number stands at its place in its module, and each assignment of a module has a
-- number
-- (X.680, section 13.1).
use Rattle.std.proofs.Common.{◌≡◌, ◌⊎◌, ◌∙◌, ◌+◌, ◌++◌, ◌<◌, ℕ, zero, suc, List, [], ◌∷◌, Some, refl, ap}
use Rattle.std.proofs.Common.{sym, arith}
use Rattle.std.proofs.Common.{inl, inr, length, slice_get, zero-add}
use Rattle.asn1_names.specs.AssignmentNumbers.{Numbered, all_numbered, assignment_count, numbered_at, numbered_from}
use Rattle.asn1_names.specs.ModuleTerms.{AssignmentTerm, ModuleTerm}
use Rattle.asn1_names.proofs.NumberLaws.{add-zero, get_behind, get_front}
use Rattle.asn1_names.proofs.TableAnswers.{some_is}

pub get_within : {X : Type 0} (xs : List X) (k : ℕ) (x : X) → slice_get xs k ≡ Some x → k < length xs
get_within [] k x is = absurd (cc)
get_within (y ∷ xs) zero x is = omega arith
get_within (y ∷ xs) (suc k) x is = let rest = get_within xs k x is in omega (arith, rest)

append_cases : {X : Type 0} (xs ys : List X) (k : ℕ) (x : X) → slice_get (xs ++ ys) k ≡ Some x →
    (slice_get xs k ≡ Some x) ⊎ ((j : ℕ) × (slice_get ys j ≡ Some x))
append_cases [] ys k x is = inr (k, is)
append_cases (y ∷ xs) ys zero x is = inl is
append_cases (y ∷ xs) ys (suc k) x is = append_cases xs ys k x is

-- the assignment at the place d of a module's, of which the first has the place i
abbrev StandsFrom : ℕ → ℕ → List AssignmentTerm → Numbered → Type 0
StandsFrom m i xs x = (d : ℕ) × (x.in_module ≡ m) × (x.place ≡ i + d) × (slice_get xs d ≡ Some x.assignment)

from_in : (m i : ℕ) (xs : List AssignmentTerm) (k : ℕ) (x : Numbered) →
    slice_get (numbered_from m i xs) k ≡ Some x → StandsFrom m i xs x
from_in m i [] k x is = absurd (cc)
from_in m i (y ∷ xs) zero x is =
    let own = some_is (record { in_module = m; place = i; assignment = y }) x is in (
      0,
      ap (λ z. z.in_module) (sym own),
      ap (λ z. z.place) (sym own) ∙ sym (add-zero i),
      ap (λ z. Some z.assignment) own,
    )
from_in m i (y ∷ xs) (suc k) x is =
    let rest = from_in m (i + 1) xs k x is in (suc rest.0, rest.1, rest.2 ∙ (omega arith), rest.3)

from_at : (m i : ℕ) (xs : List AssignmentTerm) (j : ℕ) (a : AssignmentTerm) → slice_get xs j ≡ Some a →
    slice_get (numbered_from m i xs) j ≡ Some (record { in_module = m; place = i + j; assignment = a })
from_at m i [] j a is = absurd (cc)
from_at m i (y ∷ xs) zero a is =
    ap (λ z. Some (record { in_module = m; place = i; assignment = z })) (some_is y a is) ∙
    ap (λ n. Some (record { in_module = m; place = n; assignment = a })) (sym (add-zero i))
from_at m i (y ∷ xs) (suc j) a is =
    let sum : (i + 1) + j ≡ i + suc j = omega arith in
    from_at m (i + 1) xs j a is ∙ ap (λ n. Some (record { in_module = m; place = n; assignment = a })) sum

-- the assignment stands in one of the modules, of which the first has the place m
abbrev StandsInAll : ℕ → List ModuleTerm → Numbered → Type 0
StandsInAll m xs x = (d : ℕ) × (x.in_module ≡ m + d) × (home : ModuleTerm) × (slice_get xs d ≡ Some home)
    × (slice_get home.assignments x.place ≡ Some x.assignment)

all_in : (m : ℕ) (xs : List ModuleTerm) (k : ℕ) (x : Numbered) → slice_get (all_numbered m xs) k ≡ Some x →
    StandsInAll m xs x
all_in m [] k x is = absurd (cc)
all_in m (y ∷ xs) k x is =
    elim (append_cases (numbered_from m 0 y.assignments) (all_numbered (m + 1) xs) k x is) as
    (λ _. StandsInAll m (y ∷ xs) x) [
      | inl front ↦ (
          let own = from_in m 0 y.assignments k x front in (
            0,
            own.1 ∙ sym (add-zero m),
            y,
            refl,
            ap (λ n. slice_get y.assignments n) (own.2 ∙ zero-add own.0) ∙ own.3,
          ))
      | inr rest ↦ (
          let own = all_in (m + 1) xs rest.0 x rest.1 in
          (suc own.0, own.1 ∙ (omega arith), own.2, own.3, own.4))
    ]

all_at : (m : ℕ) (xs : List ModuleTerm) (d : ℕ) (home : ModuleTerm) (j : ℕ) (a : AssignmentTerm) →
    slice_get xs d ≡ Some home → slice_get home.assignments j ≡ Some a →
    (k : ℕ) × (slice_get (all_numbered m xs) k ≡ Some (record { in_module = m + d; place = j; assignment = a }))
all_at m [] d home j a is at = absurd (cc)
all_at m (y ∷ xs) zero home j a is at =
    let own = some_is y home is in (
      j,
      get_front (numbered_from m 0 y.assignments) (all_numbered (m + 1) xs) j
          (record { in_module = m + 0; place = j; assignment = a })
          (from_at m 0 y.assignments j a (ap (λ z. slice_get z.assignments j) own ∙ at) ∙
          ap (λ n. Some (record { in_module = n; place = 0 + j; assignment = a })) (sym (add-zero m)) ∙
          ap (λ n. Some (record { in_module = m + 0; place = n; assignment = a })) (zero-add j)),
    )
all_at m (y ∷ xs) (suc d) home j a is at =
    let rest = all_at (m + 1) xs d home j a is at in
    let sum : (m + 1) + d ≡ m + suc d = omega arith in (
      length (numbered_from m 0 y.assignments) + rest.0,
      get_behind (numbered_from m 0 y.assignments) (all_numbered (m + 1) xs) rest.0 ∙ rest.1 ∙
          ap (λ n. Some (record { in_module = n; place = j; assignment = a })) sum,
    )

pub numbered_in : (ms : List ModuleTerm) (number : ℕ) (x : Numbered) → numbered_at ms number ≡ Some x →
    (home : ModuleTerm) × (slice_get ms x.in_module ≡ Some home) × (slice_get home.assignments x.place ≡ Some
    x.assignment)
unfolding numbered_at
numbered_in ms number x is =
    let found = all_in 0 ms number x is in
    (found.2, ap (λ n. slice_get ms n) (found.1 ∙ zero-add found.0) ∙ found.3, found.4)

pub number_of : (ms : List ModuleTerm) (m : ℕ) (home : ModuleTerm) (j : ℕ) (a : AssignmentTerm) →
    slice_get ms m ≡ Some home → slice_get home.assignments j ≡ Some a →
    (k : ℕ) × (numbered_at ms k ≡ Some (record { in_module = m; place = j; assignment = a }))
unfolding numbered_at
number_of ms m home j a is at =
    let found = all_at 0 ms m home j a is at in
    (found.0, found.1 ∙ ap (λ n. Some (record { in_module = n; place = j; assignment = a })) (zero-add m))

pub numbered_within : (ms : List ModuleTerm) (number : ℕ) (x : Numbered) → numbered_at ms number ≡ Some x →
    number < assignment_count ms
unfolding numbered_at assignment_count
numbered_within ms number x is = get_within (all_numbered 0 ms) number x is
