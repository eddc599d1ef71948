-- StandingLaws: where the assignment with a number stands, and that no other number has that place.
use Rattle.std.specs.Prelude.{◌≡◌, ◌⊎◌, ◌<◌, ℕ, zero, suc, ◌+◌, List, [], ◌∷◌, ◌++◌, Some, length, refl}
use Rattle.std.specs.Prelude.{slice_get}
use Rattle.std.proofs.Common.{ap, arith, sym, subst, inl, inr, ◌∙◌}
use Rattle.std.proofs.lemmas.Option.{same_Some}
use Rattle.asn1_names.specs.AssignmentNumbers.{Numbered, all_numbered, assignment_count, numbered_at, numbered_from}
use Rattle.asn1_names.specs.ModuleTerms.{AssignmentTerm, ModuleTerm}
use Rattle.asn1_names.proofs.NumberLaws.{get_front, get_behind, numbered_length}

-- what stands in two lists stands in the one or in the other
abbrev pub Either : {X : Type 0} → List X → List X → ℕ → X → Type 0
Either xs ys k x = (slice_get xs k ≡ Some x) ⊎ ((j : ℕ) × (k ≡ length xs + j) × (slice_get ys j ≡ Some x))

either_deeper : {X : Type 0} (z : X) (xs ys : List X) (k : ℕ) (x : X) → Either xs ys k x → Either (z ∷ xs) ys (suc k) x
either_deeper z xs ys k x (inl h) = inl h
either_deeper z xs ys k x (inr h) = inr (h.0, (let n = h.1 in omega (arith, n)), h.2)

pub either_of : {X : Type 0} (xs ys : List X) (k : ℕ) (x : X) → slice_get (xs ++ ys) k ≡ Some x → Either xs ys k x
either_of [] ys k x h = inr (k, omega arith, h)
either_of (z ∷ xs) ys zero x h = inl h
either_of (z ∷ xs) ys (suc k) x h = either_deeper z xs ys k x (either_of xs ys k x h)

-- how many assignments stand in front of those of the module at the place d
abbrev pub in_front : List ModuleTerm → ℕ → ℕ
in_front [] d = 0
in_front (y ∷ ys) zero = 0
in_front (y ∷ ys) (suc d) = length y.assignments + in_front ys d

-- an assignment with the number k, among those of modules of which the first has the place m
pub record Stands (m : ℕ) (ms : List ModuleTerm) (k : ℕ) (x : Numbered) : Type 0 where
  pub d : ℕ
  pub module_is : x.in_module ≡ m + d
  pub home : ModuleTerm
  pub home_at : slice_get ms d ≡ Some home
  pub stands : slice_get home.assignments x.place ≡ Some x.assignment
  pub number_is : k ≡ in_front ms d + x.place

numbered_stands : (m i k : ℕ) (xs : List AssignmentTerm) (x : Numbered) → slice_get (numbered_from m i xs) k ≡ Some x →
    (x.in_module ≡ m) × (x.place ≡ i + k) × (slice_get xs k ≡ Some x.assignment)
numbered_stands m i k [] x h = absurd (cc)
numbered_stands m i zero (y ∷ ys) x h =
    let e : record { in_module = m; place = i; assignment = y } ≡ x = same_Some _ x h in (
      ap (λ z. z.in_module) (sym e),
      ap (λ z. z.place) (sym e) ∙ omega arith,
      ap (λ z. Some z.assignment) e,
    )
numbered_stands m i (suc k) (y ∷ ys) x h =
    let rest = numbered_stands m (i + 1) k ys x h in (rest.0, rest.1 ∙ omega arith, rest.2)

stands_first : (m k : ℕ) (y : ModuleTerm) (ys : List ModuleTerm) (x : Numbered) →
    slice_get (numbered_from m 0 y.assignments) k ≡ Some x → Stands m (y ∷ ys) k x
stands_first m k y ys x h =
    let own = numbered_stands m 0 k y.assignments x h in
    let place : x.place ≡ k = omega (arith, own.1) in record {
      d = 0;
      module_is = own.0 ∙ omega arith;
      home = y;
      home_at = refl;
      stands = subst (λ p. slice_get y.assignments p ≡ Some x.assignment) (sym place) own.2;
      number_is = omega (arith, place);
    }

stands_behind : (m k j : ℕ) (y : ModuleTerm) (ys : List ModuleTerm) (x : Numbered) →
    k ≡ length (numbered_from m 0 y.assignments) + j → Stands (m + 1) ys j x → Stands m (y ∷ ys) k x
stands_behind m k j y ys x number rest =
    let many = numbered_length m 0 y.assignments in record {
      d = suc rest.d;
      module_is = rest.module_is ∙ omega arith;
      home = rest.home;
      home_at = rest.home_at;
      stands = rest.stands;
      number_is = (let n = rest.number_is in omega (arith, number, many, n));
    }

pub all_stand : (m k : ℕ) (ms : List ModuleTerm) (x : Numbered) → slice_get (all_numbered m ms) k ≡ Some x →
    Stands m ms k x
all_stand m k [] x h = absurd (cc)
all_stand m k (y ∷ ys) x h = by (either_of (numbered_from m 0 y.assignments) (all_numbered (m + 1) ys) k x h)
    (λ j is. all_stand (m + 1) j ys x is)
  where
    by : Either (numbered_from m 0 y.assignments) (all_numbered (m + 1) ys) k x →
        ((j : ℕ) → slice_get (all_numbered (m + 1) ys) j ≡ Some x → Stands (m + 1) ys j x) → Stands m (y ∷ ys) k x
    by (inl h) rest = stands_first m k y ys x h
    by (inr h) rest = stands_behind m k h.0 y ys x h.1 (rest h.0 h.2)

-- where the assignment with a number stands
pub stands_at : (ms : List ModuleTerm) (k : ℕ) (x : Numbered) → numbered_at ms k ≡ Some x → Stands 0 ms k x
unfolding numbered_at
stands_at ms k x h = all_stand 0 k ms x h

-- two assignments at one place have one number
pub one_number_at : (ms : List ModuleTerm) (k j : ℕ) (x y : Numbered) → numbered_at ms k ≡ Some x →
    numbered_at ms j ≡ Some y → x.in_module ≡ y.in_module → x.place ≡ y.place → k ≡ j
one_number_at ms k j x y h g home place =
    let one = stands_at ms k x h in
    let other = stands_at ms j y g in
    let a = one.module_is in
    let b = other.module_is in
    let same : one.d ≡ other.d = omega (arith, a, b, home) in
    one.number_is ∙ ap (λ d. in_front ms d + x.place) same ∙ ap (λ p. in_front ms other.d + p) place ∙
    sym other.number_is

numbered_there : (m i p : ℕ) (xs : List AssignmentTerm) (a : AssignmentTerm) → slice_get xs p ≡ Some a →
    slice_get (numbered_from m i xs) p ≡ Some (record { in_module = m; place = i + p; assignment = a })
numbered_there m i p [] a h = absurd (cc)
numbered_there m i zero (y ∷ ys) a h =
    let e : y ≡ a = same_Some y a h in
    let place : i ≡ i + 0 = omega arith in
    λ t. Some (record { in_module = m; place = place t; assignment = e t })
numbered_there m i (suc p) (y ∷ ys) a h =
    let place : (i + 1) + p ≡ i + suc p = omega arith in
    numbered_there m (i + 1) p ys a h ∙ ap (λ q. Some (record { in_module = m; place = q; assignment = a })) place

pub all_there : (m d p : ℕ) (ms : List ModuleTerm) (y : ModuleTerm) (a : AssignmentTerm) → slice_get ms d ≡ Some y →
    slice_get y.assignments p ≡ Some a → (k : ℕ) × (slice_get (all_numbered m ms) k ≡
    Some (record { in_module = m + d; place = p; assignment = a }))
all_there m d p [] y a h g = absurd (cc)
all_there m zero p (z ∷ zs) y a h g =
    let e : z ≡ y = same_Some z y h in
    let home : m ≡ m + 0 = omega arith in
    let place : 0 + p ≡ p = omega arith in (
      p,
      get_front (numbered_from m 0 z.assignments) (all_numbered (m + 1) zs) p _
          (numbered_there m 0 p z.assignments a (subst (λ w. slice_get w.assignments p ≡ Some a) (sym e) g)
          ∙ (λ t. Some (record { in_module = home t; place = place t; assignment = a }))),
    )
all_there m (suc d) p (z ∷ zs) y a h g =
    let rest = all_there (m + 1) d p zs y a h g in
    let home : (m + 1) + d ≡ m + suc d = omega arith in
    let front = numbered_from m 0 z.assignments in (
      length front + rest.0,
      get_behind front (all_numbered (m + 1) zs) rest.0 ∙ rest.1 ∙
          (λ t. Some (record { in_module = home t; place = p; assignment = a })),
    )

-- what stands in modules has a number
pub number_there : (ms : List ModuleTerm) (d p : ℕ) (y : ModuleTerm) (a : AssignmentTerm) → slice_get ms d ≡ Some y →
    slice_get y.assignments p ≡ Some a →
    (k : ℕ) × (numbered_at ms k ≡ Some (record { in_module = d; place = p; assignment = a }))
unfolding numbered_at
number_there ms d p y a h g =
    let found = all_there 0 d p ms y a h g in
    let home : 0 + d ≡ d = omega arith in
    (found.0, found.1 ∙ (λ t. Some (record { in_module = home t; place = p; assignment = a })))

get_within : {X : Type 0} (xs : List X) (k : ℕ) (x : X) → slice_get xs k ≡ Some x → k < length xs
get_within [] k x h = absurd (cc)
get_within (y ∷ ys) zero x h = omega arith
get_within (y ∷ ys) (suc k) x h = let rest = get_within ys k x h in omega (arith, rest)

pub number_within : (ms : List ModuleTerm) (k : ℕ) (x : Numbered) → numbered_at ms k ≡ Some x →
    k < assignment_count ms
unfolding numbered_at assignment_count
number_within ms k x h = get_within (all_numbered 0 ms) k x h
