-- CountLaws: how many assignments stand before those of each module, and for which arcs first names stand (X.680,
-- sections 13.1 and 32).
use Rattle.std.proofs.Common.{◌≡◌, ◌∙◌, ◌+◌, ◌<◌, ◌≤◌, ◌^◌, ◌⊎◌, ℕ, zero, suc, List, [], ◌∷◌, ◌++◌, Bool, true, false}
use Rattle.std.proofs.Common.{Some, refl, sym, ap, arith, inl, inr, length, drop, get_or}
use Rattle.std.specs.Prelude.{option_and_then, option_map, slice_get, unwrap_or, if◌then◌else◌}
use Rattle.std.specs.List.{find}
use Rattle.std.proofs.Math.Path.{subst}
use Rattle.std.proofs.lemmas.List.{drop_more}
use Rattle.asn1_names.specs.AssignmentNumbers.{numbered_at}
use Rattle.asn1_names.specs.ModuleTerms.{ModuleTerm}
use Rattle.asn1_numbers.proofs.StandingLaws.{in_front, number_there, stands_at}
use Rattle.asn1_leaf_values.specs.Arcs.{NamedArcs, where_arcs}
use Rattle.asn1_leaf_values.specs.Literals.{same_name}
use Rattle.linked_parts.specs.declared.linked.LinkedFirstName.{LinkedFirstName}
use Rattle.filled_syntaxes.specs.KnownThings.{AreFirstNumbers, where_known}
use Rattle.filled_syntaxes.specs.LinkedMeanings.{is_first_name}

-- ---- numbers

-- the assignments of the first modules are counted
pub record IsCounted (ms : List ModuleTerm) (i : ℕ) (numbers : List ℕ) (next : ℕ) : Type 0 where
  pub many : length numbers ≡ i
  pub next_is : next ≡ in_front ms i
  pub each : (k : ℕ) → k < i → (slice_get numbers k ≡ Some (in_front ms k)) × (in_front ms (k + 1) < 2 ^ 64)

front_zero : (ms : List ModuleTerm) → 0 ≡ in_front ms 0
front_zero [] = refl
front_zero (x ∷ xs) = refl

front_more : (ms : List ModuleTerm) (i : ℕ) (x : ModuleTerm) → slice_get ms i ≡ Some x →
    in_front ms i + length x.assignments ≡ in_front ms (i + 1)
front_more [] i x is = absurd (cc)
front_more (y ∷ ys) zero x is =
    let same : y ≡ x = ap (λ o. unwrap_or o y) is in
    let none = front_zero ys in
    ap (λ z. 0 + length z.assignments) (sym same) ∙ omega (arith, none)
front_more (y ∷ ys) (suc i) x is =
    let rest = front_more ys i x is in
    let one : length y.assignments + in_front ys i + length x.assignments ≡ length y.assignments + in_front ys (i + 1) =
    omega (arith, rest) in
    one ∙ ap (in_front (y ∷ ys)) (next i)
  where
    next : (i : ℕ) → suc (i + 1) ≡ suc i + 1
    next i = omega arith

pub counted_none : (ms : List ModuleTerm) → IsCounted ms 0 [] 0
counted_none ms = record { many = refl; next_is = front_zero ms; each = λ k below. absurd (omega (arith, below)) }

get_front : {X : Type 0} (xs : List X) (y : X) (k : ℕ) (x : X) → slice_get xs k ≡ Some x →
    slice_get (xs ++ y ∷ []) k ≡ Some x
get_front [] y k x is = absurd (cc)
get_front (z ∷ zs) y zero x is = is
get_front (z ∷ zs) y (suc k) x is = get_front zs y k x is

get_last : {X : Type 0} (xs : List X) (y : X) (k : ℕ) → k ≡ length xs → slice_get (xs ++ y ∷ []) k ≡ Some y
get_last [] y k is = ap (slice_get (y ∷ [])) is
get_last (z ∷ zs) y k is = ap (slice_get (z ∷ (zs ++ y ∷ []))) is ∙ get_last zs y (length zs) refl

pub counted_step : (ms : List ModuleTerm) (i : ℕ) (numbers : List ℕ) (next further : ℕ) (x : ModuleTerm) →
    IsCounted ms i numbers next → slice_get ms i ≡ Some x → further ≡ next + length x.assignments → further < 2 ^ 64 →
    IsCounted ms (i + 1) (numbers ++ next ∷ []) further
counted_step ms i numbers next further x h at is few = record {
  many = more numbers i h.many;
  next_is = next_one;
  each = λ k below. by k (last_or k i below);
}
  where
    more : (xs : List ℕ) (n : ℕ) → length xs ≡ n → length (xs ++ next ∷ []) ≡ n + 1
    more [] n e = ap (λ z. z + 1) e
    more (y ∷ ys) n e = let rest = more ys (length ys) refl in omega (arith, rest, e)

    next_one : further ≡ in_front ms (i + 1)
    next_one = is ∙ ap (λ z. z + length x.assignments) h.next_is ∙ front_more ms i x at

    last_or : (k n : ℕ) → k < n + 1 → (k < n) ⊎ (k ≡ n)
    last_or k zero below = inr (omega arith)
    last_or zero (suc n) below = inl (omega arith)
    last_or (suc k) (suc n) below = deeper (last_or k n (omega arith))
      where
        deeper : (k < n) ⊎ (k ≡ n) → (suc k < suc n) ⊎ (suc k ≡ suc n)
        deeper (inl a) = inl (omega (arith, a))
        deeper (inr a) = inr (omega (arith, a))

    by : (k : ℕ) → (k < i) ⊎ (k ≡ i) →
        (slice_get (numbers ++ next ∷ []) k ≡ Some (in_front ms k)) × (in_front ms (k + 1) < 2 ^ 64)
    by k (inl before) =
        let own = h.each k before in (get_front numbers next k (in_front ms k) own.0, own.1)
    by k (inr last) = (
      get_last numbers next k (last ∙ sym h.many) ∙ ap Some (h.next_is ∙ ap (in_front ms) (sym last)),
      subst (λ z. z < 2 ^ 64) (next_one ∙ ap (λ z. in_front ms (z + 1)) (sym last)) few,
    )

get_within : {X : Type 0} (xs : List X) (k : ℕ) (x : X) → slice_get xs k ≡ Some x → k < length xs
get_within [] k x h = absurd (cc)
get_within (y ∷ ys) zero x h = omega arith
get_within (y ∷ ys) (suc k) x h = let rest = get_within ys k x h in omega (arith, rest)

pub counted_end : (ms : List ModuleTerm) (i : ℕ) (numbers : List ℕ) (next : ℕ) → length ms ≤ i →
    IsCounted ms i numbers next → AreFirstNumbers ms numbers
counted_end ms i numbers next past h m p x y home at =
    let inside = get_within ms m x home in
    let own = h.each m (omega (arith, inside, past)) in
    let within = get_within x.assignments p y at in
    let further = front_more ms m x home in
    let few = own.1 in
    let there = number_there ms m p x y home at in
    let stands = stands_at ms there.0 (record { in_module = m; place = p; assignment = y }) there.1 in
    let d : m ≡ stands.d = let z = stands.module_is in omega (arith, z) in
    let number : there.0 ≡ in_front ms m + p =
    stands.number_is ∙ ap (λ z. in_front ms z + p) (sym d) in (
      in_front ms m,
      own.0,
      omega (arith, within, further, few),
      ap (numbered_at ms) (sym number) ∙ there.1,
    )

-- ---- first names

-- the arcs that the first of some names of a text has
abbrev pub arcs_in : List LinkedFirstName → NamedArcs
arcs_in xs name = option_map (λ (x : LinkedFirstName). x.arcs.items) (find (is_first_name name) xs)

pub name_step : (xs : List LinkedFirstName) (n j : ℕ) (x : LinkedFirstName) (before after : NamedArcs) →
    n ≡ j + 1 → j < length xs → x ≡ get_or xs j x →
    ((name : List ℕ) → before name ≡ where_known (arcs_in (drop n xs)) name) →
    ((name : List ℕ) → after name ≡ (if same_name x.name.text name then where_arcs x.arcs.items else before name)) →
    (name : List ℕ) → after name ≡ where_known (arcs_in (drop j xs)) name
name_step xs n j x before after next within is h updated name =
    updated name ∙ ap (λ o. if same_name x.name.text name then where_arcs x.arcs.items else o) (h name) ∙
    by (same_name x.name.text name) refl ∙ ap (λ ys. where_known (arcs_in ys) name) (sym front)
  where
    front : drop j xs ≡ x ∷ drop n xs
    front = drop_more xs j x within ∙ ap (λ y. y ∷ drop (j + 1) xs) (sym is) ∙ ap (λ k. x ∷ drop k xs) (sym next)

    by : (b : Bool) → same_name x.name.text name ≡ b →
        (if b then where_arcs x.arcs.items else where_known (arcs_in (drop n xs)) name) ≡
        where_known (arcs_in (x ∷ drop n xs)) name
    by true e = ap (λ c. option_and_then where_arcs (option_map (λ (y : LinkedFirstName). y.arcs.items)
        (if c then Some x else find (is_first_name name) (drop n xs)))) (sym e)
    by false e = ap (λ c. option_and_then where_arcs (option_map (λ (y : LinkedFirstName). y.arcs.items)
        (if c then Some x else find (is_first_name name) (drop n xs)))) (sym e)
