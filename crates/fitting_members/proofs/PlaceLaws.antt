-- A place among members by the rising order of their encodings, found by halves.
use Rattle.std.proofs.Common.{◌≡◌, ℕ, zero, suc, ◌+◌, ◌-◌, ◌/◌, ◌<◌, ◌≤◌, Bool, true, false, List, [], ◌∷◌, length, take}
use Rattle.std.proofs.Common.{drop, get_or, insert, remove, refl, sym, ap, subst, ◌∙◌, arith}
use Rattle.std.proofs.lemmas.Bool.{false≢true, or_from}
use Rattle.std.proofs.lemmas.Slice.Eq.{bytes_eq-Decides}
use Rattle.std.specs.List.{AllByRecursion}
use Rattle.std.specs.Prelude.{map}
use Rattle.term_values.proofs.RisingLaws.{may_precede_both, may_precede_itself, may_precede_through}
use Rattle.term_values.specs.Decoding.{inserted_by}
use Rattle.term_values.specs.Rearranged.{IsRising, may_precede}
use Rattle.term_values.specs.SameValue.{same_octets}
use Rattle.term_values.specs.SetMembers.{is_among}
use Rattle.term_values.specs.Typed.{TypedValue, listed}
use Rattle.term_values.specs.Typed.TypedValues.{Then}
use Rattle.term_values.specs.ValueContents.{member_encodings}
use Rattle.fitting_members.specs.MemberPlaces.{AreRising, IsPlace, has_at}

abbrev pub Encoding : Type 0
Encoding = TypedValue → List ℕ

pub encodings_listed : (e : Encoding) (items : List TypedValue) → member_encodings e (listed items) ≡ map e items
encodings_listed e [] = refl
encodings_listed e (v ∷ vs) = ap (λ xs. e v ∷ xs) (encodings_listed e vs)

-- ---- rising members

pub tail_rises : (e : Encoding) (v : TypedValue) (vs : List TypedValue) → AreRising e (v ∷ vs) → AreRising e vs
tail_rises e v [] r = tt
tail_rises e v (u ∷ us) r = r.1

abbrev NoLess : Encoding → List ℕ → List TypedValue → Type 0
NoLess e x items = AllByRecursion (λ value. may_precede x (e value) ≡ true) items

abbrev Less : Encoding → List ℕ → List TypedValue → Type 0
Less e x items = AllByRecursion (λ value. may_precede x (e value) ≡ false) items

all_through : (e : Encoding) (x y : List ℕ) (vs : List TypedValue) → may_precede x y ≡ true → NoLess e y vs
    → NoLess e x vs
all_through e x y [] h all = tt
all_through e x y (v ∷ vs) h all = (may_precede_through x y (e v) h all.0, all_through e x y vs h all.1)

pub head_all : (e : Encoding) (v : TypedValue) (vs : List TypedValue) → AreRising e (v ∷ vs) → NoLess e (e v) vs
head_all e v [] r = tt
head_all e v (u ∷ us) r = (r.0, all_through e (e v) (e u) us r.0 (head_all e u us r.1))

held_at : (e : Encoding) (x : List ℕ) (vs : List TypedValue) (i : ℕ) (d : TypedValue) → i < length vs → NoLess e x vs
    → may_precede x (e (get_or vs i d)) ≡ true
held_at e x [] i d h all = absurd (omega arith)
held_at e x (v ∷ vs) zero d h all = all.0
held_at e x (v ∷ vs) (suc i) d h all = held_at e x vs i d (omega arith) all.1

pub front_all : (e : Encoding) (x : List ℕ) (items : List TypedValue) (i : ℕ) (d : TypedValue) → i < length items
    → AreRising e items → may_precede x (e (get_or items i d)) ≡ false → Less e x (take (i + 1) items)
front_all e x [] i d h r not = absurd (omega arith)
front_all e x (v ∷ vs) zero d h r not = (not, tt)
front_all e x (v ∷ vs) (suc i) d h r not =
    let next : suc i + 1 ≡ suc (i + 1) = omega arith in
    rw next (by (may_precede x (e v)) refl, front_all e x vs i d (omega arith) (tail_rises e v vs r) not)
  where
    by : (b : Bool) → may_precede x (e v) ≡ b → may_precede x (e v) ≡ false
    by true p =
        absurd (false≢true (sym not ∙ may_precede_through x (e v) (e (get_or vs i d)) p
        (held_at e (e v) vs i d (omega arith) (head_all e v vs r))))
    by false p = p

pub behind_all : (e : Encoding) (x : List ℕ) (items : List TypedValue) (i : ℕ) (d : TypedValue) → i < length items
    → AreRising e items → may_precede x (e (get_or items i d)) ≡ true → NoLess e x (drop i items)
behind_all e x [] i d h r holds = absurd (omega arith)
behind_all e x (v ∷ vs) zero d h r holds = (holds, all_through e x (e v) vs holds (head_all e v vs r))
behind_all e x (v ∷ vs) (suc i) d h r holds = behind_all e x vs i d (omega arith) (tail_rises e v vs r) holds

pub none_past : (e : Encoding) (x : List ℕ) (items : List TypedValue) → NoLess e x (drop (length items) items)
none_past e x [] = tt
none_past e x (v ∷ vs) = none_past e x vs

-- the two ends between which the place lies
pub record IsSearched (e : Encoding) (x : List ℕ) (items : List TypedValue) (low high : ℕ) : Type 0 where
  pub ordered : low ≤ high
  pub within : high ≤ length items
  pub front : AllByRecursion (λ value. may_precede x (e value) ≡ false) (take low items)
  pub behind : AllByRecursion (λ value. may_precede x (e value) ≡ true) (drop high items)

pub search_begins : (e : Encoding) (x : List ℕ) (items : List TypedValue) → IsSearched e x items 0 (length items)
search_begins e x items = record {
  ordered = omega arith;
  within = omega arith;
  front = tt;
  behind = none_past e x items;
}

pub searched_behind : (e : Encoding) (x : List ℕ) (items : List TypedValue) (low high middle : ℕ) (d : TypedValue)
    → AreRising e items → IsSearched e x items low high → low < high → middle ≡ low + (high - low) / 2
    → may_precede x (e (get_or items middle d)) ≡ false → IsSearched e x items (middle + 1) high
searched_behind e x items low high middle d rising so some half not = record {
  ordered = omega (arith, half);
  within = so.within;
  front = front_all e x items middle d (omega (arith, half, so.within)) rising not;
  behind = so.behind;
}

pub searched_in_front : (e : Encoding) (x : List ℕ) (items : List TypedValue) (low high middle : ℕ) (d : TypedValue)
    → AreRising e items → IsSearched e x items low high → low < high → middle ≡ low + (high - low) / 2
    → may_precede x (e (get_or items middle d)) ≡ true → IsSearched e x items low middle
searched_in_front e x items low high middle d rising so some half holds = record {
  ordered = omega (arith, half);
  within = omega (arith, half, so.within);
  front = so.front;
  behind = behind_all e x items middle d (omega (arith, half, so.within)) rising holds;
}

pub search_ends : (e : Encoding) (x : List ℕ) (items : List TypedValue) (low high : ℕ) → IsSearched e x items low high
    → high ≤ low → IsPlace e x items low
search_ends e x items low high so past =
    let met : high ≡ low = omega (arith, so.ordered) in
    record { within = omega (arith, so.within); front = so.front; behind = rw (← met) so.behind }

-- ---- what stands at the place

not_less : (x y : List ℕ) → may_precede x y ≡ false → same_octets x y ≡ false
not_less x y less = by (same_octets x y) refl
  where
    by : (b : Bool) → same_octets x y ≡ b → same_octets x y ≡ false
    by true same =
        let is = (bytes_eq-Decides x y).0 same in
        absurd (false≢true (sym less ∙ subst (λ z. may_precede x z ≡ true) is (may_precede_itself x)))
    by false other = other

none_behind : (e : Encoding) (x y : List ℕ) (vs : List TypedValue) → may_precede x y ≡ true → same_octets x y ≡ false
    → NoLess e y vs → is_among x (map e vs) ≡ false
none_behind e x y [] before other all = refl
none_behind e x y (v ∷ vs) before other all =
    or_from _ _ (by (same_octets x (e v)) refl) (none_behind e x y vs before other all.1)
  where
    by : (b : Bool) → same_octets x (e v) ≡ b → same_octets x (e v) ≡ false
    by true same =
        let is = (bytes_eq-Decides x (e v)).0 same in
        let back = subst (λ z. may_precede y z ≡ true) (sym is) all.0 in
        absurd (false≢true (sym other ∙ (bytes_eq-Decides x y).1 (may_precede_both x y before back)))
    by false apart = apart

pub among_at : (e : Encoding) (x : List ℕ) (items : List TypedValue) (at : ℕ) → AreRising e items
    → IsPlace e x items at → is_among x (map e items) ≡ has_at e x items at
among_at e x [] at r place = refl
among_at e x (v ∷ vs) zero r place = by (same_octets x (e v)) refl
  where
    by : (b : Bool) → same_octets x (e v) ≡ b → is_among x (map e (v ∷ vs)) ≡ same_octets x (e v)
    by true same = rw same refl
    by false other = rw other (none_behind e x (e v) vs place.behind.0 other (head_all e v vs r))
among_at e x (v ∷ vs) (suc at) r place =
    let rest : IsPlace e x vs at = record {
      within = omega (arith, place.within);
      front = place.front.1;
      behind = place.behind;
    } in
    rw (not_less x (e v) place.front.0) (among_at e x vs at (tail_rises e v vs r) rest)

-- ---- a member more

pub inserted_at : (e : Encoding) (value : TypedValue) (items : List TypedValue) (at : ℕ) → IsPlace e (e value) items at
    → listed (insert items at value) ≡ inserted_by e value (listed items)
inserted_at e value [] zero place = refl
inserted_at e value [] (suc at) place = absurd (omega (arith, place.within))
inserted_at e value (v ∷ vs) zero place = rw place.behind.0 refl
inserted_at e value (v ∷ vs) (suc at) place =
    let rest : IsPlace e (e value) vs at = record {
      within = omega (arith, place.within);
      front = place.front.1;
      behind = place.behind;
    } in
    rw place.front.0 (ap (Then v) (inserted_at e value vs at rest))

-- ---- a member less

taken_behind : (e : Encoding) (x : List ℕ) (items : List TypedValue) (at : ℕ) → at < length items
    → NoLess e x (drop at items) → NoLess e x (drop at (remove items at))
taken_behind e x [] at h all = absurd (omega arith)
taken_behind e x (v ∷ vs) zero h all = all.1
taken_behind e x (v ∷ vs) (suc at) h all = taken_behind e x vs at (omega arith) all

taken_front : (e : Encoding) (x : List ℕ) (items : List TypedValue) (at : ℕ) → at < length items
    → Less e x (take at items) → Less e x (take at (remove items at))
taken_front e x [] at h all = absurd (omega arith)
taken_front e x (v ∷ vs) zero h all = tt
taken_front e x (v ∷ vs) (suc at) h all = (all.0, taken_front e x vs at (omega arith) all.1)

taken_length : (items : List TypedValue) (at : ℕ) → at < length items → at ≤ length (remove items at)
taken_length [] at h = absurd (omega arith)
taken_length (v ∷ vs) zero h = omega arith
taken_length (v ∷ vs) (suc at) h = let rest = taken_length vs at (omega arith) in omega arith

pub still_place : (e : Encoding) (x : List ℕ) (items : List TypedValue) (at : ℕ) → at < length items
    → IsPlace e x items at → IsPlace e x (remove items at) at
still_place e x items at h place = record {
  within = taken_length items at h;
  front = taken_front e x items at h place.front;
  behind = taken_behind e x items at h place.behind;
}

second_left : (x : List ℕ) (e : Encoding) (v : TypedValue) (vs : List TypedValue) → may_precede x (e v) ≡ true
    → AreRising e (v ∷ vs) → IsRising (x ∷ map e vs)
second_left x e v [] h r = tt
second_left x e v (u ∷ us) h r = (may_precede_through x (e v) (e u) h r.0, r.1)

without_rises_from : (x : List ℕ) (e : Encoding) (items : List TypedValue) (at : ℕ) → at < length items
    → IsRising (x ∷ map e items) → IsRising (x ∷ map e (remove items at))
without_rises_from x e [] at h r = absurd (omega arith)
without_rises_from x e (v ∷ vs) zero h r = second_left x e v vs r.0 r.1
without_rises_from x e (v ∷ vs) (suc at) h r = (r.0, without_rises_from (e v) e vs at (omega arith) r.1)

pub without_rises : (e : Encoding) (items : List TypedValue) (at : ℕ) → at < length items → AreRising e items
    → AreRising e (remove items at)
without_rises e [] at h r = absurd (omega arith)
without_rises e (v ∷ vs) zero h r = tail_rises e v vs r
without_rises e (v ∷ vs) (suc at) h r = without_rises_from (e v) e vs at (omega arith) r
