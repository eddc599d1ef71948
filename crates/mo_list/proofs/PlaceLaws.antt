-- A place among entries by rising name, found by halves.
use Rattle.std.proofs.Common.{◌≡◌, ℕ, zero, suc, ◌+◌, ◌-◌, ◌/◌, ◌^◌, ◌<◌, ◌≤◌, Bool, true, false, List, [], ◌∷◌, length, take}
use Rattle.std.proofs.Common.{drop, get_or, refl, sym, ap, ◌∙◌, arith}
use Rattle.std.proofs.Math.Nat.{pow-suc}
use Rattle.std.proofs.lemmas.Bool.{false≢true}
use Rattle.std.specs.Arc.{arc_value}
use Rattle.std.specs.List.{AllByRecursion}
use Rattle.std.specs.List.Sorted.{IsStrictlySortedBy}
use Rattle.std.specs.Ordering.{is_gt, ordering_reverse}
use Rattle.std.specs.declared.alloc.Global.{Global}
use Rattle.std.specs.declared.cmp.Ordering.{Ordering}
use Rattle.std.specs.declared.cmp.Ordering.TheVariants.{Less, Equal, Greater}
use Rattle.std.specs.declared.sync.Arc.{Arc}
use Rattle.term_model.specs.declared.name.Rdn.{Rdn}
use Rattle.term_model.specs.declared.objects.NamedObject.{NamedObject}
use Rattle.term_model.specs.NameLaws.{name_total}
use Rattle.term_model.specs.NameOrder.{name_cmp}
use Rattle.term_model.specs.NamedObjects.{IsByName, names}
use Rattle.mo_list.specs.Entries.{objects_in}
use Rattle.mo_list.specs.Places.{AllPass, IsCut, NonePass}

abbrev pub Entry : Type 0
Entry = Arc NamedObject Global

-- ---- names

pub is_greater : (o : Ordering) → is_gt o ≡ true → o ≡ Greater
is_greater Less h = absurd (false≢true h)
is_greater Equal h = absurd (false≢true h)
is_greater Greater h = refl

turned : (xs ys : List Rdn) (o : Ordering) → name_cmp xs ys ≡ o → name_cmp ys xs ≡ ordering_reverse o
turned xs ys o e = name_total.antisymm ys xs ∙ ap ordering_reverse e

-- a name that is greater than one is greater than what stands in front of it
pub greater_still : (name first other : List Rdn) → name_cmp first other ≡ Less → is_gt (name_cmp name other) ≡ true
    → is_gt (name_cmp name first) ≡ true
greater_still name first other less greater =
    let below = turned name other Greater (is_greater (name_cmp name other) greater) in
    ap is_gt (turned first name Less (name_total.trans first other name less below))

-- ---- what the order of the names tells

-- the test holds of each name in front of one of which it holds
abbrev pub Closed : (List Rdn → Bool) → Type 0
Closed test = (first other : List Rdn) → name_cmp first other ≡ Less → test other ≡ true → test first ≡ true

-- and of none behind one of which it doesn't
still_not : (test : List Rdn → Bool) → Closed test → (first other : List Rdn) → test first ≡ false
    → name_cmp first other ≡ Less → test other ≡ false
still_not test closed first other not less = by (test other) refl
  where
    by : (b : Bool) → test other ≡ b → test other ≡ false
    by true e = absurd (false≢true (sym not ∙ closed first other less e))
    by false e = e

all_at : (P : List Rdn → Type 0) (entries : List Entry) (i : ℕ) (d : Entry) → i < length entries
    → AllByRecursion P (names (objects_in entries)) → P (arc_value (get_or entries i d)).name
all_at P [] i d h all = absurd (omega arith)
all_at P (e ∷ es) zero d h all = all.0
all_at P (e ∷ es) (suc i) d h all = all_at P es i d (omega arith) all.1

none_from : (test : List Rdn → Bool) → Closed test → (first : List Rdn) (objects : List NamedObject)
    → test first ≡ false → AllByRecursion (λ n. name_cmp first n ≡ Less) (names objects) → NonePass test objects
none_from test closed first [] h all = tt
none_from test closed first (x ∷ xs) h all =
    (still_not test closed first x.name h all.0, none_from test closed first xs h all.1)

pub front_all : (test : List Rdn → Bool) → Closed test → (entries : List Entry) (i : ℕ) (d : Entry)
    → i < length entries → IsByName (objects_in entries) → test (arc_value (get_or entries i d)).name ≡ true
    → AllPass test (take (i + 1) (objects_in entries))
unfolding IsStrictlySortedBy
front_all test closed [] i d h rising holds = absurd (omega arith)
front_all test closed (e ∷ es) zero d h rising holds = (holds, tt)
front_all test closed (e ∷ es) (suc i) d h rising holds =
    let next : suc i + 1 ≡ suc (i + 1) = omega arith in
    rw next (
      closed (arc_value e).name (arc_value (get_or es i d)).name
          (all_at (λ n. name_cmp (arc_value e).name n ≡ Less) es i d (omega arith) rising.0) holds,
      front_all test closed es i d (omega arith) rising.1 holds,
    )

pub behind_all : (test : List Rdn → Bool) → Closed test → (entries : List Entry) (i : ℕ) (d : Entry)
    → i < length entries → IsByName (objects_in entries) → test (arc_value (get_or entries i d)).name ≡ false
    → NonePass test (drop i (objects_in entries))
unfolding IsStrictlySortedBy
behind_all test closed [] i d h rising not = absurd (omega arith)
behind_all test closed (e ∷ es) zero d h rising not =
    (not, none_from test closed (arc_value e).name (objects_in es) not rising.0)
behind_all test closed (e ∷ es) (suc i) d h rising not = behind_all test closed es i d (omega arith) rising.1 not

pub none_past : (test : List Rdn → Bool) (entries : List Entry)
    → NonePass test (drop (length entries) (objects_in entries))
none_past test [] = tt
none_past test (e ∷ es) = none_past test es

-- ---- halves

pub halved : (n m j : ℕ) → 0 < n → m + m ≤ n → n < 2 ^ j → (1 ≤ j) × (m < 2 ^ (j - 1))
halved n m zero some half within = absurd (omega arith)
halved n m (suc j) some half within =
    let back : suc j - 1 ≡ j = omega arith in
    (omega arith, rw back (omega (arith, rw (pow-suc 2 j) at within)))

-- how far the search has come: visits before it and now, and the two ends between which the place lies
pub record IsSearched (test : List Rdn → Bool) (entries : List Entry) (before low high now : ℕ) : Type 0 where
  pub ordered : low ≤ high
  pub within : high ≤ length entries
  pub front : AllPass test (take low (objects_in entries))
  pub behind : NonePass test (drop high (objects_in entries))
  pub rises : before ≤ now
  pub unmoved : now ≤ before → (low ≡ 0) × (high ≡ length entries)
  pub few : (digits : ℕ) → length entries < 2 ^ digits → (now ≤ before + digits)
      × (high - low < 2 ^ (before + digits - now))

pub search_begins : (test : List Rdn → Bool) (entries : List Entry) (before : ℕ)
    → IsSearched test entries before 0 (length entries) before
search_begins test entries before = record {
  ordered = omega arith;
  within = omega arith;
  front = tt;
  behind = none_past test entries;
  rises = omega arith;
  unmoved = λ h. (refl, refl);
  few = λ digits small.
      let left : before + digits - before ≡ digits = omega arith in
      let all : length entries - 0 ≡ length entries = omega arith in
      (omega arith, rw (left, all) small);
}

fewer : (length width half before now digits : ℕ) → 0 < width → half + half ≤ width
    → (now ≤ before + digits) × (width < 2 ^ (before + digits - now))
    → (now + 1 ≤ before + digits) × (half < 2 ^ (before + digits - (now + 1)))
fewer length width half before now digits some halves h =
    let next = halved width half (before + digits - now) some halves h.1 in
    let left : before + digits - (now + 1) ≡ before + digits - now - 1 = omega arith in
    (omega (arith, next.0), rw left next.1)

-- the test holds of the entry in the middle
pub searched_behind : (test : List Rdn → Bool) → Closed test → (entries : List Entry)
    (before low high now middle : ℕ) (d : Entry)
    → IsByName (objects_in entries)
    → IsSearched test entries before low high now → low < high → middle ≡ low + (high - low) / 2
    → test (arc_value (get_or entries middle d)).name ≡ true
    → IsSearched test entries before (middle + 1) high (now + 1)
searched_behind test closed entries before low high now middle d rising so some half holds = record {
  ordered = omega (arith, half);
  within = so.within;
  front = front_all test closed entries middle d (omega (arith, half, so.within)) rising holds;
  behind = so.behind;
  rises = omega (arith, so.rises);
  unmoved = λ h. absurd (omega (arith, so.rises));
  few = λ digits small. fewer (length entries) (high - low) (high - (middle + 1)) before now digits (omega arith)
      (omega (arith, half)) (so.few digits small);
}

-- or it doesn't
pub searched_in_front : (test : List Rdn → Bool) → Closed test → (entries : List Entry)
    (before low high now middle : ℕ) (d : Entry)
    → IsByName (objects_in entries)
    → IsSearched test entries before low high now → low < high → middle ≡ low + (high - low) / 2
    → test (arc_value (get_or entries middle d)).name ≡ false
    → IsSearched test entries before low middle (now + 1)
searched_in_front test closed entries before low high now middle d rising so some half not = record {
  ordered = omega (arith, half);
  within = omega (arith, half, so.within);
  front = so.front;
  behind = behind_all test closed entries middle d (omega (arith, half, so.within)) rising not;
  rises = omega (arith, so.rises);
  unmoved = λ h. absurd (omega (arith, so.rises));
  few = λ digits small. fewer (length entries) (high - low) (middle - low) before now digits (omega arith)
      (omega (arith, half)) (so.few digits small);
}

pub length_objects : (entries : List Entry) → length (objects_in entries) ≡ length entries
length_objects [] = refl
length_objects (e ∷ es) = ap suc (length_objects es)

pub search_ends : (test : List Rdn → Bool) (entries : List Entry) (before low high now : ℕ)
    → IsSearched test entries before low high now → high ≤ low
    → IsCut test (objects_in entries) low
search_ends test entries before low high now so past =
    let met : high ≡ low = omega (arith, so.ordered) in
    record {
      within = omega (arith, so.within, length_objects entries);
      front = so.front;
      behind = rw (← met) so.behind;
    }
