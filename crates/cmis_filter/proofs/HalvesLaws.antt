-- Looking for an attribute by halves.
use Rattle.std.proofs.Common.{◌≡◌, ◌+◌, ◌-◌, ◌<◌, ◌≤◌, ℕ, zero, suc, Bool, true, false, List, [], ◌∷◌, Option, None}
use Rattle.std.proofs.Common.{Some, drop, get_or, length, take, refl, sym, ap, ◌∙◌, arith, subst, length-drop}
use Rattle.std.specs.Cmp.Lexicographic.{nat_list_cmp_total, slice_cmp, texts_ties}
use Rattle.std.specs.List.{AllByRecursion}
use Rattle.std.specs.List.Sorted.{IsStrictlySortedBy}
use Rattle.std.specs.Ordering.{is_eq, is_lt, nat_cmp, ordering_reverse}
use Rattle.std.specs.declared.cmp.Ordering.{Ordering}
use Rattle.std.specs.declared.cmp.Ordering.TheVariants.{Less, Equal, Greater}
use Rattle.std.proofs.lemmas.Bool.{and_from, and_parts, false≢true}
use Rattle.std.proofs.lemmas.Cmp.{alike_right}
use Rattle.std.proofs.lemmas.List.{length-take, take_rest}
use Rattle.term_values.specs.Typed.{TypedValue}
use Rattle.term_model.specs.declared.object.Attribute.{Attribute}
use Rattle.term_model.specs.Comparing.{is_same_oid}
use Rattle.term_model.specs.FilterTruth.{value_in}
use Rattle.term_model.specs.ObjectAttributes.{identifiers}
use Rattle.cmis_filter.specs.Rising.{AreRising, do_rise}

abbrev pub order : List ℕ → List ℕ → Ordering
order = slice_cmp nat_cmp

-- each identifier of these stands behind one
abbrev AllBehind : List ℕ → List Attribute → Type 0
AllBehind id attributes = AllByRecursion (λ (other : List ℕ). order id other ≡ Less) (identifiers attributes)

same_by : (a b : List ℕ) (o : Ordering) → order a b ≡ o → is_same_oid a b ≡ is_eq o
same_by a b o e = texts_ties a b ∙ ap is_eq e

turned : (a b : List ℕ) (o : Ordering) → order a b ≡ o → order b a ≡ ordering_reverse o
turned a b o e = nat_list_cmp_total.antisymm b a ∙ ap ordering_reverse e

value_here : (x : Attribute) (xs : List Attribute) (id : List ℕ) → is_same_oid x.id id ≡ true
    → value_in (x ∷ xs) id ≡ Some x.value
value_here x xs id e = rw e refl

value_later : (x : Attribute) (xs : List Attribute) (id : List ℕ) → is_same_oid x.id id ≡ false
    → value_in (x ∷ xs) id ≡ value_in xs id
value_later x xs id e = rw e refl

all_further : (id other : List ℕ) (attributes : List Attribute) → order id other ≡ Less → AllBehind other attributes
    → AllBehind id attributes
all_further id other [] low h = tt
all_further id other (x ∷ xs) low h =
    (nat_list_cmp_total.trans id other x.id low h.0, all_further id other xs low h.1)

less_is : (o : Ordering) → is_lt o ≡ true → o ≡ Less
less_is Less e = refl
less_is Equal e = absurd (false≢true e)
less_is Greater e = absurd (false≢true e)

pub rising_is : (attributes : List Attribute) → do_rise attributes ≡ true → AreRising attributes
unfolding IsStrictlySortedBy
rising_is [] e = tt
rising_is (x ∷ []) e = (tt, tt)
rising_is (x ∷ (y ∷ ys)) e =
    let parts = and_parts _ _ e in
    let low = less_is (order x.id y.id) parts.0 in
    let others = rising_is (y ∷ ys) parts.1 in
    ((low, all_further x.id y.id ys low others.0), others)

pub is_rising : (attributes : List Attribute) → AreRising attributes → do_rise attributes ≡ true
unfolding IsStrictlySortedBy
is_rising [] h = refl
is_rising (x ∷ []) h = refl
is_rising (x ∷ (y ∷ ys)) h = and_from _ _ (ap is_lt h.0.0) (is_rising (y ∷ ys) h.1)

pub rising_drop : (n : ℕ) (attributes : List Attribute) → AreRising attributes → AreRising (drop n attributes)
unfolding IsStrictlySortedBy
rising_drop zero xs h = h
rising_drop (suc n) [] h = h
rising_drop (suc n) (x ∷ xs) h = rising_drop n xs h.1

all_take : (id : List ℕ) (n : ℕ) (attributes : List Attribute) → AllBehind id attributes
    → AllBehind id (take n attributes)
all_take id zero xs h = tt
all_take id (suc n) [] h = tt
all_take id (suc n) (x ∷ xs) h = (h.0, all_take id n xs h.1)

pub rising_take : (n : ℕ) (attributes : List Attribute) → AreRising attributes → AreRising (take n attributes)
unfolding IsStrictlySortedBy
rising_take zero xs h = tt
rising_take (suc n) [] h = tt
rising_take (suc n) (x ∷ xs) h = (all_take x.id n xs h.0, rising_take n xs h.1)

-- the one at a place stands behind the first, where all others do
behind_at : (id : List ℕ) (attributes : List Attribute) (n : ℕ) (d : Attribute) → AllBehind id attributes
    → n < length attributes
    → order id (get_or attributes n d).id ≡ Less
behind_at id [] n d h within = absurd (omega arith)
behind_at id (x ∷ xs) zero d h within = h.0
behind_at id (x ∷ xs) (suc n) d h within = behind_at id xs n d h.1 (omega arith)

none_behind : (id : List ℕ) (attributes : List Attribute) → AllBehind id attributes → value_in attributes id ≡ None
none_behind id [] h = refl
none_behind id (x ∷ xs) h =
    value_later x xs id (same_by x.id id Greater (turned id x.id Less h.0)) ∙ none_behind id xs h.1

-- what is sought stands behind the place, at it, or in front of it
pub behind_place : (attributes : List Attribute) (id : List ℕ) (n : ℕ) (d : Attribute) → AreRising attributes
    → n < length attributes → order (get_or attributes n d).id id ≡ Less
    → value_in attributes id ≡ value_in (drop (n + 1) attributes) id
unfolding IsStrictlySortedBy
behind_place [] id n d h within low = absurd (omega arith)
behind_place (x ∷ xs) id zero d h within low = value_later x xs id (same_by x.id id Less low)
behind_place (x ∷ xs) id (suc n) d h within low =
    let first = nat_list_cmp_total.trans x.id (get_or xs n d).id id (behind_at x.id xs n d h.0 (omega arith)) low in
    let next : suc n + 1 ≡ suc (n + 1) = omega arith in
    rw next (value_later x xs id (same_by x.id id Less first) ∙ behind_place xs id n d h.1 (omega arith) low)

pub at_place : (attributes : List Attribute) (id : List ℕ) (n : ℕ) (d : Attribute) → AreRising attributes
    → n < length attributes → order (get_or attributes n d).id id ≡ Equal
    → value_in attributes id ≡ Some (get_or attributes n d).value
unfolding IsStrictlySortedBy
at_place [] id n d h within same = absurd (omega arith)
at_place (x ∷ xs) id zero d h within same = value_here x xs id (same_by x.id id Equal same)
at_place (x ∷ xs) id (suc n) d h within same =
    let low = behind_at x.id xs n d h.0 (omega arith) in
    let first = sym (alike_right nat_list_cmp_total (get_or xs n d).id id x.id same) ∙ low in
    value_later x xs id (same_by x.id id Less first) ∙ at_place xs id n d h.1 (omega arith) same

pub before_place : (attributes : List Attribute) (id : List ℕ) (n : ℕ) (d : Attribute) → AreRising attributes
    → n < length attributes → order (get_or attributes n d).id id ≡ Greater
    → value_in attributes id ≡ value_in (take n attributes) id
unfolding IsStrictlySortedBy
before_place [] id n d h within high = absurd (omega arith)
before_place (x ∷ xs) id zero d h within high =
    let low = turned x.id id Greater high in
    none_behind id (x ∷ xs) (low, all_further id x.id xs low h.0)
before_place (x ∷ xs) id (suc n) d h within high =
    by (before_place xs id n d h.1 (omega arith) high) (is_same_oid x.id id) refl
  where
    by : value_in xs id ≡ value_in (take n xs) id → (b : Bool) → is_same_oid x.id id ≡ b
        → value_in (x ∷ xs) id ≡ value_in (x ∷ take n xs) id
    by again true e = value_here x xs id e ∙ sym (value_here x (take n xs) id e)
    by again false e = value_later x xs id e ∙ (again ∙ sym (value_later x (take n xs) id e))

get_or_same : (xs : List Attribute) (n : ℕ) (d e : Attribute) → n < length xs → get_or xs n d ≡ get_or xs n e
get_or_same [] n d e h = absurd (omega arith)
get_or_same (x ∷ xs) zero d e h = refl
get_or_same (x ∷ xs) (suc n) d e h = get_or_same xs n d e (omega arith)

-- one or none rise
pub short_rises : (attributes : List Attribute) → length attributes ≤ 1 → do_rise attributes ≡ true
short_rises [] h = refl
short_rises (x ∷ []) h = refl
short_rises (x ∷ (y ∷ ys)) h = absurd (omega arith)

-- what is left of the list, where what is sought stands behind a place or in front of it
abbrev pub IsLeft : List Attribute → List ℕ → Option TypedValue → ℕ → Type 0
IsLeft rest id all most = (value_in rest id ≡ all) × AreRising rest × (length rest ≤ most)

pub left_behind : (rest : List Attribute) (id : List ℕ) (n : ℕ) (x : Attribute) (all : Option TypedValue) (most : ℕ)
    → IsLeft rest id all most → n < length rest → x ≡ get_or rest n x → order x.id id ≡ Less
    → IsLeft (take (length rest - (n + 1)) (drop (n + 1) rest)) id all most
left_behind rest id n x all most h within is low =
    let first = ap (λ (y : Attribute). order y.id id) (sym is) ∙ low in
    subst (λ (ys : List Attribute). IsLeft ys id all most) (sym (take_rest rest (n + 1))) (
      sym (behind_place rest id n x h.1 within first) ∙ h.0,
      rising_drop (n + 1) rest h.1,
      omega (arith, length-drop (n + 1) rest, h.2),
    )

pub left_before : (rest : List Attribute) (id : List ℕ) (n : ℕ) (x : Attribute) (all : Option TypedValue) (most : ℕ)
    → IsLeft rest id all most → n < length rest → x ≡ get_or rest n x → order x.id id ≡ Greater
    → IsLeft (take n rest) id all most
left_before rest id n x all most h within is high =
    let first = ap (λ (y : Attribute). order y.id id) (sym is) ∙ high in (
      sym (before_place rest id n x h.1 within first) ∙ h.0,
      rising_take n rest h.1,
      omega (arith, length-take n rest, h.2),
    )

pub found_at : (rest : List Attribute) (id : List ℕ) (n : ℕ) (x d : Attribute) (all : Option TypedValue) (most : ℕ)
    → IsLeft rest id all most → n < length rest → x ≡ get_or rest n x → order x.id id ≡ Equal
    → Some (get_or rest n d).value ≡ all
found_at rest id n x d all most h within is same =
    let first = ap (λ (y : Attribute). order y.id id) (sym (is ∙ get_or_same rest n x d within)) ∙ same in
    sym (at_place rest id n d h.1 within first) ∙ h.0
