-- ListLaws: lists by numbers: each number has one list, and each list one number.
use Rattle.std.proofs.Common.{◌≡◌, ◌≤◌, ◌++◌, ◌∷◌, [], ◌∙◌, ℕ, suc, zero, List, Bool, true, false, Option, None, Some, arith, ap, cond, length, refl, sym, true≢false}
use Rattle.std.proofs.Math.Path.{subst}
use Rattle.std.proofs.lemmas.Map.Lookups.{exact_unsigned}
use Rattle.std.proofs.lemmas.Cmp.{nat_cmp_total, tied_itself}
use Rattle.std.proofs.lemmas.Option.{none-some, same_Some, slice_get_within}
use Rattle.std.specs.BTreeMap.{BTreeMap, get, is_at}
use Rattle.std.specs.List.{slice_get}
use Rattle.std.specs.Ordering.{is_eq, ordering_then}
use Rattle.std.specs.declared.cmp.Ordering.{Ordering}
use Rattle.std.specs.declared.cmp.Ordering.TheVariants.{Less, Equal, Greater}
use Rattle.key_numbers.specs.ListPlaces.{ArePlaces, IsMadeOf, three_cmp}
use Rattle.key_numbers.specs.NumberedLists.{AreOnce, Grows, IsList, Row}
use Rattle.key_numbers.specs.NumberedLists.IsList.{empty, longer}

-- ---- what stands in a list that grows

pub get_before : {A : Type 0} (xs : List A) (x : A) (k : ℕ) (y : A) → slice_get xs k ≡ Some y →
    slice_get (xs ++ x ∷ []) k ≡ Some y
get_before [] x k y h = absurd (none-some y h)
get_before (z ∷ xs) x zero y h = h
get_before (z ∷ xs) x (suc k) y h = get_before xs x k y h

pub get_last : {A : Type 0} (xs : List A) (x : A) → slice_get (xs ++ x ∷ []) (length xs) ≡ Some x
get_last [] x = refl
get_last (z ∷ xs) x = get_last xs x

-- an element of the longer list is one of the shorter, or the last one
data OneOf {A : Type 0} (xs : List A) (x : A) (k : ℕ) (y : A) : Type 0 where
  stood : slice_get xs k ≡ Some y → OneOf xs x k y
  added : k ≡ length xs → x ≡ y → OneOf xs x k y

one_of : {A : Type 0} (xs : List A) (x : A) (k : ℕ) (y : A) → slice_get (xs ++ x ∷ []) k ≡ Some y → OneOf xs x k y
one_of [] x zero y h = added refl (same_Some x y h)
one_of [] x (suc k) y h = absurd (none-some y h)
one_of (z ∷ xs) x zero y h = stood h
one_of (z ∷ xs) x (suc k) y h = elim (one_of xs x k y h) as (λ _. OneOf (z ∷ xs) x (suc k) y) [
  | stood there ↦ stood there
  | added is same ↦ added (ap suc is) same
]

length_pushed : {A : Type 0} (xs : List A) (x : A) → length (xs ++ x ∷ []) ≡ suc (length xs)
length_pushed [] x = refl
length_pushed (y ∷ xs) x = ap suc (length_pushed xs x)

-- ---- the table of places

at_itself : (x : ℕ × ℕ × ℕ) → is_at (three_cmp x) x ≡ true
at_itself x = rw (tied_itself nat_cmp_total x.0, tied_itself nat_cmp_total x.1, tied_itself nat_cmp_total x.2) refl

is_equal : (o : Ordering) → is_eq o ≡ true → o ≡ Equal
is_equal Less h = absurd (true≢false (sym h))
is_equal Equal h = refl
is_equal Greater h = absurd (true≢false (sym h))

equal_then : (o p : Ordering) → ordering_then o p ≡ Equal → (o ≡ Equal) × (p ≡ Equal)
equal_then Less p h = absurd (cc)
equal_then Equal p h = (refl, h)
equal_then Greater p h = absurd (cc)

at_same : (x y : ℕ × ℕ × ℕ) → is_at (three_cmp x) y ≡ true → x ≡ y
at_same x y h = let ties = equal_then _ _ (is_equal (three_cmp x y) h) in
    let others = equal_then _ _ ties.0 in
    λ i. (exact_unsigned x.0 y.0 others.0 i, exact_unsigned x.1 y.1 others.1 i, exact_unsigned x.2 y.2 ties.1 i)

same_suc : (j k : ℕ) → Some (suc j) ≡ Some (suc k) → j ≡ k
same_suc j k h = let same = same_Some (suc j) (suc k) h in omega (arith, same)

pub are_once : (row : Row) (places : BTreeMap (ℕ × ℕ × ℕ) ℕ) → ArePlaces row places → AreOnce row
are_once row places p = λ j k x h l. same_suc j k (sym (p.kept j x h) ∙ p.kept k x l)

-- a test that picks the new number, or leaves the old one
picked : (b : Bool) (n m : ℕ) (old : Option ℕ) (P : Type 0) → cond b (Some n) old ≡ Some m →
    (b ≡ true → n ≡ m → P) → (old ≡ Some m → P) → P
picked true n m old P h one other = one refl (same_Some n m h)
picked false n m old P h one other = other h

kept_old : (b : Bool) (n m : ℕ) (old : Option ℕ) → (b ≡ true → ⊥) → old ≡ Some m → cond b (Some n) old ≡ Some m
kept_old true n m old h is = absurd (h refl)
kept_old false n m old h is = is

pub place_added : (row : Row) (before after : BTreeMap (ℕ × ℕ × ℕ) ℕ) (x : ℕ × ℕ × ℕ) (n : ℕ) →
    ArePlaces row before → IsMadeOf (length row) x → get three_cmp before x ≡ None → n ≡ suc (length row) →
    ((q : ℕ × ℕ × ℕ) → get three_cmp after q ≡ cond (is_at (three_cmp x) q) (Some n) (get three_cmp before q)) →
    ArePlaces (row ++ x ∷ []) after
place_added row before after x n p made none is updates = record {
  told = λ y m h.
      picked (is_at (three_cmp x) y) n m (get three_cmp before y)
      ((k : ℕ) × (m ≡ suc k) × (slice_get (row ++ x ∷ []) k ≡ Some y)) (sym (updates y) ∙ h)
      (λ same number. (length row, sym number ∙ is, get_last row x ∙ ap Some (at_same x y same)))
      (λ there. let found = p.told y m there in (found.0, found.1, get_before row x found.0 y found.2));
  kept = λ k y h.
      elim (one_of row x k y h) as (λ _. get three_cmp after y ≡ Some (suc k)) [
        | stood there ↦ updates y ∙ kept_old (is_at (three_cmp x) y) n (suc k) (get three_cmp before y)
            (λ same. none-some (suc k) (sym none ∙ (ap (get three_cmp before) (at_same x y same) ∙ p.kept k y there)))
            (p.kept k y there)
        | added at same ↦ updates y ∙ (subst (λ z. cond (is_at (three_cmp x) z) (Some n) (get three_cmp before z) ≡
            Some (suc k)) same (rw (at_itself x) (ap Some (is ∙ ap suc (sym at)))))
      ];
  rising = λ k y h.
      elim (one_of row x k y h) as (λ _. IsMadeOf k y) [
        | stood there ↦ p.rising k y there
        | added at same ↦ subst (λ z. IsMadeOf k z) same (subst (λ z. IsMadeOf z x) (sym at) made)
      ];
}

pub place_pushed : (row pushed : Row) (before after : BTreeMap (ℕ × ℕ × ℕ) ℕ) (x : ℕ × ℕ × ℕ) (n : ℕ) →
    ArePlaces row before → IsMadeOf (length row) x → get three_cmp before x ≡ None → pushed ≡ row ++ x ∷ [] →
    n ≡ length pushed →
    ((q : ℕ × ℕ × ℕ) → get three_cmp after q ≡ cond (is_at (three_cmp x) q) (Some n) (get three_cmp before q)) →
    ArePlaces pushed after
place_pushed row pushed before after x n p made none items is updates = subst (λ r. ArePlaces r after) (sym items)
    (place_added row before after x n p made none (is ∙ ap length items ∙ length_pushed row x) updates)

pub grows_pushed : (row now pushed : Row) (x : ℕ × ℕ × ℕ) → row ≡ now → pushed ≡ row ++ x ∷ [] → Grows now pushed
grows_pushed row now pushed x same items = λ k y h. subst (λ z. slice_get z k ≡ Some y) (sym items)
    (get_before row x k y (subst (λ z. slice_get z k ≡ Some y) (sym same) h))

pub is_pushed : (row pushed : Row) (x : ℕ × ℕ × ℕ) (n : ℕ) → pushed ≡ row ++ x ∷ [] → n ≡ length pushed →
    (k : ℕ) × (n ≡ suc k) × (slice_get pushed k ≡ Some x)
is_pushed row pushed x n items is = (
  length row,
  is ∙ ap length items ∙ length_pushed row x,
  subst (λ z. slice_get z (length row) ≡ Some x) (sym items) (get_last row x),
)

pub told_in : (row now : Row) (places : BTreeMap (ℕ × ℕ × ℕ) ℕ) (x : ℕ × ℕ × ℕ) (n : ℕ) → ArePlaces row places →
    row ≡ now → Some n ≡ get three_cmp places x → (k : ℕ) × (n ≡ suc k) × (slice_get now k ≡ Some x)
told_in row now places x n p same h = let found = p.told x n (sym h) in
    (found.0, found.1, subst (λ z. slice_get z found.0 ≡ Some x) same found.2)

-- ---- lists by their numbers

pub list_grows : {before after : Row} {n : ℕ} {xs : List ℕ} → Grows before after → IsList before n xs →
    IsList after n xs
list_grows g empty = empty
list_grows g (longer {k = k} {before = b} {last = last} is h) = longer (g k (0, b, last) is) (list_grows g h)

abbrev head_of : List ℕ → ℕ
head_of [] = 0
head_of (x ∷ xs) = x

abbrev rest_of : List ℕ → List ℕ
rest_of [] = []
rest_of (x ∷ xs) = xs

nil_cons : (x : ℕ) (xs : List ℕ) → [] ≡ x ∷ xs → ⊥
nil_cons x xs h = absurd (cc)

no_end : (xs : List ℕ) (x : ℕ) → [] ≡ xs ++ x ∷ [] → ⊥
no_end [] x h = nil_cons _ _ h
no_end (y ∷ xs) x h = nil_cons _ _ h

last_apart : (xs ys : List ℕ) (x y : ℕ) → xs ++ x ∷ [] ≡ ys ++ y ∷ [] → (xs ≡ ys) × (x ≡ y)
last_apart [] [] x y h = (refl, ap head_of h)
last_apart [] (b ∷ ys) x y h = absurd (no_end ys y (ap rest_of h))
last_apart (a ∷ xs) [] x y h = absurd (no_end xs x (sym (ap rest_of h)))
last_apart (a ∷ xs) (b ∷ ys) x y h =
    let behind = last_apart xs ys x y (ap rest_of h) in
    let front : a ≡ b = ap head_of h in ((λ i. front i ∷ behind.0 i), behind.1)

-- a list has one number
pub one_number : {row : Row} {n m : ℕ} {xs ys : List ℕ} → AreOnce row → IsList row n xs →
    IsList row m ys → xs ≡ ys → n ≡ m
one_number once empty empty e = refl
one_number once empty (longer {last = last} {xs = ys} is h) e = absurd (no_end ys last e)
one_number once (longer {last = last} {xs = xs} is h) empty e = absurd (no_end xs last (sym e))
one_number {row = row} once (longer {k = k} {before = b} {last = x} {xs = xs} is h)
    (longer {k = j} {before = c} {last = y} {xs = ys} its g) e =
    let apart = last_apart xs ys x y e in
    let same = one_number once h g apart.0 in
    ap suc (once k j (0, b, x) is (subst (λ p. slice_get row j ≡ Some p) (λ i. (0, sym same i, sym apart.1 i)) its))

abbrev three_of : Option (ℕ × ℕ × ℕ) → ℕ × ℕ × ℕ
three_of None = (0, 0, 0)
three_of (Some x) = x

some_three : (b c x y : ℕ) → ◌≡◌ {A = Option (ℕ × ℕ × ℕ)} (Some (0, b, x)) (Some (0, c, y)) → (b ≡ c) × (x ≡ y)
some_three b c x y h = (ap (λ z. (three_of z).1) h, ap (λ z. (three_of z).2) h)

-- a number has one list
pub one_list : {row : Row} {n : ℕ} {xs ys : List ℕ} → IsList row n xs → IsList row n ys → xs ≡ ys
one_list empty empty = refl
one_list {row = row} (longer {before = b} {last = x} {xs = xs} is h) (longer {before = c} {last = y} {xs = ys} its g) =
    let same = some_three b c x y (sym is ∙ its) in
    λ i. one_list h (subst (λ z. IsList row z ys) (sym same.0) g) i ++ same.1 i ∷ []

-- what has a number stands within the row
pub list_within : (row : Row) (n : ℕ) (xs : List ℕ) → IsList row n xs → n ≤ length row
list_within row n xs empty = omega arith
list_within row n xs (longer {k = k} {before = b} {last = last} is h) =
    let below = slice_get_within row k (0, b, last) is in omega (arith, below)

-- a list with one number more
pub list_extended : (before after : Row) (list known last n : ℕ) → Grows before after →
    (list ≤ length before → known ≡ list) → (k : ℕ) × (n ≡ suc k) × (slice_get after k ≡ Some (0, known, last)) →
    (xs : List ℕ) → IsList before list xs → IsList after n (xs ++ last ∷ [])
list_extended before after list known last n grows same found xs is =
    let known_is = same (list_within before list xs is) in
    subst (λ z. IsList after z (xs ++ last ∷ [])) (sym found.1)
    (longer (subst (λ z. slice_get after found.0 ≡ Some (0, z, last)) known_is found.2) (list_grows grows is))

-- what is told of a number that is none
pub no_number : (row : Row) (n : ℕ) → n ≡ 0 → (k : ℕ) → n ≡ suc k → slice_get row k ≡ None
no_number row n zero_is k is = absurd (omega (arith, zero_is, is))

pub past_number : (row now : Row) (n less : ℕ) → row ≡ now → n ≡ suc less → slice_get row less ≡ None →
    (k : ℕ) → n ≡ suc k → slice_get now k ≡ None
past_number row now n less same is none k also =
    subst (λ r. slice_get r k ≡ None) same (ap (slice_get row) (omega (arith, is, also)) ∙ none)

pub number_formed : (row now : Row) (places : BTreeMap (ℕ × ℕ × ℕ) ℕ) (n less : ℕ) (x : ℕ × ℕ × ℕ) →
    ArePlaces row places → row ≡ now → n ≡ suc less → slice_get row less ≡ Some x →
    (k : ℕ) × (n ≡ suc k) × (slice_get now k ≡ Some x) × IsMadeOf k x
number_formed row now places n less x p same is there = (
  less,
  is,
  subst (λ r. slice_get r less ≡ Some x) same there,
  p.rising less x there,
)

-- a list is empty, or has a last number
pub list_parted : (row : Row) (k before last form : ℕ) → slice_get row k ≡ Some (form, before, last) →
    (xs : List ℕ) → IsList row (suc k) xs → (ys : List ℕ) × IsList row before ys × (xs ≡ ys ++ last ∷ [])
list_parted row k before last form there xs (longer {before = b} {last = y} {xs = ys} is h) =
    let same = ap three_of (sym is ∙ there) in
    let firsts : b ≡ before = ap (λ (z : ℕ × ℕ × ℕ). z.1) same in
    let lasts : y ≡ last = ap (λ (z : ℕ × ℕ × ℕ). z.2) same in
    (ys, subst (λ z. IsList row z ys) firsts h, ap (λ z. ys ++ z ∷ []) lasts)

-- a list without a last number is empty
pub list_empty : (row : Row) (n : ℕ) → ((k : ℕ) → n ≡ suc k → slice_get row k ≡ None) → (xs : List ℕ) →
    IsList row n xs → xs ≡ []
list_empty row n none xs empty = refl
list_empty row n none xs (longer {k = k} {before = b} {last = y} {xs = ys} is h) =
    absurd (none-some (0, b, y) (sym (none k refl) ∙ is))
