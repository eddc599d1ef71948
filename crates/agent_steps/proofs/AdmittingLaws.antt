-- What the table of associations knows of those that are not closed, and of those that are live, as associations
-- change.
use Rattle.std.proofs.Common.{◌≡◌, ℕ, zero, suc, ◌+◌, ◌-◌, ◌<◌, ◌≤◌, Bool, true, false, List, [], ◌∷◌, ◌++◌, length}
use Rattle.std.proofs.Common.{Option, Some, None, refl, sym, ap, ◌∙◌, ⊎_elim, arith, subst}
use Rattle.std.specs.Prelude.{◌==◌, ◌&&◌, ◌||◌, not, count_by, is_some, slice_get, slice_set, if◌then◌else◌}
use Rattle.std.specs.List.{filter, list_any}
use Rattle.std.specs.Option.{option_map_or}
use Rattle.std.proofs.Math.Bool.{and-false, and-true, or-false, or-true}
use Rattle.std.proofs.lemmas.Bool.{and_parts, cases_Bool, eqb-true, eqb-false, false≢true, ne_eqb}
use Rattle.std.proofs.lemmas.List.Folds.{list_any-append}
use Rattle.std.proofs.lemmas.List.Sums.{sum_by-append, sum_by-cons}
use Rattle.std.proofs.lemmas.Map.Views.{any-filter_same}
use Rattle.std.proofs.lemmas.Option.{none-some, same_Some, slice_get_past}
use Rattle.agent_model.specs.declared.agent_state.Association.{Association}
use Rattle.agent_model.specs.declared.agent_state.AssociationState.{AssociationState}
use Rattle.agent_model.specs.declared.agent_state.AssociationState.TheVariants as standing
use Rattle.agent_model.specs.declared.agent_state.AssociationState.TheVariants.{Finished, Overrun}
use Rattle.agent_model.specs.AgentState.{is_closed_state, is_live_state, numbered}
use Rattle.agent_model.specs.Step.{changed_association, with_state}
use Rattle.term_model.specs.Comparing.{is_same_oid}
use Rattle.agent_model.proofs.StandingLaws.{StandsAt, changed_association_at, numbered_last, numbered_set, stands_from_some}
use Rattle.agent_model.specs.Binding.{count_open, has_title, is_open}
use Rattle.agent_model.specs.JournalRoom.{reserved_by_association, reserved_by_associations}
use Rattle.agent_steps.specs.Admitting.{AreCounted, count_live, is_admitted, is_live}

-- how many pass a test, where one is put in the place of another
abbrev pub weight : Bool → ℕ
weight b = if b then 1 else 0

module _ (test : Association → Bool) where
  count_cons : (x : Association) (xs : List Association) → count_by test (x ∷ xs) ≡ weight (test x) + count_by test xs
  count_cons x xs = sum_by-cons (λ a. weight (test a)) x xs

  count_set : (xs : List Association) (i : ℕ) (a b : Association) → slice_get xs i ≡ Some a
      → count_by test (slice_set xs i b) + weight (test a) ≡ count_by test xs + weight (test b)
  count_set [] i a b h = absurd (none-some a h)
  count_set (x ∷ xs) zero a b h =
      let same = ap (λ y. weight (test y)) (same_Some x a h) in
      let one = count_cons b xs in
      let other = count_cons x xs in
      omega arith
  count_set (x ∷ xs) (suc i) a b h =
      let rest = count_set xs i a b h in
      let one = count_cons x (slice_set xs i b) in
      let other = count_cons x xs in
      omega arith

  count_push : (xs : List Association) (a : Association) → count_by test (xs ++ a ∷ []) ≡ count_by test xs + weight (test a)
  count_push xs a =
      let all = sum_by-append (λ b. weight (test b)) xs (a ∷ []) in
      let last = count_cons a [] in
      omega arith

-- what stands under the other numbers stays
get_set_other : (xs : List Association) (i j : ℕ) (b : Association) → (j ≡ i → ⊥)
    → slice_get (slice_set xs i b) j ≡ slice_get xs j
get_set_other [] i j b h = refl
get_set_other (x ∷ xs) zero zero b h = absurd (h refl)
get_set_other (x ∷ xs) zero (suc j) b h = refl
get_set_other (x ∷ xs) (suc i) zero b h = refl
get_set_other (x ∷ xs) (suc i) (suc j) b h = get_set_other xs i j b (λ e. h (ap suc e))

numbered_next : (xs : List Association) (m : ℕ) → numbered xs (suc m) ≡ slice_get xs m
numbered_next xs m = let d : suc m - 1 ≡ m = omega arith in rw (ne_eqb (suc m) 0 (λ e. omega arith), d) refl

numbered_other : (xs : List Association) (number n : ℕ) (b : Association) → 1 ≤ number → (n ≡ number → ⊥)
    → numbered (slice_set xs (number - 1) b) n ≡ numbered xs n
numbered_other xs number zero b h other = refl
numbered_other xs number (suc m) b h other =
    numbered_next (slice_set xs (number - 1) b) m
    ∙ (get_set_other xs (number - 1) m b (λ e. other (omega arith)) ∙ sym (numbered_next xs m))

abbrev is_admitted_at : List Association → ℕ → Bool
is_admitted_at xs n = option_map_or is_admitted (numbered xs n) false

-- one is put in the place of another that is as open and as admitted
admitted_alike : (xs : List Association) (number : ℕ) (a b : Association) (n : ℕ) → StandsAt xs number a
    → is_admitted b ≡ is_admitted a → is_admitted_at (slice_set xs (number - 1) b) n ≡ is_admitted_at xs n
admitted_alike xs number a b n s same =
    ⊎_elim
    (λ (e : (n == number) ≡ true).
    let here : n ≡ number = eqb-true n number e in
    ap (λ m. is_admitted_at (slice_set xs (number - 1) b) m) here
    ∙ (ap (λ o. option_map_or is_admitted o false) (numbered_set xs number b s.positive s.within)
    ∙ (same ∙ (ap (λ o. option_map_or is_admitted o false) (sym s.is)
    ∙ ap (λ m. is_admitted_at xs m) (sym here)))))
    (λ (e : (n == number) ≡ false).
    ap (λ o. option_map_or is_admitted o false) (numbered_other xs number n b s.positive (eqb-false n number e)))
    (cases_Bool (n == number))

-- so many are live, where another association stands in the place of one
living_then : (xs : List Association) (live : ℕ) (i : ℕ) (a b : Association) → slice_get xs i ≡ Some a
    → live ≡ count_live xs → (live + weight (is_live b)) - weight (is_live a) ≡ count_live (slice_set xs i b)
living_then xs live i a b there is = let changed = count_set is_live xs i a b there in omega arith

pub counted_kept : (xs : List Association) (count live : ℕ) (admitted : List ℕ) (number : ℕ) (a b : Association)
    → StandsAt xs number a → is_open b ≡ is_open a → is_admitted b ≡ is_admitted a → AreCounted xs count live admitted
    → AreCounted (slice_set xs (number - 1) b) count ((live + weight (is_live b)) - weight (is_live a)) admitted
counted_kept xs count live admitted number a b s open_alike same r =
    let changed = count_set is_open xs (number - 1) a b s.there in
    let alike = ap weight open_alike in
    let before = r.counted in
    record {
      counted = omega arith;
      living = living_then xs live (number - 1) a b s.there r.living;
      told = λ n. r.told n ∙ sym (admitted_alike xs number a b n s same);
    }

-- one is closed
closed_at : (xs : List Association) (admitted : List ℕ) (number : ℕ) (a b : Association) (n : ℕ) → StandsAt xs number a
    → is_admitted b ≡ false → list_any (λ k. k == n) admitted ≡ is_admitted_at xs n
    → (not (n == number) && list_any (λ k. k == n) admitted) ≡ is_admitted_at (slice_set xs (number - 1) b) n
closed_at xs admitted number a b n s none told =
    ⊎_elim
    (λ (e : (n == number) ≡ true).
    let here : n ≡ number = eqb-true n number e in
    rw e (sym (ap (λ m. is_admitted_at (slice_set xs (number - 1) b) m) here
    ∙ (ap (λ o. option_map_or is_admitted o false) (numbered_set xs number b s.positive s.within) ∙ none))))
    (λ (e : (n == number) ≡ false).
    rw e (told ∙ sym (ap (λ o. option_map_or is_admitted o false)
    (numbered_other xs number n b s.positive (eqb-false n number e)))))
    (cases_Bool (n == number))

pub counted_closed : (xs : List Association) (count live : ℕ) (admitted : List ℕ) (number : ℕ) (a b : Association)
    → StandsAt xs number a → is_open a ≡ true → is_open b ≡ false → AreCounted xs count live admitted
    → AreCounted (slice_set xs (number - 1) b) (count - 1) ((live + weight (is_live b)) - weight (is_live a))
    (filter (λ n. not (n == number)) admitted)
counted_closed xs count live admitted number a b s was is r =
    let changed = count_set is_open xs (number - 1) a b s.there in
    let one = ap weight was in
    let other = ap weight is in
    let before = r.counted in
    record {
      counted = omega arith;
      living = living_then xs live (number - 1) a b s.there r.living;
      told = λ n.
          any-filter_same (λ k. k == n) (λ k. not (k == number)) (not (n == number))
          (λ k e. ap (λ m. not (m == number)) (eqb-true k n e)) admitted
          ∙ closed_at xs admitted number a b n s (ap (λ t. t && is_some b.title) is) (r.told n);
    }

pub one_open : (xs : List Association) (count live : ℕ) (admitted : List ℕ) (number : ℕ) (a : Association)
    → StandsAt xs number a → is_open a ≡ true → AreCounted xs count live admitted → 1 ≤ count
one_open xs count live admitted number a s was r =
    let gone = count_set is_open xs (number - 1) a (record a { state = Overrun }) s.there in
    let one = ap weight was in
    let before = r.counted in
    omega arith

one_live : (xs : List Association) (count live : ℕ) (admitted : List ℕ) (number : ℕ) (a : Association)
    → StandsAt xs number a → AreCounted xs count live admitted → weight (is_live a) ≤ live
one_live xs count live admitted number a s r =
    let gone = count_set is_live xs (number - 1) a (record a { state = Overrun }) s.there in
    let before = r.living in
    omega arith

-- one that is not closed is added
get_before : (xs : List Association) (a : Association) (j : ℕ) → (j ≡ length xs → ⊥)
    → slice_get (xs ++ a ∷ []) j ≡ slice_get xs j
get_before [] a zero h = absurd (h refl)
get_before [] a (suc j) h = refl
get_before (x ∷ xs) a zero h = refl
get_before (x ∷ xs) a (suc j) h = get_before xs a j (λ e. h (ap suc e))

numbered_before : (xs : List Association) (a : Association) (n : ℕ) → (n ≡ length xs + 1 → ⊥)
    → numbered (xs ++ a ∷ []) n ≡ numbered xs n
numbered_before xs a zero h = refl
numbered_before xs a (suc m) h =
    numbered_next (xs ++ a ∷ []) m ∙ (get_before xs a m (λ e. h (omega arith)) ∙ sym (numbered_next xs m))

numbered_past : (xs : List Association) (n : ℕ) → n ≡ length xs + 1 → numbered xs n ≡ None
numbered_past xs zero h = refl
numbered_past xs (suc m) h = numbered_next xs m ∙ slice_get_past xs m (omega arith)

abbrev admitted_more : Bool → List ℕ → ℕ → List ℕ
admitted_more true admitted number = admitted ++ number ∷ []
admitted_more false admitted number = admitted

any_more : (admits : Bool) (admitted : List ℕ) (number n : ℕ)
    → list_any (λ k. k == n) (admitted_more admits admitted number)
    ≡ (list_any (λ k. k == n) admitted || (admits && number == n))
any_more true admitted number n =
    list_any-append (λ k. k == n) admitted (number ∷ [])
    ∙ ap (λ t. list_any (λ k. k == n) admitted || t) (or-false (number == n))
any_more false admitted number n = sym (or-false (list_any (λ k. k == n) admitted))

added_at : (xs : List Association) (a : Association) (admitted : List ℕ) (n : ℕ)
    → list_any (λ k. k == n) admitted ≡ is_admitted_at xs n
    → (list_any (λ k. k == n) admitted || (is_admitted a && (length xs + 1) == n)) ≡ is_admitted_at (xs ++ a ∷ []) n
added_at xs a admitted n told =
    ⊎_elim
    (λ (e : ((length xs + 1) == n) ≡ true).
    let here : length xs + 1 ≡ n = eqb-true (length xs + 1) n e in
    let none : list_any (λ k. k == n) admitted ≡ false =
    told ∙ ap (λ o. option_map_or is_admitted o false) (numbered_past xs n (sym here)) in
    rw (none, e) (and-true (is_admitted a)
    ∙ sym (ap (λ o. option_map_or is_admitted o false) (numbered_last xs a n (sym here)))))
    (λ (e : ((length xs + 1) == n) ≡ false).
    rw e (ap (λ t. list_any (λ k. k == n) admitted || t) (and-false (is_admitted a))
    ∙ (or-false (list_any (λ k. k == n) admitted)
    ∙ (told ∙ ap (λ o. option_map_or is_admitted o false)
    (sym (numbered_before xs a n (λ h. eqb-false (length xs + 1) n e (sym h))))))))
    (cases_Bool ((length xs + 1) == n))

pub counted_more : (xs : List Association) (count live : ℕ) (admitted : List ℕ) (a : Association) → is_open a ≡ true
    → AreCounted xs count live admitted
    → AreCounted (xs ++ a ∷ []) (count + 1) (live + weight (is_live a))
    (admitted_more (is_admitted a) admitted (length xs + 1))
counted_more xs count live admitted a is r =
    let all = count_push is_open xs a in
    let lives = count_push is_live xs a in
    let one = ap weight is in
    let before = r.counted in
    let was = r.living in
    record {
      counted = omega arith;
      living = omega arith;
      told = λ n. any_more (is_admitted a) admitted (length xs + 1) n ∙ added_at xs a admitted n (r.told n);
    }

pub counted_admitted : (xs : List Association) (count live : ℕ) (admitted : List ℕ) (a : Association)
    → is_open a ≡ true → is_admitted a ≡ true → AreCounted xs count live admitted
    → AreCounted (xs ++ a ∷ []) (count + 1) (live + weight (is_live a)) (admitted ++ (length xs + 1) ∷ [])
counted_admitted xs count live admitted a is admits r =
    subst (λ t. AreCounted (xs ++ a ∷ []) (count + 1) (live + weight (is_live a))
    (admitted_more t admitted (length xs + 1))) admits
    (counted_more xs count live admitted a is r)

pub counted_turned : (xs : List Association) (count live : ℕ) (admitted : List ℕ) (a : Association) → is_open a ≡ true
    → is_admitted a ≡ false → AreCounted xs count live admitted
    → AreCounted (xs ++ a ∷ []) (count + 1) (live + weight (is_live a)) admitted
counted_turned xs count live admitted a is turned r =
    subst (λ t. AreCounted (xs ++ a ∷ []) (count + 1) (live + weight (is_live a))
    (admitted_more t admitted (length xs + 1))) turned
    (counted_more xs count live admitted a is r)

-- a title is had by one that is not closed exactly where one of those that were admitted has it
found : {T : Type 0} (test : T → Bool) (xs : List T) → list_any test xs ≡ true
    → (i : ℕ) × (x : T) × (slice_get xs i ≡ Some x) × (test x ≡ true)
found test [] h = absurd cc
found {T} test (x ∷ xs) h =
    ⊎_elim
    (λ (e : test x ≡ true). (0, x, refl, e))
    (λ (e : test x ≡ false).
    let rest : list_any test xs ≡ true = rw e at h in
    let p = found test xs rest in (suc p.0, p.1, p.2, p.3))
    (cases_Bool (test x))

any_where : {T : Type 0} (test : T → Bool) (xs : List T) (i : ℕ) (x : T) → slice_get xs i ≡ Some x → test x ≡ true
    → list_any test xs ≡ true
any_where test [] i x h e = absurd (none-some x h)
any_where test (y ∷ xs) zero x h e = rw (same_Some y x h, e) refl
any_where test (y ∷ xs) (suc i) x h e =
    ap (λ t. test y || t) (any_where test xs i x h e) ∙ or-true (test y)

numbered_at : (xs : List Association) (i : ℕ) (a : Association) → slice_get xs i ≡ Some a
    → numbered xs (suc i) ≡ Some a
numbered_at xs i a h = numbered_next xs i ∙ h

none_told : (n : ℕ) → false ≡ is_admitted_at [] n
none_told zero = refl
none_told (suc n) = ap (λ o. option_map_or is_admitted o false) (sym (numbered_next [] n))

same_tests : (a b : Bool) → (a ≡ true → b ≡ true) → (b ≡ true → a ≡ true) → a ≡ b
same_tests true true f g = refl
same_tests true false f g = sym (f refl)
same_tests false true f g = g refl
same_tests false false f g = refl

some_passes : (test : Association → Bool) (o : Option Association) → option_map_or test o false ≡ true
    → (a : Association) × (o ≡ Some a) × (test a ≡ true)
some_passes test None h = absurd cc
some_passes test (Some a) h = (a, refl, h)

titled_some : (title : List ℕ) (o : Option (List ℕ)) → option_map_or (is_same_oid title) o false ≡ true
    → is_some o ≡ true
titled_some title None h = absurd cc
titled_some title (Some other) h = refl

titled_admitted : (title : List ℕ) (a : Association) → has_title title a ≡ true → is_admitted a ≡ true
titled_admitted title a h =
    let p = and_parts (is_open a) (option_map_or (is_same_oid title) a.title false) h in
    rw (p.0, titled_some title a.title p.1) refl

abbrev pub titled_at : List ℕ → List Association → ℕ → Bool
titled_at title xs n = option_map_or (has_title title) (numbered xs n) false

titled_under : (title : List ℕ) (xs : List Association) (n : ℕ) → titled_at title xs n ≡ true
    → list_any (has_title title) xs ≡ true
titled_under title xs n h =
    let p = some_passes (has_title title) (numbered xs n) h in
    let s = stands_from_some xs n p.0 p.1 in
    any_where (has_title title) xs (n - 1) p.0 s.there p.2

titled_number : (title : List ℕ) (xs : List Association) (count live : ℕ) (admitted : List ℕ)
    → AreCounted xs count live admitted → list_any (has_title title) xs ≡ true → list_any (titled_at title xs) admitted ≡ true
titled_number title xs count live admitted r h =
    let p = found (has_title title) xs h in
    let there : numbered xs (suc p.0) ≡ Some p.1 = numbered_at xs p.0 p.1 p.2 in
    let has : list_any (λ k. k == suc p.0) admitted ≡ true =
    r.told (suc p.0) ∙ (ap (λ o. option_map_or is_admitted o false) there ∙ titled_admitted title p.1 p.3) in
    let q = found (λ k. k == suc p.0) admitted has in
    any_where (titled_at title xs) admitted q.0 q.1 q.2
    (ap (titled_at title xs) (eqb-true q.1 (suc p.0) q.3)
    ∙ (ap (λ o. option_map_or (has_title title) o false) there ∙ p.3))

pub titled_alike : (title : List ℕ) (xs : List Association) (count live : ℕ) (admitted : List ℕ)
    → AreCounted xs count live admitted → list_any (titled_at title xs) admitted ≡ list_any (has_title title) xs
titled_alike title xs count live admitted r =
    same_tests (list_any (titled_at title xs) admitted) (list_any (has_title title) xs)
    (λ h. let q = found (titled_at title xs) admitted h in titled_under title xs q.1 q.3)
    (titled_number title xs count live admitted r)

pub none_counted : AreCounted [] 0 0 []
none_counted = record { counted = refl; living = refl; told = none_told }

-- an association stands under each number within
get_within : (xs : List Association) (i : ℕ) → i < length xs → (a : Association) × (slice_get xs i ≡ Some a)
get_within [] i h = absurd (omega arith)
get_within (x ∷ xs) zero h = (x, refl)
get_within (x ∷ xs) (suc i) h = get_within xs i (omega arith)

pub stands_within : (xs : List Association) (number : ℕ) → 1 ≤ number → number ≤ length xs
    → (a : Association) × StandsAt xs number a
stands_within xs number positive within =
    let p = get_within xs (number - 1) (omega arith) in (
      p.0,
      record {
        positive = positive;
        within = within;
        there = p.1;
        is = rw (ne_eqb number 0 (λ e. omega arith)) p.1;
      },
    )

-- one is changed, and is as open, as live and as admitted
same_live : (live : ℕ) (one other : Bool) → other ≡ one → (live + weight other) - weight one ≡ live
same_live live one other e = let same = ap weight e in omega arith

pub counted_changed : (xs : List Association) (count live : ℕ) (admitted : List ℕ) (number : ℕ)
    (change : Association → Association) → (1 ≤ number) × (number ≤ length xs)
    → ((a : Association) → numbered xs number ≡ Some a → is_open (change a) ≡ is_open a)
    → ((a : Association) → numbered xs number ≡ Some a → is_live (change a) ≡ is_live a)
    → ((a : Association) → numbered xs number ≡ Some a → is_admitted (change a) ≡ is_admitted a)
    → AreCounted xs count live admitted → AreCounted (changed_association xs number change) count live admitted
counted_changed xs count live admitted number change within open_alike live_alike same r =
    let s = stands_within xs number within.0 within.1 in
    let b = change s.0 in
    subst (λ ys. AreCounted ys count live admitted) (sym (changed_association_at xs number change s.0 s.1.there))
    (subst (λ n. AreCounted (slice_set xs (number - 1) b) count n admitted)
    (same_live live (is_live s.0) (is_live b) (live_alike s.0 s.1.is))
    (counted_kept xs count live admitted number s.0 b s.1 (open_alike s.0 s.1.is) (same s.0 s.1.is) r))

-- no more comes from one that isn't closed: it is live no longer
pub counted_finished : (xs : List Association) (count live was : ℕ) (admitted : List ℕ) (number : ℕ)
    → (1 ≤ number) × (number ≤ length xs)
    → ((a : Association) → numbered xs number ≡ Some a → true ≡ is_open a)
    → ((a : Association) → numbered xs number ≡ Some a → was ≡ weight (is_live a)) → AreCounted xs count live admitted
    → (was ≤ live) × AreCounted (changed_association xs number (with_state Finished)) count (live - was) admitted
counted_finished xs count live was admitted number within opened lives r =
    let s = stands_within xs number within.0 within.1 in
    let is = lives s.0 s.1.is in
    let b = with_state Finished s.0 in
    let one = one_live xs count live admitted number s.0 s.1 r in
    let less : (live + weight (is_live b)) - weight (is_live s.0) ≡ live - was = omega arith in (
      omega arith,
      subst (λ ys. AreCounted ys count (live - was) admitted)
          (sym (changed_association_at xs number (with_state Finished) s.0 s.1.there))
          (subst (λ n. AreCounted (slice_set xs (number - 1) b) count n admitted) less
          (counted_kept xs count live admitted number s.0 b s.1 (opened s.0 s.1.is)
          (ap (λ t. t && is_some s.0.title) (opened s.0 s.1.is)) r)),
    )

-- one is closed, where it wasn't, and where it was
pub counted_less : (xs : List Association) (count live was : ℕ) (admitted : List ℕ) (number : ℕ)
    → (1 ≤ number) × (number ≤ length xs)
    → ((a : Association) → numbered xs number ≡ Some a → was ≡ weight (is_live a)) → AreCounted xs count live admitted
    → was ≤ live
counted_less xs count live was admitted number within lives r =
    let s = stands_within xs number within.0 within.1 in
    let is = lives s.0 s.1.is in
    let one = one_live xs count live admitted number s.0 s.1 r in
    omega arith

open_unless : (a : Association) (closed : Bool) → closed ≡ is_closed_state a.state → is_open a ≡ not closed
open_unless a closed e = ap (λ t. not t) (sym e)

closed_dead : (state : AssociationState) → is_closed_state state ≡ true → is_live_state state ≡ false
closed_dead standing.Live h = absurd (false≢true h)
closed_dead standing.Finished h = refl
closed_dead (standing.Closed cause) h = refl
closed_dead standing.Overrun h = refl

pub counted_shut : (xs : List Association) (count live was : ℕ) (admitted : List ℕ) (number : ℕ)
    (state : AssociationState)
    → (1 ≤ number) × (number ≤ length xs) → is_closed_state state ≡ true
    → ((a : Association) → numbered xs number ≡ Some a → false ≡ is_closed_state a.state)
    → ((a : Association) → numbered xs number ≡ Some a → was ≡ weight (is_live a))
    → AreCounted xs count live admitted
    → (1 ≤ count) × AreCounted (changed_association xs number (with_state state)) (count - 1) (live - was)
    (filter (λ n. not (n == number)) admitted)
counted_shut xs count live was admitted number state within shuts opened lives r =
    let s = stands_within xs number within.0 within.1 in
    let is = open_unless s.0 false (opened s.0 s.1.is) in
    let b = with_state state s.0 in
    let lived = lives s.0 s.1.is in
    let dead = ap weight (closed_dead state shuts) in
    let one = one_live xs count live admitted number s.0 s.1 r in
    let less : (live + weight (is_live b)) - weight (is_live s.0) ≡ live - was = omega arith in (
      one_open xs count live admitted number s.0 s.1 is r,
      subst (λ ys. AreCounted ys (count - 1) (live - was) (filter (λ n. not (n == number)) admitted))
          (sym (changed_association_at xs number (with_state state) s.0 s.1.there))
          (subst (λ n. AreCounted (slice_set xs (number - 1) b) (count - 1) n (filter (λ n. not (n == number)) admitted))
          less (counted_closed xs count live admitted number s.0 b s.1 is (ap (λ t. not t) shuts) r)),
    )

pub counted_anew : (xs : List Association) (count live was : ℕ) (admitted : List ℕ) (number : ℕ)
    (state : AssociationState)
    → (1 ≤ number) × (number ≤ length xs) → is_closed_state state ≡ true
    → ((a : Association) → numbered xs number ≡ Some a → true ≡ is_closed_state a.state)
    → ((a : Association) → numbered xs number ≡ Some a → was ≡ weight (is_live a))
    → AreCounted xs count live admitted
    → AreCounted (changed_association xs number (with_state state)) count (live - was) admitted
counted_anew xs count live was admitted number state within shuts shut lives r =
    let s = stands_within xs number within.0 within.1 in
    let none : was ≡ 0 = lives s.0 s.1.is ∙ ap weight (closed_dead s.0.state (sym (shut s.0 s.1.is))) in
    let alike : (a : Association) → numbered xs number ≡ Some a → is_open (with_state state a) ≡ is_open a =
    λ a h. ap (λ t. not t) (shuts ∙ shut a h) in
    let dead : (a : Association) → numbered xs number ≡ Some a → is_live (with_state state a) ≡ is_live a =
    λ a h. closed_dead state shuts ∙ sym (closed_dead a.state (sym (shut a h))) in
    subst (λ n. AreCounted (changed_association xs number (with_state state)) count n admitted) (omega arith)
    (counted_changed xs count live admitted number (with_state state) within alike dead
    (λ a h. ap (λ t. t && is_some a.title) (alike a h)) r)

-- what is reserved for associations: a place for each that isn't closed, and one more for each that is live
state_places : (state : AssociationState)
    → reserved_by_association state ≡ weight (not (is_closed_state state)) + weight (is_live_state state)
state_places standing.Live = refl
state_places standing.Finished = refl
state_places (standing.Closed cause) = refl
state_places standing.Overrun = refl

all_places : (xs : List Association) → reserved_by_associations xs ≡ count_open xs + count_live xs
all_places [] = refl
all_places (a ∷ xs) =
    let own = sum_by-cons (λ (b : Association). reserved_by_association b.state) a xs in
    let one = state_places a.state in
    let opens = count_cons is_open a xs in
    let lives = count_cons is_live a xs in
    let rest = all_places xs in
    omega arith

pub counted_places : (xs : List Association) (count live : ℕ) (admitted : List ℕ) → AreCounted xs count live admitted
    → reserved_by_associations xs ≡ count + live
counted_places xs count live admitted r =
    let all = all_places xs in
    let opens = r.counted in
    let lives = r.living in
    omega arith
