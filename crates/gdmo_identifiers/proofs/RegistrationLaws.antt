-- RegistrationLaws: a table of the first place of each list of arcs, and what stands behind such a place.
use Rattle.std.proofs.Common.{◌≡◌, ◌∙◌, ◌⊎◌, ◌<◌, ◌≤◌, ◌∷◌, ◌++◌, [], ℕ, List, Bool, true, false, Option, None, Some}
use Rattle.std.proofs.Common.{refl, sym, ap, arith, inl, inr, length, subst}
use Rattle.std.specs.Prelude.{◌&&◌, ◌||◌, ◌==◌, nat_lt, if◌then◌else◌}
use Rattle.std.specs.BTreeMap.{is_at}
use Rattle.std.specs.Ordering.{is_eq, nat_cmp}
use Rattle.std.specs.declared.cmp.Ordering.{Ordering}
use Rattle.std.specs.declared.cmp.Ordering.TheVariants.{Less, Equal, Greater}
use Rattle.std.proofs.lemmas.Bool.{eq-eqb, eqb-true, false≢true, ltb-false, ltb-true, true≢false}
use Rattle.std.proofs.lemmas.Cmp.{nat_cmp_total, tied_itself}
use Rattle.std.proofs.lemmas.Map.Lookups.{exact_unsigned}
use Rattle.std.proofs.lemmas.Option.{none-some, same_Some}
use Rattle.gdmo_names.specs.declared.first_fault.LabelFault.{LabelFault as NotedFault}
use Rattle.gdmo_names.specs.FaultSets.{AnyOf, Notes}
use Rattle.gdmo_names.specs.FirstLabelFault.{LabelFault}
use Rattle.gdmo_names.proofs.NotingLaws.{any_by, noted_by}
use Rattle.link_graphs.proofs.PlaceLaws.{IsPushed, get_before, get_last, get_push}
use Rattle.gdmo_identifiers.specs.declared.registrations.Registration.{Registration}
use Rattle.gdmo_identifiers.specs.Registrations.{BehindBy, IsLater, IsOne, LaterOf, TellsFirst, comes_behind}
use Rattle.gdmo_identifiers.specs.Registrations.{first_kept, is_earlier}

-- ---- the order of places

abbrev Ahead : Registration → Registration → Type 0
Ahead x y = (x.document < y.document) ⊎ ((x.document ≡ y.document) × (x.brace.now.at < y.brace.now.at))

-- the one stands no earlier than the other
abbrev NoEarlier : Registration → Registration → Type 0
NoEarlier x y = (y.document < x.document) ⊎ ((x.document ≡ y.document) × (y.brace.now.at ≤ x.brace.now.at))

ahead_by : (a b p q : ℕ) (l e m : Bool) → nat_lt a b ≡ l → (a == b) ≡ e → nat_lt p q ≡ m → (l || e && m) ≡ true →
    (a < b) ⊎ ((a ≡ b) × (p < q))
ahead_by a b p q true e m l_is e_is m_is h = inl (ltb-true a b l_is)
ahead_by a b p q false true true l_is e_is m_is h = inr (eqb-true a b e_is, ltb-true p q m_is)
ahead_by a b p q false true false l_is e_is m_is h = absurd (cc)
ahead_by a b p q false false m l_is e_is m_is h = absurd (cc)

ahead_of : (x y : Registration) → is_earlier x y ≡ true → Ahead x y
ahead_of x y h = ahead_by x.document y.document x.brace.now.at y.brace.now.at (nat_lt x.document y.document)
    (x.document == y.document) (nat_lt x.brace.now.at y.brace.now.at) refl refl refl h

behind_by : (a b : ℕ) → (a == b) ≡ false → b ≤ a → b < a
behind_by a b e h = by (nat_lt b a) refl
  where
    by : (l : Bool) → nat_lt b a ≡ l → b < a
    by true is = ltb-true b a is
    by false is = absurd (false≢true (sym e ∙ eq-eqb a b (omega (arith, h, ltb-false b a is))))

not_ahead_by : (a b p q : ℕ) (l e m : Bool) → nat_lt a b ≡ l → (a == b) ≡ e → nat_lt p q ≡ m → (l || e && m) ≡ false →
    (b < a) ⊎ ((a ≡ b) × (q ≤ p))
not_ahead_by a b p q true e m l_is e_is m_is h = absurd (cc)
not_ahead_by a b p q false true true l_is e_is m_is h = absurd (cc)
not_ahead_by a b p q false true false l_is e_is m_is h = inr (eqb-true a b e_is, ltb-false p q m_is)
not_ahead_by a b p q false false m l_is e_is m_is h = inl (behind_by a b e_is (ltb-false a b l_is))

not_ahead : (x y : Registration) → is_earlier x y ≡ false → NoEarlier x y
not_ahead x y h = not_ahead_by x.document y.document x.brace.now.at y.brace.now.at (nat_lt x.document y.document)
    (x.document == y.document) (nat_lt x.brace.now.at y.brace.now.at) refl refl refl h

apart : (x y : Registration) → Ahead x y → NoEarlier x y → ⊥
apart x y (inl h) (inl i) = omega (arith, h, i)
apart x y (inl h) (inr i) = omega (arith, h, i.0)
apart x y (inr h) (inl i) = omega (arith, h.0, i)
apart x y (inr h) (inr i) = omega (arith, h.1, i.1)

-- what stands no earlier isn't earlier, and what isn't is
no_earlier : (x y : Registration) → (Ahead x y → ⊥) → is_earlier x y ≡ false
no_earlier x y never = by (is_earlier x y) refl
  where
    by : (test : Bool) → is_earlier x y ≡ test → is_earlier x y ≡ false
    by true is = absurd (never (ahead_of x y is))
    by false is = is

is_ahead : (x y : Registration) → (NoEarlier x y → ⊥) → is_earlier x y ≡ true
is_ahead x y never = by (is_earlier x y) refl
  where
    by : (test : Bool) → is_earlier x y ≡ test → is_earlier x y ≡ true
    by true is = is
    by false is = absurd (never (not_ahead x y is))

ahead_through : (x y z : Registration) → Ahead x y → Ahead y z → Ahead x z
ahead_through x y z (inl h) (inl i) = inl (omega (arith, h, i))
ahead_through x y z (inl h) (inr i) = inl (omega (arith, h, i.0))
ahead_through x y z (inr h) (inl i) = inl (omega (arith, h.0, i))
ahead_through x y z (inr h) (inr i) = inr (h.0 ∙ i.0, omega (arith, h.1, i.1))

-- what stands before another stands before what is no earlier than that
before_through : (x y z : Registration) → NoEarlier y x → Ahead y z → NoEarlier x z → ⊥
before_through x y z (inl h) (inl i) (inl j) = omega (arith, h, i, j)
before_through x y z (inl h) (inl i) (inr j) = omega (arith, h, i, j.0)
before_through x y z (inl h) (inr i) (inl j) = omega (arith, h, i.0, j)
before_through x y z (inl h) (inr i) (inr j) = omega (arith, h, i.0, j.0)
before_through x y z (inr h) (inl i) (inl j) = omega (arith, h.0, i, j)
before_through x y z (inr h) (inl i) (inr j) = omega (arith, h.0, i, j.0)
before_through x y z (inr h) (inr i) (inl j) = omega (arith, h.0, i.0, j)
before_through x y z (inr h) (inr i) (inr j) = omega (arith, h.1, i.1, j.1)

itself : (x : Registration) → is_earlier x x ≡ false
itself x = no_earlier x x (λ h. never h)
  where
    never : Ahead x x → ⊥
    never (inl h) = omega (arith, h)
    never (inr h) = omega (arith, h.1)

-- ---- the first of two

module _ (first own : Registration) where
  no_own : (test : Bool) → is_earlier own first ≡ test → is_earlier own (if test then own else first) ≡ false
  no_own true is = itself own
  no_own false is = is

  no_other : (y : Registration) (test : Bool) → is_earlier own first ≡ test → is_earlier y first ≡ false →
      is_earlier y (if test then own else first) ≡ false
  no_other y true is not_y = no_earlier y own (λ h. apart y first
      (ahead_through y own first h (ahead_of own first is)) (not_ahead y first not_y))
  no_other y false is not_y = not_y

  one_of : (P : Registration → Type 0) (test : Bool) → P own → P first → P (if test then own else first)
  one_of P true p q = p
  one_of P false p q = q

-- ---- one more

at_itself : (n : ℕ) → is_at (nat_cmp n) n ≡ true
at_itself n = rw (tied_itself nat_cmp_total n) refl

is_equal : (o : Ordering) → is_eq o ≡ true → o ≡ Equal
is_equal Less h = absurd (true≢false (sym h))
is_equal Equal h = refl
is_equal Greater h = absurd (true≢false (sym h))

at_same : (n k : ℕ) → is_at (nat_cmp n) k ≡ true → n ≡ k
at_same n k h = exact_unsigned n k (is_equal (nat_cmp n k) h)

pub none_told : (told : ℕ → Option Registration) → ((n : ℕ) → told n ≡ None) → TellsFirst [] told
none_told told empty = record {
  there = λ n x h. absurd (none-some x (sym (empty n) ∙ h));
  least = λ k y h. absurd (none-some (Some y) h);
}

one_before : (xs : List (Option Registration)) (own : Option Registration) (x : Registration) → IsOne xs x →
    IsOne (xs ++ own ∷ []) x
one_before xs own x one = (one.0, get_before xs (own ∷ []) one.0 (Some x) one.1)

pub first_past : (xs : List (Option Registration)) (told : ℕ → Option Registration) → TellsFirst xs told →
    TellsFirst (xs ++ None ∷ []) told
first_past xs told t = record {
  there = λ n x h. let found = t.there n x h in (found.0, one_before xs None x found.1);
  least = λ k y h. by k y (get_push xs None k (Some y) h);
}
  where
    by : (k : ℕ) (y : Registration) → IsPushed xs None k (Some y) →
        (x : Registration) × (told y.list ≡ Some x) × (is_earlier y x ≡ false)
    by k y (inl h) = t.least k y h
    by k y (inr h) = absurd (none-some y h.1)

module _ (xs : List (Option Registration)) (own : Registration) (told next : ℕ → Option Registration)
    (t : TellsFirst xs told)
    (updated : (n : ℕ) → next n ≡ (if is_at (nat_cmp own.list) n then Some (first_kept (told own.list) own)
    else told n)) where
  is_own : IsOne (xs ++ Some own ∷ []) own
  is_own = (length xs, get_last xs (Some own))

  kept_there : (before : Option Registration) → told own.list ≡ before →
      ((first_kept before own).list ≡ own.list) × IsOne (xs ++ Some own ∷ []) (first_kept before own)
  kept_there None is = (refl, is_own)
  kept_there (Some first) is =
      let found = t.there own.list first is in
      one_of first own (λ (r : Registration). (r.list ≡ own.list) × IsOne (xs ++ Some own ∷ []) r)
      (is_earlier own first) (refl, is_own) (found.0, one_before xs (Some own) first found.1)

  next_own : next own.list ≡ Some (first_kept (told own.list) own)
  next_own = updated own.list ∙
      ap (λ b. if b then Some (first_kept (told own.list) own) else told own.list) (at_itself own.list)

  there_by : (n : ℕ) (x : Registration) (test : Bool) → is_at (nat_cmp own.list) n ≡ test →
      (if test then Some (first_kept (told own.list) own) else told n) ≡ Some x →
      (x.list ≡ n) × IsOne (xs ++ Some own ∷ []) x
  there_by n x true is h =
      let same : own.list ≡ n = at_same own.list n is in
      let kept = kept_there (told own.list) refl in
      let it : first_kept (told own.list) own ≡ x = same_Some _ x h in
      subst (λ (r : Registration). (r.list ≡ n) × IsOne (xs ++ Some own ∷ []) r) it (kept.0 ∙ same, kept.1)
  there_by n x false is h = let found = t.there n x h in (found.0, one_before xs (Some own) x found.1)

  -- what is told of the list of one that stood before
  least_by : (y x : Registration) (test : Bool) → is_at (nat_cmp own.list) y.list ≡ test → told y.list ≡ Some x →
      is_earlier y x ≡ false → (r : Registration) × (next y.list ≡ Some r) × (is_earlier y r ≡ false)
  least_by y x true is h not_y =
      let same : own.list ≡ y.list = at_same own.list y.list is in (
        first_kept (Some x) own,
        ap next (sym same) ∙ next_own ∙ ap (λ o. Some (first_kept o own)) (ap told same ∙ h),
        no_other x own y (is_earlier own x) refl not_y,
      )
  least_by y x false is h not_y = (
    x,
    updated y.list ∙ ap (λ b. if b then Some (first_kept (told own.list) own) else told y.list) is ∙ h,
    not_y,
  )

  own_least : (before : Option Registration) → is_earlier own (first_kept before own) ≡ false
  own_least None = itself own
  own_least (Some first) = no_own first own (is_earlier own first) refl

  least : (k : ℕ) (y : Registration) → IsPushed xs (Some own) k (Some y) →
      (x : Registration) × (next y.list ≡ Some x) × (is_earlier y x ≡ false)
  least k y (inl h) = let found = t.least k y h in
      least_by y found.0 (is_at (nat_cmp own.list) y.list) refl found.1 found.2
  least k y (inr h) =
      subst (λ (z : Registration). (x : Registration) × (next z.list ≡ Some x) × (is_earlier z x ≡ false))
      (same_Some own y h.1) (first_kept (told own.list) own, next_own, own_least (told own.list))

  pub first_more : TellsFirst (xs ++ Some own ∷ []) next
  first_more = record {
    there = λ n x h. there_by n x (is_at (nat_cmp own.list) n) refl (sym (updated n) ∙ h);
    least = λ k y h. least k y (get_push xs (Some own) k (Some y) h);
  }

-- ---- what stands behind the first of its arcs

module _ (xs : List (Option Registration)) (told : ℕ → Option Registration) (t : TellsFirst xs told) where
  later_of : (own : Registration) (first : Option Registration) → told own.list ≡ first →
      comes_behind first own ≡ true → IsLater xs own
  later_of own None is h = absurd (cc)
  later_of own (Some first) is h =
      let found = t.there own.list first is in record {
        k = found.1.0;
        first = first;
        stands = found.1.1;
        same = found.0;
        before = h;
      }

  behind_of : (own : Registration) → IsLater xs own → comes_behind (told own.list) own ≡ true
  behind_of own later =
      let found = t.least later.k later.first later.stands in
      let first : told own.list ≡ Some found.0 = ap told (sym later.same) ∙ found.1 in
      ap (λ o. comes_behind o own) first ∙ is_ahead found.0 own
      (λ h. before_through found.0 later.first own (not_ahead later.first found.0 found.2)
      (ahead_of later.first own later.before) h)

  to_later : (x : Option Registration) (kind : LabelFault) (document token : ℕ) →
      BehindBy told x kind document token → LaterOf xs x kind document token
  to_later None kind document token fault = fault
  to_later (Some own) kind document token fault =
      (later_of own (told own.list) refl fault.0, fault.1, fault.2, fault.3)

  to_behind : (x : Option Registration) (kind : LabelFault) (document token : ℕ) →
      LaterOf xs x kind document token → BehindBy told x kind document token
  to_behind None kind document token fault = fault
  to_behind (Some own) kind document token fault = (behind_of own fault.0, fault.1, fault.2, fault.3)

  pub later_noted : {before after : Option NotedFault} → Notes (AnyOf (BehindBy told) xs) before after →
      Notes (AnyOf (LaterOf xs) xs) before after
  later_noted h = noted_by (AnyOf (BehindBy told) xs) (AnyOf (LaterOf xs) xs)
      (any_by (BehindBy told) (LaterOf xs) to_later xs) (any_by (LaterOf xs) (BehindBy told) to_behind xs) h
