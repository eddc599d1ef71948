-- GivenLaws: what is kept of the arcs that names are given tells which of them are other than earlier ones.
use Rattle.std.proofs.Common.{◌≡◌, ◌∙◌, ◌⊎◌, ◌∷◌, ◌++◌, [], ℕ, List, Bool, true, false, Option, None}
use Rattle.std.proofs.Common.{Some, refl, sym, ap, inl, inr, length, subst}
use Rattle.std.specs.Prelude.{◌≢◌, ◌==◌, not, if◌then◌else◌}
use Rattle.std.specs.BTreeMap.{is_at}
use Rattle.std.specs.Ordering.{is_eq, nat_cmp}
use Rattle.std.specs.declared.cmp.Ordering.{Ordering}
use Rattle.std.specs.declared.cmp.Ordering.TheVariants.{Less, Equal, Greater}
use Rattle.std.proofs.lemmas.Bool.{eq-eqb, eqb-true, false≢true, true≢false}
use Rattle.std.proofs.lemmas.Cmp.{nat_cmp_total, tied_itself}
use Rattle.std.proofs.lemmas.Map.Lookups.{exact_unsigned}
use Rattle.std.proofs.lemmas.Option.{none-some, same_Some}
use Rattle.gdmo_names.specs.declared.first_fault.LabelFault.{LabelFault as NotedFault}
use Rattle.gdmo_names.specs.FaultSets.{Notes}
use Rattle.gdmo_names.proofs.NotingLaws.{none_noted, noted_by}
use Rattle.link_graphs.proofs.PlaceLaws.{IsPushed, get_before, get_last, get_push}
use Rattle.first_name_arcs.specs.declared.given_arcs.SeenArcs.{SeenArcs}
use Rattle.first_name_arcs.specs.declared.given_arcs.SeenArcs.TheVariants.{One, Several}
use Rattle.first_name_arcs.specs.GivenArcs.{Given, GivenFaults, HasOne, HasOther, TellSeen, TellsSeen, UnequalAt}
use Rattle.first_name_arcs.specs.GivenArcs.{is_other, seen_after}

-- ---- numbers and their tests

at_itself : (n : ℕ) → is_at (nat_cmp n) n ≡ true
at_itself n = rw (tied_itself nat_cmp_total n) refl

is_equal : (o : Ordering) → is_eq o ≡ true → o ≡ Equal
is_equal Less h = absurd (true≢false (sym h))
is_equal Equal h = refl
is_equal Greater h = absurd (true≢false (sym h))

at_same : (n k : ℕ) → is_at (nat_cmp n) k ≡ true → n ≡ k
at_same n k h = exact_unsigned n k (is_equal (nat_cmp n k) h)

not_same : (a b : ℕ) → (a == b) ≡ false → a ≢ b
not_same a b test same = false≢true (sym test ∙ eq-eqb a b same)

-- ---- one more is given

other_before : (xs : List (Option Given)) (own : Option Given) (first list : ℕ) → HasOther xs first list →
    HasOther (xs ++ own ∷ []) first list
other_before xs own first list h = record {
  k = h.k;
  other = h.other;
  stands = get_before xs (own ∷ []) h.k (Some h.other) h.stands;
  same = h.same;
  unequal = h.unequal;
}

one_before : (xs : List (Option Given)) (own : Option Given) (first list : ℕ) → HasOne xs first list →
    HasOne (xs ++ own ∷ []) first list
one_before xs own first list h = record {
  k = h.k;
  own = h.own;
  stands = get_before xs (own ∷ []) h.k (Some h.own) h.stands;
  named = h.named;
  is = h.is;
}

-- other arcs were there before, or are the last ones
record IsLast (own : Option Given) (first list : ℕ) : Type 0 where
  pub last : Given
  pub is : own ≡ Some last
  pub same : last.first ≡ first
  pub unequal : last.list ≢ list

other_more : (xs : List (Option Given)) (own : Option Given) (first list : ℕ) → HasOther (xs ++ own ∷ []) first list →
    HasOther xs first list ⊎ IsLast own first list
other_more xs own first list h = by (get_push xs own h.k (Some h.other) h.stands)
  where
    by : IsPushed xs own h.k (Some h.other) → HasOther xs first list ⊎ IsLast own first list
    by (inl at) = inl (record { k = h.k; other = h.other; stands = at; same = h.same; unequal = h.unequal })
    by (inr end) = inr (record { last = h.other; is = end.1; same = h.same; unequal = h.unequal })

-- what is told of a name that the last one isn't given
module _ (xs : List (Option Given)) (own : Option Given) (first : ℕ)
    (apart : (g : Given) → own ≡ Some g → g.first ≡ first → ⊥) where
  still : (seen : Option SeenArcs) → TellsSeen xs first seen → TellsSeen (xs ++ own ∷ []) first seen
  still None t = λ k g at same. by k g same (get_push xs own k (Some g) at)
    where
      by : (k : ℕ) (g : Given) → g.first ≡ first → IsPushed xs own k (Some g) → ⊥
      by k g same (inl at) = t k g at same
      by k g same (inr end) = apart g end.1 same
  still (Some (One list)) t = (
    one_before xs own first list t.0,
    λ h. by (other_more xs own first list h),
  )
    where
      by : HasOther xs first list ⊎ IsLast own first list → ⊥
      by (inl h) = t.1 h
      by (inr end) = apart end.last end.is end.same
  still (Some Several) t = λ list. other_before xs own first list (t list)

-- and of the name that it is
module _ (xs : List (Option Given)) (own : Given) where
  last_one : HasOne (xs ++ Some own ∷ []) own.first own.list
  last_one = record {
    k = length xs;
    own = own;
    stands = get_last xs (Some own);
    named = refl;
    is = refl;
  }

  no_last : IsLast (Some own) own.first own.list → ⊥
  no_last end = end.unequal (ap (λ (g : Given). g.list) (sym (same_Some own end.last end.is)))

  no_more : (HasOther xs own.first own.list → ⊥) → HasOther (xs ++ Some own ∷ []) own.first own.list → ⊥
  no_more none h = by (other_more xs (Some own) own.first own.list h)
    where
      by : HasOther xs own.first own.list ⊎ IsLast (Some own) own.first own.list → ⊥
      by (inl before) = none before
      by (inr end) = no_last end

  -- once two are unequal, each list has another
  either : (first list : ℕ) → HasOne xs own.first first → first ≢ own.list →
      HasOther (xs ++ Some own ∷ []) own.first list
  either first list one unequal = by (list == own.list) refl
    where
      by : (test : Bool) → (list == own.list) ≡ test → HasOther (xs ++ Some own ∷ []) own.first list
      by true is = other_before xs (Some own) own.first list (record {
        k = one.k;
        other = one.own;
        stands = one.stands;
        same = one.named;
        unequal = λ h. unequal (sym one.is ∙ h ∙ eqb-true list own.list is);
      })
      by false is = record {
        k = length xs;
        other = own;
        stands = get_last xs (Some own);
        same = refl;
        unequal = λ h. not_same list own.list is (sym h);
      }

  now : (seen : Option SeenArcs) → TellsSeen xs own.first seen →
      TellsSeen (xs ++ Some own ∷ []) own.first (Some (seen_after seen own.list))
  now None t = (last_one, no_more (λ h. t h.k h.other h.stands h.same))
  now (Some (One first)) t = by (first == own.list) refl
    where
      by : (test : Bool) → (first == own.list) ≡ test →
          TellsSeen (xs ++ Some own ∷ []) own.first (Some (if test then One own.list else Several))
      by true is = (
        last_one,
        no_more (λ h. t.1 (subst (HasOther xs own.first) (sym (eqb-true first own.list is)) h)),
      )
      by false is = λ list. either first list t.0 (not_same first own.list is)
  now (Some Several) t = λ list. other_before xs (Some own) own.first list (t list)

-- ---- the table

pub none_seen : (told : ℕ → Option SeenArcs) → ((n : ℕ) → told n ≡ None) → TellSeen [] told
none_seen told empty = λ n. subst (TellsSeen [] n) (sym (empty n)) (λ k g at same. none-some (Some g) at)

pub seen_past : (xs : List (Option Given)) (told : ℕ → Option SeenArcs) → TellSeen xs told →
    TellSeen (xs ++ None ∷ []) told
seen_past xs told t = λ n. still xs None n (λ g is same. none-some g is) (told n) (t n)

pub seen_more : (xs : List (Option Given)) (own : Given) (told next : ℕ → Option SeenArcs) → TellSeen xs told →
    ((n : ℕ) → next n ≡ (if is_at (nat_cmp own.first) n then Some (seen_after (told own.first) own.list) else told n)) →
    TellSeen (xs ++ Some own ∷ []) next
seen_more xs own told next t updated = λ n. subst (TellsSeen (xs ++ Some own ∷ []) n) (sym (updated n))
    (by n (is_at (nat_cmp own.first) n) refl)
  where
    apart : (n : ℕ) → is_at (nat_cmp own.first) n ≡ false → (g : Given) → Some own ≡ Some g → g.first ≡ n → ⊥
    apart n test g is same = false≢true (sym test ∙
        ap (is_at (nat_cmp own.first)) (sym same ∙ ap (λ (x : Given). x.first) (sym (same_Some own g is))) ∙
        at_itself own.first)

    by : (n : ℕ) (test : Bool) → is_at (nat_cmp own.first) n ≡ test →
        TellsSeen (xs ++ Some own ∷ []) n (if test then Some (seen_after (told own.first) own.list) else told n)
    by n true is = subst (λ m. TellsSeen (xs ++ Some own ∷ []) m (Some (seen_after (told own.first) own.list)))
        (at_same own.first n is) (now xs own (told own.first) (t own.first))
    by n false is = still xs (Some own) n (apart n is) (told n) (t n)

-- ---- what is noted

other_of : (xs : List (Option Given)) (first list : ℕ) (seen : Option SeenArcs) → TellsSeen xs first seen →
    is_other seen list ≡ true → HasOther xs first list
other_of xs first list None t test = absurd (false≢true test)
other_of xs first list (Some (One own)) t test = record {
  k = t.0.k;
  other = t.0.own;
  stands = t.0.stands;
  same = t.0.named;
  unequal = λ h. true≢false (sym test ∙ ap not (eq-eqb own list (sym t.0.is ∙ h)));
}
other_of xs first list (Some Several) t test = t list

is_told : (xs : List (Option Given)) (first list : ℕ) (seen : Option SeenArcs) → TellsSeen xs first seen →
    HasOther xs first list → is_other seen list ≡ true
is_told xs first list None t h = absurd (t h.k h.other h.stands h.same)
is_told xs first list (Some (One own)) t h = by (own == list) refl
  where
    by : (test : Bool) → (own == list) ≡ test → not test ≡ true
    by true is = absurd (t.1 (subst (HasOther xs first) (sym (eqb-true own list is)) h))
    by false is = refl
is_told xs first list (Some Several) t h = refl

pub given_noted : (xs : List (Option Given)) (own : Given) (seen : Option SeenArcs) {before after : Option NotedFault} →
    TellsSeen xs own.first seen → Notes (UnequalAt seen own) before after → Notes (GivenFaults xs (Some own)) before after
given_noted xs own seen t h = noted_by (UnequalAt seen own) (GivenFaults xs (Some own))
    (λ k d at fault. (other_of xs own.first own.list seen t fault.0, fault.1, fault.2, fault.3))
    (λ k d at fault. (is_told xs own.first own.list seen t fault.0, fault.1, fault.2, fault.3)) h

pub nothing_noted : (xs : List (Option Given)) (before : Option NotedFault) → Notes (GivenFaults xs None) before before
nothing_noted xs before = none_noted (GivenFaults xs None) before (λ k d at fault. fault)
