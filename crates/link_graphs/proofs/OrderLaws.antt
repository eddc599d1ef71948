-- An element leads back to itself exactly where it leads to one that stands no earlier in the order in which a search
-- in depth finishes them.
use Rattle.std.proofs.Common.{◌≡◌, ℕ, suc, zero, ◌+◌, ◌<◌, ◌≤◌, ◌⊎◌, ◌↔◌, List, [], ◌∷◌, Bool, true, false, Some}
use Rattle.std.proofs.Common.{length, set, length-set, replicate, refl, sym, ap, ◌∙◌, inl, inr, subst, arith}
use Rattle.std.specs.List.{slice_get}
use Rattle.std.proofs.lemmas.Bool.{cases_lt}
use Rattle.std.proofs.lemmas.List.{length-replicate}
use Rattle.std.proofs.lemmas.Option.{slice_get_within, same_Some}
use Rattle.link_graphs.specs.Leading.{LeadsAtOnce, Leads, Reaches}
use Rattle.link_graphs.specs.Leading.Leads.{at_once, onward}
use Rattle.link_graphs.specs.Finishing.{IsFinishing}
use Rattle.link_graphs.specs.Turning.{IsTurned}
use Rattle.link_graphs.specs.Marking.{IsClosed, IsMarked}
use Rattle.link_graphs.specs.Cycles.{IsBehindTargets, MarkCycles}
use Rattle.link_graphs.proofs.PlaceLaws.{none_marked, same_there}
use Rattle.link_graphs.proofs.LeadingLaws.{leads_on, leads_reaching, target_within}

-- ---- cycles in the order

module _ (lists : List (List ℕ)) (order : List ℕ) (w : IsFinishing lists order) (k r : ℕ)
    (at : slice_get order k ≡ Some r) where
  goes_back : (i j t y : ℕ) → slice_get order i ≡ Some t → slice_get order j ≡ Some y → i ≤ k → k ≤ j
      → LeadsAtOnce lists t y → Reaches lists y r
  goes_back i j t y here there low high one =
      let back = w.back i t y here one in
      let same : back.place ≡ j = w.once back.place j y back.stands there in
      back.reaches k r low (omega arith) at

  pub leads_back : (y : ℕ) → Leads lists r y → (j : ℕ) → slice_get order j ≡ Some y → k ≤ j → Leads lists r r
  leads_back y (at_once one) j there high =
      leads_reaching (at_once one) (goes_back k j r y at there (omega arith) high one)
  leads_back y (onward {between = t} d one) j there high = by (cases_lt stood.0 k) (leads_back t d stood.0 stood.1)
    where
      stood : (i : ℕ) × (slice_get order i ≡ Some t)
      stood = w.every t (target_within d)

      by : (stood.0 < k) ⊎ (k ≤ stood.0) → (k ≤ stood.0 → Leads lists r r) → Leads lists r r
      by (inl less) further =
          leads_reaching (onward d one) (goes_back stood.0 j t y stood.1 there (omega arith) high one)
      by (inr more) further = further more

  pub stands_behind : ¬ Leads lists r r → (t : ℕ) → LeadsAtOnce lists r t
      → (j : ℕ) × (j < k) × (slice_get order j ≡ Some t)
  stands_behind not t one = by (cases_lt stood.0 k)
    where
      stood : (i : ℕ) × (slice_get order i ≡ Some t)
      stood = w.every t one.within

      by : (stood.0 < k) ⊎ (k ≤ stood.0) → (j : ℕ) × (j < k) × (slice_get order j ≡ Some t)
      by (inl less) = (stood.0, less, stood.1)
      by (inr more) = absurd (not (leads_back t (at_once one) stood.0 stood.1 more))

pub behind_targets : (lists : List (List ℕ)) (order : List ℕ) → IsFinishing lists order → IsBehindTargets lists order
behind_targets lists order w = record {
  elements = w.elements;
  every = w.every;
  once = w.once;
  behind = λ k e t at not one. stands_behind lists order w k e at not t one;
}

-- ---- a graph turned round

pub turned_leads : (lists turned : List (List ℕ)) → IsTurned lists turned → (e t : ℕ) → Leads lists e t
    → Leads turned t e
turned_leads lists turned w e t (at_once one) = at_once ((w.leads e t).0 one)
turned_leads lists turned w e t (onward {between = b} d one) =
    leads_on (at_once ((w.leads b t).0 one)) (turned_leads lists turned w e b d)

pub leads_turned : (lists turned : List (List ℕ)) → IsTurned lists turned → (e t : ℕ) → Leads turned e t
    → Leads lists t e
leads_turned lists turned w e t (at_once one) = at_once ((w.leads t e).1 one)
leads_turned lists turned w e t (onward {between = b} d one) =
    leads_on (at_once ((w.leads t b).1 one)) (leads_turned lists turned w e b d)

-- ---- the marks

get_set_same : (xs : List Bool) (i : ℕ) (b : Bool) → i < length xs → slice_get (set xs i b) i ≡ Some b
get_set_same [] i b h = absurd (omega arith)
get_set_same (x ∷ xs) zero b h = refl
get_set_same (x ∷ xs) (suc i) b h = get_set_same xs i b (omega arith)

get_set_other : (xs : List Bool) (i j : ℕ) (b : Bool) → (j ≡ i → ⊥) → slice_get (set xs i b) j ≡ slice_get xs j
get_set_other [] i j b h = refl
get_set_other (x ∷ xs) zero zero b h = absurd (h refl)
get_set_other (x ∷ xs) zero (suc j) b h = refl
get_set_other (x ∷ xs) (suc i) zero b h = refl
get_set_other (x ∷ xs) (suc i) (suc j) b h = get_set_other xs i j b (λ e. h (ap suc e))

-- an element is led to, in a graph, by one that stands in the order at some place or behind it
pub record IsLedTo (lists : List (List ℕ)) (order : List ℕ) (low e : ℕ) : Type 0 where
  pub place : ℕ
  pub from : ℕ
  pub stands : slice_get order place ≡ Some from
  pub within : low ≤ place
  pub leads : Leads lists from e

-- the order was gone through from its end down to a place
pub record IsSwept (lists turned : List (List ℕ)) (order : List ℕ) (low : ℕ) (cyclic marks : List Bool) : Type 0 where
  pub marks_size : length marks ≡ length turned
  pub size : length cyclic ≡ length lists
  pub marked : (e : ℕ) → IsMarked marks e ↔ IsLedTo turned order low e
  pub told : (k e : ℕ) → low ≤ k → slice_get order k ≡ Some e → IsMarked cyclic e ↔ IsLedTo turned order k e

pub none_swept : (lists turned : List (List ℕ)) (order : List ℕ) (low n : ℕ) → low ≡ length order
    → n ≡ length lists → length turned ≡ length lists
    → IsSwept lists turned order low (replicate n false) (replicate n false)
none_swept lists turned order low n all count same = record {
  marks_size = (let l = length-replicate n false in omega arith);
  size = length-replicate n false ∙ count;
  marked = λ e. (
    (λ h. none_marked n e h),
    (λ h. absurd (let w = slice_get_within order h.place h.from h.stands in let l = h.within in omega arith)),
  );
  told = λ k e l at. absurd (let w = slice_get_within order k e at in omega arith);
}

pub swept_closed : (lists turned : List (List ℕ)) (order : List ℕ) (low : ℕ) (cyclic marks : List Bool)
    → IsSwept lists turned order low cyclic marks → IsClosed turned marks
swept_closed lists turned order low cyclic marks w e t h one =
    let led = (w.marked e).0 h in
    (w.marked t).1 (record {
      place = led.place;
      from = led.from;
      stands = led.stands;
      within = led.within;
      leads = onward led.leads one;
    })

module _ (lists turned : List (List ℕ)) (order : List ℕ) (finishing : IsFinishing lists order) (low r : ℕ)
    (at : slice_get order low ≡ Some r) (cyclic marks after : List Bool) (b : Bool)
    (size : length after ≡ length marks)
    (m : (e : ℕ) → IsMarked after e ↔ (IsMarked marks e ⊎ Leads turned r e))
    (is : (b ≡ true) ↔ IsMarked after r)
    (w : IsSwept lists turned order (low + 1) cyclic marks) where
  led_now : (e : ℕ) → IsMarked marks e ⊎ Leads turned r e → IsLedTo turned order low e
  led_now e (inl h) =
      let led = (w.marked e).0 h in
      record {
        place = led.place;
        from = led.from;
        stands = led.stands;
        within = (let l = led.within in omega arith);
        leads = led.leads;
      }
  led_now e (inr d) = record { place = low; from = r; stands = at; within = omega arith; leads = d }

  marked_now : (e : ℕ) (led : IsLedTo turned order low e) → (low < led.place) ⊎ (led.place ≤ low) → IsMarked after e
  marked_now e led (inl less) =
      (m e).1 (inl ((w.marked e).1 (record {
        place = led.place;
        from = led.from;
        stands = led.stands;
        within = omega arith;
        leads = led.leads;
      })))
  marked_now e led (inr more) =
      let same : led.place ≡ low = (let l = led.within in omega arith) in
      let it : led.from ≡ r = same_there order low led.from r
      (subst (λ n. slice_get order n ≡ Some led.from) same led.stands) at in
      (m e).1 (inr (subst (λ x. Leads turned x e) it led.leads))

  now_marked : (e : ℕ) → IsMarked after e ↔ IsLedTo turned order low e
  now_marked e = ((λ h. led_now e ((m e).0 h)), (λ led. marked_now e led (cases_lt low led.place)))

  here_set : slice_get (set cyclic r b) r ≡ Some b
  here_set = get_set_same cyclic r b (let e = finishing.elements low r at in let s = w.size in omega arith)

  told_here : IsMarked (set cyclic r b) r ↔ IsLedTo turned order low r
  told_here = (
    (λ h. (now_marked r).0 (is.0 (same_Some b true (sym here_set ∙ h)))),
    (λ led. here_set ∙ ap Some (is.1 ((now_marked r).1 led))),
  )

  told_now : (k e : ℕ) → (low < k) ⊎ (k ≤ low) → low ≤ k → slice_get order k ≡ Some e
      → IsMarked (set cyclic r b) e ↔ IsLedTo turned order k e
  told_now k e (inl less) within there =
      let apart : e ≡ r → ⊥ = (λ s. let j = finishing.once k low r
      (subst (λ x. slice_get order k ≡ Some x) s there) at in omega arith) in
      let same = get_set_other cyclic r e b apart in
      let told = w.told k e (omega arith) there in
      ((λ h. told.0 (sym same ∙ h)), (λ led. same ∙ told.1 led))
  told_now k e (inr more) within there =
      let same : low ≡ k = omega arith in
      let it : r ≡ e = same_there order k r e (subst (λ n. slice_get order n ≡ Some r) same at) there in
      subst (λ n. IsMarked (set cyclic r b) e ↔ IsLedTo turned order n e) same
      (subst (λ x. IsMarked (set cyclic r b) x ↔ IsLedTo turned order low x) it told_here)

  pub one_swept : IsSwept lists turned order low (set cyclic r b) after
  one_swept = record {
    marks_size = size ∙ w.marks_size;
    size = length-set cyclic r b ∙ w.size;
    marked = now_marked;
    told = λ k e l there. told_now k e (cases_lt low k) l there;
  }

pub all_swept : (lists turned : List (List ℕ)) (order : List ℕ) (cyclic marks : List Bool)
    → IsFinishing lists order → IsTurned lists turned → IsSwept lists turned order 0 cyclic marks
    → MarkCycles lists cyclic
all_swept lists turned order cyclic marks finishing turning w = record {
  size = w.size;
  leads = λ e h.
      let stood = finishing.every e (let i = slice_get_within cyclic e true h in let s = w.size in omega arith) in
      let led = (w.told stood.0 e (omega arith) stood.1).0 h in
      leads_back lists order finishing stood.0 e stood.1 led.from
      (leads_turned lists turned turning led.from e led.leads)
      led.place led.stands led.within;
  marked = λ e d.
      let stood = finishing.every e (target_within d) in
      (w.told stood.0 e (omega arith) stood.1).1 (record {
        place = stood.0;
        from = e;
        stands = stood.1;
        within = omega arith;
        leads = turned_leads lists turned turning e e d;
      });
}
