-- Marks of all elements to which an element leads, step by step.
use Rattle.std.proofs.Common.{◌≡◌, ℕ, suc, zero, ◌+◌, ◌<◌, ◌≤◌, ◌⊎◌, ◌↔◌, List, [], ◌∷◌, ◌++◌, Bool, true, false, None}
use Rattle.std.proofs.Common.{Some}
use Rattle.std.proofs.Common.{length, set, length-set, refl, sym, ◌∙◌, inl, inr, subst, arith}
use Rattle.std.specs.List.{slice_get}
use Rattle.std.proofs.lemmas.Bool.{cases_lt}
use Rattle.std.proofs.lemmas.List.{length_push}
use Rattle.std.proofs.lemmas.Option.{slice_get_within}
use Rattle.link_graphs.specs.Leading.{LeadsAtOnce, Leads, targets_of}
use Rattle.link_graphs.specs.Leading.Leads.{at_once, onward}
use Rattle.link_graphs.specs.Marking.{IsClosed, IsIt, IsListed, IsMarked, IsTarget, IsTargetBefore, MarksSome}
use Rattle.link_graphs.specs.Marking.{unmarked}
use Rattle.link_graphs.proofs.PlaceLaws.{get_before, get_last, IsPushed, get_push, nothing_there, same_there}
use Rattle.link_graphs.proofs.PlaceLaws.{stays_marked, is_marked, was_marked, past_there}
use Rattle.link_graphs.proofs.TurnLaws.{leads_to, target_to}

one_marked : (marks : List Bool) (e : ℕ) → slice_get marks e ≡ Some false
    → unmarked (set marks e true) + 1 ≡ unmarked marks
one_marked [] e h = absurd (cc)
one_marked (true ∷ marks) zero h = absurd (cc)
one_marked (false ∷ marks) zero h = omega arith
one_marked (true ∷ marks) (suc e) h = one_marked marks e h
one_marked (false ∷ marks) (suc e) h = let r = one_marked marks e h in omega arith

-- ---- nothing is marked, or one element

pub marks_same : (marks : List Bool) (found : List ℕ) (P : ℕ → Type 0)
    → ((e : ℕ) → P e → e < length marks → IsMarked marks e) → MarksSome P marks marks found found
marks_same marks found P all = record {
  size = refl;
  stays = λ e h. h;
  marked = all;
  anew = λ e h. inl h;
  kept = λ e h. h;
  found = λ e h. inl h;
  fewer = omega arith;
}

pub marks_one : (marks : List Bool) (found : List ℕ) (element : ℕ) → slice_get marks element ≡ Some false
    → MarksSome (IsIt element) marks (set marks element true) found (found ++ element ∷ [])
marks_one marks found element fresh = record {
  size = length-set marks element true;
  stays = λ e h. stays_marked marks element e h;
  marked = λ e is less. subst (λ x. IsMarked (set marks element true) x) (sym is) here;
  anew = λ e h. anew e (was_marked marks element e h);
  kept = λ e h. (h.0, get_before found (element ∷ []) h.0 e h.1);
  found = λ e h. listed e h.0 (get_push found element h.0 e h.1);
  fewer = let l = length_push found element in let m = one_marked marks element fresh in omega arith;
}
  where
    here : IsMarked (set marks element true) element
    here = is_marked marks element (slice_get_within marks element false fresh)

    anew : (e : ℕ) → IsMarked marks e ⊎ (e ≡ element)
        → IsMarked marks e ⊎ (IsIt element e × IsListed (found ++ element ∷ []) e)
    anew e (inl h) = inl h
    anew e (inr h) = inr (
      h,
      (
        length found,
        subst (λ x. slice_get (found ++ element ∷ []) (length found) ≡ Some x)
            (sym h) (get_last found element),
      ),
    )

    listed : (e k : ℕ) → IsPushed found element k e → IsListed found e ⊎ IsMarked (set marks element true) e
    listed e k (inl h) = inl (k, h)
    listed e k (inr h) = inr (subst (λ x. IsMarked (set marks element true) x) h.1 here)

-- ---- one after the other

module _ (P Q R : ℕ → Type 0) (all : (e : ℕ) → R e → P e ⊎ Q e) (one : (e : ℕ) → P e → R e) (two : (e : ℕ) → Q e → R e)
    (first middle last : List Bool) (found₁ found₂ found₃ : List ℕ)
    (m : MarksSome P first middle found₁ found₂) (n : MarksSome Q middle last found₂ found₃) where
  both_marked : (e : ℕ) → P e ⊎ Q e → e < length first → IsMarked last e
  both_marked e (inl h) less = n.stays e (m.marked e h less)
  both_marked e (inr h) less = n.marked e h (let s = m.size in omega arith)

  both_first : (e : ℕ) → IsMarked first e ⊎ (P e × IsListed found₂ e) → IsMarked first e ⊎ (R e × IsListed found₃ e)
  both_first e (inl h) = inl h
  both_first e (inr h) = inr (one e h.0, n.kept e h.1)

  both_anew : (e : ℕ) → IsMarked middle e ⊎ (Q e × IsListed found₃ e) → IsMarked first e ⊎ (R e × IsListed found₃ e)
  both_anew e (inl h) = both_first e (m.anew e h)
  both_anew e (inr h) = inr (two e h.0, h.1)

  both_before : (e : ℕ) → IsListed found₁ e ⊎ IsMarked middle e → IsListed found₁ e ⊎ IsMarked last e
  both_before e (inl h) = inl h
  both_before e (inr h) = inr (n.stays e h)

  both_found : (e : ℕ) → IsListed found₂ e ⊎ IsMarked last e → IsListed found₁ e ⊎ IsMarked last e
  both_found e (inl h) = both_before e (m.found e h)
  both_found e (inr h) = inr h

  pub marks_both : MarksSome R first last found₁ found₃
  marks_both = record {
    size = n.size ∙ m.size;
    stays = λ e h. n.stays e (m.stays e h);
    marked = λ e h less. both_marked e (all e h) less;
    anew = λ e h. both_anew e (n.anew e h);
    kept = λ e h. n.kept e (m.kept e h);
    found = λ e h. both_found e (n.found e h);
    fewer = let a = m.fewer in let b = n.fewer in omega arith;
  }

-- ---- the targets of an element

module _ (lists : List (List ℕ)) (element place t : ℕ) (is : slice_get (targets_of lists element) place ≡ Some t) where
  last_or_before : (e : ℕ) → IsTargetBefore lists element (place + 1) e
      → IsTargetBefore lists element place e ⊎ IsIt t e
  last_or_before e h = by (cases_lt h.0 place)
    where
      by : (h.0 < place) ⊎ (place ≤ h.0) → IsTargetBefore lists element place e ⊎ IsIt t e
      by (inl i) = inl (h.0, i, h.2)
      by (inr i) =
          let same : h.0 ≡ place = (let l = h.1 in omega arith) in
          inr (same_there (targets_of lists element) place e t
          (subst (λ n. slice_get (targets_of lists element) n ≡ Some e) same h.2) is)

  before_more : (e : ℕ) → IsTargetBefore lists element place e → IsTargetBefore lists element (place + 1) e
  before_more e h = (h.0, (let l = h.1 in omega arith), h.2)

  it_more : (e : ℕ) → IsIt t e → IsTargetBefore lists element (place + 1) e
  it_more e h = (place, omega arith, subst (λ x. slice_get (targets_of lists element) place ≡ Some x) (sym h) is)

  pub target_more : (first middle last : List Bool) (found₁ found₂ found₃ : List ℕ)
      → MarksSome (IsTargetBefore lists element place) first middle found₁ found₂
      → MarksSome (IsIt t) middle last found₂ found₃
      → MarksSome (IsTargetBefore lists element (place + 1)) first last found₁ found₃
  target_more first middle last found₁ found₂ found₃ m n =
      marks_both (IsTargetBefore lists element place) (IsIt t) (IsTargetBefore lists element (place + 1))
      last_or_before before_more it_more first middle last found₁ found₂ found₃ m n

pub all_targets : (lists : List (List ℕ)) (element place : ℕ) (first last : List Bool) (found₁ found₂ : List ℕ)
    → slice_get (targets_of lists element) place ≡ None
    → MarksSome (IsTargetBefore lists element place) first last found₁ found₂
    → MarksSome (IsTarget lists element) first last found₁ found₂
all_targets lists element place first last found₁ found₂ none m = record {
  size = m.size;
  stays = m.stays;
  marked = λ e h less.
      m.marked e (h.0, past_there (targets_of lists element) place h.0 e none h.1, h.1) less;
  anew = λ e h. anew e (m.anew e h);
  kept = m.kept;
  found = m.found;
  fewer = m.fewer;
}
  where
    anew : (e : ℕ) → IsMarked first e ⊎ (IsTargetBefore lists element place e × IsListed found₂ e)
        → IsMarked first e ⊎ (IsTarget lists element e × IsListed found₂ e)
    anew e (inl h) = inl h
    anew e (inr h) = inr ((h.0.0, h.0.2), h.1)

-- ---- all to which an element leads

-- in the midst: what is marked anew is led to, and whatever a marked element leads to is marked, or that one was found
pub record IsSpreading (lists : List (List ℕ)) (element : ℕ) (before marks : List Bool) (found : List ℕ)
    : Type 0 where
  pub size : length marks ≡ length before
  pub stays : (e : ℕ) → IsMarked before e → IsMarked marks e
  pub sound : (e : ℕ) → IsMarked marks e → IsMarked before e ⊎ Leads lists element e
  pub first : (e : ℕ) → LeadsAtOnce lists element e → IsMarked marks e
  pub onward : (e t : ℕ) → IsMarked marks e → LeadsAtOnce lists e t → IsMarked marks t ⊎ IsListed found e
  pub listed : (e : ℕ) → IsListed found e → IsMarked marks e

module _ (lists : List (List ℕ)) (element : ℕ) (before : List Bool) (size : length before ≡ length lists) where
  module _ (marks : List Bool) (found : List ℕ) (closed : IsClosed lists before)
      (m : MarksSome (IsTarget lists element) before marks [] found) where
    began_sound : (e : ℕ) → IsMarked marks e → IsMarked before e ⊎ (IsTarget lists element e × IsListed found e)
        → IsMarked before e ⊎ Leads lists element e
    began_sound e is (inl h) = inl h
    began_sound e is (inr h) =
        inr (at_once (leads_to lists element e h.0
        (let w = slice_get_within marks e true is in let s = m.size in let z = size in omega arith)))

    began_onward : (e t : ℕ) → IsMarked before e ⊎ (IsTarget lists element e × IsListed found e)
        → LeadsAtOnce lists e t → IsMarked marks t ⊎ IsListed found e
    began_onward e t (inl h) one = inl (m.stays t (closed e t h one))
    began_onward e t (inr h) one = inr h.1

    began_found : (e : ℕ) → IsListed [] e ⊎ IsMarked marks e → IsMarked marks e
    began_found e (inl h) = nothing_there h.0 e h.1
    began_found e (inr h) = h

    pub spread_begins : IsSpreading lists element before marks found
    spread_begins = record {
      size = m.size;
      stays = m.stays;
      sound = λ e h. began_sound e h (m.anew e h);
      first = λ e one. m.marked e (target_to lists element e one) (let w = one.within in let z = size in omega arith);
      onward = λ e t h one. began_onward e t (m.anew e h) one;
      listed = λ e h. began_found e (m.found e h);
    }

  module _ (marks after : List Bool) (below found : List ℕ) (next : ℕ)
      (w : IsSpreading lists element before marks (below ++ next ∷ []))
      (m : MarksSome (IsTarget lists next) marks after below found) where
    by_next : (e : ℕ) → IsMarked before next ⊎ Leads lists element next → LeadsAtOnce lists next e
        → IsClosed lists before → IsMarked before e ⊎ Leads lists element e
    by_next e (inl h) one closed = inl (closed next e h one)
    by_next e (inr d) one closed = inr (onward d one)

    next_marked : IsMarked marks next
    next_marked = w.listed next (length below, get_last below next)

    more_sound : IsClosed lists before → (e : ℕ) → IsMarked after e
        → IsMarked marks e ⊎ (IsTarget lists next e × IsListed found e)
        → IsMarked before e ⊎ Leads lists element e
    more_sound closed e is (inl h) = w.sound e h
    more_sound closed e is (inr h) =
        by_next e (w.sound next next_marked)
        (leads_to lists next e h.0 (let i = slice_get_within after e true is in
        let s = m.size in let t = w.size in let z = size in omega arith)) closed

    more_listed : (e t k : ℕ) → IsPushed below next k e → LeadsAtOnce lists e t → IsMarked after t ⊎ IsListed found e
    more_listed e t k (inl h) one = inr (m.kept e (k, h))
    more_listed e t k (inr h) one =
        let mine : LeadsAtOnce lists next t = subst (λ x. LeadsAtOnce lists x t) (sym h.1) one in
        inl (m.marked t (target_to lists next t mine)
        (let i = mine.within in let s = w.size in let z = size in omega arith))

    more_old : (e t : ℕ) → IsMarked marks t ⊎ IsListed (below ++ next ∷ []) e → LeadsAtOnce lists e t
        → IsMarked after t ⊎ IsListed found e
    more_old e t (inl h) one = inl (m.stays t h)
    more_old e t (inr h) one = more_listed e t h.0 (get_push below next h.0 e h.1) one

    more_onward : (e t : ℕ) → IsMarked marks e ⊎ (IsTarget lists next e × IsListed found e) → LeadsAtOnce lists e t
        → IsMarked after t ⊎ IsListed found e
    more_onward e t (inl h) one = more_old e t (w.onward e t h one) one
    more_onward e t (inr h) one = inr h.1

    more_found : (e : ℕ) → IsListed below e ⊎ IsMarked after e → IsMarked after e
    more_found e (inl h) = m.stays e (w.listed e (h.0, get_before below (next ∷ []) h.0 e h.1))
    more_found e (inr h) = h

    pub spread_more : IsClosed lists before → IsSpreading lists element before after found
    spread_more closed = record {
      size = m.size ∙ w.size;
      stays = λ e h. m.stays e (w.stays e h);
      sound = λ e h. more_sound closed e h (m.anew e h);
      first = λ e one. m.stays e (w.first e one);
      onward = λ e t h one. more_onward e t (m.anew e h) one;
      listed = λ e h. more_found e (m.found e h);
    }

  module _ (marks : List Bool) (w : IsSpreading lists element before marks []) where
    none_left : (e t : ℕ) → IsMarked marks t ⊎ IsListed [] e → IsMarked marks t
    none_left e t (inl h) = h
    none_left e t (inr h) = nothing_there h.0 e h.1

    led_marked : (e : ℕ) → Leads lists element e → IsMarked marks e
    led_marked e (at_once one) = w.first e one
    led_marked e (onward {between = b} d one) = none_left b e (w.onward b e (led_marked b d) one)

    either : (e : ℕ) → IsMarked before e ⊎ Leads lists element e → IsMarked marks e
    either e (inl h) = w.stays e h
    either e (inr d) = led_marked e d

    pub spread_ends : (e : ℕ) → IsMarked marks e ↔ (IsMarked before e ⊎ Leads lists element e)
    spread_ends e = (w.sound e, either e)
