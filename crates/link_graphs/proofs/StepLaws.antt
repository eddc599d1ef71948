-- A search in depth goes on to one more target, and begins with an element.
use Rattle.std.proofs.Common.{◌≡◌, ℕ, ◌+◌, ◌<◌, ◌≤◌, ◌⊎◌, List, [], ◌∷◌, ◌++◌, Bool, true, false, Some}
use Rattle.std.proofs.Common.{length, set, length-set, refl, sym, ap, ◌∙◌, inl, inr, subst, arith}
use Rattle.std.specs.List.{slice_get}
use Rattle.std.proofs.lemmas.Bool.{cases_lt}
use Rattle.std.proofs.lemmas.List.{length_push}
use Rattle.std.proofs.lemmas.Option.{slice_get_within}
use Rattle.link_graphs.specs.declared.walking.Visit.{Visit}
use Rattle.link_graphs.specs.Leading.{LeadsAtOnce, Reaches, targets_of}
use Rattle.link_graphs.specs.Finishing.{StandsBack}
use Rattle.link_graphs.specs.Walking.{IsVisited, IsFinished, IsAbove, IsSearch, HaveLooked, IsWalk}
use Rattle.link_graphs.proofs.PlaceLaws.{get_before, get_last, IsPushed, get_push, nothing_there, same_there}
use Rattle.link_graphs.proofs.PlaceLaws.{stays_marked, is_marked, was_marked, not_both, one_of_both}
use Rattle.link_graphs.proofs.LeadingLaws.{reaches_on}

-- ---- one more target was looked at

module _ (lists : List (List ℕ)) (finished : List ℕ) (below : List Visit) (v z : Visit) (reached : List Bool)
    (same : v.element ≡ z.element) (w : IsSearch lists finished (below ++ v ∷ []) reached) where
  -- what stands at a place with another visit of the same element
  Former : ℕ → Visit → Type 0
  Former k u = (x : Visit) × (slice_get (below ++ v ∷ []) k ≡ Some x) × (x.element ≡ u.element)

  former : (k : ℕ) (u : Visit) → IsPushed below z k u → Former k u
  unfolding Former
  former k u (inl h) = (u, get_before below (v ∷ []) k u h, refl)
  former k u (inr h) = (
    v,
    subst (λ n. slice_get (below ++ v ∷ []) n ≡ Some v) (sym h.0) (get_last below v),
    same ∙ ap (λ (x : Visit). x.element) h.1,
  )

  look_back : (k : ℕ) (u : Visit) → slice_get (below ++ z ∷ []) k ≡ Some u → Former k u
  look_back k u h = former k u (get_push below z k u h)

  now_visited : (e : ℕ) (at : IsVisited (below ++ v ∷ []) e) → IsPushed below v at.place at.visit
      → IsVisited (below ++ z ∷ []) e
  now_visited e at (inl h) = record {
    place = at.place;
    visit = at.visit;
    stands = get_before below (z ∷ []) at.place at.visit h;
    is = at.is;
  }
  now_visited e at (inr h) = record {
    place = length below;
    visit = z;
    stands = get_last below z;
    is = sym same ∙ ap (λ (x : Visit). x.element) h.1 ∙ at.is;
  }

  visited_now : (e : ℕ) → IsVisited (below ++ v ∷ []) e → IsVisited (below ++ z ∷ []) e
  visited_now e at = now_visited e at (get_push below v at.place at.visit at.stands)

  placed_now : (e : ℕ) → IsFinished finished e ⊎ IsVisited (below ++ v ∷ []) e
      → IsFinished finished e ⊎ IsVisited (below ++ z ∷ []) e
  placed_now e (inl h) = inl h
  placed_now e (inr at) = inr (visited_now e at)

  back_now : (low t : ℕ) → StandsBack lists finished low t ⊎ IsAbove lists finished (below ++ v ∷ []) low t
      → StandsBack lists finished low t ⊎ IsAbove lists finished (below ++ z ∷ []) low t
  back_now low t (inl back) = inl back
  back_now low t (inr above) =
      inr (record { visited = visited_now t above.visited; reaches = above.reaches })

  chained : (v₁ v₂ x₁ x₂ : Visit) → x₁.element ≡ v₁.element → x₂.element ≡ v₂.element
      → Reaches lists x₁.element x₂.element → Reaches lists v₁.element v₂.element
  chained v₁ v₂ x₁ x₂ e f r =
      subst (λ x. Reaches lists x v₂.element) e (subst (λ x. Reaches lists x₁.element x) f r)

  pub search_look : IsSearch lists finished (below ++ z ∷ []) reached
  unfolding Former
  search_look = record {
    size = w.size;
    finished_reached = w.finished_reached;
    visited_reached = λ k u h.
        let f = look_back k u h in
        subst (λ x. slice_get reached x ≡ Some true) f.2 (w.visited_reached k f.0 f.1);
    placed = λ e h. placed_now e (w.placed e h);
    once = w.once;
    apart = λ j k u h i.
        let f = look_back k u i in
        w.apart j k f.0 (subst (λ x. slice_get finished j ≡ Some x) (sym f.2) h) f.1;
    visited_once = λ j k u x h i s.
        let f = look_back j u h in
        let g = look_back k x i in
        w.visited_once j k f.0 g.0 f.1 g.1 (f.2 ∙ s ∙ sym g.2);
    chain = λ j k u x h i le.
        let f = look_back j u h in
        let g = look_back k x i in
        chained u x f.0 g.0 f.2 g.2 (w.chain j k f.0 g.0 f.1 g.1 le);
    back = λ k e t h one. back_now k t (w.back k e t h one);
  }

module _ (lists : List (List ℕ)) (below : List Visit) (v z : Visit) (before after : List Bool)
    (same : v.element ≡ z.element) (more : z.looked ≡ v.looked + 1)
    (w : HaveLooked lists (below ++ v ∷ []) before)
    (stays : (e : ℕ) → slice_get before e ≡ Some true → slice_get after e ≡ Some true)
    (got : (t : ℕ) → slice_get (targets_of lists v.element) v.looked ≡ Some t → t < length lists
    → slice_get after t ≡ Some true) where
  looked_top : (u : Visit) → z ≡ u → (place t : ℕ) → place < u.looked
      → slice_get (targets_of lists u.element) place ≡ Some t → t < length lists → slice_get after t ≡ Some true
  looked_top u is place t less stands within =
      by (cases_lt place v.looked)
    where
      mine : slice_get (targets_of lists v.element) place ≡ Some t
      mine =
          subst (λ e. slice_get (targets_of lists e) place ≡ Some t)
          (sym (same ∙ ap (λ (x : Visit). x.element) is)) stands

      count : u.looked ≡ v.looked + 1
      count = sym (ap (λ (x : Visit). x.looked) is) ∙ more

      by : (place < v.looked) ⊎ (v.looked ≤ place) → slice_get after t ≡ Some true
      by (inl h) = stays t (w (length below) v (get_last below v) place t h mine within)
      by (inr h) =
          let here : place ≡ v.looked = (let c = count in omega arith) in
          got t (subst (λ n. slice_get (targets_of lists v.element) n ≡ Some t) here mine) within

  looked_at : (k : ℕ) (u : Visit) → IsPushed below z k u → (place t : ℕ) → place < u.looked
      → slice_get (targets_of lists u.element) place ≡ Some t → t < length lists → slice_get after t ≡ Some true
  looked_at k u (inl h) place t less stands within =
      stays t (w k u (get_before below (v ∷ []) k u h) place t less stands within)
  looked_at k u (inr h) place t less stands within = looked_top u h.1 place t less stands within

  pub looked_more : HaveLooked lists (below ++ z ∷ []) after
  looked_more k u h = looked_at k u (get_push below z k u h)

-- ---- an element is begun

module _ (lists : List (List ℕ)) (finished : List ℕ) (visits : List Visit) (reached : List Bool) (t : ℕ) (z : Visit)
    (is : z.element ≡ t) (fresh : slice_get reached t ≡ Some false)
    (led : (k : ℕ) (u : Visit) → slice_get visits k ≡ Some u → Reaches lists u.element t)
    (w : IsSearch lists finished visits reached) where
  set_stays : (e : ℕ) → slice_get reached e ≡ Some true → slice_get (set reached t true) e ≡ Some true
  set_stays e h = stays_marked reached t e h

  now_marked : slice_get (set reached t true) t ≡ Some true
  now_marked = is_marked reached t (slice_get_within reached t false fresh)

  begun_reached : (k : ℕ) (u : Visit) → IsPushed visits z k u → slice_get (set reached t true) u.element ≡ Some true
  begun_reached k u (inl h) = set_stays u.element (w.visited_reached k u h)
  begun_reached k u (inr h) =
      subst (λ e. slice_get (set reached t true) e ≡ Some true)
      (sym is ∙ ap (λ (x : Visit). x.element) h.1) now_marked

  begun_visited : (e : ℕ) → IsVisited visits e → IsVisited (visits ++ z ∷ []) e
  begun_visited e at = record {
    place = at.place;
    visit = at.visit;
    stands = get_before visits (z ∷ []) at.place at.visit at.stands;
    is = at.is;
  }

  begun_old : (e : ℕ) → IsFinished finished e ⊎ IsVisited visits e
      → IsFinished finished e ⊎ IsVisited (visits ++ z ∷ []) e
  begun_old e (inl h) = inl h
  begun_old e (inr at) = inr (begun_visited e at)

  begun_placed : (e : ℕ) → (slice_get reached e ≡ Some true) ⊎ (e ≡ t)
      → IsFinished finished e ⊎ IsVisited (visits ++ z ∷ []) e
  begun_placed e (inl h) = begun_old e (w.placed e h)
  begun_placed e (inr h) =
      inr (record { place = length visits; visit = z; stands = get_last visits z; is = is ∙ sym h })

  begun_apart : (j k : ℕ) (u : Visit) → slice_get finished j ≡ Some u.element → IsPushed visits z k u → ⊥
  begun_apart j k u h (inl i) = w.apart j k u h i
  begun_apart j k u h (inr i) =
      not_both reached t fresh (w.finished_reached j t (subst (λ e. slice_get finished j ≡ Some e)
      (sym (ap (λ (x : Visit). x.element) i.1) ∙ is) h))

  no_visit : {P : Type 0} (k : ℕ) (u : Visit) → slice_get visits k ≡ Some u → u.element ≡ t → P
  no_visit k u h e =
      not_both reached t fresh (subst (λ x. slice_get reached x ≡ Some true) e (w.visited_reached k u h))

  element_is : (u : Visit) → z ≡ u → u.element ≡ t
  element_is u h = sym (ap (λ (x : Visit). x.element) h) ∙ is

  begun_once : (j k : ℕ) (u x : Visit) → IsPushed visits z j u → IsPushed visits z k x → u.element ≡ x.element → j ≡ k
  begun_once j k u x (inl h) (inl i) same = w.visited_once j k u x h i same
  begun_once j k u x (inl h) (inr i) same = no_visit j u h (same ∙ element_is x i.1)
  begun_once j k u x (inr h) (inl i) same = no_visit k x i (sym same ∙ element_is u h.1)
  begun_once j k u x (inr h) (inr i) same = h.0 ∙ sym i.0

  begun_chain : (j k : ℕ) (u x : Visit) → IsPushed visits z j u → IsPushed visits z k x → j ≤ k
      → Reaches lists u.element x.element
  begun_chain j k u x (inl h) (inl i) le = w.chain j k u x h i le
  begun_chain j k u x (inl h) (inr i) le = subst (λ e. Reaches lists u.element e) (sym (element_is x i.1)) (led j u h)
  begun_chain j k u x (inr h) (inl i) le =
      let within = slice_get_within visits k x i in absurd (let e = h.0 in omega arith)
  begun_chain j k u x (inr h) (inr i) le = inl (element_is u h.1 ∙ sym (element_is x i.1))

  begun_back : (low e : ℕ) → StandsBack lists finished low e ⊎ IsAbove lists finished visits low e
      → StandsBack lists finished low e ⊎ IsAbove lists finished (visits ++ z ∷ []) low e
  begun_back low e (inl back) = inl back
  begun_back low e (inr above) = inr (record { visited = begun_visited e above.visited; reaches = above.reaches })

  pub search_begin : IsSearch lists finished (visits ++ z ∷ []) (set reached t true)
  search_begin = record {
    size = length-set reached t true ∙ w.size;
    finished_reached = λ k e h. set_stays e (w.finished_reached k e h);
    visited_reached = λ k u h. begun_reached k u (get_push visits z k u h);
    placed = λ e h. begun_placed e (was_marked reached t e h);
    once = w.once;
    apart = λ j k u h i. begun_apart j k u h (get_push visits z k u i);
    visited_once = λ j k u x h i. begun_once j k u x (get_push visits z j u h) (get_push visits z k x i);
    chain = λ j k u x h i. begun_chain j k u x (get_push visits z j u h) (get_push visits z k x i);
    back = λ k e o h one. begun_back k o (w.back k e o h one);
  }

none_looked : (lists : List (List ℕ)) (visits : List Visit) (z : Visit) (reached : List Bool)
    → z.looked ≡ 0 → HaveLooked lists visits reached → (k : ℕ) (u : Visit) → IsPushed visits z k u → (place t : ℕ)
    → place < u.looked → slice_get (targets_of lists u.element) place ≡ Some t → t < length lists
    → slice_get reached t ≡ Some true
none_looked lists visits z reached start w k u (inl h) = w k u h
none_looked lists visits z reached start w k u (inr h) =
    λ place t less. let e = sym (ap (λ (x : Visit). x.looked) h.1) ∙ start in absurd (omega arith)

pub looked_begin : (lists : List (List ℕ)) (visits : List Visit) (z : Visit) (reached : List Bool)
    → z.looked ≡ 0 → HaveLooked lists visits reached → HaveLooked lists (visits ++ z ∷ []) reached
looked_begin lists visits z reached start w k u h =
    none_looked lists visits z reached start w k u (get_push visits z k u h)

-- ---- a step to the next target

pub walk_reached : (lists : List (List ℕ)) (finished : List ℕ) (below : List Visit) (v z : Visit) (reached : List Bool)
    (t : ℕ) → v.element ≡ z.element → z.looked ≡ v.looked + 1
    → slice_get (targets_of lists v.element) v.looked ≡ Some t → (slice_get reached t ≡ Some false → ⊥)
    → IsWalk lists finished (below ++ v ∷ []) reached → IsWalk lists finished (below ++ z ∷ []) reached
walk_reached lists finished below v z reached t same more is other w = record {
  search = search_look lists finished below v z reached same w.search;
  looked = looked_more lists below v z reached reached same more w.looked (λ e h. h)
      (λ u stands within. subst (λ x. slice_get reached x ≡ Some true)
      (same_there (targets_of lists v.element) v.looked t u is stands)
      (one_of_both reached t (let s = w.search.size in
      let e : t ≡ u = same_there (targets_of lists v.element) v.looked t u is stands in omega arith) other));
}

pub walk_fresh : (lists : List (List ℕ)) (finished : List ℕ) (below : List Visit) (v z y : Visit) (reached : List Bool)
    (t : ℕ) → v.element ≡ z.element → z.looked ≡ v.looked + 1 → y.element ≡ t → y.looked ≡ 0
    → slice_get (targets_of lists v.element) v.looked ≡ Some t → slice_get reached t ≡ Some false
    → IsWalk lists finished (below ++ v ∷ []) reached
    → IsWalk lists finished ((below ++ z ∷ []) ++ y ∷ []) (set reached t true)
walk_fresh lists finished below v z y reached t same more here start is fresh w = record {
  search = search_begin lists finished (below ++ z ∷ []) reached t y here fresh led seen_more;
  looked = looked_begin lists (below ++ z ∷ []) y (set reached t true) start
      (looked_more lists below v z reached (set reached t true) same more w.looked (λ e h. stays_marked reached t e h)
      (λ u stands _. subst (λ x. slice_get (set reached t true) x ≡ Some true)
      (same_there (targets_of lists v.element) v.looked t u is stands) (is_marked reached t inside)));
}
  where
    seen_more : IsSearch lists finished (below ++ z ∷ []) reached
    seen_more = search_look lists finished below v z reached same w.search

    inside : t < length reached
    inside = slice_get_within reached t false fresh

    one : LeadsAtOnce lists z.element t
    one = record {
      place = v.looked;
      stands = subst (λ e. slice_get (targets_of lists e) v.looked ≡ Some t) same is;
      within = let s = w.search.size in let i = inside in omega arith;
    }

    led : (k : ℕ) (u : Visit) → slice_get (below ++ z ∷ []) k ≡ Some u → Reaches lists u.element t
    led k u h = reaches_on (seen_more.chain k (length below) u z h (get_last below z) (within k u h)) one
      where
        within : (k : ℕ) (u : Visit) → slice_get (below ++ z ∷ []) k ≡ Some u → k ≤ length below
        within k u h =
            let l = slice_get_within (below ++ z ∷ []) k u h in
            let m = length_push below z in omega arith

pub walk_start : (lists : List (List ℕ)) (finished : List ℕ) (z : Visit) (reached : List Bool) (t : ℕ)
    → z.element ≡ t → z.looked ≡ 0 → slice_get reached t ≡ Some false → IsWalk lists finished [] reached
    → IsWalk lists finished (z ∷ []) (set reached t true)
walk_start lists finished z reached t here start fresh w = record {
  search = search_begin lists finished [] reached t z here fresh (λ k u h. nothing_there k u h) w.search;
  looked = looked_begin lists [] z (set reached t true) start (λ k u h. nothing_there k u h);
}
