-- A search in depth, step by step.
use Rattle.std.proofs.Common.{◌≡◌, ℕ, ◌<◌, ◌≤◌, ◌⊎◌, List, [], ◌∷◌, ◌++◌, Bool, true, None, Some}
use Rattle.std.proofs.Common.{length, sym, ap, ◌∙◌, inl, inr, subst, arith}
use Rattle.std.specs.List.{slice_get}
use Rattle.std.proofs.lemmas.Option.{slice_get_within}
use Rattle.link_graphs.specs.declared.walking.Visit.{Visit}
use Rattle.link_graphs.specs.Leading.{LeadsAtOnce, Reaches, targets_of}
use Rattle.link_graphs.specs.Finishing.{StandsBack, IsFinishing}
use Rattle.link_graphs.specs.Walking.{IsVisited, IsFinished, IsAbove, IsWalk}
use Rattle.link_graphs.proofs.PlaceLaws.{get_before, get_last, IsPushed, get_push, nothing_there}
use Rattle.link_graphs.proofs.PlaceLaws.{past_there}

-- ---- the beginning and the end

pub search_none : (lists : List (List ℕ)) (reached : List Bool) → length reached ≡ length lists
    → ((e : ℕ) → slice_get reached e ≡ Some true → ⊥) → IsWalk lists [] [] reached
search_none lists reached size none = record {
  search = record {
    size = size;
    finished_reached = λ k e h. nothing_there k e h;
    visited_reached = λ k v h. nothing_there k v h;
    placed = λ e h. absurd (none e h);
    once = λ j k e h i. nothing_there j e h;
    apart = λ j k v h i. nothing_there k v i;
    visited_once = λ j k v w h i s. nothing_there j v h;
    chain = λ j k v w h i le. nothing_there j v h;
    back = λ k e t h one. nothing_there k e h;
  };
  looked = λ k v h place t. nothing_there k v h;
}

not_visited : {P : Type 0} (e : ℕ) → IsVisited [] e → P
not_visited e at = nothing_there at.place at.visit at.stands

every_finished : (finished : List ℕ) (e : ℕ) → IsFinished finished e ⊎ IsVisited [] e → IsFinished finished e
every_finished finished e (inl there) = there
every_finished finished e (inr at) = not_visited e at

back_finished : (lists : List (List ℕ)) (finished : List ℕ) (k t : ℕ)
    → StandsBack lists finished k t ⊎ IsAbove lists finished [] k t → StandsBack lists finished k t
back_finished lists finished k t (inl there) = there
back_finished lists finished k t (inr at) = not_visited t at.visited

pub all_finished : (lists : List (List ℕ)) (finished : List ℕ) (reached : List Bool)
    → IsWalk lists finished [] reached → ((e : ℕ) → e < length lists → slice_get reached e ≡ Some true)
    → IsFinishing lists finished
all_finished lists finished reached w all = record {
  elements = λ k e h.
      let r = slice_get_within reached e true (w.search.finished_reached k e h) in
      let s = w.search.size in omega arith;
  every = λ e h. every_finished finished e (w.search.placed e (all e h));
  once = w.search.once;
  back = λ k e t h one. back_finished lists finished k t (w.search.back k e t h one);
}

-- ---- an element is finished

module _ (lists : List (List ℕ)) (finished : List ℕ) (below : List Visit) (v : Visit) (reached : List Bool)
    (w : IsWalk lists finished (below ++ v ∷ []) reached) where
  here : slice_get (below ++ v ∷ []) (length below) ≡ Some v
  here = get_last below v

  there : (k : ℕ) (u : Visit) → slice_get below k ≡ Some u → slice_get (below ++ v ∷ []) k ≡ Some u
  there k u h = get_before below (v ∷ []) k u h

  after : List ℕ
  after = finished ++ v.element ∷ []

  finished_after : (k e : ℕ) → IsPushed finished v.element k e → slice_get reached e ≡ Some true
  finished_after k e (inl h) = w.search.finished_reached k e h
  finished_after k e (inr h) =
      subst (λ x. slice_get reached x ≡ Some true) h.1 (w.search.visited_reached (length below) v here)

  placed_top : (e : ℕ) (at : IsVisited (below ++ v ∷ []) e) → IsPushed below v at.place at.visit
      → IsFinished (finished ++ v.element ∷ []) e ⊎ IsVisited below e
  placed_top e at (inl h) = inr (record { place = at.place; visit = at.visit; stands = h; is = at.is })
  placed_top e at (inr h) =
      inl (
        length finished,
        subst (λ x. slice_get (finished ++ v.element ∷ []) (length finished) ≡ Some x)
            (ap (λ (x : Visit). x.element) h.1 ∙ at.is) (get_last finished v.element),
      )

  placed_after : (e : ℕ) → IsFinished finished e ⊎ IsVisited (below ++ v ∷ []) e
      → IsFinished (finished ++ v.element ∷ []) e ⊎ IsVisited below e
  placed_after e (inl h) = inl (h.0, get_before finished (v.element ∷ []) h.0 e h.1)
  placed_after e (inr at) = placed_top e at (get_push below v at.place at.visit at.stands)

  once_after : (j k e : ℕ) → IsPushed finished v.element j e → IsPushed finished v.element k e → j ≡ k
  once_after j k e (inl h) (inl i) = w.search.once j k e h i
  once_after j k e (inl h) (inr i) =
      absurd (w.search.apart j (length below) v (subst (λ x. slice_get finished j ≡ Some x) (sym i.1) h) here)
  once_after j k e (inr h) (inl i) =
      absurd (w.search.apart k (length below) v (subst (λ x. slice_get finished k ≡ Some x) (sym h.1) i) here)
  once_after j k e (inr h) (inr i) = h.0 ∙ sym i.0

  apart_after : (j k : ℕ) (u : Visit) → IsPushed finished v.element j u.element → slice_get below k ≡ Some u → ⊥
  apart_after j k u (inl h) i = w.search.apart j k u h (there k u i)
  apart_after j k u (inr h) i =
      let same : k ≡ length below = w.search.visited_once k (length below) u v (there k u i) here (sym h.1) in
      let within = slice_get_within below k u i in
      omega arith

  kept_back : (low t : ℕ) → StandsBack lists finished low t → StandsBack lists (finished ++ v.element ∷ []) low t
  kept_back low t back = record {
    place = back.place;
    stands = get_before finished (v.element ∷ []) back.place t back.stands;
    reaches = λ k y from to h. reach k y from to (get_push finished v.element k y h);
  }
    where
      reach : (k y : ℕ) → low ≤ k → k ≤ back.place → IsPushed finished v.element k y → Reaches lists t y
      reach k y from to (inl h) = back.reaches k y from to h
      reach k y from to (inr h) =
          let within = slice_get_within finished back.place t back.stands in
          absurd (omega arith)

  settled : (low t : ℕ) (above : IsAbove lists finished (below ++ v ∷ []) low t)
      → IsPushed below v above.visited.place above.visited.visit
      → StandsBack lists (finished ++ v.element ∷ []) low t ⊎ IsAbove lists (finished ++ v.element ∷ []) below low t
  settled low t above (inl h) = inr (record {
    visited = record { place = at.place; visit = at.visit; stands = h; is = at.is };
    reaches = λ k y from i. reach k y from (get_push finished v.element k y i);
  })
    where
      at : IsVisited (below ++ v ∷ []) t
      at = above.visited

      top : Reaches lists t v.element
      top = subst (λ x. Reaches lists x v.element) above.visited.is
          (w.search.chain above.visited.place (length below) above.visited.visit v above.visited.stands here
          (let within = slice_get_within below above.visited.place above.visited.visit h in omega arith))

      reach : (k y : ℕ) → low ≤ k → IsPushed finished v.element k y → Reaches lists t y
      reach k y from (inl i) = above.reaches k y from i
      reach k y from (inr i) = subst (λ x. Reaches lists t x) i.1 top
  settled low t above (inr h) = inl (record {
    place = length finished;
    stands = subst (λ x. slice_get (finished ++ v.element ∷ []) (length finished) ≡ Some x) same
        (get_last finished v.element);
    reaches = λ k y from to i. reach k y from (get_push finished v.element k y i);
  })
    where
      same : v.element ≡ t
      same = ap (λ (x : Visit). x.element) h.1 ∙ above.visited.is

      reach : (k y : ℕ) → low ≤ k → IsPushed finished v.element k y → Reaches lists t y
      reach k y from (inl i) = above.reaches k y from i
      reach k y from (inr i) = inl (sym same ∙ i.1)

  settle : (low t : ℕ) → IsAbove lists finished (below ++ v ∷ []) low t
      → StandsBack lists (finished ++ v.element ∷ []) low t ⊎ IsAbove lists (finished ++ v.element ∷ []) below low t
  settle low t above =
      settled low t above (get_push below v above.visited.place above.visited.visit above.visited.stands)

  of_old : (low t : ℕ) → StandsBack lists finished low t ⊎ IsAbove lists finished (below ++ v ∷ []) low t
      → StandsBack lists (finished ++ v.element ∷ []) low t ⊎ IsAbove lists (finished ++ v.element ∷ []) below low t
  of_old low t (inl back) = inl (kept_back low t back)
  of_old low t (inr above) = settle low t above

  none_from : (t k y : ℕ) → length finished ≤ k → slice_get finished k ≡ Some y → Reaches lists t y
  none_from t k y from h = let within = slice_get_within finished k y h in absurd (omega arith)

  of_new : (t : ℕ) → IsFinished finished t ⊎ IsVisited (below ++ v ∷ []) t
      → StandsBack lists (finished ++ v.element ∷ []) (length finished) t
      ⊎ IsAbove lists (finished ++ v.element ∷ []) below (length finished) t
  of_new t (inl h) = inl (kept_back (length finished) t (record {
    place = h.0;
    stands = h.1;
    reaches = λ k y from to i. none_from t k y from i;
  }))
  of_new t (inr at) =
      settle (length finished) t (record { visited = at; reaches = λ k y from h. none_from t k y from h })

  back_after : slice_get (targets_of lists v.element) v.looked ≡ None → (k e t : ℕ)
      → IsPushed finished v.element k e → LeadsAtOnce lists e t
      → StandsBack lists (finished ++ v.element ∷ []) k t ⊎ IsAbove lists (finished ++ v.element ∷ []) below k t
  back_after none k e t (inl h) one = of_old k t (w.search.back k e t h one)
  back_after none k e t (inr h) one =
      let mine : LeadsAtOnce lists v.element t = subst (λ x. LeadsAtOnce lists x t) (sym h.1) one in
      let seen : mine.place < v.looked =
      past_there (targets_of lists v.element) v.looked mine.place t none mine.stands in
      let got = w.looked (length below) v here mine.place t seen mine.stands mine.within in
      subst (λ x. StandsBack lists (finished ++ v.element ∷ []) x t
      ⊎ IsAbove lists (finished ++ v.element ∷ []) below x t) (sym h.0) (of_new t (w.search.placed t got))

  pub walk_finish : slice_get (targets_of lists v.element) v.looked ≡ None
      → IsWalk lists (finished ++ v.element ∷ []) below reached
  walk_finish none = record {
    search = record {
      size = w.search.size;
      finished_reached = λ k e h. finished_after k e (get_push finished v.element k e h);
      visited_reached = λ k u h. w.search.visited_reached k u (there k u h);
      placed = λ e h. placed_after e (w.search.placed e h);
      once = λ j k e h i. once_after j k e (get_push finished v.element j e h) (get_push finished v.element k e i);
      apart = λ j k u h i. apart_after j k u (get_push finished v.element j u.element h) i;
      visited_once = λ j k u x h i. w.search.visited_once j k u x (there j u h) (there k x i);
      chain = λ j k u x h i. w.search.chain j k u x (there j u h) (there k x i);
      back = λ k e t h one. back_after none k e t (get_push finished v.element k e h) one;
    };
    looked = λ k u h. w.looked k u (there k u h);
  }
