-- Each step on the word keeps the rule.
use Rattle.std.proofs.Common.{◌≡◌, ◌≢◌, ◌⊎◌, ℕ, zero, suc, ◌+◌, ◌==◌, Bool, true, false, not}
use Rattle.std.proofs.Common.{cond, List, [], ◌∷◌, ◌++◌, length}
use Rattle.std.proofs.Common.{refl, sym, ap, subst, ◌∙◌, inl, inr, ⊎_elim, true≢false, arith, set, length-append}
use Rattle.std.proofs.lemmas.Bool.{or_left, or_right}
use Rattle.std.specs.Prelude.{slice_index}
use mathlib.Core.Option.{none, some, some-injective, some-ne-none}
use lib.ListN.{get_elem?}
use prog.Atomic.{either}
use Rattle.atomic_table.specs.Table.{Allows, Joins, Me, Splits, State, keeps, step}
use Rattle.atomic_table.proofs.Lists.{at_set, exchanged, set_again}
use Rattle.agent_model.specs.declared.entry.Entry.{Entry}
use Rattle.hall_seats.specs.declared.right.Right.{Right}
use Rattle.hall_seats.specs.declared.rule.View.{View}
use Rattle.hall_seats.specs.Rights.{Distinct, Has, arriving, association, given, is_arriving, is_opened}
use Rattle.hall_seats.specs.Rights.{is_own, opens, own, taking}
use Rattle.hall_seats.specs.Passes.{MayAdd, Sees}
use Rattle.hall_seats.specs.Views.{cut_off, marked_with, spent, taken_in, with_entry, with_rights}
use Rattle.hall_seats.specs.Rule.{Alone, Counts, Fits, IsFresh, IsTold, Kept, Looks}
use Rattle.hall_seats.proofs.RightLaws.{distinct_both, distinct_filtered, given_new, given_once, has_either}
use Rattle.hall_seats.proofs.RightLaws.{has_filtered}
use Rattle.hall_seats.proofs.RightLaws.{holds_none, may_own, opened-append, opened_later, own-append, right_of}
use Rattle.hall_seats.proofs.RightLaws.{shared_right, unopened_before}
use Rattle.hall_seats.proofs.SeenLaws.{sees_fewer, sees_itself, sees_longer}

-- one seat has another view
pub fits_set : (seat : ℕ) (journal : List Entry) (views : List View) (by : ℕ) (w : View)
    → ((j : ℕ) (u : View) → j ≢ by → get_elem? views j ≡ some u → Fits seat journal j u) → Fits seat journal by w
    → (j : ℕ) (u : View) → get_elem? (set views by w) j ≡ some u → Fits seat journal j u
fits_set seat journal views by w others mine j u at = ⊎_elim
    (λ (x : (j ≡ by) × (w ≡ u)). subst (λ (y : ℕ × View). Fits seat journal y.0 y.1) (λ i. (sym x.0 i, x.1 i)) mine)
    (λ (x : (j ≢ by) × (get_elem? views j ≡ some u)). others j u x.0 x.1)
    (at_set views by j w u at)

-- no other seat has a right of this view
abbrev pub Apart : List View → ℕ → View → Type 0
Apart views by w = (j : ℕ) (u : View) (r : Right) → j ≢ by → get_elem? views j ≡ some u → Has w.rights r
    → Has u.rights r → ⊥

pub alone_set : (views : List View) (by : ℕ) (w : View) → Alone views → Apart views by w → Alone (set views by w)
alone_set views by w alone apart i j u v r one other has too = ⊎_elim
    (λ (x : (i ≡ by) × (w ≡ u)). ⊎_elim
    (λ (y : (j ≡ by) × (w ≡ v)). x.0 ∙ sym y.0)
    (λ (y : (j ≢ by) × (get_elem? views j ≡ some v)).
    absurd (apart j v r y.0 y.1 (subst (λ (s : View). Has s.rights r) (sym x.1) has) too))
    (at_set views by j w v other))
    (λ (x : (i ≢ by) × (get_elem? views i ≡ some u)). ⊎_elim
    (λ (y : (j ≡ by) × (w ≡ v)).
    absurd (apart i u r x.0 x.1 (subst (λ (s : View). Has s.rights r) (sym y.1) too) has))
    (λ (y : (j ≢ by) × (get_elem? views j ≡ some v)). alone i j u v r x.1 y.1 has too)
    (at_set views by j w v other))
    (at_set views by i w u one)

-- what stands in a list with one element more
at_end : (views : List View) (w : View) (j : ℕ) (u : View) → get_elem? (views ++ w ∷ []) j ≡ some u
    → (get_elem? views j ≡ some u) ⊎ ((j ≡ length views) × (w ≡ u))
at_end [] w zero u at = inr (refl, some-injective w u at)
at_end [] w (suc j) u at = absurd (some-ne-none u (sym at))
at_end (v ∷ views) w zero u at = inl at
at_end (v ∷ views) w (suc j) u at = ⊎_elim (λ h. inl h) (λ h. inr (ap suc h.0, h.1)) (at_end views w j u at)

off : false ≡ true → ⊥
off e = true≢false (sym e)

-- the journal is empty at the start
pub begins : Kept (0 ∷ []) (marked_with [] ∷ [])
begins = record {
  seat = 0;
  journal = [];
  counted = refl;
  fresh = λ r h. refl;
  fits = one;
  alone = λ i j v w r a b has too. absurd (bare i v r a has);
}
  where
    one : (by : ℕ) (v : View) → get_elem? (marked_with [] ∷ []) by ≡ some v → Fits 0 [] by v
    one zero v at = subst (Fits 0 [] 0) (some-injective _ _ at) (record {
      mark = λ _. (refl, refl);
      sees = sees_itself [] [];
      opened = λ r h. absurd h;
      once = tt;
      olds = sees_itself [] [];
    })
    one (suc by) v at = absurd (some-ne-none v (sym at))

    bare : (i : ℕ) (v : View) (r : Right) → get_elem? (marked_with [] ∷ []) i ≡ some v → Has v.rights r → ⊥
    bare zero v r at has = subst (λ (u : View). Has u.rights r) (sym (some-injective _ _ at)) has
    bare (suc i) v r at has = some-ne-none v (sym at)

-- the marked view tells
told : (words : List ℕ) (views : List View) (id : ℕ) (v : View) (kept : Kept words views)
    → get_elem? views id ≡ some v → v.marked ≡ true → IsTold v (length kept.journal)
told words views id v kept at marked =
    let fits = kept.fits id v at in
    let same = (fits.mark marked).1 in
    record {
      sees = fits.olds;
      once = fits.once;
      counted = ap length (sym same);
      fresh = subst IsFresh (sym same) kept.fresh;
      opened = λ r h. subst (λ l. is_opened (association r) l ≡ true) (sym same) (fits.opened r h);
    }

-- a look at the word
pub looks : (slots id : ℕ) (me : Me Entry View)
    → Allows (λ (s : State Entry View). Kept s.words s.views) slots id me 0 (λ n. n) (Looks (step slots 0 0 0 none) me)
looks slots id me s kept long at small = (
  me.0,
  keeps,
  tt,
  subst (λ vs. Kept (set s.words 0 (slice_index s.words 0)) vs) (sym (set_again s.views id me.0 at))
      (subst (λ ws. Kept ws s.views) (same s.words (length kept.journal) kept.counted) kept),
  (
    refl,
    λ marked. subst (IsTold me.0) (sym (count s.words (length kept.journal) kept.counted))
        (told s.words s.views id me.0 kept at marked),
  ),
)
  where
    count : (words : List ℕ) (n : ℕ) → words ≡ n ∷ [] → slice_index words 0 ≡ n
    count words n is = ap (λ (ws : List ℕ). slice_index ws 0) is

    same : (words : List ℕ) (n : ℕ) → words ≡ n ∷ [] → words ≡ set words 0 (slice_index words 0)
    same words n is = subst (λ (w : List ℕ). w ≡ set w 0 (slice_index w 0)) (sym is) refl

-- what a further entry does to a seat that has no right whose entries may be added
other_fits : (seat : ℕ) (journal : List Entry) (by : ℕ) (v : View) (views : List View) (e : Entry)
    → MayAdd v.rights journal e → Alone views → get_elem? views by ≡ some v → by ≡ seat
    → (j : ℕ) (u : View) → j ≢ by → get_elem? views j ≡ some u → Fits seat journal j u
    → Fits seat (journal ++ e ∷ []) j u
other_fits seat journal by v views e may alone at is j u apart there fits = record {
  mark = λ marked. absurd (apart ((fits.mark marked).0 ∙ sym is));
  sees = sees_longer journal u.list u.rights e (λ r holds. ⊎_elim
      (λ away. away)
      (λ shares. let q = shared_right v.rights u.rights r shares holds in
      absurd (apart (alone j by u v q.0 there at q.2 q.1)))
      (may_own v.rights journal e may r)) fits.sees;
  opened = λ r has. opened_later (association r) journal (e ∷ []) (fits.opened r has);
  once = fits.once;
  olds = fits.olds;
}

-- nothing is added for an association that isn't opened
fresh_later : (journal : List Entry) (rights : List Right) (e : Entry) → MayAdd rights journal e
    → ((r : Right) → Has rights r → is_opened (association r) journal ≡ true) → IsFresh journal
    → IsFresh (journal ++ e ∷ [])
fresh_later journal rights e may opened fresh r closed =
    let before = unopened_before (association r) journal (e ∷ []) closed in
    let away : is_own r e ≡ false = ⊎_elim
    (λ h. h)
    (λ shares. let q = right_of rights r shares in
    absurd (true≢false (sym (opened q.0 q.1) ∙ ap (λ a. is_opened a journal) q.2 ∙ before)))
    (may_own rights journal e may r) in
    own-append r journal (e ∷ []) ∙ ap (λ w. w ++ own r (e ∷ [])) (fresh r before) ∙ none (is_own r e) away
  where
    none : (b : Bool) → b ≡ false → cond b (e ∷ []) [] ≡ []
    none b is = ap (λ x. cond x (e ∷ []) []) is

-- the rule behind a further entry
pub kept_counted : (words : List ℕ) (views : List View) (by : ℕ) (v : View) (e : Entry) (kept : Kept words views)
    → get_elem? views by ≡ some v → v.marked ≡ true → MayAdd v.rights v.list e
    → Kept ((length v.list + 1) ∷ []) (set views by (with_entry v e))
kept_counted words views by v e kept at marked may =
    let journal = kept.journal in
    let fits = kept.fits by v at in
    let is : by ≡ kept.seat = (fits.mark marked).0 in
    let same : v.list ≡ journal = (fits.mark marked).1 in
    let may' : MayAdd v.rights journal e = subst (λ l. MayAdd v.rights l e) same may in
    let same' : v.list ++ e ∷ [] ≡ journal ++ e ∷ [] = ap (λ l. l ++ e ∷ []) same in
    let new = given_new v.rights journal e may' in
    record {
      seat = kept.seat;
      journal = journal ++ e ∷ [];
      counted = ap (λ (n : ℕ). n ∷ []) (omega (arith, ap length same, length-append journal (e ∷ [])));
      fresh = fresh_later journal v.rights e may' fits.opened kept.fresh;
      fits = fits_set kept.seat (journal ++ e ∷ []) views by (with_entry v e)
          (λ j u apart there.
          other_fits kept.seat journal by v views e may' kept.alone at is j u apart there (kept.fits j u there))
          (record {
            mark = λ _. (is, same');
            sees = subst (λ l. Sees (journal ++ e ∷ []) l (given e ++ v.rights)) (sym same')
                (sees_itself (journal ++ e ∷ []) (given e ++ v.rights));
            opened = λ r has. ⊎_elim
                (λ h. opened-append (association r) journal (e ∷ [])
                ∙ or_right (is_opened (association r) journal) (is_opened (association r) (e ∷ []))
                (or_left (opens (association r) e) false (new r h).1))
                (λ h. opened_later (association r) journal (e ∷ []) (fits.opened r h))
                (has_either (given e) v.rights r has);
            once = distinct_both (given e) v.rights (given_once e) fits.once
                (λ r h g. true≢false (sym (fits.opened r g) ∙ (new r h).0));
            olds = fits.olds;
          });
      alone = alone_set views by (with_entry v e) kept.alone (λ j u r apart there has too. ⊎_elim
          (λ h. true≢false (sym ((kept.fits j u there).opened r too) ∙ (new r h).0))
          (λ h. apart (kept.alone j by u v r there at too h))
          (has_either (given e) v.rights r has));
    }

-- the step that adds an entry
pub counts : (slots id : ℕ) (me : Me Entry View) (e : Entry) (old : ℕ) → me.0.marked ≡ true → old ≡ length me.0.list
    → MayAdd me.0.rights me.0.list e
    → Allows (λ (s : State Entry View). Kept s.words s.views) slots id me 0 (λ n. either (n == old) (old + 1) n)
    (Counts (step slots 0 old (old + 1) (some e)) me)
counts slots id me e old marked long may s kept _ at small = (
  with_entry me.0 e,
  keeps,
  tt,
  subst (λ ws. Kept ws (set s.views id (with_entry me.0 e))) (sym (grown s.words (length kept.journal) kept.counted
      (ap length (sym ((kept.fits id me.0 at).mark marked).1) ∙ sym long)))
      (kept_counted s.words s.views id me.0 e kept at marked may),
  refl,
)
  where
    grown : (words : List ℕ) (n : ℕ) → words ≡ n ∷ [] → n ≡ old
        → set words 0 (either (slice_index words 0 == old) (old + 1) (slice_index words 0))
        ≡ (length me.0.list + 1) ∷ []
    grown words n is eq = subst
        (λ (ws : List ℕ). set ws 0 (either (slice_index ws 0 == old) (old + 1) (slice_index ws 0))
        ≡ (length me.0.list + 1) ∷ [])
        (sym is)
        (ap (λ (k : ℕ). k ∷ []) (exchanged n old (old + 1) (λ k. k ≡ length me.0.list + 1)
        (λ _. ap (λ (k : ℕ). k + 1) long)
        (λ apart. absurd (apart eq))))

-- rights that are divided between two seats
pub record Divided (rights first second : List Right) : Type 0 where
  pub one : (r : Right) → Has first r → Has rights r
  pub other : (r : Right) → Has second r → Has rights r
  pub apart : (r : Right) → Has first r → Has second r → ⊥
  pub once : Distinct rights → Distinct first × Distinct second

-- a further seat with some of the rights
pub cuts : (id : ℕ) (v : View) (one other : List Right) → Divided v.rights one other
    → Splits (λ (s : State Entry View). Kept s.words s.views) id v (with_rights v one) (cut_off v other)
cuts id v one other divided s kept at =
    let fits = kept.fits id v at in
    let views = set s.views id (with_rights v one) in
    let mine : Fits kept.seat kept.journal id (with_rights v one) = record {
      mark = fits.mark;
      sees = sees_fewer kept.journal v.list v.rights one divided.one fits.sees;
      opened = λ r h. fits.opened r (divided.one r h);
      once = (divided.once fits.once).0;
      olds = fits.olds;
    } in
    let all = fits_set kept.seat kept.journal s.views id (with_rights v one) (λ j u _ there. kept.fits j u there)
    mine in
    let away : (j : ℕ) (u : View) (r : Right) → get_elem? views j ≡ some u → Has other r → Has u.rights r → ⊥ =
    λ j u r there has too. ⊎_elim
    (λ (x : (j ≡ id) × (with_rights v one ≡ u)).
    divided.apart r (subst (λ (w : View). Has w.rights r) (sym x.1) too) has)
    (λ (x : (j ≢ id) × (get_elem? s.views j ≡ some u)).
    x.0 (kept.alone j id u v r x.1 at too (divided.other r has)))
    (at_set s.views id j (with_rights v one) u there) in
    record {
      seat = kept.seat;
      journal = kept.journal;
      counted = kept.counted;
      fresh = kept.fresh;
      fits = λ j u there. ⊎_elim
          (λ old. all j u old)
          (λ (x : (j ≡ length views) × (cut_off v other ≡ u)). subst (Fits kept.seat kept.journal j) x.1 (record {
            mark = λ marked. absurd (off marked);
            sees = sees_fewer kept.journal v.list v.rights other divided.other fits.sees;
            opened = λ r h. fits.opened r (divided.other r h);
            once = (divided.once fits.once).1;
            olds = sees_itself [] [];
          }))
          (at_end views (cut_off v other) j u there);
      alone = alone_more views (cut_off v other)
          (alone_set s.views id (with_rights v one) kept.alone
          (λ j u r apart there has too. apart (kept.alone j id u v r there at too (divided.one r has))))
          away;
    }
  where
    alone_more : (views : List View) (w : View) → Alone views
        → ((j : ℕ) (u : View) (r : Right) → get_elem? views j ≡ some u → Has w.rights r → Has u.rights r → ⊥)
        → Alone (views ++ w ∷ [])
    alone_more views w alone away i j u v r one other has too = ⊎_elim
        (λ (x : get_elem? views i ≡ some u). ⊎_elim
        (λ (y : get_elem? views j ≡ some v). alone i j u v r x y has too)
        (λ (y : (j ≡ length views) × (w ≡ v)).
        absurd (away i u r x (subst (λ (s : View). Has s.rights r) (sym y.1) too) has))
        (at_end views w j v other))
        (λ (x : (i ≡ length views) × (w ≡ u)). ⊎_elim
        (λ (y : get_elem? views j ≡ some v).
        absurd (away j v r y (subst (λ (s : View). Has s.rights r) (sym x.1) has) too))
        (λ (y : (j ≡ length views) × (w ≡ v)). x.0 ∙ sym y.0)
        (at_end views w j v other))
        (at_end views w i u one)

-- the ways in which rights are divided
pub all_stay : (rights : List Right) → Divided rights rights []
all_stay rights = record {
  one = λ r h. h;
  other = λ r h. absurd h;
  apart = λ r h g. g;
  once = λ d. (d, tt);
}

pub all_go : (rights : List Right) → Divided rights [] rights
all_go rights = record {
  one = λ r h. absurd h;
  other = λ r h. h;
  apart = λ r h g. h;
  once = λ d. (tt, d);
}

pub halved : (rights : List Right) → Divided rights (arriving rights) (taking rights)
halved rights = record {
  one = λ r h. (has_filtered is_arriving rights r h).0;
  other = λ r h. (has_filtered (λ q. not (is_arriving q)) rights r h).0;
  apart = λ r h g. both (is_arriving r) (has_filtered is_arriving rights r h).1
      (has_filtered (λ q. not (is_arriving q)) rights r g).1;
  once = λ d. (distinct_filtered is_arriving rights d, distinct_filtered (λ q. not (is_arriving q)) rights d);
}
  where
    both : (b : Bool) → b ≡ true → not b ≡ true → ⊥
    both true is isn't = off isn't
    both false is isn't = off is

-- one seat has the rights of two, and the other one none
alone_joined : (views : List View) (id other : ℕ) (v w : View) → Alone views → get_elem? views id ≡ some v
    → get_elem? views other ≡ some w → ¬ (other ≡ id) → Alone (set (set views id (taken_in v w)) other spent)
alone_joined views id other v w alone at theirs apart i j u x r one two has too =
    let here = kept i u one has in
    let there = kept j x two too in
    ⊎_elim
    (λ (p : (i ≡ id) × (taken_in v w ≡ u)). ⊎_elim
    (λ (q : (j ≡ id) × (taken_in v w ≡ x)). p.0 ∙ sym q.0)
    (λ (q : (j ≢ id) × (get_elem? views j ≡ some x)).
    absurd (lonely j x q.0 there.0 q.1 (subst (λ (s : View). Has s.rights r) (sym p.1) has) too))
    there.1)
    (λ (p : (i ≢ id) × (get_elem? views i ≡ some u)). ⊎_elim
    (λ (q : (j ≡ id) × (taken_in v w ≡ x)).
    absurd (lonely i u p.0 here.0 p.1 (subst (λ (s : View). Has s.rights r) (sym q.1) too) has))
    (λ (q : (j ≢ id) × (get_elem? views j ≡ some x)). alone i j u x r p.1 q.1 has too)
    there.1)
    here.1
  where
    kept : (k : ℕ) (y : View) → get_elem? (set (set views id (taken_in v w)) other spent) k ≡ some y → Has y.rights r
        → (k ≢ other) × (((k ≡ id) × (taken_in v w ≡ y)) ⊎ ((k ≢ id) × (get_elem? views k ≡ some y)))
    kept k y found has = ⊎_elim
        (λ (p : (k ≡ other) × (spent ≡ y)). absurd (subst (λ (s : View). Has s.rights r) (sym p.1) has))
        (λ (p : (k ≢ other) × (get_elem? (set views id (taken_in v w)) k ≡ some y)).
        (p.0, at_set views id k (taken_in v w) y p.1))
        (at_set (set views id (taken_in v w)) other k spent y found)

    lonely : (k : ℕ) (y : View) → k ≢ id → k ≢ other → get_elem? views k ≡ some y → Has (v.rights ++ w.rights) r
        → Has y.rights r → ⊥
    lonely k y away off found both has = ⊎_elim
        (λ h. away (alone k id y v r found at has h))
        (λ h. off (alone k other y w r found theirs has h))
        (has_either v.rights w.rights r both)

-- the seat with the journal takes in another one
pub joins : (id : ℕ) (v : View) (other : ℕ) (w : View) → v.marked ≡ true
    → Joins (λ (s : State Entry View). Kept s.words s.views) id v other w (taken_in v w) spent
joins id v other w marked s kept at apart there =
    let fits = kept.fits id v at in
    let is = (fits.mark marked).0 in
    let same = (fits.mark marked).1 in
    let theirs : get_elem? s.views other ≡ some w = ⊎_elim
    (λ (x : (other ≡ id) × (taken_in v w ≡ w)). absurd (apart x.0))
    (λ (x : (other ≢ id) × (get_elem? s.views other ≡ some w)). x.1)
    (at_set s.views id other (taken_in v w) w there) in
    let fits' = kept.fits other w theirs in
    let views = set s.views id (taken_in v w) in
    let all : (j : ℕ) (u : View) → get_elem? views j ≡ some u → Fits kept.seat kept.journal j u =
    fits_set kept.seat kept.journal s.views id (taken_in v w) (λ j u _ here. kept.fits j u here) (record {
      mark = λ _. fits.mark marked;
      sees = subst (λ l. Sees kept.journal l (v.rights ++ w.rights)) (sym same)
          (sees_itself kept.journal (v.rights ++ w.rights));
      opened = λ r has. ⊎_elim (fits.opened r) (fits'.opened r) (has_either v.rights w.rights r has);
      once = distinct_both v.rights w.rights fits.once fits'.once
          (λ r h g. apart (kept.alone other id w v r theirs at g h));
      olds = subst (λ l. Sees l w.list w.rights) (sym same) fits'.sees;
    }) in
    record {
      seat = kept.seat;
      journal = kept.journal;
      counted = kept.counted;
      fresh = kept.fresh;
      fits = fits_set kept.seat kept.journal views other spent (λ j u _ here. all j u here) (record {
        mark = λ m. absurd (off m);
        sees = ((kept.journal, refl), (λ r h. absurd (holds_none r h)));
        opened = λ r h. absurd h;
        once = tt;
        olds = sees_itself [] [];
      });
      alone = alone_joined s.views id other v w kept.alone at theirs apart;
    }
