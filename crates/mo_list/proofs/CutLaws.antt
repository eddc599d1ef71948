-- The names in front of one, and of the names that it begins; the objects of a subtree stand between two places.
use Rattle.std.proofs.Common.{◌≡◌, ℕ, zero, suc, ◌+◌, ◌^◌, ◌<◌, ◌≤◌, Bool, true, false, List, [], ◌∷◌, ◌++◌, Option, None, Some}
use Rattle.std.proofs.Common.{drop, get_or, length, take, arith, refl, sym, ap, subst, ◌∙◌}
use Rattle.std.proofs.lemmas.Bool.{false≢true, or_right}
use Rattle.std.specs.Arc.{arc_value}
use Rattle.std.specs.Ordering.{is_gt}
use Rattle.std.specs.Prelude.{◌||◌, is_some}
use Rattle.std.specs.declared.cmp.Ordering.{Ordering}
use Rattle.std.specs.declared.cmp.Ordering.TheVariants.{Less, Equal, Greater}
use Rattle.term_model.specs.declared.name.Rdn.{Rdn}
use Rattle.term_model.specs.declared.objects.NamedObject.{NamedObject}
use Rattle.term_model.specs.NameOrder.{name_cmp}
use Rattle.term_model.specs.Scope.{level_below}
use Rattle.scope_select.specs.Ranges.{begins}
use Rattle.scope_select.specs.Subtrees.{IsOneSubtree, subtree_of}
use Rattle.scope_select.proofs.BaseLaws.{same_name}
use Rattle.scope_select.proofs.ListLaws.{kept, left_out}
use Rattle.scope_select.proofs.PrefixLaws.{begun_is_behind, outside_stays}
use Rattle.scope_select.proofs.SubtreeLaws.{itself_begun}
use Rattle.mo_list.specs.Entries.{objects_in}
use Rattle.mo_list.specs.Places.{AllPass, NonePass, is_past}
use Rattle.mo_list.proofs.PlaceLaws.{Closed, Entry, greater_still, is_greater, length_objects}

-- ---- names

past_by : (name other : List Rdn) → is_gt (name_cmp name other) ≡ true → is_past true name other ≡ true
past_by name other h = ap (λ b. b || begins name other) h

past_begun : (name other : List Rdn) → begins name other ≡ true → is_past true name other ≡ true
past_begun name other h = or_right (is_gt (name_cmp name other)) (begins name other) h

begun_between : (name first other : List Rdn) → name_cmp name first ≡ Less → name_cmp first other ≡ Less
    → begins name other ≡ true → begins name first ≡ true
begun_between name first other low less begun = by (level_below name first) refl
  where
    by : (o : Option ℕ) → level_below name first ≡ o → begins name first ≡ true
    by None e =
        absurd (false≢true (sym (ap is_some (outside_stays name first other low e less)) ∙ begun))
    by (Some level) e = ap is_some e

closed_below : (name : List Rdn) → Closed (is_past true name)
closed_below name first other less past =
    by_other (is_gt (name_cmp name other)) refl past
  where
    by_first : (o : Ordering) → name_cmp name first ≡ o → begins name other ≡ true → is_past true name first ≡ true
    by_first Greater e begun = past_by name first (ap is_gt e)
    by_first Equal e begun =
        past_begun name first (subst (λ n. begins name n ≡ true) (same_name name first e) (itself_begun name))
    by_first Less e begun = past_begun name first (begun_between name first other e less begun)

    by_other : (b : Bool) → is_gt (name_cmp name other) ≡ b → (b || begins name other) ≡ true
        → is_past true name first ≡ true
    by_other true e h = past_by name first (greater_still name first other less e)
    by_other false e h = by_first (name_cmp name first) refl h

pub closed_past : (below : Bool) (name : List Rdn) → Closed (is_past below name)
closed_past true name = closed_below name
closed_past false name = greater_still name

-- ---- the objects of a subtree

none_begun : (base : List Rdn) (objects : List NamedObject) → NonePass (is_past true base) objects
    → subtree_of objects base ≡ []
none_begun base [] none = refl
none_begun base (x ∷ xs) none =
    left_out (λ (entry : NamedObject). begins base entry.name) x xs
    (by (begins base x.name) refl) ∙ none_begun base xs none.1
  where
    by : (b : Bool) → begins base x.name ≡ b → begins base x.name ≡ false
    by true e = absurd (false≢true (sym none.0 ∙ past_begun base x.name e))
    by false e = e

not_in_front : (base name : List Rdn) → is_gt (name_cmp base name) ≡ true → begins base name ≡ false
not_in_front base name h = ap is_some (begun_is_behind base name (is_greater (name_cmp base name) h))

-- those in front of the base are none of the subtree
pub none_in_front : (base : List Rdn) (objects : List NamedObject) → AllPass (is_past false base) objects
    → subtree_of objects base ≡ []
none_in_front base [] all = refl
none_in_front base (x ∷ xs) all =
    left_out (λ (entry : NamedObject). begins base entry.name) x xs (not_in_front base x.name all.0)
    ∙ none_in_front base xs all.1

-- those in front of the end are all of the subtree
pub all_in_front : (base : List Rdn) (objects : List NamedObject) (end : ℕ)
    → NonePass (is_past true base) (drop end objects) → subtree_of (take end objects) base ≡ subtree_of objects base
all_in_front base [] zero none = refl
all_in_front base [] (suc end) none = refl
all_in_front base (x ∷ xs) zero none = sym (none_begun base (x ∷ xs) none)
all_in_front base (x ∷ xs) (suc end) none = by (begins base x.name) refl (all_in_front base xs end none)
  where
    by : (b : Bool) → begins base x.name ≡ b → subtree_of (take end xs) base ≡ subtree_of xs base
        → subtree_of (x ∷ take end xs) base ≡ subtree_of (x ∷ xs) base
    by true e again = rw e (ap (λ ys. x ∷ ys) again)
    by false e again = rw e again

-- one between the two places is one of the subtree
begun_at : (base : List Rdn) (entries : List Entry) (first end at : ℕ) (d : Entry)
    → NonePass (is_past false base) (drop first (objects_in entries))
    → AllPass (is_past true base) (take end (objects_in entries)) → first ≤ at → at < end → at < length entries
    → begins base (arc_value (get_or entries at d)).name ≡ true
begun_at base [] first end at d behind front low high within = absurd (omega arith)
begun_at base (e ∷ es) first zero at d behind front low high within = absurd (omega arith)
begun_at base (e ∷ es) zero (suc end) zero d behind front low high within =
    sym (ap (λ b. b || begins base (arc_value e).name) behind.0) ∙ front.0
begun_at base (e ∷ es) (suc first) (suc end) zero d behind front low high within = absurd (omega arith)
begun_at base (e ∷ es) zero (suc end) (suc at) d behind front low high within =
    begun_at base es zero end at d behind.1 front.1 (omega arith) (omega arith) (omega arith)
begun_at base (e ∷ es) (suc first) (suc end) (suc at) d behind front low high within =
    begun_at base es first end at d behind front.1 (omega arith) (omega arith) (omega arith)

taken_more : (base : List Rdn) (entries : List Entry) (at : ℕ) (d : Entry) → at < length entries
    → begins base (arc_value (get_or entries at d)).name ≡ true
    → subtree_of (take (at + 1) (objects_in entries)) base
    ≡ subtree_of (take at (objects_in entries)) base ++ arc_value (get_or entries at d) ∷ []
taken_more base [] at d within begun = absurd (omega arith)
taken_more base (e ∷ es) zero d within begun =
    kept (λ (entry : NamedObject). begins base entry.name) (arc_value e) [] begun
taken_more base (e ∷ es) (suc at) d within begun =
    let next : suc at + 1 ≡ suc (at + 1) = omega arith in
    rw next (by (begins base (arc_value e).name) refl (taken_more base es at d (omega arith) begun))
  where
    by : (b : Bool) → begins base (arc_value e).name ≡ b
        → subtree_of (take (at + 1) (objects_in es)) base
        ≡ subtree_of (take at (objects_in es)) base ++ arc_value (get_or es at d) ∷ []
        → subtree_of (arc_value e ∷ take (at + 1) (objects_in es)) base
        ≡ subtree_of (arc_value e ∷ take at (objects_in es)) base ++ arc_value (get_or es at d) ∷ []
    by true h again = rw h (ap (λ ys. arc_value e ∷ ys) again)
    by false h again = rw h again

-- one object more
pub one_further : (base : List Rdn) (entries : List Entry) (first end at : ℕ) (d : Entry)
    → NonePass (is_past false base) (drop first (objects_in entries))
    → AllPass (is_past true base) (take end (objects_in entries)) → first ≤ at → at < end → end ≤ length entries
    → subtree_of (take (at + 1) (objects_in entries)) base
    ≡ subtree_of (take at (objects_in entries)) base ++ arc_value (get_or entries at d) ∷ []
one_further base entries first end at d behind front low high within =
    taken_more base entries at d (omega arith)
    (begun_at base entries first end at d behind front low high (omega arith))

-- the first place isn't behind the other one
pub in_order : (base : List Rdn) (objects : List NamedObject) (first end : ℕ)
    → AllPass (is_past false base) (take first objects) → NonePass (is_past true base) (drop end objects)
    → first ≤ length objects → first ≤ end
in_order base objects zero end front behind within = omega arith
in_order base [] (suc first) end front behind within = absurd (omega arith)
in_order base (x ∷ xs) (suc first) zero front behind within =
    absurd (false≢true (sym behind.0 ∙ past_by base x.name front.0))
in_order base (x ∷ xs) (suc first) (suc end) front behind within =
    let rest = in_order base xs first end front.1 behind (omega arith) in
    omega arith

pub taken_fewer : (base : List Rdn) (objects : List NamedObject) (at : ℕ)
    → length (subtree_of (take at objects) base) ≤ length (subtree_of objects base)
taken_fewer base [] zero = omega arith
taken_fewer base [] (suc at) = omega arith
taken_fewer base (x ∷ xs) zero = omega arith
taken_fewer base (x ∷ xs) (suc at) = by (begins base x.name) refl (taken_fewer base xs at)
  where
    by : (b : Bool) → begins base x.name ≡ b
        → length (subtree_of (take at xs) base) ≤ length (subtree_of xs base)
        → length (subtree_of (x ∷ take at xs) base) ≤ length (subtree_of (x ∷ xs) base)
    by true e again = rw e (omega arith)
    by false e again = rw e again

-- two searches by halves, and one look for each object that was found
pub one_subtree : (entries : List Entry) (base : List Rdn) (before middle ends found after : ℕ) → before ≤ middle
    → (0 < length entries → before < middle)
    → ((digits : ℕ) → length entries < 2 ^ digits → middle ≤ before + digits) → middle ≤ ends
    → ((digits : ℕ) → length entries < 2 ^ digits → ends ≤ middle + digits) → ends ≤ after → after ≤ ends + found
    → found ≤ length (subtree_of (objects_in entries) base) → IsOneSubtree (objects_in entries) base before after
one_subtree entries base before middle ends found after rises some few more further on once fewer = record {
  rises = omega arith;
  some = λ h. omega (arith, some (omega (arith, length_objects entries)));
  few = λ h.
      omega (
        arith,
        few 17 (omega (arith, length_objects entries)),
        further 17
            (omega (arith, length_objects entries)),
      );
}
