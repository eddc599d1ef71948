-- EmptyLaws: what is told by whether anything is listed, and what a step may not name.
use Rattle.std.proofs.Common.{◌≡◌, ◌⊎◌, ◌↔◌, ◌==◌, ℕ, suc, zero, List, [], ◌∷◌, Bool, true, false, Some}
use Rattle.std.proofs.Common.{length, not, refl, None, Option, ap, get_or, ◌+◌, ◌<◌, ◌≤◌}
use Rattle.std.specs.Prelude.{is_some}
use Rattle.std.proofs.lemmas.Option.{get_or_from_slice_get, slice_get-get_or}
use Rattle.std.proofs.Common.{arith, inl, inr, sym, ◌∙◌}
use Rattle.std.specs.List.{slice_get}
use Rattle.std.proofs.lemmas.Bool.{cases_lt, eqb-true, false≢true, true≢false}
use Rattle.link_graphs.specs.Leading.{target_lists}
use Rattle.link_graphs.specs.Marking.{IsMarked}
use Rattle.link_graphs.proofs.PlaceLaws.{nothing_there}
use Rattle.reached_elements.specs.Reaching.{AreTargets, IsSomeTarget}
use Rattle.gdmo_names.specs.PartTerms.{Placed, PartTerms}
use Rattle.class_graphs.specs.ClassGraphs.{LackSome, MayNotName, TellsFacts}
use Rattle.class_graphs.specs.ClassGraphs.LackSome.{in_class, in_package, superclass}
use Rattle.class_graphs.specs.declared.class_members.ClassFacts.{ClassFacts}
use Rattle.class_graphs.specs.declared.class_members.ClassGraph.{ClassGraph}

-- ---- some target

not_zero : (n : ℕ) (b : Bool) → (suc n == 0) ≡ b → not b ≡ true
not_zero n false is = refl
not_zero n true is = absurd (let e = eqb-true (suc n) 0 is in omega (arith, e))

pub some_listed : (lists : List (List ℕ)) (elements : List ℕ) (marks : List Bool) (listed : List ℕ) (n : ℕ) →
    n ≡ length listed → AreTargets lists elements marks listed →
    (not (n == 0) ≡ true) ↔ ((t : ℕ) × IsSomeTarget lists elements t)
some_listed lists elements marks [] zero is are = (
  λ e. absurd (false≢true e),
  λ h. (let l = (are.listed_too h.0).1 h.1 in nothing_there l.0 h.0 l.1),
)
some_listed lists elements marks [] (suc n) is are = absurd (omega arith)
some_listed lists elements marks (x ∷ xs) zero is are = absurd (omega arith)
some_listed lists elements marks (x ∷ xs) (suc n) is are = (
  λ e. (x, (are.listed_too x).0 (0, refl)),
  λ h. not_zero n (suc n == 0) refl,
)

none_so : {P : Type 0} (b : Bool) → b ≡ false → b ≡ true → P
none_so b off so = absurd (false≢true (sym off ∙ so))

pub lack_last : (graph : ClassGraph) (classes packages : List ℕ) (one two three : Bool) → one ≡ false → two ≡ false →
    ((one ≡ true) ↔ ((t : ℕ) × IsSomeTarget (target_lists graph.superclasses.lost) classes t)) →
    ((two ≡ true) ↔ ((t : ℕ) × IsSomeTarget (target_lists graph.packages.lost) classes t)) →
    ((three ≡ true) ↔ ((t : ℕ) × IsSomeTarget (target_lists graph.attributes.lost) packages t)) →
    (three ≡ true) ↔ LackSome graph classes packages
lack_last graph classes packages one two three no_one no_two f g h =
    ((λ e. (let t = h.0 e in in_package t.1)), back)
  where
    back : LackSome graph classes packages → three ≡ true
    back (superclass {t = t} s) = none_so one no_one (f.1 (t, s))
    back (in_class {t = t} s) = none_so two no_two (g.1 (t, s))
    back (in_package {t = t} s) = h.1 (t, s)

-- ---- what a step may not name

pub forbidden_then : (parts : PartTerms) (views : List Placed) (class x : Placed) (facts : ClassFacts) (n : ℕ) →
    TellsFacts parts views class facts → slice_get views n ≡ Some x →
    IsMarked facts.naming.own.marks n ⊎ IsMarked facts.naming.below.marks n →
    (true ≡ true) ↔ MayNotName parts class x
forbidden_then parts views class x facts n tells at names = ((λ e. inl ((tells.naming n x at).0 names)), λ h. refl)

pub forbidden_else : (parts : PartTerms) (views : List Placed) (class x : Placed) (facts : ClassFacts) (n : ℕ)
    (naming foreign : Bool) → TellsFacts parts views class facts → slice_get views n ≡ Some x → naming ≡ false →
    ((naming ≡ true)
    ↔ (IsMarked facts.naming.own.marks n ⊎ IsMarked facts.naming.below.marks n)) →
    ((foreign ≡ true) ↔ ((facts.held.has_missing ≡ false) × (¬ IsMarked facts.held.attributes.marks n))) →
    (foreign ≡ true) ↔ MayNotName parts class x
forbidden_else parts views class x facts n naming foreign tells at none f g = (
  λ e. (let h = g.0 e in inr (
    λ unknown. true≢false (sym (tells.held.missing.1 unknown) ∙ h.0),
    λ has. h.1 ((tells.held.attributes n x at).1 has),
  )),
  back,
)
  where
    missing : (b : Bool) → ¬ (b ≡ true) → b ≡ false
    missing true h = absurd (h refl)
    missing false h = refl

    back : MayNotName parts class x → foreign ≡ true
    back (inl names) = none_so naming none (f.1 ((tells.naming n x at).1 names))
    back (inr h) = g.1 (
      missing facts.held.has_missing (λ so. h.0 (tells.held.missing.0 so)),
      λ marked. h.1 ((tells.held.attributes n x at).0 marked),
    )

-- ---- none at some place

pub none_more : (xs : List (Option ℕ)) (i : ℕ) → is_some (get_or xs i None) ≡ true →
    ((k : ℕ) → k < i → slice_get xs k ≡ Some None → ⊥) → (k : ℕ) → k < i + 1 → slice_get xs k ≡ Some None → ⊥
none_more xs i some before k less at = by (cases_lt k i)
  where
    by : (k < i) ⊎ (i ≤ k) → ⊥
    by (inl h) = before k h at
    by (inr h) =
        let same : i ≡ k = omega arith in
        false≢true (sym (ap is_some (ap (λ j. get_or xs j None) same ∙ get_or_from_slice_get xs k None None at)) ∙ some)

none_is : (o : Option ℕ) → is_some o ≡ false → o ≡ None
none_is None e = refl
none_is (Some n) e = absurd (true≢false e)

pub none_there : (xs : List (Option ℕ)) (i : ℕ) → i < length xs → is_some (get_or xs i None) ≡ false →
    slice_get xs i ≡ Some None
none_there xs i within none =
    slice_get-get_or xs i None within ∙ ap Some (none_is (get_or xs i None) none)
