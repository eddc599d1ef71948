-- The test of a filter tells whether it is true.
use Rattle.std.proofs.Common.{◌≡◌, ◌↔◌, Bool, true, List, Option, None, Some, Result, Ok, Err, IfOk, IsTrue}
use Rattle.std.proofs.Common.{refl, sym, ◌∙◌, ⊎_elim, inl, inr}
use Rattle.std.proofs.lemmas.Bool.{and_from, and_parts, both_ways, false_from_ne_true, false≢true, not-true}
use Rattle.std.proofs.lemmas.Bool.{not_from_false}
use Rattle.std.proofs.lemmas.Bool.{or_cases, or_left, or_right}
use Rattle.term_values.specs.MatchingKinds.MatchingRule.{Equality, Ordering, Substrings, Comparison, Intersection}
use Rattle.term_values.specs.Typed.{TypedValue}
use Rattle.term_model.specs.declared.filter_item.Item.{Item}
use Rattle.term_model.specs.declared.filter_item.Item.TheVariants as items
use Rattle.term_model.specs.declared.object.Attribute.{Attribute}
use Rattle.term_model.specs.declared.schema.AttrRec.{AttrRec}
use Rattle.term_model.specs.FilterTests.{are_true_of, do_meet, is_some_true_of, is_true_item, is_true_of}
use Rattle.term_model.specs.FilterTrees.{FilterTree, FilterTrees}
use Rattle.term_model.specs.FilterTrees.FilterTree.{OfItem, And, Or, Not}
use Rattle.term_model.specs.FilterTrees.FilterTrees.{Nothing, Then}
use Rattle.term_model.specs.FilterTruth.{AreTrueOf, IsSomeTrueOf, IsTrueItem, IsTrueOf, Meet}
use Rattle.cmis_filter.proofs.MatchLaws.{is_match, match_is}

meet_is : (test : TypedValue → TypedValue → Bool) (Met : TypedValue → TypedValue → Type 0)
    → ((x y : TypedValue) → test x y ≡ true → Met x y)
    → (asserted held : Option TypedValue) → do_meet test asserted held ≡ true → Meet Met asserted held
meet_is test Met law (Some x) (Some y) e = law x y e
meet_is test Met law (Some x) None e = false≢true e
meet_is test Met law None (Some y) e = false≢true e
meet_is test Met law None None e = false≢true e

is_met : (test : TypedValue → TypedValue → Bool) (Met : TypedValue → TypedValue → Type 0)
    → ((x y : TypedValue) → Met x y → test x y ≡ true)
    → (asserted held : Option TypedValue) → Meet Met asserted held → do_meet test asserted held ≡ true
is_met test Met law (Some x) (Some y) h = law x y h
is_met test Met law (Some x) None h = absurd h
is_met test Met law None (Some y) h = absurd h
is_met test Met law None None h = absurd h

item_is : (records : List AttrRec) (attributes : List Attribute) (item : Item)
    → is_true_item records attributes item ≡ true
    → IsTrueItem records attributes item
item_is records attributes (items.Equality given) e = meet_is _ _ (match_is Equality) given.value _ e
item_is records attributes (items.Substrings pieces value) e = meet_is _ _ (match_is Substrings) value _ e
item_is records attributes (items.GreaterOrEqual given) e = meet_is _ _ (λ x y. match_is Ordering y x) given.value _ e
item_is records attributes (items.LessOrEqual given) e = meet_is _ _ (match_is Ordering) given.value _ e
item_is records attributes (items.Present id) e = e
item_is records attributes (items.SubsetOf given) e = meet_is _ _ (match_is Comparison) given.value _ e
item_is records attributes (items.SupersetOf given) e = meet_is _ _ (λ x y. match_is Comparison y x) given.value _ e
item_is records attributes (items.Meets given) e = meet_is _ _ (match_is Intersection) given.value _ e

is_item : (records : List AttrRec) (attributes : List Attribute) (item : Item) → IsTrueItem records attributes item
    → is_true_item records attributes item ≡ true
is_item records attributes (items.Equality given) h = is_met _ _ (is_match Equality) given.value _ h
is_item records attributes (items.Substrings pieces value) h = is_met _ _ (is_match Substrings) value _ h
is_item records attributes (items.GreaterOrEqual given) h = is_met _ _ (λ x y. is_match Ordering y x) given.value _ h
is_item records attributes (items.LessOrEqual given) h = is_met _ _ (is_match Ordering) given.value _ h
is_item records attributes (items.Present id) h = h
is_item records attributes (items.SubsetOf given) h = is_met _ _ (is_match Comparison) given.value _ h
is_item records attributes (items.SupersetOf given) h = is_met _ _ (λ x y. is_match Comparison y x) given.value _ h
is_item records attributes (items.Meets given) h = is_met _ _ (is_match Intersection) given.value _ h

mutual
  pub true_is : (records : List AttrRec) (attributes : List Attribute) (tree : FilterTree)
      → is_true_of records attributes tree ≡ true → IsTrueOf records attributes tree
  true_is records attributes (OfItem item) e = item_is records attributes item e
  true_is records attributes (And trees) e = all_are records attributes trees e
  true_is records attributes (Or trees) e = some_is records attributes trees e
  true_is records attributes (Not tree) e =
      λ holds. both_ways _ (not-true _ e) (is_true records attributes tree holds)

  all_are : (records : List AttrRec) (attributes : List Attribute) (trees : FilterTrees)
      → are_true_of records attributes trees ≡ true → AreTrueOf records attributes trees
  all_are records attributes Nothing e = tt
  all_are records attributes (Then tree trees) e =
      let parts = and_parts _ _ e in
      (true_is records attributes tree parts.0, all_are records attributes trees parts.1)

  some_is : (records : List AttrRec) (attributes : List Attribute) (trees : FilterTrees)
      → is_some_true_of records attributes trees ≡ true → IsSomeTrueOf records attributes trees
  some_is records attributes Nothing e = false≢true e
  some_is records attributes (Then tree trees) e =
      ⊎_elim
      (λ (here : is_true_of records attributes tree ≡ true). inl (true_is records attributes tree here))
      (λ (there : is_some_true_of records attributes trees ≡ true). inr (some_is records attributes trees there))
      (or_cases _ _ e)

  pub is_true : (records : List AttrRec) (attributes : List Attribute) (tree : FilterTree)
      → IsTrueOf records attributes tree → is_true_of records attributes tree ≡ true
  is_true records attributes (OfItem item) h = is_item records attributes item h
  is_true records attributes (And trees) h = are_all records attributes trees h
  is_true records attributes (Or trees) h = is_some records attributes trees h
  is_true records attributes (Not tree) h =
      not_from_false _ (false_from_ne_true _ (λ e. h (true_is records attributes tree e)))

  are_all : (records : List AttrRec) (attributes : List Attribute) (trees : FilterTrees)
      → AreTrueOf records attributes trees → are_true_of records attributes trees ≡ true
  are_all records attributes Nothing h = refl
  are_all records attributes (Then tree trees) h =
      and_from _ _ (is_true records attributes tree h.0) (are_all records attributes trees h.1)

  is_some : (records : List AttrRec) (attributes : List Attribute) (trees : FilterTrees)
      → IsSomeTrueOf records attributes trees → is_some_true_of records attributes trees ≡ true
  is_some records attributes Nothing h = absurd h
  is_some records attributes (Then tree trees) h =
      ⊎_elim
      (λ (here : IsTrueOf records attributes tree). or_left _ _ (is_true records attributes tree here))
      (λ (there : IsSomeTrueOf records attributes trees). or_right _ _ (is_some records attributes trees there))
      h

-- what was computed for a filter says whether it is true
pub computed : {E : Type 0} (records : List AttrRec) (attributes : List Attribute) (tree : FilterTree)
    (r : Result Bool E)
    → IfOk r (λ holds. holds ≡ is_true_of records attributes tree)
    → IfOk r (λ holds. IsTrue holds ↔ IsTrueOf records attributes tree)
computed records attributes tree (Ok b) e =
    (λ h. true_is records attributes tree (sym e ∙ h), λ h. e ∙ is_true records attributes tree h)
computed records attributes tree (Err x) e = tt
