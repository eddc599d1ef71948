-- What stands in a map in which changes are installed, whose names rise.
use Rattle.std.proofs.Common.{◌≡◌, ◌≢◌, ℕ, zero, suc, ◌<◌, Bool, true, false, List, [], ◌∷◌, map, Option, None, Some}
use Rattle.std.proofs.Math.Path.{subst}
use Rattle.std.proofs.Common.{refl, ◌∙◌, arith, get_or, length}
use Rattle.std.specs.Prelude.{Contains}
use Rattle.std.specs.List.{AllByRecursion}
use Rattle.std.specs.List.Sorted.{IsStrictlySortedBy}
use Rattle.std.specs.declared.cmp.Ordering.TheVariants.{Less, Greater}
use Rattle.term_model.specs.declared.name.Rdn.{Rdn}
use Rattle.term_model.specs.declared.object.Object.{Object}
use Rattle.term_model.specs.declared.objects.NamedObject.{NamedObject}
use Rattle.term_model.specs.Comparing.{is_same_name}
use Rattle.term_model.specs.NameOrder.{name_cmp}
use Rattle.term_model.specs.NamedObjects.{object_at}
use Rattle.term_model.proofs.MapLaws.{name_Decides, not_same, others_stay, stored_is_found, turned}
use Rattle.term_model.proofs.FollowingLaws.{others_are_left, removed_is_gone}
use Rattle.operation_model.specs.WholeOperation.{AreChanges, Changed, installed, installed_at}

-- the names of changes
abbrev pub changed_names : Changed → List (List Rdn)
changed_names changes = map (λ (change : List Rdn × Option Object). change.0) changes

-- one change
pub at_itself : (objects : List NamedObject) (name : List Rdn) (left : Option Object)
    → object_at (installed_at objects name left) name ≡ left
at_itself objects name None = removed_is_gone name objects
at_itself objects name (Some object) = stored_is_found (record { name = name; object = object }) objects

pub at_others : (objects : List NamedObject) (name : List Rdn) (left : Option Object) (other : List Rdn)
    → is_same_name name other ≡ false → object_at (installed_at objects name left) other ≡ object_at objects other
at_others objects name None other h = others_are_left name objects other h
at_others objects name (Some object) other h = others_stay (record { name = name; object = object }) objects other h

-- changes of names that are greater than this one leave what stands there
pub stays_below : (objects : List NamedObject) (changes : Changed) (name : List Rdn)
    → AllByRecursion (λ n. name_cmp name n ≡ Less) (changed_names changes)
    → object_at (installed objects changes) name ≡ object_at objects name
stays_below objects [] name all = refl
stays_below objects (change ∷ changes) name all =
    stays_below (installed_at objects change.0 change.1) changes name all.1
    ∙ at_others objects change.0 change.1 name
    (not_same change.0 name Greater (turned name change.0 Less all.0) refl)

-- and those of other names
pub stays_beside : (objects : List NamedObject) (changes : Changed) (name : List Rdn)
    → (¬ Contains (changed_names changes) name) → object_at (installed objects changes) name ≡ object_at objects name
stays_beside objects [] name none = refl
stays_beside objects (change ∷ changes) name none =
    stays_beside (installed_at objects change.0 change.1) changes name (λ held. none (behind held))
    ∙ at_others objects change.0 change.1 name (other (is_same_name change.0 name) refl)
  where
    behind : Contains (changed_names changes) name → Contains (changed_names (change ∷ changes)) name
    behind held = (suc held.0, omega (arith, held.1), held.2)

    other : (b : Bool) → is_same_name change.0 name ≡ b → is_same_name change.0 name ≡ false
    other false h = h
    other true h = absurd (none (zero, omega arith, (name_Decides change.0 name).0 h))

-- what stands under the name of a change is what it says
now_there : (objects : List NamedObject) (changes : Changed) → IsStrictlySortedBy name_cmp (changed_names changes)
    → (k : ℕ) (change : List Rdn × Option Object) → k < length changes → get_or changes k change ≡ change
    → object_at (installed objects changes) change.0 ≡ change.1
unfolding IsStrictlySortedBy
now_there objects [] rising k change within is = absurd (omega arith)
now_there objects (first ∷ changes) rising zero change within is =
    subst (λ (c : List Rdn × Option Object). object_at (installed objects (first ∷ changes)) c.0 ≡ c.1) is
    (stays_below (installed_at objects first.0 first.1) changes first.0 rising.0
    ∙ at_itself objects first.0 first.1)
now_there objects (first ∷ changes) rising (suc k) change within is =
    now_there (installed_at objects first.0 first.1) changes rising.1 k change (omega arith) is

was_other : (objects : List NamedObject) (changes : Changed)
    → AllByRecursion (λ (change : List Rdn × Option Object). object_at objects change.0 ≢ change.1) changes
    → (k : ℕ) (change : List Rdn × Option Object) → k < length changes → get_or changes k change ≡ change
    → object_at objects change.0 ≢ change.1
was_other objects [] all k change within is = absurd (omega arith)
was_other objects (first ∷ changes) all zero change within is =
    subst (λ (c : List Rdn × Option Object). object_at objects c.0 ≢ c.1) is all.0
was_other objects (first ∷ changes) all (suc k) change within is =
    was_other objects changes all.1 k change (omega arith) is

-- two maps differ at the names of rising changes that are installed, each of which brings something else
pub are_changes : (objects : List NamedObject) (changes : Changed)
    → IsStrictlySortedBy name_cmp (changed_names changes)
    → AllByRecursion (λ (change : List Rdn × Option Object). object_at objects change.0 ≢ change.1) changes
    → AreChanges objects (installed objects changes) changes
are_changes objects changes rising others = record {
  rising = rising;
  each = λ change held. (
    now_there objects changes rising held.0 change held.1 held.2,
    was_other objects changes others held.0 change held.1 held.2,
  );
  others = stays_beside objects changes;
}
