-- The list of the names that are selected has those of the objects in scope that pass the filter: a map that rises by
-- name has one object under each name, so what is found there is the object that was tested.
use Rattle.std.proofs.Common.{◌≡◌, true, List, [], ◌∷◌, Option, None, Some, refl, sym, subst, inl, inr}
use Rattle.std.proofs.lemmas.Bool.{and_from, and_parts}
use Rattle.std.proofs.lemmas.Option.{same_Some}
use Rattle.std.specs.List.{AllByRecursion}
use Rattle.std.specs.Option.{option_map}
use Rattle.std.specs.Prelude.{Bool, Contains, filter, find}
use Rattle.term_model.specs.declared.name.Rdn.{Rdn}
use Rattle.term_model.specs.declared.object.Object.{Object}
use Rattle.term_model.specs.declared.objects.NamedObject.{NamedObject}
use Rattle.term_model.specs.declared.schema.Set.{Set}
use Rattle.term_model.specs.declared.scope.Scope.{Scope}
use Rattle.term_model.specs.Comparing.{is_same_name}
use Rattle.term_model.specs.FilterTests.{is_true_of}
use Rattle.term_model.specs.FilterTrees.{FilterTree}
use Rattle.term_model.specs.FilterTruth.{IsTrueOf}
use Rattle.term_model.specs.NamedObjects.{IsByName, names, object_at}
use Rattle.term_model.specs.Scope.{IsWithin, is_within}
use Rattle.term_model.specs.Selection.{IsSelected, is_selected, selected}
use Rattle.term_model.proofs.MapLaws.{name_Decides}
use Rattle.scope_select.proofs.ListLaws.{filter_gets, filter_has}
use Rattle.scope_select.proofs.PrefixLaws.{is_then_within, within_is}
use Rattle.cmis_filter.proofs.FilterLaws.{is_true, true_is}
use Rattle.set_laws.proofs.Found.{found_is}
use Rattle.set_laws.proofs.Members.{first_or_later, here, map_gets, nowhere, there}
use Rattle.op_engine.specs.Selecting.{IsThere}
use Rattle.op_engine.proofs.SelectLaws.{all_there, selected_rise}
use Rattle.selection_laws.specs.SelectionLaws.{ListHasSelected, SelectedRise}

-- a name is that of an entry
entry_of : (entries : List NamedObject) (name : List Rdn) → Contains (names entries) name
    → (entry : NamedObject) × Contains entries entry × (entry.name ≡ name)
entry_of [] name at = absurd (nowhere name at)
entry_of (first ∷ others) name at =
    elim (first_or_later first.name name (names others) at) [
      | inl same ↦ (first, here first others, same)
      | inr later ↦ (let h = entry_of others name later in (h.0, there first h.0 others h.1, h.2))
    ]

-- what holds of each entry holds of one of them
held_of : (P : NamedObject → Type 0) (entries : List NamedObject) (entry : NamedObject) → AllByRecursion P entries
    → Contains entries entry → P entry
held_of P [] entry all at = absurd (nowhere entry at)
held_of P (first ∷ others) entry all at =
    elim (first_or_later first entry others at) [
      | inl same ↦ subst P same all.0
      | inr later ↦ held_of P others entry all.1 later
    ]

-- an object that is found under a name stands in an entry of this name
found_entry : (objects : List NamedObject) (name : List Rdn) (object : Object) → object_at objects name ≡ Some object
    → (entry : NamedObject) × Contains objects entry × (entry.name ≡ name) × (entry.object ≡ object)
found_entry objects name object is =
    by (find (λ (entry : NamedObject). is_same_name entry.name name) objects) refl is
  where
    by : (o : Option NamedObject) → find (λ (entry : NamedObject). is_same_name entry.name name) objects ≡ o
        → option_map (λ (entry : NamedObject). entry.object) o ≡ Some object
        → (entry : NamedObject) × Contains objects entry × (entry.name ≡ name) × (entry.object ≡ object)
    by None at e = absurd (cc e)
    by (Some entry) at e =
        let found = found_is (λ (x : NamedObject). is_same_name x.name name) objects entry at in
        (entry, found.0, (name_Decides entry.name name).0 found.1, same_Some entry.object object e)

listed_is : (schema : Set) (objects : List NamedObject) (base : List Rdn) (scope : Scope) (passed : FilterTree)
    (name : List Rdn) → IsByName objects → Contains (selected schema objects base scope passed) name
    → IsSelected schema objects base scope passed name
listed_is schema objects base scope passed name rising at =
    let test : NamedObject → Bool = is_selected schema base scope passed in
    let from = entry_of (filter test objects) name at in
    let entry : NamedObject = from.0 in
    let held = filter_has test objects entry from.1 in
    let parts =
    and_parts (is_within base scope entry.name) (is_true_of schema.attributes entry.object.attrs passed) held.1 in
    subst (IsSelected schema objects base scope passed) from.2 (
      (map_gets (λ (x : NamedObject). x.name) objects entry held.0, within_is base scope entry.name parts.0),
      (
        entry.object,
        held_of (IsThere objects) objects entry (all_there objects rising) held.0,
        true_is schema.attributes entry.object.attrs passed parts.1,
      ),
    )

is_listed : (schema : Set) (objects : List NamedObject) (base : List Rdn) (scope : Scope) (passed : FilterTree)
    (name : List Rdn) → IsSelected schema objects base scope passed name
    → Contains (selected schema objects base scope passed) name
is_listed schema objects base scope passed name h =
    let test : NamedObject → Bool = is_selected schema base scope passed in
    let from = found_entry objects name h.1.0 h.1.1 in
    let entry : NamedObject = from.0 in
    let within : is_within base scope entry.name ≡ true =
    is_then_within base scope entry.name (subst (IsWithin base scope) (sym from.2) h.0.1) in
    let passes : is_true_of schema.attributes entry.object.attrs passed ≡ true =
    is_true schema.attributes entry.object.attrs passed
    (subst (λ (object : Object). IsTrueOf schema.attributes object.attrs passed) (sym from.3) h.1.2) in
    subst (Contains (selected schema objects base scope passed)) from.2
    (map_gets (λ (x : NamedObject). x.name) (filter test objects) entry
    (filter_gets test objects entry from.1
    (and_from (is_within base scope entry.name) (is_true_of schema.attributes entry.object.attrs passed) within
    passes)))

pub list_has_selected : ListHasSelected
list_has_selected = λ schema objects base scope passed name rising. (
  listed_is schema objects base scope passed name rising,
  is_listed schema objects base scope passed name,
)

pub selected_names_rise : SelectedRise
selected_names_rise = selected_rise
