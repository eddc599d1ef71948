-- The changes between two maps, installed in the first, make the second: X.720, section 5.
use Rattle.std.proofs.Common.{◌≡◌, ◌≢◌, ◌⊎◌, Bool, true, false, List, [], ◌∷◌, Option, None, Some, inl, inr}
use Rattle.std.proofs.Common.{refl, subst, sym, ◌∙◌, ⊎_elim}
use Rattle.std.specs.Prelude.{Contains}
use Rattle.std.specs.List.{AllByRecursion}
use Rattle.term_model.specs.declared.name.Rdn.{Rdn}
use Rattle.term_model.specs.declared.object.Object.{Object}
use Rattle.term_model.specs.declared.objects.NamedObject.{NamedObject}
use Rattle.term_model.specs.Comparing.{is_same_name}
use Rattle.term_model.specs.NamedObjects.{IsByName, object_at}
use Rattle.term_model.proofs.MapLaws.{equal_maps, name_Decides, names_rise}
use Rattle.mo_list.proofs.ChangeLaws.{removed_rises}
use Rattle.operation_model.specs.WholeOperation.{AreChanges, Changed, installed, installed_at}
use Rattle.op_engine.proofs.MapLaws.{are_changes, changed_names}
use Rattle.set_laws.proofs.Members.{first_or_later, here, nowhere, there}

-- ---- the names rise

rises_at : (objects : List NamedObject) (name : List Rdn) (left : Option Object) → IsByName objects
    → IsByName (installed_at objects name left)
rises_at objects name None rising = removed_rises name objects rising
rises_at objects name (Some object) rising = names_rise (record { name = name; object = object }) objects rising

pub installed_rises : (objects : List NamedObject) (changes : Changed) → IsByName objects
    → IsByName (installed objects changes)
installed_rises objects [] rising = rising
installed_rises objects (change ∷ changes) rising =
    installed_rises (installed_at objects change.0 change.1) changes (rises_at objects change.0 change.1 rising)

-- ---- what stands under each name

-- a name is that of a change, or of none
abbrev IsOfChange : Changed → List Rdn → Type 0
IsOfChange changes name = (change : List Rdn × Option Object) × Contains changes change × (change.0 ≡ name)

change_or_none : (changes : Changed) (name : List Rdn)
    → IsOfChange changes name ⊎ (¬ Contains (changed_names changes) name)
change_or_none [] name = inr (nowhere name)
change_or_none (first ∷ changes) name = by (is_same_name first.0 name) refl (change_or_none changes name)
  where
    by : (b : Bool) → is_same_name first.0 name ≡ b
        → IsOfChange changes name ⊎ (¬ Contains (changed_names changes) name)
        → IsOfChange (first ∷ changes) name ⊎ (¬ Contains (changed_names (first ∷ changes)) name)
    by true same rest = inl (first, here first changes, (name_Decides first.0 name).0 same)
    by false other (inl found) = inl (found.0, there first found.0 changes found.1, found.2)
    by false other (inr absent) =
        inr (λ held. ⊎_elim (λ same. differ same) absent (first_or_later first.0 name (changed_names changes) held))
      where
        differ : first.0 ≡ name → ⊥
        differ same = absurd (cc (sym other ∙ (name_Decides first.0 name).1 same))

-- two maps with the same changes from one map have the same under each name
same_under : (before one other : List NamedObject) (changes : Changed) → AreChanges before one changes
    → AreChanges before other changes → (name : List Rdn) → object_at one name ≡ object_at other name
same_under before one other changes first second name = by (change_or_none changes name)
  where
    by : IsOfChange changes name ⊎ (¬ Contains (changed_names changes) name) → object_at one name ≡ object_at other name
    by (inl found) =
        subst (λ n. object_at one n ≡ object_at other n) found.2
        ((first.each found.0 found.1).0 ∙ sym (second.each found.0 found.1).0)
    by (inr absent) = first.others name absent ∙ sym (second.others name absent)

all_others : (before : List NamedObject) (rest : Changed)
    → ((change : List Rdn × Option Object) → Contains rest change → object_at before change.0 ≢ change.1)
    → AllByRecursion (λ (change : List Rdn × Option Object). object_at before change.0 ≢ change.1) rest
all_others before [] each = tt
all_others before (first ∷ rest) each = (
  each first (here first rest),
  all_others before rest (λ change held. each change (there first change rest held)),
)

-- the changes between two maps, installed in the first one, make the other one
pub installed_is : (before after : List NamedObject) (changes : Changed) → IsByName before → IsByName after
    → AreChanges before after changes → installed before changes ≡ after
installed_is before after changes rising after_rising told =
    equal_maps (installed before changes) after (installed_rises before changes rising) after_rising
    (same_under before (installed before changes) after changes
    (are_changes before changes told.rising
    (all_others before changes (λ change held. (told.each change held).1))) told)
