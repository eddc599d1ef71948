-- The changes of a plan, installed, make the objects of the outcome, which are no longer than those before.
use Rattle.std.proofs.Common.{◌≡◌, ℕ, true, List, Option, None, Some, is_some, refl}
use Rattle.std.specs.Prelude.{IfSome}
use Rattle.std.specs.Option.{option_map_or}
use Rattle.term_model.specs.declared.objects.NamedObject.{NamedObject}
use Rattle.term_model.specs.declared.request.Request.{Request}
use Rattle.term_model.specs.declared.schema.Set.{Set}
use Rattle.term_model.specs.NamedObjects.{IsByName}
use Rattle.operation_model.specs.OperationConditions.{AreSmall}
use Rattle.operation_model.specs.WholeOperation.{AreChanges, Changed, Outcome, installed, outcome}
use Rattle.op_install.proofs.Installed.{installed_is}
use Rattle.op_install.proofs.Staying.{outcomes_rise, outcomes_stay_small}

-- the objects that a request leaves
abbrev pub left_by : List NamedObject → Option Outcome → List NamedObject
left_by objects told = option_map_or (λ (left : Outcome). left.objects) told objects

pub objects_told : (schema : Set) (objects : List NamedObject) (asked : Request) (moment : ℕ) (changes : Changed)
    → IsByName objects → is_some (outcome schema objects asked moment) ≡ true
    → IfSome (outcome schema objects asked moment) (λ told. AreChanges objects told.objects changes)
    → installed objects changes ≡ left_by objects (outcome schema objects asked moment)
objects_told schema objects asked moment changes rising = by (outcome schema objects asked moment)
    (λ told is. outcomes_rise schema objects asked moment told rising is)
  where
    by : (o : Option Outcome) → ((told : Outcome) → o ≡ Some told → IsByName told.objects) → is_some o ≡ true
        → IfSome o (λ told. AreChanges objects told.objects changes) → installed objects changes ≡ left_by objects o
    by None rises some told = absurd cc
    by (Some left) rises some told = installed_is objects left.objects changes rising (rises left refl) told

pub small_told : (schema : Set) (objects : List NamedObject) (asked : Request) (moment : ℕ) → AreSmall schema objects
    → AreSmall schema (left_by objects (outcome schema objects asked moment))
small_told schema objects asked moment small = by (outcome schema objects asked moment)
    (λ told is. outcomes_stay_small schema objects asked moment told small is)
  where
    by : (o : Option Outcome) → ((told : Outcome) → o ≡ Some told → AreSmall schema told.objects)
        → AreSmall schema (left_by objects o)
    by None stays = small
    by (Some left) stays = stays left refl
