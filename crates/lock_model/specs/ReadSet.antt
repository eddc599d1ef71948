-- The read set of a unit: what of a map an operation with this unit depends on. docs/PROFILE.md, section 20.
use Rattle.std.specs.Prelude.{ℕ, List, [], ◌∷◌, ◌++◌, Bool, false, Option, filter}
use Rattle.std.specs.Option.{option_map}
use Rattle.term_model.specs.declared.name.Rdn.{Rdn}
use Rattle.term_model.specs.declared.object.Object.{Object}
use Rattle.term_model.specs.declared.objects.NamedObject.{NamedObject}
use Rattle.term_model.specs.declared.schema.Set.{Set}
use Rattle.term_model.specs.NamedObjects.{object_at}
use Rattle.lock_model.specs.declared.lock_name.LockName.{LockName}
use Rattle.lock_model.specs.LockPath.{is_inside}
use Rattle.lock_model.specs.Units.{is_control_part}

-- the objects of the unit, as a map of its own
abbrev pub inside : LockName → List NamedObject → List NamedObject
inside unit objects = filter (λ (entry : NamedObject). is_inside unit entry.name) objects

-- which class stands under a name, or none
abbrev pub class_at : List NamedObject → List Rdn → Option (List ℕ)
class_at objects name = option_map (λ (object : Object). object.class) (object_at objects name)

-- of the superiors of a name their classes, from the root on
abbrev pub classes_from : List NamedObject → List Rdn → List Rdn → List (Option (List ℕ))
classes_from objects front [] = []
classes_from objects front (first ∷ others) =
    class_at objects front ∷ classes_from objects (front ++ first ∷ []) others

-- the control objects, directly below the root
abbrev pub is_control_name : Set → List Rdn → Bool
is_control_name schema (part ∷ []) = is_control_part schema part
is_control_name schema _ = false

abbrev pub controls : Set → List NamedObject → List NamedObject
controls schema objects = filter (λ (entry : NamedObject). is_control_name schema entry.name) objects

pub record ReadSet : Type 0 where
  pub above : List (Option (List ℕ))
  pub rules : List NamedObject
  pub held : List NamedObject

abbrev pub read_set : Set → LockName → List NamedObject → ReadSet
read_set schema unit objects = record {
  above = classes_from objects [] unit.name;
  rules = controls schema objects;
  held = inside unit objects;
}
