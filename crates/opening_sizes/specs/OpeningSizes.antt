-- How long the objects at the opening are: docs/PROFILE.md, sections 15 and 16.
use Rattle.std.specs.Prelude.{◌≡◌, List, Ok}
use Rattle.term_model.specs.declared.objects.NamedObject.{NamedObject}
use Rattle.term_model.specs.declared.schema.Set.{Set}
use Rattle.term_model.specs.Opening.{opened}
use Rattle.operation_model.specs.OperationConditions.{AreSmall}

-- each object that an opening gives has at most 16,384 octets
abbrev pub OpenedAreSmall : Type 0
OpenedAreSmall = (schema : Set) (objects : List NamedObject) → opened schema ≡ Ok objects → AreSmall schema objects
