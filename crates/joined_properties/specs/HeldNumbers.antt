-- HeldNumbers: the numbers of the defaults, or of the initial values, that hold of an attribute in a class: those that
-- the class itself states hide those of the classes from which it derives (X.722, section 8.4; docs/PROFILE.md,
-- section 18).
use Rattle.std.specs.Prelude.{◌≡◌, ℕ, List, Some, Contains, slice_get}
use Rattle.joined_statements.specs.declared.held.Held.{Held}
use Rattle.joined_statements.specs.declared.held.Held.TheVariants.{Nothing, One}
use Rattle.joined_statements.specs.declared.joined.Joined.{Joined}
use Rattle.linked_parts.specs.declared.linked.LinkedClass.{LinkedClass}
use Rattle.joined_properties.specs.declared.statement.Statement.{Statement}
use Rattle.joined_properties.specs.OwnStatements.{OwnStatement, Stated}

-- a default, or an initial value, that is stated without a value hides the inherited ones too
pub data HoldsNumber (which : Joined → Held) (attribute : ℕ) (classes : List LinkedClass) (stated : Stated) :
    ℕ → ℕ → Type 0 where
  own : {k number : ℕ} (statement : Statement) → OwnStatement classes stated k statement →
      statement.attribute ≡ attribute → which statement.joined ≡ One number →
      HoldsNumber which attribute classes stated k number
  inherited : {k above number : ℕ} (of_class : LinkedClass) → slice_get classes k ≡ Some of_class →
      ((statement : Statement) → OwnStatement classes stated k statement → statement.attribute ≡ attribute →
      which statement.joined ≡ Nothing) →
      Contains of_class.superclasses.items above → HoldsNumber which attribute classes stated above number →
      HoldsNumber which attribute classes stated k number
