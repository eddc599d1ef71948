-- ReachedStatements: the statements that a class has, its own and those of the classes from which it derives, directly
-- or not (X.722, section 5.2; docs/PROFILE.md, section 18).
use Rattle.std.specs.Prelude.{◌≡◌, ℕ, List}
use Rattle.joined_statements.specs.declared.joined.Joined.{Joined}
use Rattle.link_graphs.specs.Leading.{Reaches}
use Rattle.linked_parts.specs.declared.linked.LinkedClass.{LinkedClass}
use Rattle.class_faults.specs.CyclicFaults.{superclasses_of}
use Rattle.joined_properties.specs.declared.statement.Statement.{Statement}
use Rattle.joined_properties.specs.OwnStatements.{OwnStatement, Stated}

-- a class that k reaches has this statement as its own
pub record HasStatement (classes : List LinkedClass) (stated : Stated) (k : ℕ) (statement : Statement) : Type 0 where
  pub above : ℕ
  pub is_above : Reaches (superclasses_of classes) k above
  pub says : OwnStatement classes stated above statement

-- the class at k has a statement of the attribute, of which this holds
pub record HasSuch (classes : List LinkedClass) (stated : Stated) (k attribute : ℕ) (IsSuch : Joined → Type 0)
    : Type 0 where
  pub statement : Statement
  pub has : HasStatement classes stated k statement
  pub of_attribute : statement.attribute ≡ attribute
  pub such : IsSuch statement.joined
