-- OwnStatements: what the packages of a class state itself, told by the places of packages (X.722, section 8.3;
-- docs/PROFILE.md, section 18).
use Rattle.std.specs.Prelude.{◌≡◌, ◌≢◌, ◌⊎◌, ℕ, List, Some, Contains, slice_get}
use Rattle.std.specs.Global.{Vec}
use Rattle.joined_statements.specs.declared.held.Held.TheVariants.{Unequal}
use Rattle.linked_parts.specs.declared.linked.LinkedClass.{LinkedClass}
use Rattle.joined_properties.specs.declared.statement.Statement.{Statement}

-- what each package states, by its place
abbrev pub Stated : Type 0
Stated = List (Vec Statement)

-- a package of the class at the place k, mandatory or conditional, has this statement
pub record OwnStatement (classes : List LinkedClass) (stated : Stated) (k : ℕ) (statement : Statement) : Type 0 where
  pub of_class : LinkedClass
  pub class_at : slice_get classes k ≡ Some of_class
  pub place : ℕ
  pub own : Contains of_class.mandatory.items place ⊎ Contains of_class.conditional.items place
  pub statements : Vec Statement
  pub package_at : slice_get stated place ≡ Some statements
  pub says : Contains statements.items statement

-- each statement of a package states one default, and one initial value, at most
abbrev pub AreStatements : Stated → Type 0
AreStatements stated = (place : ℕ) (statements : Vec Statement) (statement : Statement) →
    slice_get stated place ≡ Some statements → Contains statements.items statement →
    (statement.joined.default ≢ Unequal) × (statement.joined.initial ≢ Unequal)
