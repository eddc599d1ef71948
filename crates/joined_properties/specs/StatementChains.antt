-- StatementChains: what comes of an attribute once many statements are joined, one after the other (X.722, section 8.4;
-- docs/PROFILE.md, section 18).
use Rattle.std.specs.Prelude.{◌++◌, ◌∷◌, [], ◌==◌, if◌then◌else◌, ℕ, List, Option, None, Some, slice_get}
use Rattle.std.specs.BTreeMap.{get}
use Rattle.std.specs.Option.{option_and_then}
use Rattle.std.specs.Ordering.{nat_cmp}
use Rattle.std.specs.Global.{Vec}
use Rattle.joined_statements.specs.JoinedStatements.{Attributes, IsJoinedOf, Values}
use Rattle.joined_statements.specs.declared.joined.Joined.{Joined}
use Rattle.joined_statements.specs.declared.joined.Joining.{Joining}
use Rattle.linked_parts.specs.declared.linked.LinkedClass.{LinkedClass}
use Rattle.joined_properties.specs.declared.statement.Statement.{Statement}
use Rattle.joined_properties.specs.OwnStatements.{Stated}

-- what each of these says is joined to what was there before
pub data IsChain {X : Type 0} (values : Values) (how : Joining) (said : X → Option Joined) (before : Option Joined) :
    List X → Option Joined → Type 0 where
  begin : IsChain values how said before [] before
  onward : {xs : List X} {now after : Option Joined} (x : X) → IsChain values how said before xs now →
      IsJoinedOf values how now (said x) after → IsChain values how said before (xs ++ x ∷ []) after

-- what a statement says of an attribute
abbrev pub said_by : ℕ → Statement → Option Joined
said_by attribute statement = if attribute == statement.attribute then Some statement.joined else None

-- what a table says of an attribute, among the tables of classes
abbrev pub said_in : List Attributes → ℕ → ℕ → Option Joined
said_in known attribute k = option_and_then (λ table. get nat_cmp table attribute) (slice_get known k)

-- the statements of packages
abbrev pub items_of : Option (Vec Statement) → List Statement
items_of None = []
items_of (Some statements) = statements.items

abbrev pub statements_of : Stated → List ℕ → List Statement
statements_of stated [] = []
statements_of stated (place ∷ places) = items_of (slice_get stated place) ++ statements_of stated places

abbrev pub own_statements : Stated → LinkedClass → List Statement
own_statements stated of_class =
    statements_of stated of_class.mandatory.items ++ statements_of stated of_class.conditional.items
