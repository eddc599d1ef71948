-- StatedLaws: for each attribute that a package of a class states there is a statement that says it, and each statement
-- says what is stated (X.722, sections 5.2 and 8.4).
use Rattle.std.proofs.Common.{◌≡◌, ◌<◌, ℕ, List, Some, arith, length}
use Rattle.std.specs.Prelude.{Contains, slice_get}
use Rattle.asn1_names.specs.ModuleTerms.{ModuleTerm}
use Rattle.linked_parts.specs.declared.linked.Linked.{Linked}
use Rattle.linked_parts.specs.declared.linked.LinkedUse.{LinkedUse}
use Rattle.class_faults.specs.StatedProperties.{OwnStates, States}
use Rattle.joined_statements.specs.JoinedStatements.{Values}
use Rattle.joined_properties.specs.OwnStatements.{OwnStatement, Stated}
use Rattle.joined_properties.specs.ReachedStatements.{HasStatement}
use Rattle.joined_properties.specs.declared.statement.Statement.{Statement}
use Rattle.joined_properties.proofs.GraphPlaces.{got_some, got_within, listed, placed}
use Rattle.linked_types.specs.PartTypes.{AreTold}
use Rattle.linked_types.specs.declared.type_table.TypeTable.{TypeTable}
use Rattle.package_statements.specs.PackageStatements.{AreStated, AreStatementsOf, IsStatementOf}

-- ---- elements of two lists that are told one by one

told_at : {X Y : Type 0} (Tells : X → Y → Type 0) (xs : List X) (ys : List Y) (k : ℕ) (x : X) → AreTold Tells xs ys →
    slice_get xs k ≡ Some x → (y : Y) × (slice_get ys k ≡ Some y) × Tells x y
told_at Tells xs ys k x h at =
    let within : k < length ys = let inside = got_within xs k x at in let size = h.size in omega arith in
    let got = got_some ys k within in
    (got.0, got.1, h.told k x got.0 at got.1)

of_told : {X Y : Type 0} (Tells : X → Y → Type 0) (xs : List X) (ys : List Y) (k : ℕ) (y : Y) → AreTold Tells xs ys →
    slice_get ys k ≡ Some y → (x : X) × (slice_get xs k ≡ Some x) × Tells x y
of_told Tells xs ys k y h at =
    let within : k < length xs = let inside = got_within ys k y at in let size = h.size in omega arith in
    let got = got_some xs k within in
    (got.0, got.1, h.told k got.0 y got.1 at)

told_among : {X Y : Type 0} (Tells : X → Y → Type 0) (xs : List X) (ys : List Y) (x : X) → AreTold Tells xs ys →
    Contains xs x → (y : Y) × Contains ys y × Tells x y
told_among Tells xs ys x h c =
    let place = placed xs x c in
    let told = told_at Tells xs ys place.0 x h place.1 in
    (told.0, listed ys place.0 told.0 told.1, told.2)

among_told : {X Y : Type 0} (Tells : X → Y → Type 0) (xs : List X) (ys : List Y) (y : Y) → AreTold Tells xs ys →
    Contains ys y → (x : X) × Contains xs x × Tells x y
among_told Tells xs ys y h c =
    let place = placed ys y c in
    let told = of_told Tells xs ys place.0 y h place.1 in
    (told.0, listed xs place.0 told.0 told.1, told.2)

-- ---- what a class states itself

-- the class at the place k states this, and has the statement that says it
pub record IsSaid (ms : List ModuleTerm) (linked : Linked) (table : TypeTable) (values : Values) (stated : Stated)
    (k : ℕ) (own : LinkedUse) (statement : Statement) : Type 0 where
  pub states : OwnStates linked k own
  pub has : OwnStatement linked.classes.items stated k statement
  pub says : IsStatementOf ms linked table values own statement

pub statement_of : (ms : List ModuleTerm) (linked : Linked) (table : TypeTable) (values : Values) (stated : Stated)
    (k : ℕ) (own : LinkedUse) → AreStated ms linked table values linked.packages.items stated →
    OwnStates linked k own → (statement : Statement) × IsSaid ms linked table values stated k own statement
statement_of ms linked table values stated k own are states =
    let kept = told_at (AreStatementsOf ms linked table values) linked.packages.items stated states.place
    states.of_package are states.package_at in
    let said = told_among (IsStatementOf ms linked table values) states.of_package.attributes.items kept.0.items own
    kept.2 states.says in (
      said.0,
      record {
        states = states;
        has = record {
          of_class = states.of_class;
          class_at = states.class_at;
          place = states.place;
          own = states.own;
          statements = kept.0;
          package_at = kept.1;
          says = said.1;
        };
        says = said.2;
      },
    )

pub stated_by : (ms : List ModuleTerm) (linked : Linked) (table : TypeTable) (values : Values) (stated : Stated)
    (k : ℕ) (statement : Statement) → AreStated ms linked table values linked.packages.items stated →
    OwnStatement linked.classes.items stated k statement →
    (own : LinkedUse) × IsSaid ms linked table values stated k own statement
stated_by ms linked table values stated k statement are has =
    let part = of_told (AreStatementsOf ms linked table values) linked.packages.items stated has.place has.statements
    are has.package_at in
    let own = among_told (IsStatementOf ms linked table values) part.0.attributes.items has.statements.items statement
    part.2 has.says in (
      own.0,
      record {
        states = record {
          of_class = has.of_class;
          class_at = has.class_at;
          place = has.place;
          own = has.own;
          of_package = part.0;
          package_at = part.1;
          says = own.1;
        };
        has = has;
        says = own.2;
      },
    )

-- ---- what it states or inherits

pub record IsSaidAbove (ms : List ModuleTerm) (linked : Linked) (table : TypeTable) (values : Values) (stated : Stated)
    (k : ℕ) (own : LinkedUse) (statement : Statement) : Type 0 where
  pub states : States linked k own
  pub has : HasStatement linked.classes.items stated k statement
  pub says : IsStatementOf ms linked table values own statement

pub statement_above : (ms : List ModuleTerm) (linked : Linked) (table : TypeTable) (values : Values) (stated : Stated)
    (k : ℕ) (own : LinkedUse) → AreStated ms linked table values linked.packages.items stated →
    States linked k own → (statement : Statement) × IsSaidAbove ms linked table values stated k own statement
statement_above ms linked table values stated k own are states =
    let said = statement_of ms linked table values stated states.above own are states.says in (
      said.0,
      record {
        states = states;
        has = record { above = states.above; is_above = states.is_above; says = said.1.has };
        says = said.1.says;
      },
    )

pub stated_above : (ms : List ModuleTerm) (linked : Linked) (table : TypeTable) (values : Values) (stated : Stated)
    (k : ℕ) (statement : Statement) → AreStated ms linked table values linked.packages.items stated →
    HasStatement linked.classes.items stated k statement →
    (own : LinkedUse) × IsSaidAbove ms linked table values stated k own statement
stated_above ms linked table values stated k statement are has =
    let own = stated_by ms linked table values stated has.above statement are has.says in (
      own.0,
      record {
        states = record { above = has.above; is_above = has.is_above; says = own.1.states };
        has = has;
        says = own.1.says;
      },
    )
