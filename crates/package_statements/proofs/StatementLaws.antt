-- StatementLaws: what is told of packages stays told in a later table, and no statement has two values itself.
use Rattle.std.proofs.Common.{◌≡◌, ◌<◌, ℕ, zero, suc, List, [], ◌∷◌, Option, None, Some, refl, ap, length}
use Rattle.std.proofs.Common.{arith}
use Rattle.std.specs.Prelude.{◌≢◌, Contains, slice_get, slice_index_or}
use Rattle.std.specs.BTreeSet.{BTreeSet}
use Rattle.std.specs.Global.{Vec}
use Rattle.asn1_names.specs.ModuleTerms.{ModuleTerm}
use Rattle.linked_parts.specs.declared.linked.Linked.{Linked}
use Rattle.linked_parts.specs.declared.linked.LinkedName.{LinkedName}
use Rattle.linked_parts.specs.declared.linked.LinkedPackage.{LinkedPackage}
use Rattle.linked_parts.specs.declared.linked.LinkedUse.{LinkedUse}
use Rattle.filled_syntaxes.specs.AssignedValues.{AreAssignedValues}
use Rattle.joined_statements.specs.JoinedStatements.{Values}
use Rattle.joined_statements.specs.declared.held.Held.{Held}
use Rattle.joined_statements.specs.declared.held.Held.TheVariants.{NoValue, Nothing, One, Unequal}
use Rattle.joined_properties.specs.OwnStatements.{AreStatements, Stated}
use Rattle.joined_properties.specs.declared.statement.Statement.{Statement}
use Rattle.linked_types.specs.PartTypes.{AreTold}
use Rattle.linked_types.specs.TypeTables.{Grows}
use Rattle.linked_types.specs.declared.type_table.TypeTable.{TypeTable}
use Rattle.linked_types.proofs.NamingLaws.{Stays, told_later}
use Rattle.linked_types.proofs.TableLaws.{type_stays}
use Rattle.package_statements.specs.PackageStatements.{AreStated, AreStatementsOf, IsStatementOf, TellsHeld}
use Rattle.package_statements.specs.PackageStatements.{TellsPlaces}

-- ---- in a later table

pub places_later : (ms : List ModuleTerm) (linked : Linked) {old new : TypeTable} (name : Option LinkedName)
    (places : BTreeSet ℕ) → Grows old new → TellsPlaces ms linked old name places →
    TellsPlaces ms linked new name places
places_later ms linked None places grows h = h
places_later ms linked (Some name) places grows h = (h.0, type_stays grows h.1, h.2)

pub statement_later : (ms : List ModuleTerm) (linked : Linked) (values : Values) {old new : TypeTable}
    (stated : LinkedUse) (statement : Statement) → Grows old new → IsStatementOf ms linked old values stated statement →
    IsStatementOf ms linked new values stated statement
statement_later ms linked values stated statement grows h = record {
  attribute = h.attribute;
  gets = h.gets;
  replaces = h.replaces;
  adds = h.adds;
  removes = h.removes;
  sets_default = h.sets_default;
  default_ = h.default_;
  initial_ = h.initial_;
  permitted = places_later ms linked stated.permitted statement.joined.permitted grows h.permitted;
  required = places_later ms linked stated.required statement.joined.required grows h.required;
}

pub package_later : (ms : List ModuleTerm) (linked : Linked) (values : Values) {old new : TypeTable}
    (part : LinkedPackage) (statements : Vec Statement) → Grows old new →
    AreStatementsOf ms linked old values part statements → AreStatementsOf ms linked new values part statements
package_later ms linked values {old} {new} part statements grows h =
    told_later (IsStatementOf ms linked old values) (IsStatementOf ms linked new values)
    (λ x y. statement_later ms linked values x y grows) h

pub stated_later : (ms : List ModuleTerm) (linked : Linked) (values : Values) {old new : TypeTable}
    (packages : List LinkedPackage) (stated : Stated) → Grows old new → AreStated ms linked old values packages stated →
    AreStated ms linked new values packages stated
stated_later ms linked values {old} {new} packages stated grows h =
    told_later (AreStatementsOf ms linked old values) (AreStatementsOf ms linked new values)
    (λ x y. package_later ms linked values x y grows) h

-- ---- where the values of assignments are known

abbrev pub KnownUse : List ModuleTerm → Linked → Values → TypeTable → LinkedUse → Statement → Type 0
KnownUse ms linked values table stated statement =
    AreAssignedValues ms linked values → IsStatementOf ms linked table values stated statement

abbrev pub KnownPackage : List ModuleTerm → Linked → Values → TypeTable → LinkedPackage → Vec Statement → Type 0
KnownPackage ms linked values table part statements =
    AreAssignedValues ms linked values → AreStatementsOf ms linked table values part statements

pub use_stays : (ms : List ModuleTerm) (linked : Linked) (values : Values) → Stays (KnownUse ms linked values)
use_stays ms linked values =
    record { later = λ old new x y grows h known. statement_later ms linked values x y grows (h known) }

pub package_stays : (ms : List ModuleTerm) (linked : Linked) (values : Values) → Stays (KnownPackage ms linked values)
package_stays ms linked values =
    record { later = λ old new x y grows h known. package_later ms linked values x y grows (h known) }

pub known_uses : (ms : List ModuleTerm) (linked : Linked) (values : Values) (table : TypeTable) (part : LinkedPackage)
    (statements : Vec Statement) → AreAssignedValues ms linked values →
    AreTold (KnownUse ms linked values table) part.attributes.items statements.items →
    AreStatementsOf ms linked table values part statements
known_uses ms linked values table part statements known h =
    told_later (KnownUse ms linked values table) (IsStatementOf ms linked table values) (λ x y told. told known) h

pub known_packages : (ms : List ModuleTerm) (linked : Linked) (values : Values) (table : TypeTable)
    (packages : List LinkedPackage) (stated : Stated) → AreAssignedValues ms linked values →
    AreTold (KnownPackage ms linked values table) packages stated → AreStated ms linked table values packages stated
known_packages ms linked values table packages stated known h =
    told_later (KnownPackage ms linked values table) (AreStatementsOf ms linked table values)
    (λ x y told. told known) h

-- ---- elements of lists

pub contained_get : {X : Type 0} (xs : List X) (x : X) → Contains xs x → (k : ℕ) × (slice_get xs k ≡ Some x)
contained_get {X} xs x (k, within, is) = by xs k within is
  where
    by : (ys : List X) (j : ℕ) → j < length ys → slice_index_or ys j x ≡ x → (k : ℕ) × (slice_get ys k ≡ Some x)
    by [] j within is = absurd (omega (arith, within))
    by (y ∷ ys) zero within is = (0, ap (λ z. Some z) is)
    by (y ∷ ys) (suc j) within is = let rest = by ys j (omega (arith, within)) is in (suc rest.0, rest.1)

-- that of which an element is told
told_of : {X Y : Type 0} (xs : List X) (ys : List Y) (k : ℕ) (y : Y) → length ys ≡ length xs → slice_get ys k ≡ Some y →
    (x : X) × (slice_get xs k ≡ Some x)
told_of xs [] k y size at = absurd (cc)
told_of [] (z ∷ ys) k y size at = absurd (omega (arith, size))
told_of (x ∷ xs) (z ∷ ys) zero y size at = (x, refl)
told_of (x ∷ xs) (z ∷ ys) (suc k) y size at = told_of xs ys k y (omega (arith, size)) at

-- ---- one default, and one initial value, at most

not_unequal : (ms : List ModuleTerm) (linked : Linked) (values : Values) (name : Option LinkedName) (held : Held) →
    TellsHeld ms linked values name held → held ≢ Unequal
not_unequal ms linked values None Nothing told = λ is. absurd (cc)
not_unequal ms linked values None NoValue told = absurd told
not_unequal ms linked values None (One number) told = absurd told
not_unequal ms linked values None Unequal told = absurd told
not_unequal ms linked values (Some name) Nothing told = absurd told
not_unequal ms linked values (Some name) NoValue told = λ is. absurd (cc)
not_unequal ms linked values (Some name) (One number) told = λ is. absurd (cc)
not_unequal ms linked values (Some name) Unequal told = absurd told

one_statement : (ms : List ModuleTerm) (linked : Linked) (table : TypeTable) (values : Values) (part : LinkedPackage)
    (statements : Vec Statement) (statement : Statement) → AreStatementsOf ms linked table values part statements →
    Contains statements.items statement → (stated : LinkedUse) × IsStatementOf ms linked table values stated statement
one_statement ms linked table values part statements statement told says =
    let place = contained_get statements.items statement says in
    let use_ = told_of part.attributes.items statements.items place.0 statement told.size place.1 in
    (use_.0, told.told place.0 use_.0 statement use_.1 place.1)

pub are_statements : (ms : List ModuleTerm) (linked : Linked) (table : TypeTable) (values : Values)
    (packages : List LinkedPackage) (stated : Stated) → AreStated ms linked table values packages stated →
    AreStatements stated
are_statements ms linked table values packages stated told place statements statement at says =
    let part = told_of packages stated place statements told.size at in
    let one = one_statement ms linked table values part.0 statements statement
    (told.told place part.0 statements part.1 at) says in (
      not_unequal ms linked values one.0.default_value statement.joined.default one.1.default_,
      not_unequal ms linked values one.0.initial_value statement.joined.initial one.1.initial_,
    )
