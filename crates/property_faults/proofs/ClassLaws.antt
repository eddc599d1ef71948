-- ClassLaws: what is wrong with the properties of a class, as its table tells them, is what is wrong with them (X.722,
-- section 8.4; docs/PROFILE.md, section 18).
use Rattle.std.proofs.Common.{◌≡◌, ◌∙◌, ℕ, List, Option, None, Some, true, refl, sym, subst, ⊎_elim, inl, inr, arith}
use Rattle.std.specs.Prelude.{◌⊎◌, slice_get}
use Rattle.std.specs.BTreeMap.{get}
use Rattle.std.specs.Ordering.{nat_cmp}
use Rattle.asn1_names.specs.ModuleTerms.{ModuleTerm}
use Rattle.linked_parts.specs.declared.linked.Linked.{Linked}
use Rattle.linked_parts.specs.declared.linked.LinkedClass.{LinkedClass}
use Rattle.linked_parts.specs.declared.linked.LinkedUse.{LinkedUse}
use Rattle.class_faults.specs.FaultSets.{FaultSet, Notes}
use Rattle.class_faults.specs.FirstClassFault.{ClassFault}
use Rattle.class_faults.specs.FirstClassFault.ClassFault.{ClassCyclic, DefaultUnequal, PermittedEmpty, SetMissing}
use Rattle.class_faults.specs.FirstClassFault.ClassFault.{ValueBad}
use Rattle.class_faults.specs.PackageFaults.{EmptyPermittedAt, IsClassAt}
use Rattle.class_faults.specs.PlaceFaults.{AtPlaces}
use Rattle.class_faults.specs.StatedProperties.{HoldsUnequal}
use Rattle.class_faults.specs.declared.first_fault.ClassFault.{ClassFault as NotedFault}
use Rattle.class_faults.proofs.NotingLaws.{noted_by}
use Rattle.joined_statements.specs.JoinedStatements.{Attributes, Values}
use Rattle.joined_statements.specs.declared.joined.Joined.{Joined}
use Rattle.joined_properties.specs.ClassProperties.{AreProperties, ArePropertiesOfAll, IsJoinedOver}
use Rattle.joined_properties.specs.OwnStatements.{Stated}
use Rattle.joined_properties.specs.ReachedStatements.{HasSuch}
use Rattle.joined_properties.proofs.FactLaws.{either, or_first, or_second}
use Rattle.joined_properties.proofs.GraphPlaces.{got_some, got_within}
use Rattle.linked_types.specs.declared.type_table.TypeTable.{TypeTable}
use Rattle.package_statements.specs.PackageStatements.{AreStated}
use Rattle.property_faults.specs.PropertyFaults.{PropertyFaults}
use Rattle.property_faults.specs.TableFaults.{SomeEmpty, SomeUnequal, TableFaults, is_unequal, types_at}
use Rattle.property_faults.proofs.HeldLaws.{AreHeld, has_such, number_holds}
use Rattle.property_faults.proofs.PermittedLaws.{are_permitted, left_by_fewer}
use Rattle.property_faults.proofs.StatedLaws.{stated_above, statement_above}
use Rattle.property_faults.proofs.UnequalLaws.{held_unequal, unequal_hold}

-- what is known of the class at the place k: what packages state, and its table
pub record IsClassTable (ms : List ModuleTerm) (linked : Linked) (table : TypeTable) (values : Values) (stated : Stated)
    (k : ℕ) (properties : Attributes) : Type 0 where
  pub are : AreStated ms linked table values linked.packages.items stated
  pub each : (attribute : ℕ) →
      AreProperties values linked.classes.items stated k attribute (get nat_cmp properties attribute)

joined_over : (ms : List ModuleTerm) (linked : Linked) (table : TypeTable) (values : Values) (stated : Stated)
    (k : ℕ) (properties : Attributes) (attribute : ℕ) (joined : Joined) →
    IsClassTable ms linked table values stated k properties → get nat_cmp properties attribute ≡ Some joined →
    IsJoinedOver values linked.classes.items stated k attribute joined
joined_over ms linked table values stated k properties attribute joined known at =
    subst (AreProperties values linked.classes.items stated k attribute) at (known.each attribute)

-- an attribute that is stated stands in the table
pub record StandsWith (values : Values) (linked : Linked) (stated : Stated) (k : ℕ) (properties : Attributes)
    (attribute : ℕ) : Type 0 where
  pub joined : Joined
  pub stands : get nat_cmp properties attribute ≡ Some joined
  pub over : IsJoinedOver values linked.classes.items stated k attribute joined

stands_with : (ms : List ModuleTerm) (linked : Linked) (table : TypeTable) (values : Values) (stated : Stated)
    (k : ℕ) (properties : Attributes) (attribute : ℕ) → IsClassTable ms linked table values stated k properties →
    HasSuch linked.classes.items stated k attribute (λ other. Unit {0}) →
    StandsWith values linked stated k properties attribute
stands_with ms linked table values stated k properties attribute known such =
    by (get nat_cmp properties attribute) refl (known.each attribute)
  where
    by : (o : Option Joined) → get nat_cmp properties attribute ≡ o →
        AreProperties values linked.classes.items stated k attribute o →
        StandsWith values linked stated k properties attribute
    by None at told = absurd (told such)
    by (Some joined) at told = record { joined = joined; stands = at; over = told }

-- ---- defaults and initial values

defaults_held : (ms : List ModuleTerm) (linked : Linked) (table : TypeTable) (values : Values) (stated : Stated) →
    AreStated ms linked table values linked.packages.items stated →
    AreHeld ms linked table values stated (λ (own : LinkedUse). own.default_value) (λ (joined : Joined). joined.default)
defaults_held ms linked table values stated are = record { are = are; tells = λ own statement says. says.default_ }

initials_held : (ms : List ModuleTerm) (linked : Linked) (table : TypeTable) (values : Values) (stated : Stated) →
    AreStated ms linked table values linked.packages.items stated →
    AreHeld ms linked table values stated (λ (own : LinkedUse). own.initial_value) (λ (joined : Joined). joined.initial)
initials_held ms linked table values stated are = record { are = are; tells = λ own statement says. says.initial_ }

-- two defaults, or two initial values, that are unequal hold
abbrev HoldsEither : List ModuleTerm → Linked → ℕ → ℕ → Type 0
HoldsEither ms linked attribute k = HoldsUnequal ms linked (λ (own : LinkedUse). own.default_value) attribute k
    ⊎ HoldsUnequal ms linked (λ (own : LinkedUse). own.initial_value) attribute k

some_hold : (ms : List ModuleTerm) (linked : Linked) (table : TypeTable) (values : Values) (stated : Stated)
    (k : ℕ) (properties : Attributes) → IsClassTable ms linked table values stated k properties →
    (some : SomeUnequal properties) → HoldsEither ms linked some.attribute k
some_hold ms linked table values stated k properties known some =
    let joined = some.joined in
    let over = joined_over ms linked table values stated k properties some.attribute joined known some.stands in
    ⊎_elim
    (λ (e : is_unequal joined.default ≡ true).
    inl (unequal_hold ms linked table values stated (λ (own : LinkedUse). own.default_value)
    (λ (other : Joined). other.default) some.attribute k joined.default
    (defaults_held ms linked table values stated known.are) over.default_ e))
    (λ (e : is_unequal joined.initial ≡ true).
    inr (unequal_hold ms linked table values stated (λ (own : LinkedUse). own.initial_value)
    (λ (other : Joined). other.initial) some.attribute k joined.initial
    (initials_held ms linked table values stated known.are) over.initial_ e))
    (either (is_unequal joined.default) (is_unequal joined.initial) some.unequal)

hold_some : (ms : List ModuleTerm) (linked : Linked) (table : TypeTable) (values : Values) (stated : Stated)
    (k : ℕ) (properties : Attributes) (attribute : ℕ) → IsClassTable ms linked table values stated k properties →
    HoldsEither ms linked attribute k → SomeUnequal properties
hold_some ms linked table values stated k properties attribute known (inl two) =
    let held = defaults_held ms linked table values stated known.are in
    let number = number_holds ms linked table values stated (λ (own : LinkedUse). own.default_value)
    (λ (other : Joined). other.default) attribute held two.one_holds in
    let there = stands_with ms linked table values stated k properties attribute known
    (has_such (λ (other : Joined). other.default) attribute linked.classes.items stated number.holds) in
    record {
      attribute = attribute;
      joined = there.joined;
      stands = there.stands;
      unequal = or_first (is_unequal there.joined.default) (is_unequal there.joined.initial)
          (held_unequal ms linked table values stated (λ (own : LinkedUse). own.default_value)
          (λ (other : Joined). other.default) attribute k there.joined.default held there.over.default_ two);
    }
hold_some ms linked table values stated k properties attribute known (inr two) =
    let held = initials_held ms linked table values stated known.are in
    let number = number_holds ms linked table values stated (λ (own : LinkedUse). own.initial_value)
    (λ (other : Joined). other.initial) attribute held two.one_holds in
    let there = stands_with ms linked table values stated k properties attribute known
    (has_such (λ (other : Joined). other.initial) attribute linked.classes.items stated number.holds) in
    record {
      attribute = attribute;
      joined = there.joined;
      stands = there.stands;
      unequal = or_second (is_unequal there.joined.default) (is_unequal there.joined.initial)
          (held_unequal ms linked table values stated (λ (own : LinkedUse). own.initial_value)
          (λ (other : Joined). other.initial) attribute k there.joined.initial held there.over.initial_ two);
    }

-- ---- permitted values

some_permit_none : (ms : List ModuleTerm) (linked : Linked) (table : TypeTable) (values : Values) (stated : Stated)
    (k : ℕ) (properties : Attributes) (document at : ℕ) → IsClassTable ms linked table values stated k properties →
    IsClassAt linked k document at → SomeEmpty ms linked table properties → EmptyPermittedAt ms linked document at
some_permit_none ms linked table values stated k properties document at known of some =
    let over = joined_over ms linked table values stated k properties some.attribute some.joined known some.stands in
    let own = stated_above ms linked table values stated k over.is_stated.statement known.are over.is_stated.has in
    record {
      k = k;
      is_class = of;
      attribute = some.attribute;
      stated = own.0;
      states = own.1.states;
      of_attribute = sym own.1.says.attribute ∙ over.is_stated.of_attribute;
      syntax = some.empty.syntax;
      has = some.empty.has;
      types = types_at table some.joined.permitted.keys;
      permit = are_permitted ms linked table values stated k some.attribute some.joined known.are over;
      empty = some.empty.empty;
    }

none_permitted : (ms : List ModuleTerm) (linked : Linked) (table : TypeTable) (values : Values) (stated : Stated)
    (properties : Attributes) (document at : ℕ) → (fault : EmptyPermittedAt ms linked document at) →
    IsClassTable ms linked table values stated fault.k properties → SomeEmpty ms linked table properties
none_permitted ms linked table values stated properties document at fault known =
    let said = statement_above ms linked table values stated fault.k fault.stated known.are fault.states in
    let there = stands_with ms linked table values stated fault.k properties fault.attribute known (record {
      statement = said.0;
      has = said.1.has;
      of_attribute = said.1.says.attribute ∙ fault.of_attribute;
      such = tt;
    }) in
    let permit = are_permitted ms linked table values stated fault.k fault.attribute there.joined known.are there.over
    in record {
      attribute = fault.attribute;
      joined = there.joined;
      stands = there.stands;
      empty = record {
        syntax = fault.syntax;
        has = fault.has;
        empty = λ some. fault.empty
            (left_by_fewer fault.syntax (types_at table there.joined.permitted.keys) fault.types
            (λ type c. (permit.each type).1 ((fault.permit.each type).0 c)) some);
      };
    }

-- ---- all classes

-- what is known of all classes
pub record AreClassTables (ms : List ModuleTerm) (linked : Linked) (table : TypeTable) (values : Values)
    (stated : Stated) (known : List Attributes) : Type 0 where
  pub are : AreStated ms linked table values linked.packages.items stated
  pub properties : ArePropertiesOfAll values linked.classes.items stated known

class_table : (ms : List ModuleTerm) (linked : Linked) (table : TypeTable) (values : Values) (stated : Stated)
    (known : List Attributes) (k : ℕ) (properties : Attributes) →
    AreClassTables ms linked table values stated known → slice_get known k ≡ Some properties →
    IsClassTable ms linked table values stated k properties
class_table ms linked table values stated known k properties all at =
    record { are = all.are; each = λ attribute. all.properties.each k properties at attribute }

-- the fault of a class, by what its table tells
class_told : (ms : List ModuleTerm) (linked : Linked) (table : TypeTable) (values : Values) (stated : Stated)
    (known : List Attributes) (k : ℕ) (of_class : LinkedClass) (o : Option Attributes) (kind : ClassFault)
    (document at : ℕ) → AreClassTables ms linked table values stated known → slice_get known k ≡ o →
    slice_get linked.classes.items k ≡ Some of_class → TableFaults ms linked table o of_class.head kind document at →
    PropertyFaults ms linked kind document at
class_told ms linked table values stated known k of_class None kind document at all there stands fault = absurd fault
class_told ms linked table values stated known k of_class (Some properties) kind document at all there stands
    (inl fault) =
    let of = class_table ms linked table values stated known k properties all there in
    subst (λ x. PropertyFaults ms linked x document at) fault.1 (record {
      k = k;
      is_class = record {
        of_class = of_class;
        stands = stands;
        label = record { in_document = fault.2; at_token = fault.3 };
      };
      attribute = fault.0.attribute;
      unequal = some_hold ms linked table values stated k properties of fault.0;
    })
class_told ms linked table values stated known k of_class (Some properties) kind document at all there stands
    (inr fault) =
    let of = class_table ms linked table values stated known k properties all there in
    subst (λ x. PropertyFaults ms linked x document at) fault.1
    (some_permit_none ms linked table values stated k properties document at of
    (record {
      of_class = of_class;
      stands = stands;
      label = record { in_document = fault.2; at_token = fault.3 };
    }) fault.0)

-- the faults of each class, by its table
abbrev pub EachFault : List ModuleTerm → Linked → TypeTable → List Attributes → ℕ → LinkedClass → FaultSet
EachFault ms linked table known k of_class = TableFaults ms linked table (slice_get known k) of_class.head

-- the table of a class
table_of : (ms : List ModuleTerm) (linked : Linked) (table : TypeTable) (values : Values) (stated : Stated)
    (known : List Attributes) (k : ℕ) (of_class : LinkedClass) → AreClassTables ms linked table values stated known →
    slice_get linked.classes.items k ≡ Some of_class → (properties : Attributes) × (slice_get known k ≡ Some properties)
table_of ms linked table values stated known k of_class all stands =
    let within = got_within linked.classes.items k of_class stands in
    let size = all.properties.size in
    got_some known k (omega arith)

told_class : (ms : List ModuleTerm) (linked : Linked) (table : TypeTable) (values : Values) (stated : Stated)
    (known : List Attributes) (kind : ClassFault) (document at : ℕ) →
    AreClassTables ms linked table values stated known → PropertyFaults ms linked kind document at →
    AtPlaces (EachFault ms linked table known) linked.classes.items kind document at
told_class ms linked table values stated known DefaultUnequal document at all fault =
    let of = fault.is_class in
    let own = table_of ms linked table values stated known fault.k of.of_class all of.stands in
    let class_is = class_table ms linked table values stated known fault.k own.0 all own.1 in (
      fault.k,
      of.of_class,
      of.stands,
      subst (λ o. TableFaults ms linked table o of.of_class.head DefaultUnequal document at) (sym own.1) (inl (
        hold_some ms linked table values stated fault.k own.0 fault.attribute class_is fault.unequal,
        refl,
        of.label.in_document,
        of.label.at_token,
      )),
    )
told_class ms linked table values stated known PermittedEmpty document at all fault =
    let of = fault.is_class in
    let own = table_of ms linked table values stated known fault.k of.of_class all of.stands in
    let class_is = class_table ms linked table values stated known fault.k own.0 all own.1 in (
      fault.k,
      of.of_class,
      of.stands,
      subst (λ o. TableFaults ms linked table o of.of_class.head PermittedEmpty document at) (sym own.1) (inr (
        none_permitted ms linked table values stated own.0 document at fault class_is,
        refl,
        of.label.in_document,
        of.label.at_token,
      )),
    )
told_class ms linked table values stated known ClassCyclic document at all fault = absurd fault
told_class ms linked table values stated known SetMissing document at all fault = absurd fault
told_class ms linked table values stated known ValueBad document at all fault = absurd fault

pub faults_noted : (ms : List ModuleTerm) (linked : Linked) (table : TypeTable) (values : Values) (stated : Stated)
    (known : List Attributes) {one next : Option NotedFault} → AreClassTables ms linked table values stated known →
    Notes (AtPlaces (EachFault ms linked table known) linked.classes.items) one next →
    Notes (PropertyFaults ms linked) one next
faults_noted ms linked table values stated known all h =
    noted_by (AtPlaces (EachFault ms linked table known) linked.classes.items) (PropertyFaults ms linked)
    (λ kind document at fault. class_told ms linked table values stated known fault.0 fault.1 (slice_get known fault.0)
    kind document at all refl fault.2 fault.3)
    (λ kind document at fault. told_class ms linked table values stated known kind document at all fault) h
