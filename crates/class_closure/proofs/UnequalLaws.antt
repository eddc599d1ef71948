-- UnequalLaws: where nothing is wrong with classes, no class has an attribute of which unequal defaults, or unequal
-- initial values, hold.
use Rattle.std.proofs.Common.{◌≡◌, ◌⊎◌, ◌<◌, ℕ, List, Option, Some, ap, inl, inr, refl}
use Rattle.std.proofs.Math.Path.{subst}
use Rattle.std.specs.BTreeMap.{get}
use Rattle.std.specs.Ordering.{nat_cmp}
use Rattle.std.specs.Prelude.{slice_get}
use Rattle.asn1_names.specs.ModuleTerms.{ModuleTerm}
use Rattle.linked_parts.specs.declared.linked.LinkedClass.{LinkedClass}
use Rattle.linked_parts.specs.declared.linked.LinkedUse.{LinkedUse}
use Rattle.class_faults.specs.FirstClassFault.{AreFaultless}
use Rattle.class_faults.specs.FirstClassFault.ClassFault.{DefaultUnequal}
use Rattle.class_faults.specs.StatedProperties.{HoldsUnequal}
use Rattle.joined_statements.specs.JoinedStatements.{Attributes}
use Rattle.joined_statements.specs.declared.joined.Joined.{Joined}
use Rattle.joined_properties.specs.ClassProperties.{AreProperties, IsJoinedOver}
use Rattle.joined_properties.proofs.GraphPlaces.{got_some, got_within}
use Rattle.linked_types.specs.declared.closing_parts.ClosingParts.{ClosingParts}
use Rattle.property_faults.specs.TableFaults.{is_unequal}
use Rattle.property_faults.proofs.UnequalLaws.{unequal_hold}
use Rattle.schema_records.specs.ApartParts.{AreNoneUnequal}
use Rattle.schema_records.specs.declared.class_records.JoinedClasses.{JoinedClasses}
use Rattle.class_closure.specs.ClosingStates.{HaveJoined}

-- the class at a place, and its label as a token of a document
class_there : (ms : List ModuleTerm) (parts : ClosingParts) (joined : JoinedClasses) → HaveJoined ms parts joined →
    (k : ℕ) (table : Attributes) → slice_get joined.properties.now k ≡ Some table →
    (x : LinkedClass) × (slice_get parts.linked.now.classes.items k ≡ Some x)
class_there ms parts joined have k table at = got_some parts.linked.now.classes.items k
    (subst (λ n. k < n) have.properties.size (got_within joined.properties.now k table at))

joined_over : (ms : List ModuleTerm) (parts : ClosingParts) (joined : JoinedClasses) → HaveJoined ms parts joined →
    (k attribute : ℕ) (table : Attributes) (x : Joined) → slice_get joined.properties.now k ≡ Some table →
    get nat_cmp table attribute ≡ Some x →
    IsJoinedOver parts.values.now parts.linked.now.classes.items joined.stated.now k attribute x
joined_over ms parts joined have k attribute table x at found = subst
    (λ (o : Option Joined). AreProperties parts.values.now parts.linked.now.classes.items joined.stated.now k
    attribute o)
    found (have.properties.each k table at attribute)

-- two that are unequal are a fault at the label of the class
not_unequal : (ms : List ModuleTerm) (parts : ClosingParts) (joined : JoinedClasses) → HaveJoined ms parts joined →
    AreFaultless ms parts.linked.now → (k attribute : ℕ) (table : Attributes) →
    slice_get joined.properties.now k ≡ Some table →
    ¬ (HoldsUnequal ms parts.linked.now (λ (stated : LinkedUse). stated.default_value) attribute k
    ⊎ HoldsUnequal ms parts.linked.now (λ (stated : LinkedUse). stated.initial_value) attribute k)
not_unequal ms parts joined have sound k attribute table at unequal =
    let there = class_there ms parts joined have k table at in
    sound DefaultUnequal there.0.head.document there.0.head.label.at (record {
      k = k;
      is_class = record {
        of_class = there.0;
        stands = there.1;
        label = record { in_document = refl; at_token = refl };
      };
      attribute = attribute;
      unequal = unequal;
    })

pub none_unequal : (ms : List ModuleTerm) (parts : ClosingParts) (joined : JoinedClasses) →
    HaveJoined ms parts joined → AreFaultless ms parts.linked.now → AreNoneUnequal joined.properties.now
none_unequal ms parts joined have sound = λ k attribute table x at found.
    let over = joined_over ms parts joined have k attribute table x at found in
    let linked = parts.linked.now in
    let are = have.stated.are_stated in
    record {
      default_ = λ is. not_unequal ms parts joined have sound k attribute table at
          (inl (unequal_hold ms linked parts.table.now parts.values.now joined.stated.now
          (λ (stated : LinkedUse). stated.default_value) (λ (own : Joined). own.default) attribute k x.default
          (record { are = are; tells = λ own statement says. says.default_ }) over.default_ (ap is_unequal is)));
      initial_ = λ is. not_unequal ms parts joined have sound k attribute table at
          (inr (unequal_hold ms linked parts.table.now parts.values.now joined.stated.now
          (λ (stated : LinkedUse). stated.initial_value) (λ (own : Joined). own.initial) attribute k x.initial
          (record { are = are; tells = λ own statement says. says.initial_ }) over.initial_ (ap is_unequal is)));
    }
