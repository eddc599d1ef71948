-- StatedLaws: what the packages of a schema state of attributes, and what its classes join of it, is whole where
-- nothing is wrong with the classes (X.722, section 8.4; docs/PROFILE.md, section 18).
use Rattle.std.specs.Prelude.{◌⊎◌, List, All, Contains}
use Rattle.term_values.specs.Soundness.{IsSound}
use Rattle.term_values.specs.Syntaxes.{TypeSyntax}
use Rattle.term_model.specs.JoinedProperties.{IsJoined}
use Rattle.term_model.specs.WholeRecords.{IsFillable, IsWholeProperty}
use Rattle.term_model.specs.declared.packages.PackageRec.{PackageRec}
use Rattle.term_model.specs.declared.packages.Property.{Property}
use Rattle.term_model.specs.declared.schema.ClassRec.{ClassRec}
use Rattle.term_model.specs.declared.schema.Set.{Set}
use Rattle.term_model.specs.JoinedProperties.{HasJoined}
use Rattle.asn1_names.specs.ModuleTerms.{ModuleTerm}
use Rattle.linked_parts.specs.declared.linked.Linked.{Linked}
use Rattle.linked_parts.specs.declared.linked.LinkedName.{LinkedName}
use Rattle.class_faults.specs.FirstClassFault.{AreFaultless}
use Rattle.class_faults.specs.StatedProperties.{TypeHas}
use Rattle.schema_records.specs.ApartParts.{HaveOwnIdentifiers}
use Rattle.schema_records.specs.MemberRecords.{AreRecords}
use Rattle.stated_laws.proofs.FillingLaws.{is_fillable}
use Rattle.stated_laws.proofs.ListLaws.{all_of_each, each_of_all}
use Rattle.stated_laws.proofs.PropertyLaws.{property_whole}
use Rattle.stated_laws.proofs.JoinedLaws.{joined_property_whole}
use Rattle.stated_laws.proofs.TemplateLaws.{AreRecorded}
use Rattle.stated_laws.proofs.RecordLaws.{own_use, record_of}

module _ (ms : List ModuleTerm) (linked : Linked) (schema : Set) (faultless : AreFaultless ms linked)
    (are : AreRecords ms linked schema) where
  abbrev recorded : AreRecorded
  recorded = record { ms = ms; linked = linked; schema = schema; are = are }

  -- a property of a class is joined of what packages state
  joined_of : (of_class : ClassRec) → Contains schema.classes of_class → (x : Property) →
      Contains of_class.properties x → IsJoined schema of_class.id x
  joined_of of_class known x there =
      each_of_all (IsJoined schema of_class.id) of_class.properties x
      (each_of_all (HasJoined schema) schema.classes of_class are.joined known).joined there

  -- of each attribute of a class some value is permitted
  pub fillable : HaveOwnIdentifiers linked → (of_class : ClassRec) → Contains schema.classes of_class →
      All (IsFillable schema) of_class.properties
  fillable apart of_class known = all_of_each (IsFillable schema) of_class.properties (λ x there.
      is_fillable recorded apart faultless (record_of recorded of_class known).1 x (joined_of of_class known x there))

  module _ (sound : (name : LinkedName) (syntax : TypeSyntax) → TypeHas ms linked name syntax → IsSound syntax) where
    -- each property of a package is whole
    pub properties_whole : (of_class : ClassRec) → Contains schema.classes of_class → (of_package : PackageRec) →
        Contains of_class.mandatory of_package ⊎ Contains of_class.conditional of_package →
        All (IsWholeProperty schema) of_package.attributes
    properties_whole of_class known of_package own =
        all_of_each (IsWholeProperty schema) of_package.attributes (λ x there.
        property_whole recorded faultless sound x (own_use recorded (record_of recorded of_class known).1 x
        (record { of_package = of_package; own = own; says = there })))

    -- each property that is joined for a class is whole
    pub joined_whole : HaveOwnIdentifiers linked → (of_class : ClassRec) → Contains schema.classes of_class →
        All (IsWholeProperty schema) of_class.properties
    joined_whole apart of_class known = all_of_each (IsWholeProperty schema) of_class.properties (λ x there.
        joined_property_whole recorded faultless sound apart of_class.id x (joined_of of_class known x there))
