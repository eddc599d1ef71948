-- ClassLaws: the classes and the attributes of the schema to which documents are compiled are whole (X.722, sections
-- 8.3, 8.4 and 8.7).
use Rattle.std.specs.Prelude.{◌⊎◌, ℕ, List, All, Contains}
use Rattle.std.proofs.Common.{inl, inr}
use Rattle.std.proofs.lemmas.List.Elements.{All-contains}
use Rattle.term_values.specs.Soundness.{IsSound}
use Rattle.term_values.specs.Syntaxes.{TypeSyntax}
use Rattle.term_model.specs.JoinedProperties.{HasJoined}
use Rattle.term_model.specs.WholeRecords.{IsClass, IsWholeClass, IsWholePackage}
use Rattle.term_model.specs.declared.packages.PackageRec.{PackageRec}
use Rattle.term_model.specs.declared.schema.AttrRec.{AttrRec}
use Rattle.term_model.specs.declared.schema.ClassRec.{ClassRec}
use Rattle.term_model.specs.declared.schema.Set.{Set}
use Rattle.asn1_names.specs.ModuleTerms.{ModuleTerm}
use Rattle.linked_parts.specs.declared.linked.Linked.{Linked}
use Rattle.linked_parts.specs.declared.linked.LinkedName.{LinkedName}
use Rattle.class_faults.specs.AttributeSyntaxes.{AttributeHas}
use Rattle.class_faults.specs.FirstClassFault.{AreFaultless}
use Rattle.class_faults.specs.StatedProperties.{TypeHas}
use Rattle.schema_records.specs.ApartParts.{HaveOwnIdentifiers}
use Rattle.schema_records.specs.MemberRecords.{AreRecords}
use Rattle.reference_laws.specs.SchemaReferences.{AllPackages, NamesThere}
use Rattle.reference_laws.proofs.ReferenceLaws.{superclasses_there}
use Rattle.stated_laws.proofs.ListLaws.{all_of_each}
use Rattle.stated_laws.proofs.StatedLaws.{fillable, joined_whole, properties_whole}
use Rattle.stated_laws.proofs.TemplateLaws.{AreRecorded, attribute_of}

module _ (ms : List ModuleTerm) (linked : Linked) (schema : Set) (are : AreRecords ms linked schema)
    (faultless : AreFaultless ms linked) (own : HaveOwnIdentifiers linked)
    (packages_there : AllPackages (NamesThere schema) schema)
    (sound : (name : LinkedName) (syntax : TypeSyntax) → TypeHas ms linked name syntax → IsSound syntax) where
  package_whole : (of_class : ClassRec) → Contains schema.classes of_class → (of_package : PackageRec) →
      Contains of_class.mandatory of_package ⊎ Contains of_class.conditional of_package →
      NamesThere schema of_package → IsWholePackage schema of_package
  package_whole of_class known of_package own_package there = record {
    attributes =
        properties_whole ms linked schema faultless are sound of_class known of_package own_package;
    groups = there.groups;
    actions = there.actions;
    notifications = there.notifications;
  }

  class_whole : (of_class : ClassRec) → Contains schema.classes of_class → IsWholeClass schema of_class
  class_whole of_class known =
      let there = All-contains
      (λ (x : ClassRec). All (NamesThere schema) x.mandatory × All (NamesThere schema) x.conditional) schema.classes
      of_class packages_there known in
      record {
        superclasses = All-contains (λ (x : ClassRec). All (IsClass schema) x.superclasses) schema.classes of_class
            (superclasses_there ms linked schema are) known;
        mandatory = all_of_each (IsWholePackage schema) of_class.mandatory (λ x has. package_whole of_class known x
            (inl has) (All-contains (NamesThere schema) of_class.mandatory x there.0 has));
        conditional = all_of_each (IsWholePackage schema) of_class.conditional (λ x has. package_whole of_class known x
            (inr has) (All-contains (NamesThere schema) of_class.conditional x there.1 has));
        joined = All-contains (HasJoined schema) schema.classes of_class are.joined known;
        properties = joined_whole ms linked schema faultless are sound own of_class known;
        fillable = fillable ms linked schema faultless are own of_class known;
      }

  pub classes_whole : All (IsWholeClass schema) schema.classes
  classes_whole = all_of_each (IsWholeClass schema) schema.classes class_whole

  -- the record of an attribute has a syntax that the attribute has
  pub attributes_sound : ((k : ℕ) (syntax : TypeSyntax) → AttributeHas ms linked k syntax → IsSound syntax) →
      All (λ (template : AttrRec). IsSound template.syntax) schema.attributes
  attributes_sound of_attribute = all_of_each (λ (template : AttrRec). IsSound template.syntax) schema.attributes
      (λ x there. let found = attribute_of recorded x there in of_attribute found.0 x.syntax found.1.has)
    where
      recorded : AreRecorded
      recorded = record { ms = ms; linked = linked; schema = schema; are = are }
