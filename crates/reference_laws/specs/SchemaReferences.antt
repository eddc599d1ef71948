-- SchemaReferences: that what a record names is there, with the linked part of which each record is (X.722, section 8;
-- docs/PROFILE.md, section 9).
use Rattle.std.specs.Prelude.{◌≡◌, ℕ, List, Some, All, Contains, slice_get}
use Rattle.term_model.specs.WholeRecords.{IsAction, IsClass, IsNotification, IsWholeUse}
use Rattle.term_model.specs.declared.actions.ActRec.{ActRec}
use Rattle.term_model.specs.declared.packages.PackageRec.{PackageRec}
use Rattle.term_model.specs.declared.packages.Property.{Property}
use Rattle.term_model.specs.declared.rule.RuleRec.{RuleRec}
use Rattle.term_model.specs.declared.schema.AttrRec.{AttrRec}
use Rattle.term_model.specs.declared.schema.ClassRec.{ClassRec}
use Rattle.term_model.specs.declared.schema.InstRec.{InstRec}
use Rattle.term_model.specs.declared.schema.Set.{Set}
use Rattle.asn1_names.specs.ModuleTerms.{ModuleTerm}
use Rattle.linked_parts.specs.declared.linked.Linked.{Linked}
use Rattle.linked_parts.specs.declared.linked.LinkedAction.{LinkedAction}
use Rattle.linked_parts.specs.declared.linked.LinkedInstance.{LinkedInstance}
use Rattle.linked_parts.specs.declared.linked.LinkedPackage.{LinkedPackage}
use Rattle.linked_parts.specs.declared.linked.LinkedRule.{LinkedRule}
use Rattle.linked_parts.specs.declared.linked.LinkedUse.{LinkedUse}
use Rattle.section_values.specs.SectionRecords.{IsRule}
use Rattle.schema_records.specs.ClassRecords.{IsProperty}
use Rattle.schema_records.specs.MemberRecords.{IsAction as IsActionRecord, IsAttribute as IsAttributeRecord}
use Rattle.instance_records.specs.InstanceRecords.{IsInstanceRecord}

-- what holds of each package, mandatory or conditional, of each class
abbrev pub AllPackages : (PackageRec → Type 0) → Set → Type 0
AllPackages P schema =
    All (λ (of_class : ClassRec). All P of_class.mandatory × All P of_class.conditional) schema.classes

-- the actions, notifications and groups that a package names are there, and nothing is added to a group that is FIXED
pub record NamesThere (schema : Set) (of_package : PackageRec) : Type 0 where
  pub actions : All (IsAction schema) of_package.actions
  pub notifications : All (IsNotification schema) of_package.notifications
  pub groups : All (IsWholeUse schema) of_package.groups

-- the record of an attribute, by its place among the linked ones and by its identifier
pub record IsAttributeThere (ms : List ModuleTerm) (linked : Linked) (schema : Set) (k : ℕ) (id : List ℕ)
    : Type 0 where
  pub template : AttrRec
  pub known : Contains schema.attributes template
  pub named : template.id ≡ id
  pub of_place : IsAttributeRecord ms linked k template

-- what a linked package states, which a property says, with the record of its attribute
pub record IsStated (ms : List ModuleTerm) (linked : Linked) (schema : Set) (x : Property) : Type 0 where
  pub place : ℕ
  pub part : LinkedPackage
  pub stands : slice_get linked.packages.items place ≡ Some part
  pub stated : LinkedUse
  pub says : Contains part.attributes.items stated
  pub is : IsProperty ms linked stated x
  pub attribute : IsAttributeThere ms linked schema stated.attribute x.attribute

-- the linked rule of a record, its class, and the record of its action
pub record IsRuleThere (ms : List ModuleTerm) (linked : Linked) (schema : Set) (rule : RuleRec) : Type 0 where
  pub stated : LinkedRule
  pub listed : Contains linked.rules.items stated
  pub is : IsRule ms linked stated rule
  pub class : IsClass schema rule.class
  pub action : ActRec
  pub known : Contains schema.actions action
  pub named : action.id ≡ rule.action
  pub part : LinkedAction
  pub stands : slice_get linked.actions.items stated.action ≡ Some part
  pub of_place : IsActionRecord ms linked part action

-- a linked package is registered under the identifier
abbrev pub IsLinkedPackage : Linked → List ℕ → Type 0
IsLinkedPackage linked id =
    (part : LinkedPackage) × Contains linked.packages.items part × (part.head.identifier ≡ Some id)

-- the linked instance of a record, and its class; the packages that it chooses are registered
pub record IsInstanceThere (ms : List ModuleTerm) (linked : Linked) (schema : Set) (instance : InstRec)
    : Type 0 where
  pub stated : LinkedInstance
  pub listed : Contains linked.instances.items stated
  pub is : IsInstanceRecord ms linked stated instance
  pub class : IsClass schema instance.class
  pub chosen : All (IsLinkedPackage linked) instance.chosen
