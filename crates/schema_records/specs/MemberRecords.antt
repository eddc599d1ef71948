-- MemberRecords: which record of an attribute, a group, a name binding, an action or a notification is that of which
-- linked part, and which schema's records are those of linked parts (X.722, sections 8.6 to 8.11; docs/PROFILE.md,
-- section 18).
use Rattle.std.specs.Prelude.{◌≡◌, ℕ, suc, List, [], ◌∷◌, Bool, true, false, Option, None, Some, All, codes}
use Rattle.std.specs.Prelude.{slice_get}
use Rattle.std.specs.declared.alloc.Global.{Global}
use Rattle.std.specs.declared.vec.Vec.{Vec}
use Rattle.token_grammar.specs.declared.token.Token.{Token}
use Rattle.term_values.specs.Syntaxes.{TypeSyntax}
use Rattle.term_model.specs.JoinedProperties.{HasJoined}
use Rattle.term_model.specs.declared.actions.ActRec.{ActRec}
use Rattle.term_model.specs.declared.actions.AttributeField.{AttributeField}
use Rattle.term_model.specs.declared.actions.NoteRec.{NoteRec}
use Rattle.term_model.specs.declared.name_binding.BindRec.{BindRec}
use Rattle.term_model.specs.declared.name_binding.CreateClause.{CreateClause}
use Rattle.term_model.specs.declared.name_binding.DeleteClause.{DeleteClause}
use Rattle.term_model.specs.declared.name_binding.DeleteClause.TheVariants.{DeletesContainedObjects}
use Rattle.term_model.specs.declared.name_binding.DeleteClause.TheVariants.{OnlyIfNoContainedObjects}
use Rattle.term_model.specs.declared.schema.AttrRec.{AttrRec}
use Rattle.term_model.specs.declared.schema.GroupRec.{GroupRec}
use Rattle.term_model.specs.declared.schema.Set.{Set}
use Rattle.asn1_names.specs.ModuleTerms.{ModuleTerm}
use Rattle.linked_parts.specs.declared.linked.Linked.{Linked}
use Rattle.linked_parts.specs.declared.linked.LinkedAction.{LinkedAction}
use Rattle.linked_parts.specs.declared.linked.LinkedAttribute.{LinkedAttribute}
use Rattle.linked_parts.specs.declared.linked.LinkedBinding.{LinkedBinding}
use Rattle.linked_parts.specs.declared.linked.LinkedField.{LinkedField}
use Rattle.linked_parts.specs.declared.linked.LinkedGroup.{LinkedGroup}
use Rattle.linked_parts.specs.declared.linked.LinkedName.{LinkedName}
use Rattle.linked_parts.specs.declared.linked.LinkedNotification.{LinkedNotification}
use Rattle.class_faults.specs.AttributeSyntaxes.{AttributeHas}
use Rattle.class_faults.specs.StatedProperties.{TypeHas}
use Rattle.linked_types.specs.AttributeRules.{TellsRules, has_word}
use Rattle.linked_types.specs.PartIdentifiers.{AreEach, IsAttributeId, IsClassId}
use Rattle.section_values.specs.SectionRecords.{IsRule}
use Rattle.schema_records.specs.ClassRecords.{IsClass, IsRegistered}

pub record IsAttribute (ms : List ModuleTerm) (linked : Linked) (k : ℕ) (x : AttrRec) : Type 0 where
  pub part : LinkedAttribute
  pub stands : slice_get linked.attributes.items k ≡ Some part
  pub registered : IsRegistered part.head x.id x.label
  pub has : AttributeHas ms linked k x.syntax
  pub rules : TellsRules linked k x.rules

-- the attributes of a table that are registered, in its order; the first of these has the place k. Those that only lend
-- their syntax and rules to others have no records.
pub data AreAttributes (ms : List ModuleTerm) (linked : Linked) : ℕ → List LinkedAttribute → List AttrRec → Type 0 where
  no_more : {k : ℕ} → AreAttributes ms linked k [] []
  one : {k : ℕ} {part : LinkedAttribute} {parts : List LinkedAttribute} {x : AttrRec} {xs : List AttrRec} →
      IsAttribute ms linked k x → AreAttributes ms linked (suc k) parts xs →
      AreAttributes ms linked k (part ∷ parts) (x ∷ xs)
  unregistered : {k : ℕ} {part : LinkedAttribute} {parts : List LinkedAttribute} {xs : List AttrRec} →
      part.head.identifier ≡ None → AreAttributes ms linked (suc k) parts xs →
      AreAttributes ms linked k (part ∷ parts) xs

pub record IsGroup (linked : Linked) (part : LinkedGroup) (x : GroupRec) : Type 0 where
  pub registered : IsRegistered part.head x.id x.label
  pub members_are : AreEach (IsAttributeId linked) part.elements.items x.members
  pub is_fixed : part.fixed ≡ x.fixed

-- CREATE and DELETE, by the words behind them; DELETE alone means ONLY-IF-NO-CONTAINED-OBJECTS
pub record IsCreate (words : List Token) (x : CreateClause) : Type 0 where
  pub by_reference : has_word (codes "WITH-REFERENCE-OBJECT") words ≡ x.with_reference_object
  pub named_automatically : has_word (codes "WITH-AUTOMATIC-INSTANCE-NAMING") words ≡ x.with_automatic_instance_naming

abbrev pub IsCreateClause : Option (Vec Token Global) → Option CreateClause → Type 0
IsCreateClause None None = Unit {0}
IsCreateClause (Some words) (Some x) = IsCreate words.items x
IsCreateClause _ _ = ⊥

abbrev pub delete_of : Bool → DeleteClause
delete_of true = DeletesContainedObjects
delete_of false = OnlyIfNoContainedObjects

abbrev pub delete_clause : Option (Vec Token Global) → Option DeleteClause
delete_clause None = None
delete_clause (Some words) = Some (delete_of (has_word (codes "DELETES-CONTAINED-OBJECTS") words.items))

pub record IsBinding (linked : Linked) (part : LinkedBinding) (x : BindRec) : Type 0 where
  pub registered : IsRegistered part.head x.id x.label
  pub is_subordinate : IsClassId linked part.subordinate x.subordinate.class
  pub subclasses_below : part.subordinate_subclasses ≡ x.subordinate.subclasses
  pub is_superior : IsClassId linked part.superior x.superior.class
  pub subclasses_above : part.superior_subclasses ≡ x.superior.subclasses
  pub is_attribute : IsAttributeId linked part.attribute x.attribute
  pub is_create : IsCreateClause part.create x.create
  pub is_delete : delete_clause part.delete ≡ x.delete

abbrev pub IsOptionalType : List ModuleTerm → Linked → Option LinkedName → Option TypeSyntax → Type 0
IsOptionalType ms linked None None = Unit {0}
IsOptionalType ms linked (Some name) (Some syntax) = TypeHas ms linked name syntax
IsOptionalType ms linked _ _ = ⊥

pub record IsAction (ms : List ModuleTerm) (linked : Linked) (part : LinkedAction) (x : ActRec) : Type 0 where
  pub registered : IsRegistered part.head x.id x.label
  pub is_confirmed : part.confirmed ≡ x.confirmed
  pub is_information : IsOptionalType ms linked part.information x.information
  pub is_reply : IsOptionalType ms linked part.reply x.reply

pub record IsField (linked : Linked) (part : LinkedField) (x : AttributeField) : Type 0 where
  pub is_component : part.name.text ≡ x.component
  pub is_attribute : IsAttributeId linked part.attribute x.attribute

pub record IsNotification (ms : List ModuleTerm) (linked : Linked) (part : LinkedNotification) (x : NoteRec)
    : Type 0 where
  pub registered : IsRegistered part.head x.id x.label
  pub is_information : IsOptionalType ms linked part.information x.information
  pub fields_are : AreEach (IsField linked) part.fields.items x.fields
  pub is_reply : IsOptionalType ms linked part.reply x.reply

-- The records of a schema are those of linked parts, but for the instances and the name of the system. Of each class the
-- properties are those that its packages and those of the classes from which it derives give it.
pub record AreRecords (ms : List ModuleTerm) (linked : Linked) (schema : Set) : Type 0 where
  pub classes_are : AreEach (IsClass ms linked) linked.classes.items schema.classes
  pub joined : All (HasJoined schema) schema.classes
  pub attributes_are : AreAttributes ms linked 0 linked.attributes.items schema.attributes
  pub groups_are : AreEach (IsGroup linked) linked.groups.items schema.groups
  pub bindings_are : AreEach (IsBinding linked) linked.bindings.items schema.bindings
  pub actions_are : AreEach (IsAction ms linked) linked.actions.items schema.actions
  pub notifications_are : AreEach (IsNotification ms linked) linked.notifications.items schema.notifications
  pub rules_are : AreEach (IsRule ms linked) linked.rules.items schema.rules
