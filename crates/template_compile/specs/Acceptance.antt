-- Acceptance: what documents say, and that nothing is wrong in their modules, with their references and with their
-- classes (X.722, section 8; X.680, section 12; docs/PROFILE.md, section 2).
use Rattle.std.specs.Prelude.{List}
use Rattle.std.specs.Global.{Vec}
use Rattle.token_grammar.specs.declared.token.Token.{Token}
use Rattle.document_units.specs.declared.unit.DocumentUnit.{DocumentUnit}
use Rattle.document_parts.specs.declared.documents.Doc.{Doc}
use Rattle.document_parts.specs.DocumentParts.{AreParts}
use Rattle.document_parts.specs.ReadDocuments.{AreLexed, AreRead}
use Rattle.asn1_names.specs.FirstModuleFault.{AreFaultless}
use Rattle.asn1_names.specs.ModuleTerms.{ModuleTerm}
use Rattle.asn1_names.specs.TermViews.{module_terms}
use Rattle.gdmo_names.specs.declared.parsed.Parsed.{Parsed}
use Rattle.gdmo_names.specs.FirstLabelFault.{AreFaultless as HaveTargets}
use Rattle.gdmo_names.specs.PartViews.{part_terms}
use Rattle.linked_parts.specs.declared.linked.Linked.{Linked}
use Rattle.linked_documents.specs.LinkedParts.{AreLinkedParts}
use Rattle.class_faults.specs.FirstClassFault.{AreFaultless as HaveSoundClasses}
use Rattle.schema_records.specs.MemberRecords.{AreRecords}
use Rattle.instance_records.specs.InstanceRecords.{AreInstanceRecords}
use Rattle.term_model.specs.declared.schema.Set.{Set}

-- each document is a row of tokens, which are a row of units, and these are their parts
pub record SayParts (docs : List Doc) (parts : Parsed) : Type 0 where
  pub tokens : List (Vec Token)
  pub lexed : AreLexed docs tokens
  pub units : List (List DocumentUnit)
  pub read : AreRead tokens units
  pub gathered : AreParts units parts

-- these are their parts, and nothing is wrong in their modules
pub record AreResolved (docs : List Doc) (parts : Parsed) : Type 0 where
  pub said : SayParts docs parts
  pub faultless : AreFaultless (module_terms parts.modules.items)

-- and nothing is wrong with their references
pub record AreReferenced (docs : List Doc) (parts : Parsed) : Type 0 where
  pub resolved : AreResolved docs parts
  pub have_targets : HaveTargets (part_terms parts)

-- these are their linked parts
pub record AreLinked (docs : List Doc) (parts : Parsed) (linked : Linked) : Type 0 where
  pub referenced : AreReferenced docs parts
  pub are_linked : AreLinkedParts (part_terms parts) linked

-- and nothing is wrong with their classes
pub record AreClosed (docs : List Doc) (parts : Parsed) : Type 0 where
  pub linked : Linked
  pub are_linked : AreLinked docs parts linked
  pub sound : HaveSoundClasses (module_terms parts.modules.items) linked

-- a schema has the records of linked parts: of templates and rules, of instances, and the name of the system
pub record IsSchemaOf (ms : List ModuleTerm) (linked : Linked) (schema : Set) : Type 0 where
  pub records : AreRecords ms linked schema
  pub instances : AreInstanceRecords ms linked schema.instances schema.system

-- and this is their schema
pub record AreAcceptedAs (docs : List Doc) (parts : Parsed) (schema : Set) : Type 0 where
  pub closed : AreClosed docs parts
  pub is_schema : IsSchemaOf (module_terms parts.modules.items) closed.linked schema

-- the documents say some parts of which nothing is wrong in the modules, with the references and with the classes, and
-- the schema has their records
abbrev pub AreAccepted : List Doc → Set → Type 0
AreAccepted docs schema = (parts : Parsed) × AreAcceptedAs docs parts schema
