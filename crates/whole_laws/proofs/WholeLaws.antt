-- WholeLaws: the schema to which documents are compiled is whole (X.722, section 8; docs/PROFILE.md, sections 2, 3, 9
-- and 18).
use Rattle.std.specs.Global.{Vec}
use Rattle.std.specs.Prelude.{ℕ, List, All}
use Rattle.std.proofs.lemmas.List.Elements.{All-contains}
use Rattle.term_values.specs.Soundness.{IsSound}
use Rattle.term_values.specs.Syntaxes.{TypeSyntax}
use Rattle.term_model.specs.WholeRecords.{IsValueOf}
use Rattle.term_model.specs.WholeSet.{IsWhole, IsWholeInstance, IsWholePart}
use Rattle.term_model.specs.declared.object.Attribute.{Attribute}
use Rattle.term_model.specs.declared.schema.InstRec.{InstRec}
use Rattle.term_model.specs.declared.schema.Set.{Set}
use Rattle.token_grammar.specs.declared.token.Token.{Token}
use Rattle.document_units.specs.declared.unit.DocumentUnit.{DocumentUnit}
use Rattle.document_parts.specs.declared.documents.Doc.{Doc}
use Rattle.document_parts.specs.DocumentParts.{AreParts}
use Rattle.document_parts.specs.ReadDocuments.{AreLexed, AreRead}
use Rattle.asn1_names.specs.FirstModuleFault.{AreFaultless as AreSoundModules}
use Rattle.asn1_names.specs.ModuleTerms.{ModuleTerm}
use Rattle.asn1_names.specs.TermViews.{module_terms}
use Rattle.gdmo_names.specs.FirstLabelFault.{AreFaultless as HaveTargets}
use Rattle.gdmo_names.specs.PartViews.{part_terms}
use Rattle.gdmo_names.specs.declared.parsed.Parsed.{Parsed}
use Rattle.asn1_values.proofs.Fitting.{value_fits}
use Rattle.linked_parts.specs.declared.linked.Linked.{Linked}
use Rattle.linked_parts.specs.declared.linked.LinkedName.{LinkedName}
use Rattle.linked_documents.specs.LinkedParts.{AreLinkedParts}
use Rattle.filled_syntaxes.specs.LinkedMeanings.{linked_arcs, linked_meaning}
use Rattle.class_faults.specs.AttributeSyntaxes.{AttributeHas}
use Rattle.class_faults.specs.FirstClassFault.{AreFaultless as HaveSoundClasses}
use Rattle.class_faults.specs.StatedProperties.{TypeHas}
use Rattle.schema_records.specs.ApartParts.{HaveOwnIdentifiers}
use Rattle.schema_records.specs.MemberRecords.{AreRecords}
use Rattle.instance_records.specs.InstanceRecords.{AreInstanceRecords}
use Rattle.registered_laws.proofs.DocumentLaws.{have_own_identifiers}
use Rattle.sound_laws.specs.GivenMeanings.{HaveAlternatives}
use Rattle.sound_laws.specs.ShortDefaults.{ValuesFit}
use Rattle.sound_laws.proofs.SoundLaws.{attribute_sound, filled_sound, linked_given}
use Rattle.reference_laws.specs.SchemaReferences.{IsInstanceThere}
use Rattle.reference_laws.proofs.ReferenceLaws.{bindings_whole, instances_there, members_there, packages_there}
use Rattle.stated_laws.proofs.ListLaws.{all_of_each}
use Rattle.once_laws.proofs.OnceLaws.{identifiers_once, labels_once, rules_apart}
use Rattle.order_laws.proofs.OrderLaws.{are_ordered}
use Rattle.choice_laws.proofs.ChoiceLaws.{have_alternatives}
use Rattle.instance_laws.proofs.InstanceLaws.{given_whole, parts_whole, system_whole}
use Rattle.alike_laws.proofs.WholeLaws.{actions_whole, notifications_whole}
use Rattle.ruled_attributes.proofs.RuledLaws.{is_of_rule}
use Rattle.rule_laws.proofs.RuleLaws.{rules_whole}
use Rattle.whole_laws.specs.ShortValues.{AreShortValues}
use Rattle.whole_laws.proofs.ClassLaws.{attributes_sound, classes_whole}

module _ (docs : List Doc) (lists : List (Vec Token)) (units : List (List DocumentUnit)) (parts : Parsed)
    (linked : Linked) (schema : Set) (lexed : AreLexed docs lists) (read : AreRead lists units)
    (gathered : AreParts units parts) (modules : AreSoundModules (module_terms parts.modules.items))
    (targets : HaveTargets (part_terms parts)) (are_linked : AreLinkedParts (part_terms parts) linked)
    (classes : HaveSoundClasses (module_terms parts.modules.items) linked)
    (are : AreRecords (module_terms parts.modules.items) linked schema)
    (of_instances : AreInstanceRecords (module_terms parts.modules.items) linked schema.instances schema.system)
    (short : AreShortValues (module_terms parts.modules.items) linked) where
  abbrev ms : List ModuleTerm
  ms = module_terms parts.modules.items

  -- ---- values and syntaxes

  fit : ValuesFit (linked_arcs linked)
  fit syntax text value denotes sound less = value_fits (linked_arcs linked) syntax text value denotes sound less

  choices : HaveAlternatives ms
  choices = have_alternatives lists units parts read gathered

  own : HaveOwnIdentifiers linked
  own = have_own_identifiers docs lists units parts linked lexed read gathered are_linked targets

  type_sound : (name : LinkedName) (syntax : TypeSyntax) → TypeHas ms linked name syntax → IsSound syntax
  type_sound name syntax has = filled_sound ms (linked_arcs linked) (linked_meaning ms name.meaning) syntax fit modules
      choices short.defaults (linked_given ms name.meaning) has

  of_attribute : (k : ℕ) (syntax : TypeSyntax) → AttributeHas ms linked k syntax → IsSound syntax
  of_attribute k syntax = attribute_sound ms linked k syntax fit modules choices short.defaults

  -- ---- instances

  abbrev HasWholeName : InstRec → Type 0
  HasWholeName instance = All (IsWholePart schema) instance.name

  abbrev HasWholeValues : InstRec → Type 0
  HasWholeValues instance = All (λ (held : Attribute). IsValueOf schema held.id held.value) instance.given

  instances_whole : All (IsWholeInstance schema) schema.instances
  instances_whole = all_of_each (IsWholeInstance schema) schema.instances (λ x has. record {
    class = (All-contains (IsInstanceThere ms linked schema) schema.instances x
        (instances_there ms linked schema are of_instances) has).class;
    name = All-contains HasWholeName schema.instances x
        (parts_whole ms linked schema are of_instances fit of_attribute short.instances) has;
    given = All-contains HasWholeValues schema.instances x
        (given_whole ms linked schema are of_instances fit of_attribute short.instances) has;
  })

  -- ---- the schema

  pub are_whole : IsWhole schema
  are_whole = record {
    identifiers =
        identifiers_once docs lists units parts linked ms schema lexed read gathered are_linked targets are;
    labels = labels_once docs lists units parts linked ms schema lexed read gathered are_linked targets are;
    classes = classes_whole ms linked schema are classes own
        (packages_there ms linked schema are parts are_linked targets) type_sound;
    ordered = are_ordered ms linked schema classes own are.classes_are;
    attributes = attributes_sound ms linked schema are classes own
        (packages_there ms linked schema are parts are_linked targets) type_sound of_attribute;
    groups = members_there ms linked schema are;
    bindings = bindings_whole ms linked schema are;
    actions = actions_whole ms linked schema are fit modules choices short.defaults;
    notifications = notifications_whole parts linked schema are fit modules choices short.defaults are_linked targets
        classes;
    rules = rules_whole parts linked schema are_linked targets classes are fit type_sound short.rules
        (is_of_rule docs lists units parts linked ms schema lexed read gathered are_linked targets classes are
        of_instances);
    apart = rules_apart docs lists units parts linked ms schema lexed read gathered are_linked targets are;
    instances = instances_whole;
    system = system_whole ms linked schema are of_instances fit of_attribute short.instances;
  }
