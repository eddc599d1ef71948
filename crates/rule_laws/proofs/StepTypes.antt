-- StepTypes: the types that steps ask to be one are alike, and a number is added to INTEGER, or the step would have a
-- WrongKind (docs/PROFILE.md, sections 9 and 12).
use Rattle.std.specs.Prelude.{◌≡◌, ℕ, List, refl}
use Rattle.term_values.specs.Syntaxes.{TypeSyntax}
use Rattle.term_model.specs.WholeSet.{HasSyntax, IsTyped, IsWholeNumber, IsWholeStep}
use Rattle.term_model.specs.declared.rule.RuleRec.{RuleRec}
use Rattle.term_model.specs.declared.rule.RuleStep.TheVariants.{ReplyArgument}
use Rattle.term_model.specs.declared.schema.Set.{Set}
use Rattle.asn1_names.specs.ModuleTerms.{ModuleTerm}
use Rattle.gdmo_names.specs.FirstLabelFault.{AreFaultless}
use Rattle.gdmo_names.specs.FirstLabelFault.LabelFault.{KindWrong}
use Rattle.gdmo_names.specs.PartTerms.{PartTerms, Placed, body_of, module_terms_of}
use Rattle.gdmo_names.specs.RuleFaults.HasOtherType.{reply_argument, reply_attribute, set_argument}
use Rattle.gdmo_names.specs.RuleWords.NamesByLabel.{add, reply, set}
use Rattle.gdmo_names.specs.RuleWords.{information_of, reply_of}
use Rattle.gdmo_names.specs.WrongKinds.WrongKindAt.{no_whole_number, other_type}
use Rattle.linked_parts.specs.declared.linked.Linked.{Linked}
use Rattle.linked_documents.specs.LinkedParts.{AreLinkedParts}
use Rattle.class_faults.specs.FirstClassFault.{AreFaultless as AreClassesFaultless}
use Rattle.linked_types.specs.PartIdentifiers.{IsAttributeId}
use Rattle.schema_records.specs.MemberRecords.{AreRecords}
use Rattle.wanted_laws.proofs.WantedLaws.{parts_wanted}
use Rattle.reference_laws.specs.SchemaReferences.{IsRuleThere}
use Rattle.reference_laws.proofs.ReferenceLaws.{attribute_there}
use Rattle.alike_laws.proofs.AttributeLaws.{known_syntax}
use Rattle.rule_laws.proofs.ActionTypes.{AreActionTypes, AreKnownTypes, action_types, types_known}
use Rattle.rule_laws.proofs.StatedSteps.{Adds, IsStatedRule, RepliesArgument, RepliesAttribute, SetsArgument}
use Rattle.rule_laws.proofs.TypedLaws.{attribute_typed, both_typed}
use Rattle.rule_laws.proofs.WholeNumbers.{number_whole}

module _ (parts : PartTerms) (ms : List ModuleTerm) (same : module_terms_of parts ≡ ms) (linked : Linked)
    (schema : Set) (are_linked : AreLinkedParts parts linked) (faultless : AreFaultless parts)
    (classes : AreClassesFaultless ms linked) (are : AreRecords ms linked schema) (x : RuleRec)
    (there : IsRuleThere ms linked schema x) (stated : IsStatedRule parts there.stated) where
  -- the action of the rule in the documents
  abbrev action : Placed
  action = stated.told.is_action.to

  types : AreActionTypes parts (body_of action.template) there.part
  types = action_types parts linked are_linked.tables there.stated.action action there.part
      stated.told.is_action.at there.stands

  types_there : AreKnownTypes parts (body_of action.template)
  types_there = types_known parts linked (parts_wanted parts linked are_linked faultless) there.stated.action
      (body_of action.template) there.part there.stands types

  -- SET attribute TO ARGUMENT
  pub argument_typed : (k : ℕ) (id : List ℕ) → SetsArgument parts stated.rule k → IsAttributeId linked k id →
      IsTyped schema there.action.information id
  argument_typed k id says named = attribute_typed parts ms same linked classes are_linked schema are says.links.to k id
      says.links.at named (information_of (body_of action.template)) there.part.information there.action.information
      types.information there.of_place.is_information
      (λ other. faultless KindWrong stated.rule.document says.word.at (other_type (set_argument
      (record { has = says.has; by = set; means = says.links.means }) stated.told.is_action.means
      types_there.information (known_syntax parts linked are_linked faultless k says.links.at) other) refl refl))

  -- REPLY attribute
  pub reply_typed : (k : ℕ) (id : List ℕ) → RepliesAttribute parts stated.rule k → IsAttributeId linked k id →
      IsTyped schema there.action.reply id
  reply_typed k id says named = attribute_typed parts ms same linked classes are_linked schema are says.links.to k id
      says.links.at named (reply_of (body_of action.template)) there.part.reply there.action.reply types.reply
      there.of_place.is_reply
      (λ other. faultless KindWrong stated.rule.document says.word.at (other_type (reply_attribute
      (record { has = says.has; by = reply says.is_label; means = says.links.means }) stated.told.is_action.means
      types_there.reply (known_syntax parts linked are_linked faultless k says.links.at) other) refl refl))

  -- REPLY ARGUMENT
  pub argument_replied : RepliesArgument parts stated.rule → IsWholeStep schema x there.action ReplyArgument
  argument_replied says = both_typed parts ms same linked classes (information_of (body_of action.template))
      (reply_of (body_of action.template)) there.part.information there.part.reply there.action.information
      there.action.reply types.information types.reply there.of_place.is_information there.of_place.is_reply
      (λ other. faultless KindWrong stated.rule.document says.word.at (other_type (reply_argument says.has
      stated.told.is_action.means types_there.information types_there.reply other) refl refl))

  -- ADD number TO attribute
  pub number_added : (k : ℕ) (id : List ℕ) → Adds parts stated.rule k → IsAttributeId linked k id →
      (syntax : TypeSyntax) × HasSyntax schema id syntax × IsWholeNumber syntax
  number_added k id says named =
      let found = attribute_there ms linked schema are k id named in (
        found.template.syntax,
        (found.template, found.known, found.named, refl),
        number_whole parts ms same linked are_linked classes says.links.to k found.template.syntax says.links.at
            found.of_place.has
            (λ other. faultless KindWrong stated.rule.document says.label.at (no_whole_number (record {
              number = says.number;
              attribute = says.links.to;
              names = record { has = says.has; by = add; means = says.links.means };
              known = known_syntax parts linked are_linked faultless k says.links.at;
              other = other;
            }) refl refl)),
      )
