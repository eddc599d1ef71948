-- RuleLaws: all that rules of documents without a fault of labels name is registered. A step names an attribute of a
-- mandatory package of the class, and so one that must be registered (docs/PROFILE.md, sections 9, 12 and 18).
use Rattle.std.specs.Prelude.{◌≡◌, ℕ, List, Option, None, Some, Contains, refl}
use Rattle.std.proofs.Common.{◌∙◌, ap}
use Rattle.std.proofs.lemmas.Option.{get_or_from_slice_get, slice_get-get_or, slice_get_within}
use Rattle.token_grammar.specs.declared.token.Token.{Token}
use Rattle.gdmo_names.specs.ClassMembers.{HasAttribute}
use Rattle.gdmo_names.specs.DocumentTemplates.{templates}
use Rattle.gdmo_names.specs.FirstLabelFault.{AreFaultless}
use Rattle.gdmo_names.specs.FirstLabelFault.LabelFault.{KindWrong}
use Rattle.gdmo_names.specs.InStep.{AreEach}
use Rattle.gdmo_names.specs.LabelMeaning.{reference_token}
use Rattle.gdmo_names.specs.Mentions.Role.{PackageAttribute, RuleClass, StepAttribute}
use Rattle.gdmo_names.specs.PartTerms.{PartTerms, Placed, RuleTerm, StepTerm, identifier_of}
use Rattle.gdmo_names.specs.References.Refers.{by_template}
use Rattle.gdmo_names.specs.RuleWords.{HasStep, NamesByLabel}
use Rattle.gdmo_names.specs.RuleWords.NamesByLabel.{add as named_by_add, reply as named_by_reply, set as named_by_set}
use Rattle.gdmo_names.specs.TemplateTerms.{IdentifierTerm}
use Rattle.gdmo_names.specs.TemplateTerms.ReferenceTerm.{ByLabel}
use Rattle.gdmo_names.specs.TemplateTerms.TemplateKind.{AttributeKind, ClassKind}
use Rattle.gdmo_names.specs.WrongKinds.WrongKindAt.{foreign_attribute, unregistered}
use Rattle.gdmo_linking.specs.LinkedTables.{Links, table}
use Rattle.gdmo_linking.proofs.StepLaws.{each_from}
use Rattle.linked_parts.specs.declared.linked.Linked.{Linked}
use Rattle.linked_parts.specs.declared.linked.LinkedRule.{LinkedRule}
use Rattle.linked_parts.specs.declared.linked.LinkedStep.{LinkedStep}
use Rattle.linked_sections.specs.LinkedSections.{IsRule, IsStep}
use Rattle.linked_sections.specs.LinkedSections.IsStep.{add, emit, reply_argument, reply_attribute, reply_value}
use Rattle.linked_sections.specs.LinkedSections.IsStep.{reply_word, set_argument, set_value, set_word}
use Rattle.linked_templates.specs.LinkedMembers.{IsAttributeOf}
use Rattle.linked_documents.specs.LinkedParts.{AreLinkedParts}
use Rattle.section_values.specs.RegisteredSections.{AreRegisteredRules, IsRegisteredAttribute, IsRegisteredRule}
use Rattle.section_values.specs.RegisteredSections.{IsRegisteredStep}
use Rattle.registered_laws.specs.RegisteredKinds.{AreRegisteredKinds}
use Rattle.registered_laws.proofs.PartPlaces.{action_place, class_place, notification_place}
use Rattle.registered_laws.proofs.StandingLaws.{above_there, all_known, mandatory_there}
use Rattle.registered_laws.proofs.TableLaws.{registered_at, stands_at}

-- what is told by an element of a list that goes in step
record IsToldBy {A B : Type 0} (is : A → B → Type 0) (xs : List A) (y : B) : Type 0 where
  x : A
  stands : Contains xs x
  told : is x y

told_by : {A B : Type 0} (is : A → B → Type 0) (xs : List A) (ys : List B) (y : B) → AreEach is xs ys →
    Contains ys y → IsToldBy is xs y
told_by is xs ys y each has =
    let found = each_from is xs ys has.0 y each (slice_get-get_or ys has.0 y has.1 ∙ ap Some has.2) in record {
      x = found.0;
      stands = (
        has.0,
        slice_get_within xs has.0 found.0 found.1,
        get_or_from_slice_get xs has.0 found.0 found.0 found.1,
      );
      told = found.2;
    }

module _ (parts : PartTerms) (linked : Linked) (are : AreLinkedParts parts linked)
    (faultless : AreFaultless parts) where
  module _ (rule : RuleTerm) {c : ℕ} (class : Links parts rule.document RuleClass (ByLabel rule.class) c) where
    -- no mandatory package has an attribute that isn't registered
    foreign : (attribute : Placed) → identifier_of attribute.template ≡ None → ¬ HasAttribute parts class.to attribute
    foreign attribute none_stated has =
        let stands = stands_at ClassKind (templates parts) c class.to class.at in
        let base = above_there parts linked are.tables class.to has.base stands has.above in
        let in_package = mandatory_there parts linked are.tables has.base has.package_of base has.mandatory in
        faultless KindWrong has.package_of.document (reference_token has.has.reference).at (unregistered (record {
          role = PackageAttribute;
          must = refl;
          refers = by_template in_package.stands has.has.names;
          to = attribute;
          means = has.has.means;
          unregistered = none_stated;
        }) refl)

    step_attribute : (step : StepTerm) (label : Token) {k : ℕ} → HasStep parts rule step →
        NamesByLabel parts rule label step → Links parts rule.document StepAttribute (ByLabel label) k →
        IsRegisteredAttribute linked k
    step_attribute step label {k} has names links = by (identifier_of links.to.template) refl
      where
        by : (stated : Option IdentifierTerm) → identifier_of links.to.template ≡ stated →
            IsRegisteredAttribute linked k
        by (Some own) is = registered_at parts (λ x. x.head) (IsAttributeOf parts) (table parts AttributeKind)
            linked.attributes.items k links.to own are.tables.attributes links.at is
        by None is = absurd (faultless KindWrong rule.document label.at (foreign_attribute (record {
          step = step;
          attribute = links.to;
          names = record { has = has; by = names; means = links.means };
          class = class.to;
          of_class = class.means;
          all_known = all_known parts linked are.tables class.to
              (stands_at ClassKind (templates parts) c class.to class.at);
          foreign = foreign links.to is;
        }) refl refl))

    step_registered : AreRegisteredKinds parts → {term : StepTerm} {step : LinkedStep} → HasStep parts rule term →
        IsStep parts rule term step → IsRegisteredStep linked step
    step_registered kinds has (set_argument {label = label} links) = step_attribute _ label has named_by_set links
    step_registered kinds has (set_word {label = label} links is) = step_attribute _ label has named_by_set links
    step_registered kinds has (set_value {label = label} links is) = step_attribute _ label has named_by_set links
    step_registered kinds has (add {label = label} links) = step_attribute _ label has named_by_add links
    step_registered kinds has (emit links is) = notification_place parts linked are.tables kinds refl links
    step_registered kinds has reply_argument = tt
    step_registered kinds has (reply_attribute {word = word} is links) =
        step_attribute _ word has (named_by_reply is) links
    step_registered kinds has (reply_word other is) = tt
    step_registered kinds has (reply_value is) = tt

  rule_registered : AreRegisteredKinds parts → (rule : RuleTerm) (x : LinkedRule) → Contains parts.rules rule →
      IsRule parts rule x → IsRegisteredRule linked x
  rule_registered kinds rule x stands is = record {
    of_class = class_place parts linked are.tables kinds refl is.is_class;
    of_action = action_place parts linked are.tables kinds refl is.is_action;
    of_steps = λ step has. let found = told_by (IsStep parts rule) rule.steps x.steps.items step is.steps_are has in
        step_registered rule is.is_class kinds (record { stands = stands; has = found.stands }) found.told;
  }

  pub rules_registered : AreRegisteredKinds parts → AreRegisteredRules linked
  rules_registered kinds x has =
      let found = told_by (IsRule parts) parts.rules linked.rules.items x are.rules has in
      rule_registered kinds found.x x found.stands found.told
