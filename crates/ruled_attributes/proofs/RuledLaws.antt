-- RuledLaws: in the schema of documents that were read, where nothing is wrong with the references and the classes,
-- each attribute that a step of a rule names is one that the rule may name (X.722, sections 8.3, 8.4 and 8.6;
-- docs/PROFILE.md, sections 9 and 12).
use Rattle.std.specs.Prelude.{◌≡◌, [], ℕ, List, Some, Contains, refl}
use Rattle.std.specs.Global.{Vec}
use Rattle.std.proofs.Common.{◌∙◌, sym}
use Rattle.std.proofs.Math.Path.{subst}
use Rattle.std.proofs.lemmas.Option.{same_Some}
use Rattle.token_grammar.specs.declared.token.Token.{Token}
use Rattle.term_model.specs.Inheritance.{HasAttribute, IsAbove}
use Rattle.term_model.specs.WholeSet.{AreOrdered, CanName, IsOfRule}
use Rattle.term_model.specs.declared.rule.RuleRec.{RuleRec}
use Rattle.term_model.specs.declared.schema.Set.{Set}
use Rattle.asn1_names.specs.ModuleTerms.{ModuleTerm}
use Rattle.document_units.specs.declared.unit.DocumentUnit.{DocumentUnit}
use Rattle.document_parts.specs.declared.documents.Doc.{Doc}
use Rattle.document_parts.specs.DocumentParts.{AreParts}
use Rattle.document_parts.specs.ReadDocuments.{AreLexed, AreRead}
use Rattle.gdmo_names.specs.ClassMembers.{HasAttribute as HasAttributeTerm}
use Rattle.gdmo_names.specs.DocumentTemplates.{templates}
use Rattle.gdmo_names.specs.FirstLabelFault.{AreFaultless}
use Rattle.gdmo_names.specs.FirstLabelFault.LabelFault.{KindWrong}
use Rattle.gdmo_names.specs.Mentions.Role.{RuleClass, StepAttribute}
use Rattle.gdmo_names.specs.PartTerms.{PartTerms, RuleTerm, StepTerm}
use Rattle.gdmo_names.specs.PartViews.{part_terms}
use Rattle.gdmo_names.specs.RuleFaults.{StepNames}
use Rattle.gdmo_names.specs.RuleWords.{HasStep, NamesByLabel}
use Rattle.gdmo_names.specs.RuleWords.NamesByLabel.{add as named_by_add, reply as named_by_reply, set as named_by_set}
use Rattle.gdmo_names.specs.TemplateTerms.ReferenceTerm.{ByLabel}
use Rattle.gdmo_names.specs.TemplateTerms.TemplateKind.{ClassKind}
use Rattle.gdmo_names.specs.WrongKinds.WrongKindAt.{foreign_attribute, naming_attribute}
use Rattle.gdmo_names.specs.declared.parsed.Parsed.{Parsed}
use Rattle.gdmo_linking.specs.LinkedTables.{Links}
use Rattle.gdmo_linking.proofs.StepLaws.{each_from}
use Rattle.linked_parts.specs.declared.linked.Linked.{Linked}
use Rattle.linked_parts.specs.declared.linked.LinkedRule.{LinkedRule}
use Rattle.linked_parts.specs.declared.linked.LinkedStep.{LinkedStep}
use Rattle.linked_sections.specs.LinkedSections.{IsRule as IsLinkedRule, IsStep}
use Rattle.linked_sections.specs.LinkedSections.IsStep.{add, emit, reply_argument, reply_attribute, reply_value}
use Rattle.linked_sections.specs.LinkedSections.IsStep.{reply_word, set_argument, set_value, set_word}
use Rattle.linked_documents.specs.LinkedParts.{AreLinkedParts}
use Rattle.class_faults.specs.FirstClassFault.{AreFaultless as AreFaultlessClasses}
use Rattle.linked_types.specs.PartIdentifiers.{IsAttributeId, IsClassId}
use Rattle.section_values.specs.SectionRecords.{IsRule}
use Rattle.schema_records.specs.MemberRecords.{AreRecords}
use Rattle.schema_records.proofs.ClassLaws.{at_contains, contains_at}
use Rattle.placing_laws.proofs.DocumentLabels.{labels_apart}
use Rattle.registered_laws.proofs.DocumentLaws.{have_own_identifiers}
use Rattle.registered_laws.proofs.StandingLaws.{all_known}
use Rattle.registered_laws.proofs.TableLaws.{stands_at}
use Rattle.instance_records.specs.InstanceRecords.{AreInstanceRecords}
use Rattle.order_laws.proofs.OrderLaws.{are_ordered}
use Rattle.ruled_attributes.specs.NamedAttributes.{attribute_of_step}
use Rattle.ruled_attributes.proofs.ClassLaws.{AreCompiled, IsAttributeUnder, IsClassUnder, has_template, is_or_derives}
use Rattle.ruled_attributes.proofs.ClassLaws.{class_id, made_at}
use Rattle.ruled_attributes.proofs.DecidingLaws.{has_unless}
use Rattle.ruled_attributes.proofs.HavingLaws.{has_attribute}
use Rattle.ruled_attributes.proofs.NamingLaws.{is_named_by}

-- the step of a rule that names an attribute, and its label there
record IsNamedAt (parts : PartTerms) (rule : RuleTerm) (k : ℕ) : Type 0 where
  step : StepTerm
  label : Token
  has : HasStep parts rule step
  by_label : NamesByLabel parts rule label step
  links : Links parts rule.document StepAttribute (ByLabel label) k

module _ (parts : PartTerms) (rule : RuleTerm) (k : ℕ) where
  by_links : (step : StepTerm) (label : Token) {j : ℕ} → HasStep parts rule step →
      NamesByLabel parts rule label step → Links parts rule.document StepAttribute (ByLabel label) j →
      Some j ≡ Some k → IsNamedAt parts rule k
  by_links step label {j} has by_label links same = record {
    step = step;
    label = label;
    has = has;
    by_label = by_label;
    links = subst (Links parts rule.document StepAttribute (ByLabel label)) (same_Some j k same) links;
  }

  named_at : {term : StepTerm} {step : LinkedStep} → HasStep parts rule term → IsStep parts rule term step →
      attribute_of_step step ≡ Some k → IsNamedAt parts rule k
  named_at has (set_argument {label = label} links) named = by_links _ label has named_by_set links named
  named_at has (set_word {label = label} links is) named = by_links _ label has named_by_set links named
  named_at has (set_value {label = label} links is) named = by_links _ label has named_by_set links named
  named_at has (add {label = label} links) named = by_links _ label has named_by_add links named
  named_at has (emit links is) named = absurd (cc)
  named_at has reply_argument named = absurd (cc)
  named_at has (reply_attribute {word = word} is links) named =
      by_links _ word has (named_by_reply is) links named
  named_at has (reply_word other is) named = absurd (cc)
  named_at has (reply_value is) named = absurd (cc)

module _ (m : AreCompiled) (faultless : AreFaultless m.parts) (rule : RuleTerm) {c k : ℕ} {class id : List ℕ}
    (of_class : Links m.parts rule.document RuleClass (ByLabel rule.class) c) (class_is : IsClassId m.linked c class)
    (named : IsNamedAt m.parts rule k) (attribute_is : IsAttributeId m.linked k id) where
  names : StepNames m.parts rule named.step named.label named.links.to
  names = record { has = named.has; by = named.by_label; means = named.links.means }

  class_under : IsClassUnder m of_class.to class
  class_under = record { place = c; at = of_class.at; is = class_is }

  attribute_under : IsAttributeUnder m named.links.to id
  attribute_under = record { place = k; at = named.links.at; is = attribute_is }

  -- a mandatory package has the attribute, or the step would name a foreign one
  never_foreign : ¬ (¬ HasAttributeTerm m.parts of_class.to named.links.to)
  never_foreign foreign = faultless KindWrong rule.document named.label.at (foreign_attribute (record {
    step = named.step;
    attribute = named.links.to;
    names = names;
    class = of_class.to;
    of_class = of_class.means;
    all_known = all_known m.parts m.linked m.are.tables of_class.to
        (stands_at ClassKind (templates m.parts) c of_class.to of_class.at);
    foreign = foreign;
  }) refl refl)

  -- the same in the schema
  has : AreOrdered m.schema → HasAttribute m.schema class [] id
  has ordered = has_unless m.schema id ordered class (λ has_not. never_foreign (λ has_term.
      let made = made_at m c of_class.to of_class.at in
      has_not (subst (λ x. HasAttribute m.schema x [] id) (same_Some made.0.id class
      (sym (class_id m made.1) ∙ class_is)) (has_attribute m made.1 named.links.to id attribute_under has_term))))

  -- the attribute names no object of the class or of one below it, or the step would name a naming one
  plain : AreInstanceRecords m.ms m.linked m.schema.instances m.schema.system → (below : List ℕ) →
      IsAbove m.schema below class → CanName m.schema id below → ⊥
  plain instances below is_above can =
      let x = has_template m below class is_above of_class.to class_under in
      faultless KindWrong rule.document named.label.at (naming_attribute (record {
        step = named.step;
        attribute = named.links.to;
        names = names;
        class = of_class.to;
        of_class = of_class.means;
        naming = record {
          below = x.0;
          stands = (stands_at ClassKind (templates m.parts) x.1.place x.0 x.1.at).stands;
          derives = is_or_derives m x.0 of_class.to below class x.1 class_under is_above;
          named = is_named_by m x.0 below x.1 named.links.to id attribute_under instances can;
        };
      }) refl refl)

pub is_of_rule : (docs : List Doc) (lists : List (Vec Token)) (units : List (List DocumentUnit)) (parts : Parsed)
    (linked : Linked) (ms : List ModuleTerm) (schema : Set) → AreLexed docs lists → AreRead lists units →
    AreParts units parts → AreLinkedParts (part_terms parts) linked → AreFaultless (part_terms parts) →
    AreFaultlessClasses ms linked → AreRecords ms linked schema →
    AreInstanceRecords ms linked schema.instances schema.system → (part : LinkedRule) (x : RuleRec)
    (step : LinkedStep) (k : ℕ) (id : List ℕ) → Contains linked.rules.items part → IsRule ms linked part x →
    Contains part.steps.items step → attribute_of_step step ≡ Some k → IsAttributeId linked k id →
    IsOfRule schema x.class id
is_of_rule docs lists units parts linked ms schema lexed read gathered are faultless whole records instances part x
    step k id listed is has_step names_it is_attribute =
    let own = have_own_identifiers docs lists units parts linked lexed read gathered are faultless in
    let m : AreCompiled = record {
      parts = part_terms parts;
      linked = linked;
      ms = ms;
      schema = schema;
      are = are;
      records = records;
      own = own;
      placed = labels_apart docs lists units parts lexed read gathered;
    } in
    let at = contains_at linked.rules.items part listed in
    let rule = each_from (IsLinkedRule m.parts) m.parts.rules linked.rules.items at.0 part are.rules at.1 in
    let place = contains_at part.steps.items step has_step in
    let term = each_from (IsStep m.parts rule.0) rule.0.steps part.steps.items place.0 step rule.2.steps_are place.1 in
    let named = named_at m.parts rule.0 k (record {
      stands = at_contains m.parts.rules at.0 rule.0 rule.1;
      has = at_contains rule.0.steps place.0 term.0 term.1;
    }) term.2 names_it in
    record {
      has = has m faultless rule.0 rule.2.is_class is.is_class named is_attribute
          (are_ordered ms linked schema whole own records.classes_are);
      plain = plain m faultless rule.0 rule.2.is_class is.is_class named is_attribute instances;
    }
