-- CompleteLaws: where nothing is wrong with the references of documents, all that they name is there, and each template's
-- identifier is an object identifier.
use Rattle.std.specs.Prelude.{◌≡◌, ◌≢◌, ◌==◌, ◌∷◌, [], ℕ, Bool, List, true, false, Option, None, Some, Contains, get_or, refl}
use Rattle.std.proofs.Common.{◌∙◌, ap, arith, inl, inr, sym, suc}
use Rattle.std.proofs.lemmas.Bool.{eq-eqb, eqb-true, false≢true}
use Rattle.std.proofs.lemmas.Option.{none-some}
use Rattle.token_grammar.specs.declared.token.Token.{Token}
use Rattle.token_grammar.specs.declared.qualified_name.QualifiedName.{QualifiedName}
use Rattle.asn1_names.specs.NameMeaning.{ModuleMeaning, module_meaning}
use Rattle.asn1_names.specs.NameMeaning.ModuleMeaning.{ModuleAt, NoModule, Standard}
use Rattle.gdmo_names.specs.DocumentTemplates.{templates}
use Rattle.gdmo_names.specs.FirstLabelFault.{AreFaultless}
use Rattle.gdmo_names.specs.FirstLabelFault.LabelFault.{KindWrong, LabelUnknown}
use Rattle.gdmo_names.specs.FirstNames.{IsIdentifier, IsKnownFirst, Registers, root_arc}
use Rattle.gdmo_names.specs.FirstNames.IsKnownFirst.{defined, number, root}
use Rattle.gdmo_names.specs.FirstNames.StandsIdentifier.{of_template}
use Rattle.gdmo_names.specs.InStep.{AreAll, AreEach}
use Rattle.gdmo_names.specs.LabelMeaning.{Means, label_meaning, target}
use Rattle.gdmo_names.specs.Mentions.{Role, mention, template_mentions, wanted_kind}
use Rattle.gdmo_names.specs.Mentions.Role.{ChosenPackage, GivenAttribute, InstanceClass, NameAttribute, RuleAction}
use Rattle.gdmo_names.specs.Mentions.Role.{RuleClass, StepAttribute, StepNotification}
use Rattle.gdmo_names.specs.PartTerms.{InstanceTerm, Placed, PartTerms, RuleTerm, StepTerm, body_of}
use Rattle.gdmo_names.specs.PartTerms.{identifier_of, kind_of, module_terms_of}
use Rattle.gdmo_names.specs.PartTerms.StepTerm.{AddTo, EmitOf, ReplyWith, SetTo}
use Rattle.gdmo_names.specs.PartTerms.TakenTerm.{OneWord, OtherValue, TheArgument}
use Rattle.gdmo_names.specs.References.{Refers}
use Rattle.gdmo_names.specs.References.Refers.{by_template, chosen_package, given_attribute, instance_class}
use Rattle.gdmo_names.specs.References.Refers.{name_attribute, rule_action, rule_class, step_attribute}
use Rattle.gdmo_names.specs.References.Refers.{step_notification}
use Rattle.gdmo_names.specs.RuleWords.{IsAttributeLabel, IsReplyLabel}
use Rattle.gdmo_names.specs.RuleWords.IsReplyLabel.{attribute_label, other_label}
use Rattle.gdmo_names.specs.RuleWords.NamesByLabel.{add as named_by_add, reply as named_by_reply, set as named_by_set}
use Rattle.gdmo_names.specs.TargetTables.{AreFitting}
use Rattle.gdmo_names.specs.TemplateTerms.{FirstTerm, IdentifierTerm, ReferenceTerm, TemplateKind}
use Rattle.gdmo_names.specs.TemplateTerms.FirstTerm.{ArcName, ArcNumber}
use Rattle.gdmo_names.specs.TemplateTerms.ReferenceTerm.{ByLabel, InLine}
use Rattle.gdmo_names.specs.TemplateTerms.TemplateKind.{ActionKind, AttributeKind, BehaviourKind, BindingKind}
use Rattle.gdmo_names.specs.TemplateTerms.TemplateKind.{ClassKind, GroupKind, NotificationKind, PackageKind}
use Rattle.gdmo_names.specs.TemplateTerms.TemplateKind.{ParameterKind}
use Rattle.gdmo_names.specs.TypeMeaning.{type_names, value_names}
use Rattle.gdmo_names.specs.UnknownLabels.{NamesQualified}
use Rattle.gdmo_names.specs.UnknownLabels.UnknownLabelAt.{first_name, module_name, template_label, type_or_value}
use Rattle.gdmo_names.specs.WrongKinds.WrongKindAt.{no_first_name, no_identifier, other_kind}
use Rattle.gdmo_linking.specs.LinkedNames.{IsLinkedIdentifier}
use Rattle.gdmo_linking.specs.LinkedTables.{kind_number}
use Rattle.gdmo_linking.specs.Linkers.{IsMeant, IsNamed}
use Rattle.gdmo_identifiers.specs.IdentifierTables.{MaybeIdentifier, TellAllOids, TellsOids}
use Rattle.linked_templates.specs.TemplateTables.{IsComplete, IsRegistered}
use Rattle.linked_sections.specs.KnownSections.{IsCompleteInstance, IsCompletePair, IsCompleteRule, IsCompleteStep}
use Rattle.linked_sections.specs.KnownSections.{IsMeantLabel}
use Rattle.linked_documents.specs.CompleteParts.{AreComplete}
use Rattle.label_laws.specs.ReadTexts.{AreReadParts}

-- ---- elements of lists

all_by : {A : Type 0} (Is : A → Type 0) (xs : List A) → ((x : A) → Contains xs x → Is x) → AreAll Is xs
all_by Is [] each = tt
all_by Is (x ∷ xs) each = (
  each x (0, omega arith, refl),
  all_by Is xs (λ y has. each y (suc has.0, (let w = has.1 in omega (arith, w)), has.2)),
)

-- ---- kinds

abbrev kind_of_number : ℕ → TemplateKind
kind_of_number n = get_or (ClassKind ∷ PackageKind ∷ ParameterKind ∷ BindingKind ∷ AttributeKind ∷ GroupKind ∷
    BehaviourKind ∷ ActionKind ∷ []) n NotificationKind

number_back : (kind : TemplateKind) → kind_of_number (kind_number kind) ≡ kind
number_back ClassKind = refl
number_back PackageKind = refl
number_back ParameterKind = refl
number_back BindingKind = refl
number_back AttributeKind = refl
number_back GroupKind = refl
number_back BehaviourKind = refl
number_back ActionKind = refl
number_back NotificationKind = refl

same_number : (one other : TemplateKind) → kind_number one ≡ kind_number other → one ≡ other
same_number one other h = sym (number_back one) ∙ ap kind_of_number h ∙ number_back other

-- two kinds that aren't apart are one
one_kind : (one other : TemplateKind) → ((one ≢ other) → ⊥) → one ≡ other
one_kind one other never = by (kind_number one == kind_number other) refl
  where
    by : (test : Bool) → (kind_number one == kind_number other) ≡ test → one ≡ other
    by true is = same_number one other (eqb-true (kind_number one) (kind_number other) is)
    by false is = absurd (never (λ h. false≢true (sym is ∙
        eq-eqb (kind_number one) (kind_number other) (ap kind_number h))))

-- ---- what labels and names mean

module _ (parts : PartTerms) (fitting : AreFitting parts) (faultless : AreFaultless parts) where
  label_meant : (document : ℕ) (role : Role) (label : Token) → Refers parts document role (ByLabel label) →
      (to : Placed) × Means parts document role (ByLabel label) to
  unfolding target
  label_meant document role label refers = by (label_meaning parts label.text) refl
    where
      by : (meant : Option Placed) → label_meaning parts label.text ≡ meant →
          (to : Placed) × Means parts document role (ByLabel label) to
      by None none = absurd (faultless LabelUnknown document label.at (template_label refers none refl))
      by (Some to) is = (
        to,
        record {
          is_target = is;
          of_kind = one_kind (kind_of to.template) (wanted_kind role) (λ other.
              faultless KindWrong document label.at (other_kind (record {
                role = role;
                refers = refers;
                to = to;
                means = is;
                other = other;
              }) refl));
        },
      )

  mention_meant : (by : Placed) → Contains (templates parts) by → (role : Role) (reference : ReferenceTerm) →
      Contains (template_mentions by.template) (mention role reference) →
      (to : Placed) × Means parts by.document role reference to
  unfolding target
  mention_meant by stands role (ByLabel label) names =
      label_meant by.document role label (by_template stands names)
  mention_meant by stands role (InLine template) names = (
    record { document = by.document; template = template },
    record { is_target = refl; of_kind = fitting by stands (mention role (InLine template)) names },
  )

  name_means : (document : ℕ) (name : QualifiedName) → NamesQualified parts document name → IsNamed parts name
  name_means document name names nothing = by (module_meaning (module_terms_of parts) name.module_name.text) refl
    where
      there : (module_meaning (module_terms_of parts) name.module_name.text ≢ NoModule) → ⊥
      there is = faultless LabelUnknown document name.name.at (type_or_value names is nothing refl)

      by : (meant : ModuleMeaning) → module_meaning (module_terms_of parts) name.module_name.text ≡ meant → ⊥
      by NoModule is = faultless LabelUnknown document name.module_name.at (module_name names is refl)
      by Standard is = there (λ none. absurd (cc))
      by (ModuleAt m) is = there (λ none. absurd (cc))

  -- ---- templates

  complete_template : (by : Placed) → Contains (templates parts) by → IsComplete parts by
  complete_template by stands = record {
    meant = all_by (IsMeant parts by.document) (template_mentions by.template)
        (λ x names. mention_meant by stands x.role x.reference names);
    types = all_by (IsNamed parts) (type_names (body_of by.template)) (λ name names.
        name_means by.document name (inl (record { by = by; stands = stands; is_in = refl; names = names })));
    values = all_by (IsNamed parts) (value_names (body_of by.template)) (λ name names.
        name_means by.document name (inr (record { by = by; stands = stands; is_in = refl; names = names })));
  }

  -- ---- rules

  module _ (read : AreReadParts parts) (rule : RuleTerm) (stands : Contains parts.rules rule) where
    reply_meant : (word : Token) → Contains rule.steps (ReplyWith (OneWord word)) → IsReplyLabel parts rule word →
        IsAttributeLabel parts word
    unfolding target
    reply_meant word has (attribute_label is) = is
    reply_meant word has (other_label other is_label action known none) =
        let meant = label_meant rule.document StepAttribute word (step_attribute (record { stands = stands; has = has })
        (named_by_reply (other_label other is_label action known none))) in
        record { attribute = meant.0; means = meant.1.is_target; of_kind = meant.1.of_kind }

    complete_step : (step : StepTerm) → Contains rule.steps step → IsCompleteStep parts rule step
    complete_step (SetTo label taken) has =
        label_meant rule.document StepAttribute label (step_attribute (record { stands = stands; has = has }) named_by_set)
    complete_step (AddTo digits label) has = (
      label_meant rule.document StepAttribute label
          (step_attribute (record { stands = stands; has = has }) named_by_add),
      (read.numbers rule digits label (record { stands = stands; has = has })).0,
      (read.numbers rule digits label (record { stands = stands; has = has })).1,
    )
    complete_step (EmitOf label value) has = label_meant rule.document StepNotification label
        (step_notification (record { stands = stands; has = has }))
    complete_step (ReplyWith (OneWord word)) has = (
      read.words rule word (record { stands = stands; has = has }),
      reply_meant word has,
    )
    complete_step (ReplyWith (TheArgument word)) has = tt
    complete_step (ReplyWith (OtherValue value)) has = tt

    complete_rule : IsCompleteRule parts rule
    complete_rule = record {
      class_meant = label_meant rule.document RuleClass rule.class (rule_class stands);
      action_meant = label_meant rule.document RuleAction rule.action (rule_action stands);
      steps_complete = all_by (IsCompleteStep parts rule) rule.steps complete_step;
    }

  -- ---- instances

  complete_instance : (x : InstanceTerm) → Contains parts.instances x → IsCompleteInstance parts x
  complete_instance x stands = record {
    class_meant = label_meant x.document InstanceClass x.class (instance_class stands);
    name_complete = all_by (IsCompletePair parts x.document NameAttribute) x.name
        (λ pair has. label_meant x.document NameAttribute pair.attribute (name_attribute stands has));
    given_complete = all_by (IsCompletePair parts x.document GivenAttribute) x.given
        (λ pair has. label_meant x.document GivenAttribute pair.attribute (given_attribute stands has));
    packages_meant = all_by (IsMeantLabel parts x.document ChosenPackage) x.packages
        (λ label has. label_meant x.document ChosenPackage label (chosen_package stands has));
  }

  pub are_complete : AreReadParts parts → AreComplete parts
  are_complete read = record {
    templates_complete = all_by (IsComplete parts) (templates parts) complete_template;
    rules_complete = all_by (IsCompleteRule parts) parts.rules (complete_rule read);
    instances_complete = all_by (IsCompleteInstance parts) parts.instances complete_instance;
  }

  -- ---- identifiers

  -- an identifier under which a template is registered is an object identifier
  good_identifier : (by : Placed) (x : IdentifierTerm) → Registers parts by x →
      ((arcs : List ℕ) → ¬ IsIdentifier parts x arcs) → ⊥
  good_identifier by x registers bad = by_first x.first refl
    where
      unknown : IsKnownFirst parts x → ⊥
      unknown known = faultless KindWrong by.document x.brace.at (no_identifier (record {
        by = by;
        identifier = x;
        registers = registers;
        is_in = refl;
        is_brace = refl;
        known = known;
        bad = bad;
      }) refl)

      by_name : (name : Token) → x.first ≡ ArcName name → (arc : Option ℕ) → root_arc name.text ≡ arc → ⊥
      by_name name is (Some arc) root_is = unknown (root is (λ none. none-some arc (sym none ∙ root_is)))
      by_name name is None no_root = faultless LabelUnknown by.document name.at
          (first_name (of_template registers refl) is no_root (λ assigned.
          faultless KindWrong by.document name.at (no_first_name (record {
            identifier = x;
            stands = of_template registers refl;
            is_first = is;
            no_root = no_root;
            assigned = assigned;
            undefined = λ m i d. unknown (defined is d);
          }) refl)) refl)

      by_first : (term : FirstTerm) → x.first ≡ term → ⊥
      by_first (ArcNumber token) is = unknown (number is)
      by_first (ArcName name) is = by_name name is (root_arc name.text) refl

  registered_one : (by : Placed) → Contains (templates parts) by → (own : Option (List ℕ)) → TellsOids parts by own →
      IsRegistered parts by own
  registered_one by stands own tells = of_identifier (identifier_of by.template) refl own tells
    where
      of_identifier : (o : Option IdentifierTerm) → identifier_of by.template ≡ o → (own : Option (List ℕ)) →
          MaybeIdentifier parts o own → IsLinkedIdentifier parts o own
      of_identifier None is None told = tt
      of_identifier None is (Some arcs) told = absurd (none-some arcs (sym told))
      of_identifier (Some x) is None told =
          absurd (good_identifier by x (record { stands = stands; is = is }) told)
      of_identifier (Some x) is (Some arcs) told = told

  registered_each : (xs : List Placed) (own : List (Option (List ℕ))) →
      ((x : Placed) → Contains xs x → Contains (templates parts) x) → AreEach (TellsOids parts) xs own →
      AreEach (IsRegistered parts) xs own
  registered_each [] [] inside told = tt
  registered_each [] (y ∷ ys) inside told = told
  registered_each (x ∷ xs) [] inside told = told
  registered_each (x ∷ xs) (y ∷ ys) inside told = (
    registered_one x (inside x (0, omega arith, refl)) y told.0,
    registered_each xs ys
        (λ z has. inside z (suc has.0, (let w = has.1 in omega (arith, w)), has.2)) told.1,
  )

  pub are_registered : (own : List (Option (List ℕ))) → TellAllOids parts own →
      AreEach (IsRegistered parts) (templates parts) own
  are_registered own told = registered_each (templates parts) own (λ x has. has) told
