-- AlikeSections: the linked rules and instances of one set of documents are alike, and so are all its linked parts
-- (X.722, section 8; docs/PROFILE.md, sections 9, 12 and 18).
use Rattle.std.specs.Str.Parse.{digits_value}
use Rattle.std.proofs.Common.{◌≡◌, ℕ, Option, None, Some, refl, sym, ◌∙◌, ap}
use Rattle.token_grammar.specs.Form.{Tree}
use Rattle.asn1_values_syntax.specs.declared.value.ValueText.{ValueText}
use Rattle.gdmo_names.specs.Mentions.{Role}
use Rattle.gdmo_names.specs.PartTerms.{InstanceTerm, PairTerm, PartTerms, RuleTerm, StepTerm}
use Rattle.gdmo_names.specs.PartViews.{optional_value}
use Rattle.gdmo_names.specs.TargetTables.{ArePlacedApart}
use Rattle.linked_parts.specs.declared.linked.Linked.{Linked}
use Rattle.linked_parts.specs.declared.linked.LinkedInstance.{LinkedInstance}
use Rattle.linked_parts.specs.declared.linked.LinkedPair.{LinkedPair}
use Rattle.linked_parts.specs.declared.linked.LinkedRule.{LinkedRule}
use Rattle.linked_parts.specs.declared.linked.LinkedStep.{LinkedStep}
use Rattle.linked_parts.specs.declared.linked.LinkedStep.TheVariants.{Add, Emit, ReplyAttribute, SetArgument}
use Rattle.linked_sections.specs.LinkedSections.{IsChosen, IsInstance, IsPair, IsRule, IsStep, add, emit}
use Rattle.linked_sections.specs.LinkedSections.{reply_argument, reply_attribute, reply_value, reply_word}
use Rattle.linked_sections.specs.LinkedSections.{set_argument, set_value, set_word}
use Rattle.linked_documents.specs.LinkedParts.{AreLinkedParts}
use Rattle.accepted_laws.specs.AlikeParts.{ActionsAlike, AreAlike, AttributesAlike, BindingsAlike, ClassesAlike}
use Rattle.accepted_laws.specs.AlikeParts.{GroupsAlike, InstancesAlike, NotificationsAlike, PackagesAlike, PairsAlike}
use Rattle.accepted_laws.specs.AlikeParts.{RulesAlike, StepsAlike, two_emissions, two_equal, two_replies, two_values}
use Rattle.accepted_laws.proofs.AlikeMembers.{actions_alike, attributes_alike, bindings_alike, groups_alike}
use Rattle.accepted_laws.proofs.AlikeMembers.{notifications_alike}
use Rattle.accepted_laws.proofs.AlikeTemplates.{classes_alike, each_alike, each_equal, packages_alike}
use Rattle.accepted_laws.proofs.FirstNameLaws.{arcs_determined}
use Rattle.accepted_laws.proofs.LinkLaws.{one_link}
use Rattle.accepted_laws.proofs.StepValues.{one_tree}

module _ (parts : PartTerms) (apart : ArePlacedApart parts) where
  -- rules
  emissions_alike : (j k : ℕ) (stated : Option Tree) (x y : Option ValueText) → j ≡ k → optional_value x ≡ stated →
      optional_value y ≡ stated → StepsAlike (Emit j x) (Emit k y)
  emissions_alike j k stated None None same one other = two_equal (λ i. Emit (same i) None)
  emissions_alike j k stated None (Some y) same one other = absurd (cc (one, other))
  emissions_alike j k stated (Some x) None same one other = absurd (cc (one, other))
  emissions_alike j k stated (Some x) (Some y) same one other = two_emissions same (cc (one, other))

  steps_alike : {rule : RuleTerm} (x : StepTerm) (one other : LinkedStep) → IsStep parts rule x one →
      IsStep parts rule x other → StepsAlike one other
  steps_alike x one other (set_argument is) (set_argument too) =
      let same = one_link parts apart is too in
      two_equal (λ i. SetArgument (same i))
  steps_alike x one other (set_word {value = v} is takes) (set_word {value = w} too again) =
      two_values (one_link parts apart is too) (one_tree v w takes again)
  steps_alike x one other (set_value {value = v} is takes) (set_value {value = w} too again) =
      two_values (one_link parts apart is too) (one_tree v w takes again)
  steps_alike x one other (add {number = number} is) (add too) =
      two_equal (ap (Add (digits_value 10 number.text)) (one_link parts apart is too))
  steps_alike x one other (emit {stated = stated} {k = j} {value = v} is says) (emit {k = k} {value = w} too again) =
      emissions_alike j k stated v w (one_link parts apart is too) says again
  steps_alike x one other reply_argument reply_argument = two_equal refl
  steps_alike x one other (reply_attribute label is) (reply_attribute again too) =
      let same = one_link parts apart is too in
      two_equal (λ i. ReplyAttribute (same i))
  steps_alike x one other (reply_attribute label is) (reply_word none takes) = absurd (none label)
  steps_alike x one other (reply_word none takes) (reply_attribute label is) = absurd (none label)
  steps_alike x one other (reply_word {value = v} none takes) (reply_word {value = w} also again) =
      two_replies (one_tree v w takes again)
  steps_alike x one other (reply_value {value = v} takes) (reply_value {value = w} again) =
      two_replies (one_tree v w takes again)

  rules_alike : (x : RuleTerm) (one other : LinkedRule) → IsRule parts x one → IsRule parts x other →
      RulesAlike one other
  rules_alike x one other is too = record {
    document = is.document ∙ sym too.document;
    class = one_link parts apart is.is_class too.is_class;
    action = one_link parts apart is.is_action too.is_action;
    steps = each_alike (IsStep parts x) StepsAlike steps_alike x.steps one.steps.items other.steps.items is.steps_are
        too.steps_are;
  }

  -- instances
  pairs_alike : {document : ℕ} {role : Role} (x : PairTerm) (one other : LinkedPair) →
      IsPair parts document role x one → IsPair parts document role x other → PairsAlike one other
  pairs_alike x one other is too = record {
    attribute = one_link parts apart is.is_attribute too.is_attribute;
    value = is.is_value ∙ sym too.is_value;
  }

  instances_alike : (x : InstanceTerm) (one other : LinkedInstance) → IsInstance parts x one →
      IsInstance parts x other → InstancesAlike one other
  instances_alike x one other is too = record {
    document = is.document ∙ sym too.document;
    is_root = is.is_root ∙ sym too.is_root;
    class = one_link parts apart is.is_class too.is_class;
    name = each_alike _ PairsAlike pairs_alike x.name one.name.items other.name.items is.name_is too.name_is;
    given = each_alike _ PairsAlike pairs_alike x.given one.given.items other.given.items is.given_are too.given_are;
    packages = each_equal (IsChosen parts x.document) (λ label j k one other. one_link parts apart one other)
        x.packages one.packages.items other.packages.items is.packages_are too.packages_are;
  }

  pub linked_alike : (linked other : Linked) → AreLinkedParts parts linked → AreLinkedParts parts other →
      AreAlike linked other
  linked_alike linked other is too = record {
    arcs = arcs_determined parts linked other is.first_names too.first_names;
    classes = each_alike _ ClassesAlike (classes_alike parts apart) _ linked.classes.items other.classes.items
        is.tables.classes too.tables.classes;
    packages = each_alike _ PackagesAlike (packages_alike parts apart) _ linked.packages.items other.packages.items
        is.tables.packages too.tables.packages;
    bindings = each_alike _ BindingsAlike (bindings_alike parts apart) _ linked.bindings.items other.bindings.items
        is.tables.bindings too.tables.bindings;
    attributes = each_alike _ AttributesAlike (attributes_alike parts apart) _ linked.attributes.items
        other.attributes.items is.tables.attributes too.tables.attributes;
    groups = each_alike _ GroupsAlike (groups_alike parts apart) _ linked.groups.items other.groups.items
        is.tables.groups too.tables.groups;
    actions = each_alike _ ActionsAlike (actions_alike parts apart) _ linked.actions.items other.actions.items
        is.tables.actions too.tables.actions;
    notifications = each_alike _ NotificationsAlike (notifications_alike parts apart) _ linked.notifications.items
        other.notifications.items is.tables.notifications too.tables.notifications;
    rules = each_alike _ RulesAlike rules_alike _ linked.rules.items other.rules.items is.rules too.rules;
    instances = each_alike _ InstancesAlike instances_alike _ linked.instances.items other.instances.items
        is.instances too.instances;
  }
