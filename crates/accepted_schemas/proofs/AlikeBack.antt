-- AlikeBack: where linked parts are alike to others, these are alike to them (X.722, section 8; docs/PROFILE.md,
-- sections 12 and 18).
use Rattle.std.specs.Prelude.{[], ◌∷◌, List}
use Rattle.std.proofs.Common.{sym}
use Rattle.gdmo_names.specs.InStep.{AreEach}
use Rattle.linked_parts.specs.declared.linked.Linked.{Linked}
use Rattle.linked_parts.specs.declared.linked.LinkedAction.{LinkedAction}
use Rattle.linked_parts.specs.declared.linked.LinkedAttribute.{LinkedAttribute}
use Rattle.linked_parts.specs.declared.linked.LinkedBinding.{LinkedBinding}
use Rattle.linked_parts.specs.declared.linked.LinkedClass.{LinkedClass}
use Rattle.linked_parts.specs.declared.linked.LinkedGroup.{LinkedGroup}
use Rattle.linked_parts.specs.declared.linked.LinkedGroupUse.{LinkedGroupUse}
use Rattle.linked_parts.specs.declared.linked.LinkedHead.{LinkedHead}
use Rattle.linked_parts.specs.declared.linked.LinkedInstance.{LinkedInstance}
use Rattle.linked_parts.specs.declared.linked.LinkedNotification.{LinkedNotification}
use Rattle.linked_parts.specs.declared.linked.LinkedPackage.{LinkedPackage}
use Rattle.linked_parts.specs.declared.linked.LinkedPair.{LinkedPair}
use Rattle.linked_parts.specs.declared.linked.LinkedRule.{LinkedRule}
use Rattle.linked_parts.specs.declared.linked.LinkedStep.{LinkedStep}
use Rattle.accepted_laws.specs.AlikeParts.{ActionsAlike, AreAlike, AttributesAlike, BindingsAlike, ClassesAlike}
use Rattle.accepted_laws.specs.AlikeParts.{GroupUsesAlike, GroupsAlike, HeadsAlike, InstancesAlike, NotificationsAlike}
use Rattle.accepted_laws.specs.AlikeParts.{PackagesAlike, PairsAlike, RulesAlike, StepsAlike, two_emissions, two_equal}
use Rattle.accepted_laws.specs.AlikeParts.{two_replies, two_values}

each_back : {A : Type 0} (Alike : A → A → Type 0) → ((x y : A) → Alike x y → Alike y x) → (xs ys : List A) →
    AreEach Alike xs ys → AreEach Alike ys xs
each_back Alike back [] [] each = tt
each_back Alike back [] (y ∷ ys) each = absurd each
each_back Alike back (x ∷ xs) [] each = absurd each
each_back Alike back (x ∷ xs) (y ∷ ys) each = (back x y each.0, each_back Alike back xs ys each.1)

head_back : (x y : LinkedHead) → HeadsAlike x y → HeadsAlike y x
head_back x y same = record {
  document = sym same.document;
  label = sym same.label;
  identifier = sym same.identifier;
}

-- ---- templates

class_back : (x y : LinkedClass) → ClassesAlike x y → ClassesAlike y x
class_back x y same = record {
  head = head_back x.head y.head same.head;
  superclasses = sym same.superclasses;
  mandatory = sym same.mandatory;
  conditional = sym same.conditional;
}

group_use_back : (x y : LinkedGroupUse) → GroupUsesAlike x y → GroupUsesAlike y x
group_use_back x y same = record { group = sym same.group; added = sym same.added }

package_back : (x y : LinkedPackage) → PackagesAlike x y → PackagesAlike y x
package_back x y same = record {
  head = head_back x.head y.head same.head;
  attributes = sym same.attributes;
  groups = each_back GroupUsesAlike group_use_back x.groups.items y.groups.items same.groups;
  actions = sym same.actions;
  notifications = sym same.notifications;
}

binding_back : (x y : LinkedBinding) → BindingsAlike x y → BindingsAlike y x
binding_back x y same = record {
  head = head_back x.head y.head same.head;
  subordinate = sym same.subordinate;
  subordinate_subclasses = sym same.subordinate_subclasses;
  superior = sym same.superior;
  superior_subclasses = sym same.superior_subclasses;
  attribute = sym same.attribute;
  create = sym same.create;
  delete = sym same.delete;
}

attribute_back : (x y : LinkedAttribute) → AttributesAlike x y → AttributesAlike y x
attribute_back x y same = record {
  head = head_back x.head y.head same.head;
  syntax = sym same.syntax;
  rules = sym same.rules;
}

group_back : (x y : LinkedGroup) → GroupsAlike x y → GroupsAlike y x
group_back x y same = record {
  head = head_back x.head y.head same.head;
  elements = sym same.elements;
  fixed = sym same.fixed;
}

action_back : (x y : LinkedAction) → ActionsAlike x y → ActionsAlike y x
action_back x y same = record {
  head = head_back x.head y.head same.head;
  confirmed = sym same.confirmed;
  information = sym same.information;
  reply = sym same.reply;
}

notification_back : (x y : LinkedNotification) → NotificationsAlike x y → NotificationsAlike y x
notification_back x y same = record {
  head = head_back x.head y.head same.head;
  information = sym same.information;
  fields = sym same.fields;
  reply = sym same.reply;
}

-- ---- rules and instances

step_back : (x y : LinkedStep) → StepsAlike x y → StepsAlike y x
step_back x y (two_equal same) = two_equal (sym same)
step_back x y (two_values same tree) = two_values (sym same) (sym tree)
step_back x y (two_emissions same tree) = two_emissions (sym same) (sym tree)
step_back x y (two_replies tree) = two_replies (sym tree)

rule_back : (x y : LinkedRule) → RulesAlike x y → RulesAlike y x
rule_back x y same = record {
  document = sym same.document;
  class = sym same.class;
  action = sym same.action;
  steps = each_back StepsAlike step_back x.steps.items y.steps.items same.steps;
}

pair_back : (x y : LinkedPair) → PairsAlike x y → PairsAlike y x
pair_back x y same = record { attribute = sym same.attribute; value = sym same.value }

instance_back : (x y : LinkedInstance) → InstancesAlike x y → InstancesAlike y x
instance_back x y same = record {
  document = sym same.document;
  is_root = sym same.is_root;
  class = sym same.class;
  name = each_back PairsAlike pair_back x.name.items y.name.items same.name;
  given = each_back PairsAlike pair_back x.given.items y.given.items same.given;
  packages = sym same.packages;
}

pub alike_back : (linked other : Linked) → AreAlike linked other → AreAlike other linked
alike_back linked other alike = record {
  arcs = sym alike.arcs;
  classes = each_back ClassesAlike class_back linked.classes.items other.classes.items alike.classes;
  packages = each_back PackagesAlike package_back linked.packages.items other.packages.items alike.packages;
  bindings = each_back BindingsAlike binding_back linked.bindings.items other.bindings.items alike.bindings;
  attributes = each_back AttributesAlike attribute_back linked.attributes.items other.attributes.items
      alike.attributes;
  groups = each_back GroupsAlike group_back linked.groups.items other.groups.items alike.groups;
  actions = each_back ActionsAlike action_back linked.actions.items other.actions.items alike.actions;
  notifications = each_back NotificationsAlike notification_back linked.notifications.items other.notifications.items
      alike.notifications;
  rules = each_back RulesAlike rule_back linked.rules.items other.rules.items alike.rules;
  instances = each_back InstancesAlike instance_back linked.instances.items other.instances.items alike.instances;
}
