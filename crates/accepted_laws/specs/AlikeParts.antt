-- AlikeParts: linked parts are alike that are equal in all but the memory of lists and values, and the order in which
-- first names are told (X.722, section 8; docs/PROFILE.md, sections 12 and 18).
use Rattle.std.specs.Prelude.{◌≡◌, ℕ, List, Option, Some, option_map}
use Rattle.std.specs.Global.{Vec}
use Rattle.token_grammar.specs.declared.token.Token.{Token}
use Rattle.asn1_values_syntax.specs.declared.value.ValueText.{ValueText}
use Rattle.asn1_values_syntax.specs.ValueTrees.{value_tree}
use Rattle.gdmo_names.specs.InStep.{AreEach}
use Rattle.linked_parts.specs.declared.linked.Linked.{Linked}
use Rattle.linked_parts.specs.declared.linked.LinkedAction.{LinkedAction}
use Rattle.linked_parts.specs.declared.linked.LinkedAttribute.{LinkedAttribute}
use Rattle.linked_parts.specs.declared.linked.LinkedBinding.{LinkedBinding}
use Rattle.linked_parts.specs.declared.linked.LinkedClass.{LinkedClass}
use Rattle.linked_parts.specs.declared.linked.LinkedGroup.{LinkedGroup}
use Rattle.linked_parts.specs.declared.linked.LinkedGroupUse.{LinkedGroupUse}
use Rattle.linked_parts.specs.declared.linked.LinkedHead.{LinkedHead}
use Rattle.linked_parts.specs.declared.linked.LinkedInstance.{LinkedInstance}
use Rattle.linked_parts.specs.declared.linked.LinkedNotification.{LinkedNotification}
use Rattle.linked_parts.specs.declared.linked.LinkedPackage.{LinkedPackage}
use Rattle.linked_parts.specs.declared.linked.LinkedPair.{LinkedPair}
use Rattle.linked_parts.specs.declared.linked.LinkedRule.{LinkedRule}
use Rattle.linked_parts.specs.declared.linked.LinkedStep.{LinkedStep}
use Rattle.linked_parts.specs.declared.linked.LinkedStep.TheVariants.{Emit, ReplyValue, SetValue}
use Rattle.filled_syntaxes.specs.LinkedMeanings.{linked_arcs}

pub record HeadsAlike (x y : LinkedHead) : Type 0 where
  pub document : x.document ≡ y.document
  pub label : x.label ≡ y.label
  pub identifier : x.identifier ≡ y.identifier

pub record ClassesAlike (x y : LinkedClass) : Type 0 where
  pub head : HeadsAlike x.head y.head
  pub superclasses : x.superclasses.items ≡ y.superclasses.items
  pub mandatory : x.mandatory.items ≡ y.mandatory.items
  pub conditional : x.conditional.items ≡ y.conditional.items

pub record GroupUsesAlike (x y : LinkedGroupUse) : Type 0 where
  pub group : x.group ≡ y.group
  pub added : x.added.items ≡ y.added.items

pub record PackagesAlike (x y : LinkedPackage) : Type 0 where
  pub head : HeadsAlike x.head y.head
  pub attributes : x.attributes.items ≡ y.attributes.items
  pub groups : AreEach GroupUsesAlike x.groups.items y.groups.items
  pub actions : x.actions.items ≡ y.actions.items
  pub notifications : x.notifications.items ≡ y.notifications.items

-- the words behind CREATE or DELETE, where it stands
abbrev pub words_of : Option (Vec Token) → Option (List Token)
words_of words = option_map (λ (row : Vec Token). row.items) words

pub record BindingsAlike (x y : LinkedBinding) : Type 0 where
  pub head : HeadsAlike x.head y.head
  pub subordinate : x.subordinate ≡ y.subordinate
  pub subordinate_subclasses : x.subordinate_subclasses ≡ y.subordinate_subclasses
  pub superior : x.superior ≡ y.superior
  pub superior_subclasses : x.superior_subclasses ≡ y.superior_subclasses
  pub attribute : x.attribute ≡ y.attribute
  pub create : words_of x.create ≡ words_of y.create
  pub delete : words_of x.delete ≡ words_of y.delete

pub record AttributesAlike (x y : LinkedAttribute) : Type 0 where
  pub head : HeadsAlike x.head y.head
  pub syntax : x.syntax ≡ y.syntax
  pub rules : x.rules.items ≡ y.rules.items

pub record GroupsAlike (x y : LinkedGroup) : Type 0 where
  pub head : HeadsAlike x.head y.head
  pub elements : x.elements.items ≡ y.elements.items
  pub fixed : x.fixed ≡ y.fixed

pub record ActionsAlike (x y : LinkedAction) : Type 0 where
  pub head : HeadsAlike x.head y.head
  pub confirmed : x.confirmed ≡ y.confirmed
  pub information : x.information ≡ y.information
  pub reply : x.reply ≡ y.reply

pub record NotificationsAlike (x y : LinkedNotification) : Type 0 where
  pub head : HeadsAlike x.head y.head
  pub information : x.information ≡ y.information
  pub fields : x.fields.items ≡ y.fields.items
  pub reply : x.reply ≡ y.reply

-- two steps that are equal, or take values of one tree
pub data StepsAlike : LinkedStep → LinkedStep → Type 0 where
  two_equal : {x y : LinkedStep} → x ≡ y → StepsAlike x y
  two_values : {j k : ℕ} {x y : ValueText} → j ≡ k → value_tree x ≡ value_tree y →
      StepsAlike (SetValue j x) (SetValue k y)
  two_emissions : {j k : ℕ} {x y : ValueText} → j ≡ k → value_tree x ≡ value_tree y →
      StepsAlike (Emit j (Some x)) (Emit k (Some y))
  two_replies : {x y : ValueText} → value_tree x ≡ value_tree y → StepsAlike (ReplyValue x) (ReplyValue y)

pub record RulesAlike (x y : LinkedRule) : Type 0 where
  pub document : x.document ≡ y.document
  pub class : x.class ≡ y.class
  pub action : x.action ≡ y.action
  pub steps : AreEach StepsAlike x.steps.items y.steps.items

pub record PairsAlike (x y : LinkedPair) : Type 0 where
  pub attribute : x.attribute ≡ y.attribute
  pub value : value_tree x.value ≡ value_tree y.value

pub record InstancesAlike (x y : LinkedInstance) : Type 0 where
  pub document : x.document ≡ y.document
  pub is_root : x.is_root ≡ y.is_root
  pub class : x.class ≡ y.class
  pub name : AreEach PairsAlike x.name.items y.name.items
  pub given : AreEach PairsAlike x.given.items y.given.items
  pub packages : x.packages.items ≡ y.packages.items

pub record AreAlike (linked other : Linked) : Type 0 where
  pub arcs : linked_arcs linked ≡ linked_arcs other
  pub classes : AreEach ClassesAlike linked.classes.items other.classes.items
  pub packages : AreEach PackagesAlike linked.packages.items other.packages.items
  pub bindings : AreEach BindingsAlike linked.bindings.items other.bindings.items
  pub attributes : AreEach AttributesAlike linked.attributes.items other.attributes.items
  pub groups : AreEach GroupsAlike linked.groups.items other.groups.items
  pub actions : AreEach ActionsAlike linked.actions.items other.actions.items
  pub notifications : AreEach NotificationsAlike linked.notifications.items other.notifications.items
  pub rules : AreEach RulesAlike linked.rules.items other.rules.items
  pub instances : AreEach InstancesAlike linked.instances.items other.instances.items
