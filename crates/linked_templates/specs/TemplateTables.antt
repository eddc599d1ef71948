-- TemplateTables: the tables of linked templates are those of a set of documents: each has the templates of its kind in
-- their order (X.722, section 8; docs/PROFILE.md, section 12). What is known where no reference is missing.
use Rattle.std.specs.Prelude.{◌≡◌, ℕ, List, Option}
use Rattle.linked_parts.specs.declared.linked.Linked.{Linked}
use Rattle.linked_parts.specs.declared.linked.LinkedHead.{LinkedHead}
use Rattle.linked_packages.specs.LinkedPackages.{IsPackageOf}
use Rattle.linked_templates.specs.LinkedMembers.{IsBindingOf, IsAttributeOf, IsGroupOf, IsActionOf, IsNotificationOf}
use Rattle.linked_templates.specs.LinkedTemplates.{IsClassOf}
use Rattle.gdmo_linking.specs.LinkedNames.{IsHead, IsLinkedIdentifier}
use Rattle.gdmo_linking.specs.LinkedTables.{of_kind}
use Rattle.gdmo_linking.specs.Linkers.{IsMeant, IsNamed}
use Rattle.gdmo_names.specs.InStep.{AreAll, AreEach}
use Rattle.gdmo_names.specs.Mentions.{template_mentions}
use Rattle.gdmo_names.specs.PartTerms.{Placed, PartTerms, body_of, identifier_of}
use Rattle.gdmo_names.specs.TemplateTerms.{BodyTerm}
use Rattle.gdmo_names.specs.TemplateTerms.TemplateKind.{ClassKind, PackageKind, BindingKind, AttributeKind}
use Rattle.gdmo_names.specs.TemplateTerms.TemplateKind.{GroupKind, ActionKind, NotificationKind}
use Rattle.gdmo_names.specs.TypeMeaning.{type_names, value_names}

-- the head and the clauses of a template
abbrev pub IsTemplate : {L : Type 0} → PartTerms → (L → LinkedHead) → (ℕ → BodyTerm → L → Type 0) → Placed → L →
    Type 0
IsTemplate parts head is x linked = IsHead parts x (head linked) × is x.document (body_of x.template) linked

-- the tables of linked templates are those of these
pub record AreLinkedTemplates (parts : PartTerms) (xs : List Placed) (linked : Linked) : Type 0 where
  pub classes : AreEach (IsTemplate parts (λ x. x.head) (IsClassOf parts)) (of_kind ClassKind xs) linked.classes.items
  pub packages : AreEach (IsTemplate parts (λ x. x.head) (IsPackageOf parts)) (of_kind PackageKind xs)
      linked.packages.items
  pub bindings : AreEach (IsTemplate parts (λ x. x.head) (IsBindingOf parts)) (of_kind BindingKind xs)
      linked.bindings.items
  pub attributes : AreEach (IsTemplate parts (λ x. x.head) (IsAttributeOf parts)) (of_kind AttributeKind xs)
      linked.attributes.items
  pub groups : AreEach (IsTemplate parts (λ x. x.head) (IsGroupOf parts)) (of_kind GroupKind xs) linked.groups.items
  pub actions : AreEach (IsTemplate parts (λ x. x.head) (IsActionOf parts)) (of_kind ActionKind xs)
      linked.actions.items
  pub notifications : AreEach (IsTemplate parts (λ x. x.head) (IsNotificationOf parts)) (of_kind NotificationKind xs)
      linked.notifications.items

-- rules, instances and first names stay as they were
pub record KeepsSections (before after : Linked) : Type 0 where
  pub rules : after.rules ≡ before.rules
  pub instances : after.instances ≡ before.instances
  pub first_names : after.first_names ≡ before.first_names

-- what a template names is there: the templates, the types and the values
pub record IsComplete (parts : PartTerms) (x : Placed) : Type 0 where
  pub meant : AreAll (IsMeant parts x.document) (template_mentions x.template)
  pub types : AreAll (IsNamed parts) (type_names (body_of x.template))
  pub values : AreAll (IsNamed parts) (value_names (body_of x.template))

-- a template is registered under this identifier, or under none
abbrev pub IsRegistered : PartTerms → Placed → Option (List ℕ) → Type 0
IsRegistered parts x identifier = IsLinkedIdentifier parts (identifier_of x.template) identifier
