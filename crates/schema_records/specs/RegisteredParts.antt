-- RegisteredParts: what is asked of linked parts where records are made of them: each reference is to a part that is
-- there, and to one that has an identifier where a record names it (X.722, sections 8.3 to 8.11; docs/PROFILE.md,
-- sections 12 and 18).
use Rattle.std.specs.Prelude.{◌≡◌, ℕ, List, Some, All, slice_get}
use Rattle.linked_parts.specs.declared.linked.Linked.{Linked}
use Rattle.linked_parts.specs.declared.linked.LinkedAction.{LinkedAction}
use Rattle.linked_parts.specs.declared.linked.LinkedAttribute.{LinkedAttribute}
use Rattle.linked_parts.specs.declared.linked.LinkedBinding.{LinkedBinding}
use Rattle.linked_parts.specs.declared.linked.LinkedClass.{LinkedClass}
use Rattle.linked_parts.specs.declared.linked.LinkedField.{LinkedField}
use Rattle.linked_parts.specs.declared.linked.LinkedGroup.{LinkedGroup}
use Rattle.linked_parts.specs.declared.linked.LinkedGroupUse.{LinkedGroupUse}
use Rattle.linked_parts.specs.declared.linked.LinkedHead.{LinkedHead}
use Rattle.linked_parts.specs.declared.linked.LinkedNotification.{LinkedNotification}
use Rattle.linked_parts.specs.declared.linked.LinkedPackage.{LinkedPackage}
use Rattle.linked_parts.specs.declared.linked.LinkedUse.{LinkedUse}
use Rattle.linked_types.specs.PartIdentifiers.{IsIdentified}

-- a template is registered
abbrev pub HasIdentifier : LinkedHead → Type 0
HasIdentifier head = (id : List ℕ) × (head.identifier ≡ Some id)

-- the template at a place of a table is there, and is registered
abbrev pub IsRegisteredAt : {L : Type 0} → (L → LinkedHead) → List L → ℕ → Type 0
IsRegisteredAt head xs k = (id : List ℕ) × IsIdentified head xs k id

abbrev pub IsClassPlace : Linked → ℕ → Type 0
IsClassPlace linked = IsRegisteredAt (λ (x : LinkedClass). x.head) linked.classes.items

abbrev pub IsAttributePlace : Linked → ℕ → Type 0
IsAttributePlace linked = IsRegisteredAt (λ (x : LinkedAttribute). x.head) linked.attributes.items

abbrev pub IsGroupPlace : Linked → ℕ → Type 0
IsGroupPlace linked = IsRegisteredAt (λ (x : LinkedGroup). x.head) linked.groups.items

abbrev pub IsActionPlace : Linked → ℕ → Type 0
IsActionPlace linked = IsRegisteredAt (λ (x : LinkedAction). x.head) linked.actions.items

abbrev pub IsNotificationPlace : Linked → ℕ → Type 0
IsNotificationPlace linked = IsRegisteredAt (λ (x : LinkedNotification). x.head) linked.notifications.items

-- a package is there; it may be without an identifier
abbrev pub IsPackagePlace : Linked → ℕ → Type 0
IsPackagePlace linked k = (part : LinkedPackage) × (slice_get linked.packages.items k ≡ Some part)

pub record IsRegisteredClass (linked : Linked) (part : LinkedClass) : Type 0 where
  pub itself : HasIdentifier part.head
  pub superclasses : All (IsClassPlace linked) part.superclasses.items
  pub mandatory : All (IsPackagePlace linked) part.mandatory.items
  pub conditional : All (IsPackagePlace linked) part.conditional.items

pub record IsRegisteredUse (linked : Linked) (stated : LinkedGroupUse) : Type 0 where
  pub group : IsGroupPlace linked stated.group
  pub added : All (IsAttributePlace linked) stated.added.items

-- all that a package names is registered
pub record NamesRegistered (linked : Linked) (part : LinkedPackage) : Type 0 where
  pub attributes : All (λ (stated : LinkedUse). IsAttributePlace linked stated.attribute) part.attributes.items
  pub groups : All (IsRegisteredUse linked) part.groups.items
  pub actions : All (IsActionPlace linked) part.actions.items
  pub notifications : All (IsNotificationPlace linked) part.notifications.items

pub record IsRegisteredGroup (linked : Linked) (part : LinkedGroup) : Type 0 where
  pub itself : HasIdentifier part.head
  pub elements : All (IsAttributePlace linked) part.elements.items

pub record IsRegisteredBinding (linked : Linked) (part : LinkedBinding) : Type 0 where
  pub itself : HasIdentifier part.head
  pub subordinate : IsClassPlace linked part.subordinate
  pub superior : IsClassPlace linked part.superior
  pub attribute : IsAttributePlace linked part.attribute

pub record IsRegisteredNotification (linked : Linked) (part : LinkedNotification) : Type 0 where
  pub itself : HasIdentifier part.head
  pub fields : All (λ (field : LinkedField). IsAttributePlace linked field.attribute) part.fields.items

-- attributes may be without identifiers, where nothing but the syntax of others refers to them
pub record AreRegisteredParts (linked : Linked) : Type 0 where
  pub classes : All (IsRegisteredClass linked) linked.classes.items
  pub packages : All (NamesRegistered linked) linked.packages.items
  pub groups : All (IsRegisteredGroup linked) linked.groups.items
  pub bindings : All (IsRegisteredBinding linked) linked.bindings.items
  pub actions : All (λ (x : LinkedAction). HasIdentifier x.head) linked.actions.items
  pub notifications : All (IsRegisteredNotification linked) linked.notifications.items
