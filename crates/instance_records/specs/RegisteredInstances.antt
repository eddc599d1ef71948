-- RegisteredInstances: what is asked of instances so that they have records: the class, the attributes and the
-- packages that they name are registered (docs/PROFILE.md, sections 9 and 12).
use Rattle.std.specs.Prelude.{All}
use Rattle.linked_parts.specs.declared.linked.Linked.{Linked}
use Rattle.linked_parts.specs.declared.linked.LinkedInstance.{LinkedInstance}
use Rattle.linked_parts.specs.declared.linked.LinkedPair.{LinkedPair}
use Rattle.section_values.specs.RegisteredSections.{HasIdentifier, IsRegisteredAttribute}

pub record IsRegisteredInstance (linked : Linked) (part : LinkedInstance) : Type 0 where
  pub of_class : HasIdentifier (λ x. x.head) linked.classes.items part.class
  pub of_name : All (λ (pair : LinkedPair). IsRegisteredAttribute linked pair.attribute) part.name.items
  pub of_given : All (λ (pair : LinkedPair). IsRegisteredAttribute linked pair.attribute) part.given.items
  pub of_packages : All (HasIdentifier (λ x. x.head) linked.packages.items) part.packages.items

abbrev pub AreRegisteredInstances : Linked → Type 0
AreRegisteredInstances linked = All (IsRegisteredInstance linked) linked.instances.items
