-- WantedMeanings: in linked parts each name of a type means a type, each name of a value means a value, and each
-- attribute from which one derives is there (X.722, sections 8.4, 8.7, 8.10 and 8.11; docs/PROFILE.md, section 12).
use Rattle.std.specs.Prelude.{◌≡◌, List, Option, Some, All, IfSome, slice_get}
use Rattle.asn1_names.specs.ModuleFaults.{IsNoValue}
use Rattle.asn1_names.specs.ModuleTerms.{ModuleTerm}
use Rattle.asn1_names.specs.NodeCount.{IsNoType}
use Rattle.linked_parts.specs.declared.linked.Linked.{Linked}
use Rattle.linked_parts.specs.declared.linked.LinkedAction.{LinkedAction}
use Rattle.linked_parts.specs.declared.linked.LinkedAttribute.{LinkedAttribute}
use Rattle.linked_parts.specs.declared.linked.LinkedName.{LinkedName}
use Rattle.linked_parts.specs.declared.linked.LinkedNotification.{LinkedNotification}
use Rattle.linked_parts.specs.declared.linked.LinkedPackage.{LinkedPackage}
use Rattle.linked_parts.specs.declared.linked.LinkedSyntax.{LinkedSyntax}
use Rattle.linked_parts.specs.declared.linked.LinkedSyntax.TheVariants.{OfAttribute, OfType}
use Rattle.linked_parts.specs.declared.linked.LinkedUse.{LinkedUse}
use Rattle.filled_syntaxes.specs.LinkedMeanings.{linked_meaning}

-- a name means a type, or a value
abbrev pub MeansType : List ModuleTerm → LinkedName → Type 0
MeansType ms name = ¬ IsNoType (linked_meaning ms name.meaning)

abbrev pub MeansValue : List ModuleTerm → LinkedName → Type 0
MeansValue ms name = ¬ IsNoValue (linked_meaning ms name.meaning)

-- the type of an attribute, or the attribute from which it derives
abbrev pub IsWantedSyntax : List ModuleTerm → Linked → LinkedSyntax → Type 0
IsWantedSyntax ms linked (OfType name) = MeansType ms name
IsWantedSyntax ms linked (OfAttribute base) =
    (x : LinkedAttribute) × (slice_get linked.attributes.items base ≡ Some x)

-- the types of information and reply
pub record AreWantedTypes (ms : List ModuleTerm) (information reply : Option LinkedName) : Type 0 where
  pub of_information : IfSome information (MeansType ms)
  pub of_reply : IfSome reply (MeansType ms)

-- DEFAULT VALUE, INITIAL VALUE and PERMITTED VALUES
pub record IsWantedUse (ms : List ModuleTerm) (stated : LinkedUse) : Type 0 where
  pub of_default : IfSome stated.default_value (MeansValue ms)
  pub of_initial : IfSome stated.initial_value (MeansValue ms)
  pub of_permitted : IfSome stated.permitted (MeansType ms)

pub record AreWanted (ms : List ModuleTerm) (linked : Linked) : Type 0 where
  pub of_attributes : All (λ (x : LinkedAttribute). IsWantedSyntax ms linked x.syntax) linked.attributes.items
  pub of_actions : All (λ (x : LinkedAction). AreWantedTypes ms x.information x.reply) linked.actions.items
  pub of_notifications : All (λ (x : LinkedNotification). AreWantedTypes ms x.information x.reply)
      linked.notifications.items
  pub of_packages : All (λ (part : LinkedPackage). All (IsWantedUse ms) part.attributes.items) linked.packages.items
