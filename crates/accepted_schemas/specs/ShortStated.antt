-- ShortStated: each value behind DEFAULT VALUE or INITIAL VALUE is written in fewer than 2 ^ 32 octets in the syntax of
-- its attribute, which is the most that is read (X.722, section 8.4; X.690, section 8.1.3; docs/PROFILE.md, sections 2
-- and 3).
use Rattle.std.specs.Prelude.{◌≡◌, ℕ, List, Option, Some, All}
use Rattle.term_values.specs.Syntaxes.{TypeSyntax}
use Rattle.term_values.specs.Typed.{TypedValue}
use Rattle.asn1_names.specs.ModuleTerms.{ModuleTerm}
use Rattle.linked_parts.specs.declared.linked.Linked.{Linked}
use Rattle.linked_parts.specs.declared.linked.LinkedName.{LinkedName}
use Rattle.linked_parts.specs.declared.linked.LinkedPackage.{LinkedPackage}
use Rattle.linked_parts.specs.declared.linked.LinkedUse.{LinkedUse}
use Rattle.class_faults.specs.AttributeSyntaxes.{AttributeHas}
use Rattle.class_faults.specs.StatedProperties.{HasValue}
use Rattle.sound_laws.specs.ShortDefaults.{IsShort}

-- the value of the name that is stated for an attribute, where one is
abbrev pub IsShortNamed : List ModuleTerm → Linked → ℕ → Option LinkedName → Type 0
IsShortNamed ms linked attribute stated = (name : LinkedName) → stated ≡ Some name → (syntax : TypeSyntax) →
    AttributeHas ms linked attribute syntax → (value : TypedValue) → HasValue ms linked name value →
    IsShort syntax value

-- what a package states of an attribute
pub record IsShortUse (ms : List ModuleTerm) (linked : Linked) (stated : LinkedUse) : Type 0 where
  pub default : IsShortNamed ms linked stated.attribute stated.default_value
  pub initial : IsShortNamed ms linked stated.attribute stated.initial_value

abbrev pub AreShortStated : List ModuleTerm → Linked → Type 0
AreShortStated ms linked =
    All (λ (part : LinkedPackage). All (IsShortUse ms linked) part.attributes.items) linked.packages.items
