-- IntegerModules: modules in which each type is written INTEGER, and attributes whose types these modules assign (X.680,
-- section 19; X.722, section 8.7; docs/PROFILE.md, sections 8 and 9).
use Rattle.std.specs.Prelude.{◌≡◌, ◌≢◌, ℕ, List, [], Contains}
use Rattle.token_grammar.specs.declared.token.Token.{Token}
use Rattle.asn1_names.specs.ModuleTerms.{LimitTerm, ModuleTerm, NamedNumberTerm, TypeTerm}
use Rattle.asn1_names.specs.ModuleTerms.PlainTerm.{IntegerTerm}
use Rattle.asn1_names.specs.ModuleTerms.TypeTerm.{Plain}
use Rattle.asn1_names.specs.Occurrences.{Assigns}
use Rattle.linked_parts.specs.declared.linked.Linked.{Linked}
use Rattle.linked_parts.specs.declared.linked.LinkedAttribute.{LinkedAttribute}
use Rattle.linked_parts.specs.declared.linked.LinkedName.{LinkedName}
use Rattle.linked_parts.specs.declared.linked.LinkedSyntax.TheVariants.{OfType}
use Rattle.linked_parts.specs.declared.linked.NamedMeaning.TheVariants.{Standard}

-- `INTEGER`, with or without named numbers and ranges
pub data IsWrittenInteger : TypeTerm → Type 0 where
  integer : {word : Token} {numbers : List NamedNumberTerm} {limits : List LimitTerm} →
      IsWrittenInteger (Plain word (IntegerTerm numbers) limits)

-- so is each type that the modules assign, or of which they assign a value
abbrev pub AreWrittenIntegers : List ModuleTerm → Type 0
AreWrittenIntegers ms = (document m : ℕ) (of : TypeTerm) → Assigns ms document m of → IsWrittenInteger of

-- no attribute has a type of CMIP-1, and there are no rules
pub record AreIntegerModules (ms : List ModuleTerm) (linked : Linked) : Type 0 where
  pub types : AreWrittenIntegers ms
  pub own_types : (x : LinkedAttribute) (name : LinkedName) (word : Token) → Contains linked.attributes.items x →
      x.syntax ≡ OfType name → name.meaning ≢ Standard word
  pub no_rules : linked.rules.items ≡ []
