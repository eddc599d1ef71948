-- AskedTypes: what numbers of types tell: two types have one number exactly where they have one key (KeyLaws), however
-- often and in whatever order they are asked for (docs/PROFILE.md, section 12).
use Rattle.std.specs.Prelude.{◌≡◌, ℕ, List, Option, None, Some}
use Rattle.std.specs.List.{slice_get}
use Rattle.asn1_names.specs.CodeMeanings.{IsTypeNumber}
use Rattle.asn1_names.specs.ModuleTerms.{ModuleTerm}
use Rattle.asn1_names.specs.NameMeaning.{Meaning}
use Rattle.asn1_names.specs.NodeCount.{IsNoType}
use Rattle.asn1_names.specs.TermViews.{module_terms}
use Rattle.key_numbers.specs.KeyNumbers.{IsKeyNumber}
use Rattle.type_numbers.specs.MeaningKeys.{IsKeyOf}
use Rattle.key_numbers.specs.NumberedLists.{AreOnce, Grows, Row}
use Rattle.key_numbers.specs.TypeKeys.{TypeKey}
use Rattle.type_numbers.specs.declared.numbered_types.TypeNumbers.{TypeNumbers}

-- the number is that of the key of what is meant
pub record HasNumber (ms : List ModuleTerm) (row : Row) (meant : Meaning) (n : ℕ) : Type 0 where
  pub key : TypeKey
  pub is_key : IsKeyOf ms meant key
  pub numbered : IsKeyNumber row key n

-- what is told of the type that a name means: its number, or that the name means no type
abbrev pub TellsNumber : List ModuleTerm → Row → Meaning → Option ℕ → Type 0
TellsNumber ms row meant None = IsNoType meant
TellsNumber ms row meant (Some n) = HasNumber ms row meant n

-- numbers of types of these modules
pub record AreNumbers (ms : List ModuleTerm) (numbers : TypeNumbers) : Type 0 where
  pub of_types : module_terms numbers.types.now ≡ ms
  pub of_texts : module_terms numbers.texts.now ≡ ms
  pub once : AreOnce numbers.lists
  pub known : (assignment n : ℕ) → slice_get numbers.known.items assignment ≡ Some (Some n) → (meant : Meaning) →
      IsTypeNumber ms assignment meant → HasNumber ms numbers.lists meant n

-- they stay numbers of types of these modules, and what had a number keeps it
pub record StayNumbers (ms : List ModuleTerm) (before after : TypeNumbers) : Type 0 where
  pub are_numbers : AreNumbers ms after
  pub grows : Grows before.lists after.lists

-- the modules, their texts and what is kept of assignments stay
pub record KeepsOthers (before after : TypeNumbers) : Type 0 where
  pub types : after.types ≡ before.types
  pub texts : after.texts ≡ before.texts
  pub known : after.known ≡ before.known
