-- ModuleFaults: what is wrong in modules, a sentence for each fault, each true or false by itself of a token of a
-- document, which is told by the octet at which it begins (docs/PROFILE.md, section 11).
use Rattle.std.specs.Prelude.{◌≡◌, ◌≢◌, ◌<◌, ℕ, ℤ, List, true, false, Option, None, Some, Contains, slice_get}
use Rattle.token_grammar.specs.declared.token.Token.{Token}
use Rattle.term_values.specs.declared.tag.Tag.{Tag}
use Rattle.asn1_names.specs.declared.refusal.UnsupportedKind.{UnsupportedKind}
use Rattle.asn1_names.specs.declared.refusal.UnsupportedKind.TheVariants.{TypeWord, TooManyNodes, TagNumber}
use Rattle.asn1_names.specs.declared.refusal.UnsupportedKind.TheVariants.{WideNumber, MisplacedConstraint}
use Rattle.asn1_names.specs.ModuleTerms.{NumberTerm, LimitTerm, TagTerm, TypeTerm, AssignmentTerm, ImportTerm}
use Rattle.asn1_names.specs.ModuleTerms.{ModuleTerm}
use Rattle.asn1_names.specs.ModuleTerms.NumberTerm.{Digits, Called}
use Rattle.asn1_names.specs.ModuleTerms.PlainTerm.{OneWord}
use Rattle.asn1_names.specs.ModuleTerms.TypeTerm.{Under, Plain, Reference}
use Rattle.asn1_names.specs.Constraining.{limit_ranges}
use Rattle.asn1_names.specs.Containment.{IsCyclic}
use Rattle.asn1_names.specs.NameMeaning.{Meaning, module_meaning, meaning_within, name_meaning}
use Rattle.asn1_names.specs.NameMeaning.{assigned_in, import_of, reference_meaning}
use Rattle.asn1_names.specs.NameMeaning.Meaning.{TypeAt, ValueAt, StandardType, Nothing}
use Rattle.asn1_names.specs.NameMeaning.ModuleMeaning.{NoModule}
use Rattle.asn1_names.specs.NodeCount.{IsNoType, HasNodes}
use Rattle.asn1_names.specs.Occurrences.{IsIn, Assigns, Stands, ImportsBy, IsNumberOf, IsLimitOf, IsBoundOf}
use Rattle.asn1_names.specs.Occurrences.{number_token, bound_or_word, first_word}
use Rattle.asn1_names.specs.TagClashes.{IsAmbiguous}
use Rattle.asn1_names.specs.TypeBase.{Base, HasBase, has_place}
use Rattle.asn1_names.specs.TypeWords.{is_other_type_word, one_word_type}
use Rattle.asn1_names.specs.WholeNumbers.{IsNumber, NamesNumber, IsBound, IsTag}

-- a name means no value
abbrev pub IsNoValue : Meaning → Type 0
IsNoValue (TypeAt m i of) = Unit {0}
IsNoValue (ValueAt m i of number text) = ⊥
IsNoValue (StandardType syntax) = Unit {0}
IsNoValue Nothing = Unit {0}

-- a name alone is a word of ASN.1 for another type, and the module at the place m neither assigns nor imports it
pub record IsOtherType (ms : List ModuleTerm) (m : ℕ) (name : Token) : Type 0 where
  pub word : is_other_type_word name.text ≡ true
  pub unassigned : assigned_in ms m name.text ≡ Nothing
  pub not_imported : import_of ms m name.text ≡ None

-- an import, a name of a type, or the name of a number names what its module has not
pub data UnknownTypeAt (ms : List ModuleTerm) (document token : ℕ) : Type 0 where
  imported : {m : ℕ} {text : ImportTerm} {symbol : Token} → ImportsBy ms document m text →
      Contains text.symbols symbol →
      module_meaning ms text.module_name.text ≢ NoModule →
      meaning_within ms (module_meaning ms text.module_name.text) symbol.text ≡ Nothing → symbol.at ≡ token →
      UnknownTypeAt ms document token
  of_module : {m : ℕ} {module_name name : Token} {limits : List LimitTerm} →
      Stands ms document m (Reference (Some module_name) name limits) →
      module_meaning ms module_name.text ≢ NoModule →
      IsNoType (reference_meaning ms m (Some module_name) name) → name.at ≡ token → UnknownTypeAt ms document token
  alone : {m : ℕ} {name : Token} {limits : List LimitTerm} → Stands ms document m (Reference None name limits) →
      IsNoType (reference_meaning ms m None name) → ¬ IsOtherType ms m name → name.at ≡ token →
      UnknownTypeAt ms document token
  tag_number : {m : ℕ} {tag : TagTerm} {mode : Option Token} {of : TypeTerm} {name : Token} →
      Stands ms document m (Under tag mode of) → tag.number ≡ Called name → IsNoValue (name_meaning ms m name.text) →
      name.at ≡ token → UnknownTypeAt ms document token
  named_number : {m : ℕ} {of : TypeTerm} {name : Token} → Stands ms document m of → IsNumberOf (Called name) of →
      IsNoValue (name_meaning ms m name.text) → name.at ≡ token → UnknownTypeAt ms document token
  bound : {m : ℕ} {of : TypeTerm} {name : Token} → Stands ms document m of → IsBoundOf (Called name) of →
      ¬ NamesNumber ms m of name → IsNoValue (name_meaning ms m name.text) → name.at ≡ token →
      UnknownTypeAt ms document token

-- an import, or the name of a type with its module, names a module that isn't there
pub data UnknownModuleAt (ms : List ModuleTerm) (document token : ℕ) : Type 0 where
  imported : {m : ℕ} {text : ImportTerm} → ImportsBy ms document m text →
      module_meaning ms text.module_name.text ≡ NoModule → text.module_name.at ≡ token →
      UnknownModuleAt ms document token
  of_module : {m : ℕ} {module_name name : Token} {limits : List LimitTerm} →
      Stands ms document m (Reference (Some module_name) name limits) →
      module_meaning ms module_name.text ≡ NoModule → module_name.at ≡ token → UnknownModuleAt ms document token

-- a type contains itself; the token is its name at its assignment
pub record CyclicTypeAt (ms : List ModuleTerm) (document token : ℕ) : Type 0 where
  pub m : ℕ
  pub in_module : ModuleTerm
  pub is_in : IsIn ms document m in_module
  pub i : ℕ
  pub assignment : AssignmentTerm
  pub stands : slice_get in_module.assignments i ≡ Some assignment
  pub cyclic : IsCyclic ms m i
  pub at : assignment.name.at ≡ token

-- a number is digits, or the name of a value
abbrev pub IsKnown : List ModuleTerm → ℕ → NumberTerm → Type 0
IsKnown ms m (Digits minus token) = Unit {0}
IsKnown ms m (Called name) = ¬ IsNoValue (name_meaning ms m name.text)

-- a bound is digits, or the name of a named number of its type or of a value
abbrev pub IsKnownBound : List ModuleTerm → ℕ → TypeTerm → NumberTerm → Type 0
IsKnownBound ms m of (Digits minus token) = Unit {0}
IsKnownBound ms m of (Called name) = ¬ ((¬ NamesNumber ms m of name) × IsNoValue (name_meaning ms m name.text))

-- a type's word that documents may not use (the second case is one that no text has); a syntax of more than 10,000
-- nodes; a tag number that isn't from 0 to 2^32 - 1; a named number, named bit or bound that is no whole number of 64
-- bits; a constraint that the type has no place for
pub data UnsupportedAt (ms : List ModuleTerm) (document token : ℕ) : UnsupportedKind → Type 0 where
  type_word : {m : ℕ} {name : Token} {limits : List LimitTerm} → Stands ms document m (Reference None name limits) →
      IsOtherType ms m name → name.at ≡ token → UnsupportedAt ms document token TypeWord
  other_word : {m : ℕ} {word : Token} {limits : List LimitTerm} → Stands ms document m (Plain word OneWord limits) →
      one_word_type word.text ≡ None → word.at ≡ token → UnsupportedAt ms document token TypeWord
  too_many_nodes : {m n : ℕ} {of : TypeTerm} → Assigns ms document m of → HasNodes ms m of n → 10000 < n →
      (first_word of).at ≡ token → UnsupportedAt ms document token TooManyNodes
  tag_number : {m : ℕ} {tag : TagTerm} {mode : Option Token} {of : TypeTerm} →
      Stands ms document m (Under tag mode of) → IsKnown ms m tag.number → ((own : Tag) → ¬ IsTag ms m tag own) →
      (number_token tag.number).at ≡ token → UnsupportedAt ms document token TagNumber
  named_number : {m : ℕ} {of : TypeTerm} {number : NumberTerm} → Stands ms document m of → IsNumberOf number of →
      IsKnown ms m number → ((n : ℤ) → ¬ IsNumber ms m number n) → (number_token number).at ≡ token →
      UnsupportedAt ms document token WideNumber
  bound : {m : ℕ} {of : TypeTerm} {number : NumberTerm} → Stands ms document m of → IsBoundOf number of →
      IsKnownBound ms m of number → ((n : ℤ) → ¬ IsBound ms m of number n) → (number_token number).at ≡ token →
      UnsupportedAt ms document token WideNumber
  misplaced : {m : ℕ} {of : TypeTerm} {limit : LimitTerm} {base : Base} → Stands ms document m of →
      IsLimitOf limit of → HasBase ms m of base → has_place base limit ≡ false →
      (bound_or_word (limit_ranges limit) (first_word of)).at ≡ token →
      UnsupportedAt ms document token MisplacedConstraint

-- tags don't decide in a CHOICE, SET or SEQUENCE; the token is this word
pub record AmbiguousTagsAt (ms : List ModuleTerm) (document token : ℕ) : Type 0 where
  pub m : ℕ
  pub of : TypeTerm
  pub stands : Stands ms document m of
  pub word : Token
  pub ambiguous : IsAmbiguous ms m of word
  pub at : word.at ≡ token
