-- Occurrences: where types, the names that stand in them, numbers and constraints stand in modules (X.680, sections 13
-- and 16; docs/PROFILE.md, section 11). All assignments count, of types and of values, used or not.
use Rattle.std.specs.Prelude.{◌≡◌, ◌⊎◌, ℕ, List, [], ◌∷◌, Option, None, Some, Contains, slice_get}
use Rattle.token_grammar.specs.declared.token.Token.{Token}
use Rattle.asn1_names.specs.ModuleTerms.{NumberTerm, NamedNumberTerm, RangeTerm, LimitTerm, PlainTerm}
use Rattle.asn1_names.specs.ModuleTerms.{TypeTerm, MemberTerms, AssignedTerm, AssignmentTerm, ImportTerm, ModuleTerm}
use Rattle.asn1_names.specs.ModuleTerms.NumberTerm.{Digits, Called}
use Rattle.asn1_names.specs.ModuleTerms.LimitTerm.{SizeLimit}
use Rattle.asn1_names.specs.ModuleTerms.PlainTerm.{IntegerTerm, EnumeratedTerm, BitStringTerm}
use Rattle.asn1_names.specs.ModuleTerms.TypeTerm.{Under, Structure, Repeated, Alternatives, Plain, Reference}
use Rattle.asn1_names.specs.ModuleTerms.AssignedTerm.{AssignsType, AssignsValue}
use Rattle.asn1_names.specs.Constraining.{limit_ranges}
use Rattle.asn1_names.specs.Containment.{Within}

-- the module at the place m is of this document
pub record IsIn (ms : List ModuleTerm) (document m : ℕ) (x : ModuleTerm) : Type 0 where
  pub module_at : slice_get ms m ≡ Some x
  pub numbered : x.document ≡ document

-- the type that is assigned, or the one of the value that is
abbrev pub type_assigned : AssignedTerm → TypeTerm
type_assigned (AssignsType of) = of
type_assigned (AssignsValue of number text) = of

-- the module at the place m, which is of this document, assigns the type, or a value of it
pub record Assigns (ms : List ModuleTerm) (document m : ℕ) (of : TypeTerm) : Type 0 where
  pub in_module : ModuleTerm
  pub is_in : IsIn ms document m in_module
  pub assignment : AssignmentTerm
  pub stands : Contains in_module.assignments assignment
  pub is_of : type_assigned assignment.assigned ≡ of

-- the type stands in one that the module at the place m, which is of this document, assigns
pub record Stands (ms : List ModuleTerm) (document m : ℕ) (inner : TypeTerm) : Type 0 where
  pub of : TypeTerm
  pub assigned : Assigns ms document m of
  pub within : Within inner of

-- the module at the place m, which is of this document, imports by this text
pub record ImportsBy (ms : List ModuleTerm) (document m : ℕ) (text : ImportTerm) : Type 0 where
  pub in_module : ModuleTerm
  pub is_in : IsIn ms document m in_module
  pub stands : Contains in_module.imports text

-- a number stands as a named number, an item or a named bit of a type
pub data IsNumberOf (number : NumberTerm) : TypeTerm → Type 0 where
  named_number : {word : Token} {numbers : List NamedNumberTerm} {limits : List LimitTerm} {x : NamedNumberTerm} →
      Contains numbers x → x.number ≡ number → IsNumberOf number (Plain word (IntegerTerm numbers) limits)
  item : {word : Token} {items : List NamedNumberTerm} {limits : List LimitTerm} {x : NamedNumberTerm} →
      Contains items x → x.number ≡ number → IsNumberOf number (Plain word (EnumeratedTerm items) limits)
  named_bit : {word : Token} {bits : List NamedNumberTerm} {limits : List LimitTerm} {x : NamedNumberTerm} →
      Contains bits x → x.number ≡ number → IsNumberOf number (Plain word (BitStringTerm bits) limits)

-- a constraint stands behind a type, or before OF
pub data IsLimitOf (limit : LimitTerm) : TypeTerm → Type 0 where
  structure : {word : Token} {members : MemberTerms} {limits : List LimitTerm} → Contains limits limit →
      IsLimitOf limit (Structure word members limits)
  list_size : {word : Token} {ranges : List RangeTerm} {of : TypeTerm} → limit ≡ SizeLimit ranges →
      IsLimitOf limit (Repeated word (Some ranges) of)
  alternatives : {word : Token} {members : MemberTerms} {limits : List LimitTerm} → Contains limits limit →
      IsLimitOf limit (Alternatives word members limits)
  plain : {word : Token} {of : PlainTerm} {limits : List LimitTerm} → Contains limits limit →
      IsLimitOf limit (Plain word of limits)
  reference : {module_name : Option Token} {name : Token} {limits : List LimitTerm} → Contains limits limit →
      IsLimitOf limit (Reference module_name name limits)

-- a bound stands in a constraint of a type
pub record IsBoundOf (bound : NumberTerm) (of : TypeTerm) : Type 0 where
  pub limit : LimitTerm
  pub is_limit : IsLimitOf limit of
  pub range : RangeTerm
  pub stands : Contains (limit_ranges limit) range
  pub is : (range.lower ≡ bound) ⊎ (range.upper ≡ Some bound)

-- the token of a number: its digits, or the name that stands in their place
abbrev pub number_token : NumberTerm → Token
number_token (Digits minus token) = token
number_token (Called name) = name

-- the first word of a type: of a tag its class, or the name that stands in the place of its number; else IMPLICIT or
-- EXPLICIT, or the first word of the type beneath
abbrev pub word_or : NumberTerm → Token → Token
word_or (Digits minus token) behind = behind
word_or (Called name) behind = name

abbrev pub present_or : Option Token → Token → Token
present_or None behind = behind
present_or (Some word) behind = word

abbrev pub first_word : TypeTerm → Token
first_word (Under tag mode of) = present_or tag.class (word_or tag.number (present_or mode (first_word of)))
first_word (Structure word _ _) = word
first_word (Repeated word _ _) = word
first_word (Alternatives word _ _) = word
first_word (Plain word _ _) = word
first_word (Reference module_name name limits) = present_or module_name name

-- the token of a constraint's first bound; of one without bounds, which no text has, the type's first word
abbrev pub bound_or_word : List RangeTerm → Token → Token
bound_or_word [] word = word
bound_or_word (range ∷ _) word = number_token range.lower
