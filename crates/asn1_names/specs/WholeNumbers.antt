-- WholeNumbers: which number stands as a tag, a named number, a named bit or a bound: digits, or the name of a value
-- that is one (X.680, sections 19.1, 20.1, 22.1, 31.2 and 51; docs/PROFILE.md, section 11).
use Rattle.std.specs.Prelude.{◌≡◌, ◌<◌, ◌≤ℤ◌, ◌<ℤ◌, ℕ, ℤ, pos, neg_ℤ, List, Bool, true, false, Option, None, Some}
use Rattle.std.specs.Prelude.{unwrap_or}
use Rattle.std.specs.Str.Parse.{IsNumeral, digits_value}
use Rattle.token_grammar.specs.declared.token.Token.{Token}
use Rattle.token_grammar.specs.Form.{Tree}
use Rattle.token_grammar.specs.TokenTests.{is_word_of}
use Rattle.std.specs.Prelude.{codes, if◌then◌else◌}
use Rattle.term_values.specs.declared.tag.Tag.{Tag}
use Rattle.asn1_names.specs.ModuleTerms.{NumberTerm, RangeTerm, TagTerm, TypeTerm, ModuleTerm}
use Rattle.asn1_names.specs.ModuleTerms.NumberTerm.{Digits, Called}
use Rattle.asn1_names.specs.NameMeaning.{name_meaning}
use Rattle.asn1_names.specs.NameMeaning.Meaning.{ValueAt}
use Rattle.asn1_names.specs.TypeBase.{HasNamedNumber}

-- a whole number of 64 bits, from -2^63 to 2^63 - 1
pub record FitsSixtyFour (n : ℤ) : Type 0 where
  pub at_least : neg_ℤ (pos 9223372036854775808) ≤ℤ n
  pub below : n <ℤ pos 9223372036854775808

-- the number that digits spell, with a minus before them or without
abbrev pub signed_number : Bool → Token → ℤ
signed_number true token = neg_ℤ (pos (digits_value 10 token.text))
signed_number false token = pos (digits_value 10 token.text)

-- the number that stands in the module at the place m. A name is that of a value whose text is a number, or the name
-- of a named number of the value's type. Nothing that leads back to itself is a number.
pub data IsNumber (ms : List ModuleTerm) : ℕ → NumberTerm → ℤ → Type 0 where
  digits : {m : ℕ} {minus : Bool} {token : Token} {n : ℤ} → IsNumeral 10 token.text →
      n ≡ signed_number minus token → FitsSixtyFour n →
      IsNumber ms m (Digits minus token) n
  value : {m v i : ℕ} {name digits : Token} {of : TypeTerm} {minus : Bool} {text : Tree} {n : ℤ} →
      name_meaning ms m name.text ≡ ValueAt v i of (Some (Digits minus digits)) text →
      IsNumber ms v (Digits minus digits) n → IsNumber ms m (Called name) n
  named_value : {m v i w : ℕ} {name called : Token} {of : TypeTerm} {text : Tree} {number : NumberTerm} {n : ℤ} →
      name_meaning ms m name.text ≡ ValueAt v i of (Some (Called called)) text →
      HasNamedNumber ms v of called w number → IsNumber ms w number n → IsNumber ms m (Called name) n

-- a type has a named number of this name
pub record NamesNumber (ms : List ModuleTerm) (m : ℕ) (of : TypeTerm) (name : Token) : Type 0 where
  pub written_in : ℕ
  pub number : NumberTerm
  pub has : HasNamedNumber ms m of name written_in number

-- the number of a bound of a type: of a name first that of the type's named number, else that of the value
pub data IsBound (ms : List ModuleTerm) (m : ℕ) (of : TypeTerm) : NumberTerm → ℤ → Type 0 where
  digits : {minus : Bool} {token : Token} {n : ℤ} → IsNumber ms m (Digits minus token) n →
      IsBound ms m of (Digits minus token) n
  named_number : {w : ℕ} {name : Token} {number : NumberTerm} {n : ℤ} → HasNamedNumber ms m of name w number →
      IsNumber ms w number n → IsBound ms m of (Called name) n
  value : {name : Token} {n : ℤ} → ¬ NamesNumber ms m of name → IsNumber ms m (Called name) n →
      IsBound ms m of (Called name) n

-- the least and the greatest number of a range; of one value both are it
pub record IsRange (ms : List ModuleTerm) (m : ℕ) (of : TypeTerm) (range : RangeTerm) (pair : ℤ × ℤ) : Type 0 where
  pub least : IsBound ms m of range.lower pair.0
  pub greatest : IsBound ms m of (unwrap_or range.upper range.lower) pair.1

-- X.680, section 31.2: the class of a tag; a tag that states none is one of the context
abbrev pub class_number : Option Token → ℕ
class_number None = 2
class_number (Some class) =
    if is_word_of (codes "UNIVERSAL") class then 0
    else if is_word_of (codes "APPLICATION") class then 1
    else 3

-- the tag that a text says: its number is from 0 to 2^32 - 1
pub record IsTag (ms : List ModuleTerm) (m : ℕ) (text : TagTerm) (tag : Tag) : Type 0 where
  pub class : tag.class ≡ class_number text.class
  pub number : IsNumber ms m text.number (pos tag.number)
  pub below : tag.number < 4294967296
