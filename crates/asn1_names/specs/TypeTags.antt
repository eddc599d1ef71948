-- TypeTags: which tags a value of a type may begin with (X.680, sections 8.4, 29.3 and 31; X.690, section 8.1.2). The
-- name of nothing begins with none, nor does the name of a type that contains itself, and an ANY begins with each. A
-- tag that is written counts, whatever stands beneath it.
use Rattle.std.specs.Prelude.{◌≡◌, ℕ, List, true, Option, None, Some, codes, if◌then◌else◌}
use Rattle.token_grammar.specs.declared.token.Token.{Token}
use Rattle.token_grammar.specs.TokenTests.{is_word_of}
use Rattle.term_values.specs.Beginnings.{begins}
use Rattle.term_values.specs.Syntaxes.{TypeSyntax}
use Rattle.term_values.specs.UniversalTags.{integer, bit_string, octet_string, object_identifier, enumerated, sequence}
use Rattle.term_values.specs.UniversalTags.{set}
use Rattle.term_values.specs.declared.tag.Tag.{Tag}
use Rattle.asn1_names.specs.ModuleTerms.{RangeTerm, LimitTerm, TagTerm, PresenceTerm, PlainTerm}
use Rattle.asn1_names.specs.ModuleTerms.{TypeTerm, MemberTerms, ModuleTerm}
use Rattle.asn1_names.specs.ModuleTerms.PlainTerm.{OneWord, IntegerTerm, EnumeratedTerm, BitStringTerm}
use Rattle.asn1_names.specs.ModuleTerms.PlainTerm.{OctetStringTerm, IdentifierTerm, AnyTerm}
use Rattle.asn1_names.specs.ModuleTerms.TypeTerm.{Under, Structure, Repeated, Alternatives, Plain, Reference}
use Rattle.asn1_names.specs.Containment.{IsMember, IsCyclic}
use Rattle.asn1_names.specs.NameMeaning.{reference_meaning}
use Rattle.asn1_names.specs.NameMeaning.Meaning.{TypeAt, StandardType}
use Rattle.asn1_names.specs.TypeWords.{one_word_type}
use Rattle.asn1_names.specs.WholeNumbers.{IsTag}

-- SET, or else SEQUENCE
abbrev pub structure_tag : Token → Tag
structure_tag word = if is_word_of (codes "SET") word then set else sequence

-- a value of the type begins with the tag
abbrev pub WordBegins : Option TypeSyntax → Tag → Type 0
WordBegins None tag = ⊥
WordBegins (Some syntax) tag = begins syntax tag ≡ true

-- a value of a type that holds no other begins with the tag
abbrev pub PlainBegins : Token → PlainTerm → Tag → Type 0
PlainBegins word OneWord tag = WordBegins (one_word_type word.text) tag
PlainBegins word (IntegerTerm numbers) tag = tag ≡ integer
PlainBegins word (EnumeratedTerm items) tag = tag ≡ enumerated
PlainBegins word (BitStringTerm bits) tag = tag ≡ bit_string
PlainBegins word OctetStringTerm tag = tag ≡ octet_string
PlainBegins word IdentifierTerm tag = tag ≡ object_identifier
PlainBegins word AnyTerm tag = Unit {0}

-- a value of the type of the module at the place m begins with the tag
pub data Begins (ms : List ModuleTerm) : ℕ → TypeTerm → Tag → Type 0 where
  tagged : {m : ℕ} {own : TagTerm} {mode : Option Token} {of : TypeTerm} {tag : Tag} →
      IsTag ms m own tag → Begins ms m (Under own mode of) tag
  structure : {m : ℕ} {word : Token} {members : MemberTerms} {limits : List LimitTerm} {tag : Tag} →
      tag ≡ structure_tag word → Begins ms m (Structure word members limits) tag
  repeated : {m : ℕ} {word : Token} {size : Option (List RangeTerm)} {of : TypeTerm} {tag : Tag} →
      tag ≡ structure_tag word → Begins ms m (Repeated word size of) tag
  alternative : {m k : ℕ} {word : Token} {members : MemberTerms} {limits : List LimitTerm} {of : TypeTerm}
      {presence : PresenceTerm} {tag : Tag} → IsMember members k of presence → Begins ms m of tag →
      Begins ms m (Alternatives word members limits) tag
  plain : {m : ℕ} {word : Token} {of : PlainTerm} {limits : List LimitTerm} {tag : Tag} →
      PlainBegins word of tag → Begins ms m (Plain word of limits) tag
  named : {m v i : ℕ} {module_name : Option Token} {name : Token} {limits : List LimitTerm} {of : TypeTerm}
      {tag : Tag} →
      reference_meaning ms m module_name name ≡ TypeAt v i of → ¬ IsCyclic ms v i → Begins ms v of tag →
      Begins ms m (Reference module_name name limits) tag
  standard : {m : ℕ} {module_name : Option Token} {name : Token} {limits : List LimitTerm} {syntax : TypeSyntax}
      {tag : Tag} → reference_meaning ms m module_name name ≡ StandardType syntax → begins syntax tag ≡ true →
      Begins ms m (Reference module_name name limits) tag

-- two types share a tag. An ANY shares one with each type that begins with some tag.
pub record ShareTag (ms : List ModuleTerm) (m : ℕ) (of other : TypeTerm) : Type 0 where
  pub tag : Tag
  pub begins_one : Begins ms m of tag
  pub begins_other : Begins ms m other tag
