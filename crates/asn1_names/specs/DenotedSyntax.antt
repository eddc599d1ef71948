-- DenotedSyntax: which syntax a type denotes: names are replaced by their types, tags are implicit where the text or
-- the module says so and the type beneath has a tag of its own, and constraints add up (X.680, sections 17 to 51, and
-- 31.2 on tags; docs/PROFILE.md, section 11). The value of a DEFAULT is none of the syntax: its text stands beside.
use Rattle.std.specs.Prelude.{◌≡◌, ◌||◌, ℕ, ℤ, List, [], ◌∷◌, Bool, true, false, not, Option, None, Some, slice_get}
use Rattle.std.specs.Prelude.{codes}
use Rattle.token_grammar.specs.declared.token.Token.{Token}
use Rattle.token_grammar.specs.TokenTests.{is_word_of}
use Rattle.term_values.specs.Soundness.{has_own_tag}
use Rattle.term_values.specs.Syntaxes.{Named, TypeSyntax, TypeParts}
use Rattle.term_values.specs.Syntaxes.TypeSyntax.{Integer, Enumerated, BitString, OctetString, ObjectIdentifier}
use Rattle.term_values.specs.Syntaxes.TypeSyntax.{Sequence, SetType, SequenceOf, SetOf, Choice, Tagged, Any}
use Rattle.term_values.specs.Syntaxes.TypeParts.{NoParts, Part}
use Rattle.term_values.specs.declared.tag.Tag.{Tag}
use Rattle.asn1_names.specs.ModuleTerms.{NamedNumberTerm, RangeTerm, LimitTerm, TagTerm, PresenceTerm, PlainTerm}
use Rattle.asn1_names.specs.ModuleTerms.{TypeTerm, MemberTerms, ModuleTerm}
use Rattle.asn1_names.specs.ModuleTerms.LimitTerm.{SizeLimit}
use Rattle.asn1_names.specs.ModuleTerms.PlainTerm.{OneWord, IntegerTerm, EnumeratedTerm, BitStringTerm}
use Rattle.asn1_names.specs.ModuleTerms.PlainTerm.{OctetStringTerm, IdentifierTerm, AnyTerm}
use Rattle.asn1_names.specs.ModuleTerms.TypeTerm.{Under, Structure, Repeated, Alternatives, Plain, Reference}
use Rattle.asn1_names.specs.ModuleTerms.MemberTerms.{NoMembers, Member}
use Rattle.asn1_names.specs.Constraining.{Constrains}
use Rattle.asn1_names.specs.NameMeaning.{reference_meaning}
use Rattle.asn1_names.specs.NameMeaning.Meaning.{TypeAt, StandardType}
use Rattle.asn1_names.specs.TagClashes.{may_be_absent}
use Rattle.asn1_names.specs.TypeWords.{one_word_type}
use Rattle.asn1_names.specs.WholeNumbers.{IsNumber, IsTag}

-- IMPLICIT TAGS stands in the head of the module at the place m
unfoldable pub has_implicit_default : List ModuleTerm → ℕ → Bool
has_implicit_default ms m = elim (slice_get ms m) as (λ _. Bool) [ None ↦ false | Some x ↦ x.is_implicit ]

-- X.680, section 31.2.7: a tag is explicit where EXPLICIT stands at it, where nothing does and the module's tags are
-- explicit, and where the type beneath is a CHOICE or an ANY that has no tag
abbrev pub says_explicit : Bool → Option Token → Bool
says_explicit is_implicit None = not is_implicit
says_explicit is_implicit (Some mode) = is_word_of (codes "EXPLICIT") mode

abbrev pub is_explicit : Bool → Option Token → TypeSyntax → Bool
is_explicit is_implicit mode of = says_explicit is_implicit mode || not (has_own_tag of)

-- the names and numbers of named numbers, or bits
pub data AreNamed (ms : List ModuleTerm) (m : ℕ) : List NamedNumberTerm → Named → Type 0 where
  no_more : AreNamed ms m [] []
  another : {x : NamedNumberTerm} {xs : List NamedNumberTerm} {n : ℤ} {names : Named} → IsNumber ms m x.number n →
      AreNamed ms m xs names → AreNamed ms m (x ∷ xs) ((x.name.text, n) ∷ names)

-- the syntax of a type that holds no other, without its constraints
pub data PlainDenotes (ms : List ModuleTerm) (m : ℕ) (word : Token) : PlainTerm → TypeSyntax → Type 0 where
  one_word : {syntax : TypeSyntax} → one_word_type word.text ≡ Some syntax → PlainDenotes ms m word OneWord syntax
  integer : {numbers : List NamedNumberTerm} {names : Named} → AreNamed ms m numbers names →
      PlainDenotes ms m word (IntegerTerm numbers) (Integer names [])
  enumerated : {items : List NamedNumberTerm} {names : Named} → AreNamed ms m items names →
      PlainDenotes ms m word (EnumeratedTerm items) (Enumerated names)
  bit_string : {bits : List NamedNumberTerm} {names : Named} → AreNamed ms m bits names →
      PlainDenotes ms m word (BitStringTerm bits) (BitString names [])
  octet_string : PlainDenotes ms m word OctetStringTerm (OctetString [])
  object_identifier : PlainDenotes ms m word IdentifierTerm ObjectIdentifier
  any : PlainDenotes ms m word AnyTerm Any

abbrev pub size_limits : Option (List RangeTerm) → List LimitTerm
size_limits None = []
size_limits (Some ranges) = SizeLimit ranges ∷ []

mutual
  -- a type that is written in the module at the place m denotes a syntax
  pub data Denotes (ms : List ModuleTerm) : ℕ → TypeTerm → TypeSyntax → Type 0 where
    tagged : {m : ℕ} {text : TagTerm} {mode : Option Token} {of : TypeTerm} {tag : Tag} {syntax : TypeSyntax} →
        IsTag ms m text tag → Denotes ms m of syntax →
        Denotes ms m (Under text mode of) (Tagged tag (is_explicit (has_implicit_default ms m) mode syntax) syntax)
    sequence : {m : ℕ} {word : Token} {members : MemberTerms} {parts : TypeParts} →
        is_word_of (codes "SET") word ≡ false → MembersDenote ms m members parts →
        Denotes ms m (Structure word members []) (Sequence parts)
    set : {m : ℕ} {word : Token} {members : MemberTerms} {parts : TypeParts} →
        is_word_of (codes "SET") word ≡ true → MembersDenote ms m members parts →
        Denotes ms m (Structure word members []) (SetType parts)
    choice : {m : ℕ} {word : Token} {members : MemberTerms} {parts : TypeParts} → MembersDenote ms m members parts →
        Denotes ms m (Alternatives word members []) (Choice parts)
    sequence_of : {m : ℕ} {word : Token} {size : Option
        (List RangeTerm)} {of : TypeTerm} {member syntax : TypeSyntax} →
        is_word_of (codes "SET") word ≡ false → Denotes ms m of member →
        Constrains ms m (Repeated word size of) (size_limits size) (SequenceOf member []) syntax →
        Denotes ms m (Repeated word size of) syntax
    set_of : {m : ℕ} {word : Token} {size : Option (List RangeTerm)} {of : TypeTerm} {member syntax : TypeSyntax} →
        is_word_of (codes "SET") word ≡ true → Denotes ms m of member →
        Constrains ms m (Repeated word size of) (size_limits size) (SetOf member []) syntax →
        Denotes ms m (Repeated word size of) syntax
    plain : {m : ℕ} {word : Token} {of : PlainTerm} {limits : List LimitTerm} {unlimited syntax : TypeSyntax} →
        PlainDenotes ms m word of unlimited → Constrains ms m (Plain word of limits) limits unlimited syntax →
        Denotes ms m (Plain word of limits) syntax
    named : {m v i : ℕ} {module_name : Option Token} {name : Token} {limits : List LimitTerm} {of : TypeTerm}
        {unlimited syntax : TypeSyntax} → reference_meaning ms m module_name name ≡ TypeAt v i of →
        Denotes ms v of unlimited → Constrains ms m (Reference module_name name limits) limits unlimited syntax →
        Denotes ms m (Reference module_name name limits) syntax
    standard : {m : ℕ} {module_name : Option Token} {name : Token} {limits : List LimitTerm}
        {unlimited syntax : TypeSyntax} → reference_meaning ms m module_name name ≡ StandardType unlimited →
        Constrains ms m (Reference module_name name limits) limits unlimited syntax →
        Denotes ms m (Reference module_name name limits) syntax

  -- the components, or alternatives; one with OPTIONAL or DEFAULT may be left out
  pub data MembersDenote (ms : List ModuleTerm) : ℕ → MemberTerms → TypeParts → Type 0 where
    no_members : {m : ℕ} → MembersDenote ms m NoMembers NoParts
    member : {m : ℕ} {name : Token} {of : TypeTerm} {presence : PresenceTerm} {rest : MemberTerms}
        {syntax : TypeSyntax} {parts : TypeParts} → Denotes ms m of syntax → MembersDenote ms m rest parts →
        MembersDenote ms m (Member name of presence rest) (Part name.text syntax (may_be_absent presence) None parts)
