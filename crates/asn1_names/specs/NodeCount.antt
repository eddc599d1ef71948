-- NodeCount: of how many syntaxes the syntax of a type is made: itself, and those of its components, elements,
-- alternatives and of what is tagged, with names replaced by their types (docs/PROFILE.md, section 11). A name of
-- nothing counts for none, nor does the name of a type that contains itself; a tag
-- that is written counts, whatever stands beneath it.
use Rattle.std.specs.Prelude.{◌≡◌, ◌+◌, ℕ, List, Option}
use Rattle.token_grammar.specs.declared.token.Token.{Token}
use Rattle.term_values.specs.Syntaxes.{TypeSyntax, TypeParts}
use Rattle.term_values.specs.Syntaxes.TypeSyntax.{Sequence, SetType, SequenceOf, SetOf, Choice, Tagged}
use Rattle.term_values.specs.Syntaxes.TypeParts.{NoParts, Part}
use Rattle.asn1_names.specs.ModuleTerms.{RangeTerm, LimitTerm, TagTerm, PresenceTerm, PlainTerm, TypeTerm}
use Rattle.asn1_names.specs.ModuleTerms.{MemberTerms, ModuleTerm}
use Rattle.asn1_names.specs.ModuleTerms.TypeTerm.{Under, Structure, Repeated, Alternatives, Plain, Reference}
use Rattle.asn1_names.specs.ModuleTerms.MemberTerms.{NoMembers, Member}
use Rattle.asn1_names.specs.Containment.{IsCyclic}
use Rattle.asn1_names.specs.NameMeaning.{Meaning, reference_meaning}
use Rattle.asn1_names.specs.NameMeaning.Meaning.{TypeAt, ValueAt, StandardType, Nothing}

abbrev mutual
  -- the nodes of a syntax
  pub syntax_count : TypeSyntax → ℕ
  syntax_count (Sequence parts) = 1 + parts_count parts
  syntax_count (SetType parts) = 1 + parts_count parts
  syntax_count (SequenceOf member sizes) = 1 + syntax_count member
  syntax_count (SetOf member sizes) = 1 + syntax_count member
  syntax_count (Choice parts) = 1 + parts_count parts
  syntax_count (Tagged tag explicit of) = 1 + syntax_count of
  syntax_count _ = 1

  pub parts_count : TypeParts → ℕ
  parts_count NoParts = 0
  parts_count (Part name syntax optional default rest) = syntax_count syntax + parts_count rest

-- a name means no type
abbrev pub IsNoType : Meaning → Type 0
IsNoType (TypeAt m i of) = ⊥
IsNoType (ValueAt m i of number text) = Unit {0}
IsNoType (StandardType syntax) = ⊥
IsNoType Nothing = Unit {0}

mutual
  -- the nodes of a type of the module at the place m
  pub data HasNodes (ms : List ModuleTerm) : ℕ → TypeTerm → ℕ → Type 0 where
    tagged : {m n : ℕ} {tag : TagTerm} {mode : Option Token} {of : TypeTerm} →
        HasNodes ms m of n → HasNodes ms m (Under tag mode of) (1 + n)
    structure : {m n : ℕ} {word : Token} {members : MemberTerms} {limits : List LimitTerm} →
        HaveNodes ms m members n → HasNodes ms m (Structure word members limits) (1 + n)
    repeated : {m n : ℕ} {word : Token} {size : Option (List RangeTerm)} {of : TypeTerm} →
        HasNodes ms m of n → HasNodes ms m (Repeated word size of) (1 + n)
    alternatives : {m n : ℕ} {word : Token} {members : MemberTerms} {limits : List LimitTerm} →
        HaveNodes ms m members n → HasNodes ms m (Alternatives word members limits) (1 + n)
    plain : {m : ℕ} {word : Token} {of : PlainTerm} {limits : List LimitTerm} → HasNodes ms m (Plain word of limits) 1
    named : {m n v i : ℕ} {module_name : Option Token} {name : Token} {limits : List LimitTerm} {of : TypeTerm} →
        reference_meaning ms m module_name name ≡ TypeAt v i of → ¬ IsCyclic ms v i → HasNodes ms v of n →
        HasNodes ms m (Reference module_name name limits) n
    cyclic : {m v i : ℕ} {module_name : Option Token} {name : Token} {limits : List LimitTerm} {of : TypeTerm} →
        reference_meaning ms m module_name name ≡ TypeAt v i of → IsCyclic ms v i →
        HasNodes ms m (Reference module_name name limits) 0
    standard : {m n : ℕ} {module_name : Option Token} {name : Token} {limits : List LimitTerm} {syntax : TypeSyntax} →
        reference_meaning ms m module_name name ≡ StandardType syntax → n ≡ syntax_count syntax →
        HasNodes ms m (Reference module_name name limits) n
    unknown : {m : ℕ} {module_name : Option Token} {name : Token} {limits : List LimitTerm} →
        IsNoType (reference_meaning ms m module_name name) → HasNodes ms m (Reference module_name name limits) 0

  -- the nodes of components or alternatives together
  pub data HaveNodes (ms : List ModuleTerm) : ℕ → MemberTerms → ℕ → Type 0 where
    no_members : {m : ℕ} → HaveNodes ms m NoMembers 0
    member : {m n k : ℕ} {name : Token} {of : TypeTerm} {presence : PresenceTerm} {rest : MemberTerms} →
        HasNodes ms m of n → HaveNodes ms m rest k → HaveNodes ms m (Member name of presence rest) (n + k)
