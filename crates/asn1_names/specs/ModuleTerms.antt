-- ModuleTerms: modules as the definitions see them: what their texts say, without the memory of their lists (X.680,
-- sections 13 to 17; where X.680 has no such form, X.208; docs/PROFILE.md, section 8).
use Rattle.std.specs.Prelude.{ℕ, List, Bool, Option}
use Rattle.token_grammar.specs.declared.token.Token.{Token}
use Rattle.token_grammar.specs.Form.{Tree}

-- what stands for a whole number: digits, true where a minus stands before them, or a name
pub data NumberTerm : Type 0 where
  Digits : Bool → Token → NumberTerm
  Called : Token → NumberTerm

-- a named number, an item of ENUMERATED, or a named bit
pub record NamedNumberTerm : Type 0 where
  pub name : Token
  pub number : NumberTerm

-- `lower..upper`, or one value
pub record RangeTerm : Type 0 where
  pub lower : NumberTerm
  pub upper : Option NumberTerm

-- a constraint: of the size, or of the value
pub data LimitTerm : Type 0 where
  SizeLimit : List RangeTerm → LimitTerm
  ValueLimit : List RangeTerm → LimitTerm

-- `[class number]`
pub record TagTerm : Type 0 where
  pub class : Option Token
  pub number : NumberTerm

-- what says that a component may be missing; of a DEFAULT what its value says
pub data PresenceTerm : Type 0 where
  Needed : PresenceTerm
  OptionalTerm : PresenceTerm
  DefaultTerm : Tree → PresenceTerm

-- the types that hold no other: one that is told by its word, and those that have more than a word
pub data PlainTerm : Type 0 where
  OneWord : PlainTerm
  IntegerTerm : List NamedNumberTerm → PlainTerm
  EnumeratedTerm : List NamedNumberTerm → PlainTerm
  BitStringTerm : List NamedNumberTerm → PlainTerm
  OctetStringTerm : PlainTerm
  IdentifierTerm : PlainTerm
  AnyTerm : PlainTerm

mutual
  pub data TypeTerm : Type 0 where
    -- `[tag] IMPLICIT T`; the word IMPLICIT or EXPLICIT, where one stands
    Under : TagTerm → Option Token → TypeTerm → TypeTerm
    -- SEQUENCE or SET of components, by its word
    Structure : Token → MemberTerms → List LimitTerm → TypeTerm
    -- SEQUENCE OF or SET OF, by its word, with the sizes where they stand
    Repeated : Token → Option (List RangeTerm) → TypeTerm → TypeTerm
    -- CHOICE
    Alternatives : Token → MemberTerms → List LimitTerm → TypeTerm
    -- a type that holds no other, by its first word
    Plain : Token → PlainTerm → List LimitTerm → TypeTerm
    -- `Module.Type`, or `Type`
    Reference : Option Token → Token → List LimitTerm → TypeTerm

  -- components, or alternatives, which are all needed: the name, the type, and what says that it may be missing
  pub data MemberTerms : Type 0 where
    NoMembers : MemberTerms
    Member : Token → TypeTerm → PresenceTerm → MemberTerms → MemberTerms

-- what a name is assigned: a type; or a type and a value, of which is told the number where it is one, or the name
-- where it is one alone, and what it says
pub data AssignedTerm : Type 0 where
  AssignsType : TypeTerm → AssignedTerm
  AssignsValue : TypeTerm → Option NumberTerm → Tree → AssignedTerm

pub record AssignmentTerm : Type 0 where
  pub name : Token
  pub assigned : AssignedTerm

-- `name, .. FROM module_name`
pub record ImportTerm : Type 0 where
  pub symbols : List Token
  pub module_name : Token

-- a module: the number of its document, its name, whether its tags are implicit where nothing stands at them, what it
-- imports and assigns, in order
pub record ModuleTerm : Type 0 where
  pub document : ℕ
  pub name : Token
  pub is_implicit : Bool
  pub imports : List ImportTerm
  pub assignments : List AssignmentTerm
