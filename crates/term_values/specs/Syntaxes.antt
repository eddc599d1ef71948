-- Syntaxes, as contracts see `Syntax` and `Parts`: the types of X.680.
use Rattle.std.specs.Prelude.{ℕ, ℤ, List, Bool, Option}
use Rattle.term_values.specs.Typed.{TypedValue}
use Rattle.term_values.specs.declared.charset.Charset.{Charset}
use Rattle.term_values.specs.declared.tag.Tag.{Tag}

-- names of numbers, or of bits
abbrev pub Named : Type 0
Named = List (List ℕ × ℤ)

-- pairs of the least and the greatest number, or size, that are allowed. No pairs: no bound is stated.
abbrev pub Bounds : Type 0
Bounds = List (ℤ × ℤ)

mutual
  pub data TypeSyntax : Type 0 where
    Boolean : TypeSyntax
    Integer : Named → Bounds → TypeSyntax
    Enumerated : Named → TypeSyntax
    BitString : Named → Bounds → TypeSyntax
    OctetString : Bounds → TypeSyntax
    NullType : TypeSyntax
    ObjectIdentifier : TypeSyntax
    TextString : Charset → Bounds → TypeSyntax
    GeneralizedTime : TypeSyntax
    Sequence : TypeParts → TypeSyntax
    SetType : TypeParts → TypeSyntax
    SequenceOf : TypeSyntax → Bounds → TypeSyntax
    SetOf : TypeSyntax → Bounds → TypeSyntax
    Choice : TypeParts → TypeSyntax
    -- a tag, whether it is explicit, and what is tagged
    Tagged : Tag → Bool → TypeSyntax → TypeSyntax
    Any : TypeSyntax
    -- CMISFilter of X.711
    Filter : TypeSyntax

  -- components or alternatives: name, syntax, whether it may be left out, and what it is then
  pub data TypeParts : Type 0 where
    NoParts : TypeParts
    Part : List ℕ → TypeSyntax → Bool → Option TypedValue → TypeParts → TypeParts
