-- TypeKeys: what types are told apart by: their syntaxes, in which each component says whether DEFAULT stands at it
-- (X.680, sections 17 to 51; docs/PROFILE.md, section 12). Which value a DEFAULT has isn't asked, nor how a type is
-- called.
use Rattle.std.specs.Prelude.{ℕ, zero, suc, List, [], ◌∷◌, Bool, false, None}
use Rattle.term_values.specs.Syntaxes.{Named, Bounds, TypeSyntax, TypeParts}
use Rattle.term_values.specs.Syntaxes.TypeSyntax.{Boolean, Integer, Enumerated, BitString, OctetString, NullType}
use Rattle.term_values.specs.Syntaxes.TypeSyntax.{ObjectIdentifier, TextString, GeneralizedTime, Sequence, SetType}
use Rattle.term_values.specs.Syntaxes.TypeSyntax.{SequenceOf, SetOf, Choice, Tagged, Any, Filter}
use Rattle.term_values.specs.Syntaxes.TypeParts.{NoParts, Part}
use Rattle.term_values.specs.declared.charset.Charset.{Charset}
use Rattle.term_values.specs.declared.tag.Tag.{Tag}

mutual
  pub data TypeKey : Type 0 where
    BooleanKey : TypeKey
    IntegerKey : Named → Bounds → TypeKey
    EnumeratedKey : Named → TypeKey
    BitStringKey : Named → Bounds → TypeKey
    OctetStringKey : Bounds → TypeKey
    NullKey : TypeKey
    IdentifierKey : TypeKey
    TextKey : Charset → Bounds → TypeKey
    TimeKey : TypeKey
    SequenceKey : PartKeys → TypeKey
    SetKey : PartKeys → TypeKey
    SequenceOfKey : TypeKey → Bounds → TypeKey
    SetOfKey : TypeKey → Bounds → TypeKey
    ChoiceKey : PartKeys → TypeKey
    TaggedKey : Tag → Bool → TypeKey → TypeKey
    AnyKey : TypeKey
    FilterKey : TypeKey

  -- components or alternatives: name, type, whether it may be left out, and whether DEFAULT stands at it
  pub data PartKeys : Type 0 where
    NoKeys : PartKeys
    PartKey : List ℕ → TypeKey → Bool → Bool → PartKeys → PartKeys

-- the syntax alone
abbrev mutual
  pub key_syntax : TypeKey → TypeSyntax
  key_syntax BooleanKey = Boolean
  key_syntax (IntegerKey names bounds) = Integer names bounds
  key_syntax (EnumeratedKey names) = Enumerated names
  key_syntax (BitStringKey names bounds) = BitString names bounds
  key_syntax (OctetStringKey bounds) = OctetString bounds
  key_syntax NullKey = NullType
  key_syntax IdentifierKey = ObjectIdentifier
  key_syntax (TextKey charset bounds) = TextString charset bounds
  key_syntax TimeKey = GeneralizedTime
  key_syntax (SequenceKey keys) = Sequence (key_parts keys)
  key_syntax (SetKey keys) = SetType (key_parts keys)
  key_syntax (SequenceOfKey of bounds) = SequenceOf (key_syntax of) bounds
  key_syntax (SetOfKey of bounds) = SetOf (key_syntax of) bounds
  key_syntax (ChoiceKey keys) = Choice (key_parts keys)
  key_syntax (TaggedKey tag explicit of) = Tagged tag explicit (key_syntax of)
  key_syntax AnyKey = Any
  key_syntax FilterKey = Filter

  pub key_parts : PartKeys → TypeParts
  key_parts NoKeys = NoParts
  key_parts (PartKey name of optional default rest) = Part name (key_syntax of) optional None (key_parts rest)

-- Whether DEFAULT stands at the component that a path tells: of a SEQUENCE, a SET or a CHOICE by the place of a part,
-- counted from 0; tags, and lists, take no number.
abbrev mutual
  pub has_mark : TypeKey → List ℕ → Bool
  has_mark (TaggedKey tag explicit of) path = has_mark of path
  has_mark (SequenceOfKey of bounds) path = has_mark of path
  has_mark (SetOfKey of bounds) path = has_mark of path
  has_mark (SequenceKey keys) (k ∷ path) = has_mark_at keys k path
  has_mark (SetKey keys) (k ∷ path) = has_mark_at keys k path
  has_mark (ChoiceKey keys) (k ∷ path) = has_mark_at keys k path
  has_mark key path = false

  pub has_mark_at : PartKeys → ℕ → List ℕ → Bool
  has_mark_at NoKeys k path = false
  has_mark_at (PartKey name of optional default rest) (suc k) path = has_mark_at rest k path
  has_mark_at (PartKey name of optional default rest) zero [] = default
  has_mark_at (PartKey name of optional default rest) zero (j ∷ path) = has_mark of (j ∷ path)
