-- MarkedKeys: the key of a syntax whose components are marked by a test of their paths (docs/PROFILE.md, section 12).
use Rattle.std.specs.Prelude.{ℕ, suc, List, [], ◌∷◌, Bool}
use Rattle.term_values.specs.Syntaxes.{TypeSyntax, TypeParts}
use Rattle.term_values.specs.Syntaxes.TypeSyntax.{Boolean, Integer, Enumerated, BitString, OctetString, NullType}
use Rattle.term_values.specs.Syntaxes.TypeSyntax.{ObjectIdentifier, TextString, GeneralizedTime, Sequence, SetType}
use Rattle.term_values.specs.Syntaxes.TypeSyntax.{SequenceOf, SetOf, Choice, Tagged, Any, Filter}
use Rattle.term_values.specs.Syntaxes.TypeParts.{NoParts, Part}
use Rattle.key_numbers.specs.TypeKeys.{TypeKey, PartKeys}
use Rattle.key_numbers.specs.TypeKeys.TypeKey.{BooleanKey, IntegerKey, EnumeratedKey, BitStringKey, OctetStringKey}
use Rattle.key_numbers.specs.TypeKeys.TypeKey.{NullKey, IdentifierKey, TextKey, TimeKey, SequenceKey, SetKey}
use Rattle.key_numbers.specs.TypeKeys.TypeKey.{SequenceOfKey, SetOfKey, ChoiceKey, TaggedKey, AnyKey, FilterKey}
use Rattle.key_numbers.specs.TypeKeys.PartKeys.{NoKeys, PartKey}

abbrev mutual
  pub marked : TypeSyntax → (List ℕ → Bool) → TypeKey
  marked Boolean f = BooleanKey
  marked (Integer names bounds) f = IntegerKey names bounds
  marked (Enumerated names) f = EnumeratedKey names
  marked (BitString names bounds) f = BitStringKey names bounds
  marked (OctetString bounds) f = OctetStringKey bounds
  marked NullType f = NullKey
  marked ObjectIdentifier f = IdentifierKey
  marked (TextString charset bounds) f = TextKey charset bounds
  marked GeneralizedTime f = TimeKey
  marked (Sequence parts) f = SequenceKey (marked_parts parts (λ k path. f (k ∷ path)))
  marked (SetType parts) f = SetKey (marked_parts parts (λ k path. f (k ∷ path)))
  marked (SequenceOf of bounds) f = SequenceOfKey (marked of f) bounds
  marked (SetOf of bounds) f = SetOfKey (marked of f) bounds
  marked (Choice parts) f = ChoiceKey (marked_parts parts (λ k path. f (k ∷ path)))
  marked (Tagged tag explicit of) f = TaggedKey tag explicit (marked of f)
  marked Any f = AnyKey
  marked Filter f = FilterKey

  pub marked_parts : TypeParts → (ℕ → List ℕ → Bool) → PartKeys
  marked_parts NoParts f = NoKeys
  marked_parts (Part name syntax optional default rest) f =
      PartKey name (marked syntax (λ path. f 0 path)) optional (f 0 []) (marked_parts rest (λ k path. f (suc k) path))
