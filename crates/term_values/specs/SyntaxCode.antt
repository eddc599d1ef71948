-- A code, by which a syntax is told from another.
use Rattle.std.specs.Prelude.{◌≡◌, zero, suc, [], refl}
use Rattle.std.specs.Coded.{Coded, code_by}
use Rattle.std.proofs.Common.{ap}
use Rattle.term_values.specs.Sketch.{Sketch, sketch_code}
use Rattle.term_values.specs.Sketch.Sketch.{Leaf, Join}
use Rattle.term_values.specs.SyntaxPieces.{named_sketch, named_back, named_again, charset_sketch, charset_back}
use Rattle.term_values.specs.SyntaxPieces.{charset_again}
use Rattle.term_values.specs.SyntaxPieces.{default_sketch, default_back, default_again, mark, mark_back, mark_again}
use Rattle.term_values.specs.SyntaxPieces.{tag_sketch, tag_back, kind_back, bounds_back}
use Rattle.term_values.specs.Syntaxes.{TypeSyntax, TypeParts}
use Rattle.term_values.specs.Syntaxes.TypeSyntax.{Boolean, Integer, Enumerated, BitString, OctetString, NullType}
use Rattle.term_values.specs.Syntaxes.TypeSyntax.{ObjectIdentifier, TextString, GeneralizedTime, Sequence, SetType}
use Rattle.term_values.specs.Syntaxes.TypeSyntax.{SequenceOf, SetOf, Choice, Tagged, Any, Filter}
use Rattle.term_values.specs.Syntaxes.TypeParts.{NoParts, Part}

abbrev mutual
  syntax_sketch : TypeSyntax → Sketch
  syntax_sketch Boolean = Leaf 0 [] []
  syntax_sketch NullType = Leaf 1 [] []
  syntax_sketch ObjectIdentifier = Leaf 2 [] []
  syntax_sketch GeneralizedTime = Leaf 3 [] []
  syntax_sketch Any = Leaf 4 [] []
  syntax_sketch Filter = Leaf 5 [] []
  syntax_sketch (OctetString bounds) = Leaf 6 [] bounds
  syntax_sketch (Integer names bounds) = Join 0 (Leaf 0 [] bounds) (named_sketch names)
  syntax_sketch (Enumerated names) = Join 1 (Leaf 0 [] []) (named_sketch names)
  syntax_sketch (BitString names bounds) = Join 2 (Leaf 0 [] bounds) (named_sketch names)
  syntax_sketch (TextString charset bounds) = Join 3 (Leaf 0 [] bounds) (charset_sketch charset)
  syntax_sketch (Sequence parts) = Join 4 (Leaf 0 [] []) (parts_sketch parts)
  syntax_sketch (SetType parts) = Join 5 (Leaf 0 [] []) (parts_sketch parts)
  syntax_sketch (Choice parts) = Join 6 (Leaf 0 [] []) (parts_sketch parts)
  syntax_sketch (SequenceOf of bounds) = Join 7 (Leaf 0 [] bounds) (syntax_sketch of)
  syntax_sketch (SetOf of bounds) = Join 8 (Leaf 0 [] bounds) (syntax_sketch of)
  syntax_sketch (Tagged tag explicit of) = Join 9 (tag_sketch tag explicit) (syntax_sketch of)

  parts_sketch : TypeParts → Sketch
  parts_sketch NoParts = Leaf 0 [] []
  parts_sketch (Part name syntax optional default rest) =
      Join (mark optional) (Join 0 (Leaf 0 name []) (syntax_sketch syntax))
      (Join 0 (default_sketch default) (parts_sketch rest))

abbrev tagged_back : Sketch → TypeSyntax → TypeSyntax
tagged_back own of = Tagged (tag_back own) (mark_back (kind_back own)) of

abbrev mutual
  syntax_back : Sketch → TypeSyntax
  syntax_back (Leaf zero xs bounds) = Boolean
  syntax_back (Leaf (suc zero) xs bounds) = NullType
  syntax_back (Leaf (suc (suc zero)) xs bounds) = ObjectIdentifier
  syntax_back (Leaf (suc (suc (suc zero))) xs bounds) = GeneralizedTime
  syntax_back (Leaf (suc (suc (suc (suc zero)))) xs bounds) = Any
  syntax_back (Leaf (suc (suc (suc (suc (suc zero))))) xs bounds) = Filter
  syntax_back (Leaf (suc (suc (suc (suc (suc (suc k)))))) xs bounds) = OctetString bounds
  syntax_back (Join zero x y) = Integer (named_back y) (bounds_back x)
  syntax_back (Join (suc zero) x y) = Enumerated (named_back y)
  syntax_back (Join (suc (suc zero)) x y) = BitString (named_back y) (bounds_back x)
  syntax_back (Join (suc (suc (suc zero))) x y) = TextString (charset_back y) (bounds_back x)
  syntax_back (Join (suc (suc (suc (suc zero)))) x y) = Sequence (parts_back y)
  syntax_back (Join (suc (suc (suc (suc (suc zero))))) x y) = SetType (parts_back y)
  syntax_back (Join (suc (suc (suc (suc (suc (suc zero)))))) x y) = Choice (parts_back y)
  syntax_back (Join (suc (suc (suc (suc (suc (suc (suc zero))))))) x y) = SequenceOf (syntax_back y) (bounds_back x)
  syntax_back (Join (suc (suc (suc (suc (suc (suc (suc (suc zero)))))))) x y) = SetOf (syntax_back y) (bounds_back x)
  syntax_back (Join (suc (suc (suc (suc (suc (suc (suc (suc (suc k))))))))) x y) = tagged_back x (syntax_back y)

  parts_back : Sketch → TypeParts
  parts_back (Join optional (Join kind (Leaf a name b) syntax) (Join c default rest)) =
      Part name (syntax_back syntax) (mark_back optional) (default_back default) (parts_back rest)
  parts_back _ = NoParts

mutual
  pub syntax_again : (x : TypeSyntax) → syntax_back (syntax_sketch x) ≡ x
  syntax_again Boolean = refl
  syntax_again NullType = refl
  syntax_again ObjectIdentifier = refl
  syntax_again GeneralizedTime = refl
  syntax_again Any = refl
  syntax_again Filter = refl
  syntax_again (OctetString bounds) = refl
  syntax_again (Integer names bounds) = ap (λ y. Integer y bounds) (named_again names)
  syntax_again (Enumerated names) = ap Enumerated (named_again names)
  syntax_again (BitString names bounds) = ap (λ y. BitString y bounds) (named_again names)
  syntax_again (TextString charset bounds) = ap (λ y. TextString y bounds) (charset_again charset)
  syntax_again (Sequence parts) = ap Sequence (parts_again parts)
  syntax_again (SetType parts) = ap SetType (parts_again parts)
  syntax_again (Choice parts) = ap Choice (parts_again parts)
  syntax_again (SequenceOf of bounds) = ap (λ y. SequenceOf y bounds) (syntax_again of)
  syntax_again (SetOf of bounds) = ap (λ y. SetOf y bounds) (syntax_again of)
  syntax_again (Tagged tag explicit of) = rw (mark_again explicit, syntax_again of) refl

  pub parts_again : (x : TypeParts) → parts_back (parts_sketch x) ≡ x
  parts_again NoParts = refl
  parts_again (Part name syntax optional default rest) =
      rw (syntax_again syntax, mark_again optional, default_again default, parts_again rest) refl

abbrev pub syntax_code : Coded TypeSyntax
syntax_code = code_by Sketch sketch_code syntax_sketch syntax_back syntax_again

abbrev pub parts_code : Coded TypeParts
parts_code = code_by Sketch sketch_code parts_sketch parts_back parts_again
