-- KeyLaws: two types have one number exactly where they have one key.
use Rattle.std.proofs.Common.{◌≡◌, ◌↔◌, ◌∷◌, [], ◌∙◌, ℕ, suc, zero, Bool, true, false, ap, refl, sym}
use Rattle.term_values.specs.Sketch.{Sketch}
use Rattle.term_values.specs.Sketch.Sketch.{Leaf, Join}
use Rattle.term_values.specs.SyntaxPieces.{bounds_back, charset_again, charset_back, kind_back, mark_again, mark_back, tag_back}
use Rattle.term_values.specs.Syntaxes.{Named}
use Rattle.key_numbers.specs.KeyNumbers.{IsKeyNumber, key_sketch, names_sketch, parts_sketch, presence_kind}
use Rattle.key_numbers.specs.NumberedLists.{AreOnce, Row}
use Rattle.key_numbers.specs.TypeKeys.{TypeKey, PartKeys}
use Rattle.key_numbers.specs.TypeKeys.TypeKey.{BooleanKey, IntegerKey, EnumeratedKey, BitStringKey, OctetStringKey}
use Rattle.key_numbers.specs.TypeKeys.TypeKey.{NullKey, IdentifierKey, TextKey, TimeKey, SequenceKey, SetKey}
use Rattle.key_numbers.specs.TypeKeys.TypeKey.{SequenceOfKey, SetOfKey, ChoiceKey, TaggedKey, AnyKey, FilterKey}
use Rattle.key_numbers.specs.TypeKeys.PartKeys.{NoKeys, PartKey}
use Rattle.key_numbers.proofs.SketchLaws.{one_sketch, one_sketch_number}

-- ---- a tree tells its key

abbrev names_back : Sketch → Named
names_back (Join k (Leaf a name b) (Join c (Leaf d e ((n, m) ∷ ps)) rest)) = (name, n) ∷ names_back rest
names_back _ = []

names_again : (names : Named) → names_back (names_sketch names) ≡ names
names_again [] = refl
names_again (x ∷ names) = ap (λ ys. x ∷ ys) (names_again names)

abbrev optional_back : ℕ → Bool
optional_back zero = false
optional_back (suc zero) = true
optional_back (suc (suc zero)) = false
optional_back (suc (suc (suc k))) = true

abbrev default_back : ℕ → Bool
default_back zero = false
default_back (suc zero) = false
default_back (suc (suc k)) = true

optional_again : (optional default : Bool) → optional_back (presence_kind optional default) ≡ optional
optional_again false false = refl
optional_again true false = refl
optional_again false true = refl
optional_again true true = refl

default_again : (optional default : Bool) → default_back (presence_kind optional default) ≡ default
default_again false false = refl
default_again true false = refl
default_again false true = refl
default_again true true = refl

abbrev tagged_back : Sketch → TypeKey → TypeKey
tagged_back own of = TaggedKey (tag_back own) (mark_back (kind_back own)) of

abbrev mutual
  key_back : Sketch → TypeKey
  key_back (Leaf zero xs bounds) = BooleanKey
  key_back (Leaf (suc zero) xs bounds) = NullKey
  key_back (Leaf (suc (suc zero)) xs bounds) = IdentifierKey
  key_back (Leaf (suc (suc (suc zero))) xs bounds) = TimeKey
  key_back (Leaf (suc (suc (suc (suc zero)))) xs bounds) = AnyKey
  key_back (Leaf (suc (suc (suc (suc (suc zero))))) xs bounds) = FilterKey
  key_back (Leaf (suc (suc (suc (suc (suc (suc k)))))) xs bounds) = OctetStringKey bounds
  key_back (Join zero x y) = IntegerKey (names_back y) (bounds_back x)
  key_back (Join (suc zero) x y) = EnumeratedKey (names_back y)
  key_back (Join (suc (suc zero)) x y) = BitStringKey (names_back y) (bounds_back x)
  key_back (Join (suc (suc (suc zero))) x y) = TextKey (charset_back y) (bounds_back x)
  key_back (Join (suc (suc (suc (suc zero)))) x y) = SequenceKey (parts_back y)
  key_back (Join (suc (suc (suc (suc (suc zero))))) x y) = SetKey (parts_back y)
  key_back (Join (suc (suc (suc (suc (suc (suc zero)))))) x y) = ChoiceKey (parts_back y)
  key_back (Join (suc (suc (suc (suc (suc (suc (suc zero))))))) x y) = SequenceOfKey (key_back y) (bounds_back x)
  key_back (Join (suc (suc (suc (suc (suc (suc (suc (suc zero)))))))) x y) = SetOfKey (key_back y) (bounds_back x)
  key_back (Join (suc (suc (suc (suc (suc (suc (suc (suc (suc k))))))))) x y) = tagged_back x (key_back y)

  parts_back : Sketch → PartKeys
  parts_back (Join presence (Leaf a name b) (Join k of rest)) =
      PartKey name (key_back of) (optional_back presence) (default_back presence) (parts_back rest)
  parts_back _ = NoKeys

mutual
  key_again : (x : TypeKey) → key_back (key_sketch x) ≡ x
  key_again BooleanKey = refl
  key_again NullKey = refl
  key_again IdentifierKey = refl
  key_again TimeKey = refl
  key_again AnyKey = refl
  key_again FilterKey = refl
  key_again (OctetStringKey bounds) = refl
  key_again (IntegerKey names bounds) = ap (λ y. IntegerKey y bounds) (names_again names)
  key_again (EnumeratedKey names) = ap EnumeratedKey (names_again names)
  key_again (BitStringKey names bounds) = ap (λ y. BitStringKey y bounds) (names_again names)
  key_again (TextKey charset bounds) = ap (λ y. TextKey y bounds) (charset_again charset)
  key_again (SequenceKey keys) = ap SequenceKey (parts_again keys)
  key_again (SetKey keys) = ap SetKey (parts_again keys)
  key_again (ChoiceKey keys) = ap ChoiceKey (parts_again keys)
  key_again (SequenceOfKey of bounds) = ap (λ y. SequenceOfKey y bounds) (key_again of)
  key_again (SetOfKey of bounds) = ap (λ y. SetOfKey y bounds) (key_again of)
  key_again (TaggedKey tag explicit of) = rw (mark_again explicit, key_again of) refl

  parts_again : (x : PartKeys) → parts_back (parts_sketch x) ≡ x
  parts_again NoKeys = refl
  parts_again (PartKey name of optional default rest) =
      rw (key_again of, optional_again optional default, default_again optional default, parts_again rest) refl

pub same_key : (a b : TypeKey) → key_sketch a ≡ key_sketch b → a ≡ b
same_key a b h = sym (key_again a) ∙ (ap key_back h ∙ key_again b)

-- ---- numbers tell keys apart

pub key_law : {row : Row} {n m : ℕ} (a b : TypeKey) → AreOnce row → IsKeyNumber row a n → IsKeyNumber row b m →
    (n ≡ m) ↔ (a ≡ b)
key_law a b once h g = ((λ e. same_key a b (one_sketch h g e)), (λ e. one_sketch_number once h g (ap key_sketch e)))
