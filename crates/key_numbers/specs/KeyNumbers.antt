-- KeyNumbers: the number of a key: each key is a tree of kinds, octets and pairs of numbers, and each tree has a number
-- by which the trees within it are told.
use Rattle.std.specs.Prelude.{◌≡◌, ◌++◌, ◌∷◌, [], ℕ, ℤ, pos, negsuc, suc, List, Bool, true, false, Option, None, Some, length}
use Rattle.std.specs.List.{slice_get}
use Rattle.term_values.specs.Sketch.{Sketch}
use Rattle.term_values.specs.Sketch.Sketch.{Leaf, Join}
use Rattle.term_values.specs.SyntaxPieces.{charset_sketch, tag_sketch}
use Rattle.term_values.specs.Syntaxes.{Named}
use Rattle.key_numbers.specs.NumberedLists.{IsList, Row}
use Rattle.key_numbers.specs.TypeKeys.{TypeKey, PartKeys}
use Rattle.key_numbers.specs.TypeKeys.TypeKey.{BooleanKey, IntegerKey, EnumeratedKey, BitStringKey, OctetStringKey}
use Rattle.key_numbers.specs.TypeKeys.TypeKey.{NullKey, IdentifierKey, TextKey, TimeKey, SequenceKey, SetKey}
use Rattle.key_numbers.specs.TypeKeys.TypeKey.{SequenceOfKey, SetOfKey, ChoiceKey, TaggedKey, AnyKey, FilterKey}
use Rattle.key_numbers.specs.TypeKeys.PartKeys.{NoKeys, PartKey}

-- whether a component may be left out, and whether DEFAULT stands at it
abbrev pub presence_kind : Bool → Bool → ℕ
presence_kind false false = 0
presence_kind true false = 1
presence_kind false true = 2
presence_kind true true = 3

abbrev pub names_sketch : Named → Sketch
names_sketch [] = Leaf 0 [] []
names_sketch (x ∷ xs) = Join 0 (Leaf 0 x.0 []) (Join 0 (Leaf 0 [] ((x.1, x.1) ∷ [])) (names_sketch xs))

abbrev mutual
  pub key_sketch : TypeKey → Sketch
  key_sketch BooleanKey = Leaf 0 [] []
  key_sketch NullKey = Leaf 1 [] []
  key_sketch IdentifierKey = Leaf 2 [] []
  key_sketch TimeKey = Leaf 3 [] []
  key_sketch AnyKey = Leaf 4 [] []
  key_sketch FilterKey = Leaf 5 [] []
  key_sketch (OctetStringKey bounds) = Leaf 6 [] bounds
  key_sketch (IntegerKey names bounds) = Join 0 (Leaf 0 [] bounds) (names_sketch names)
  key_sketch (EnumeratedKey names) = Join 1 (Leaf 0 [] []) (names_sketch names)
  key_sketch (BitStringKey names bounds) = Join 2 (Leaf 0 [] bounds) (names_sketch names)
  key_sketch (TextKey charset bounds) = Join 3 (Leaf 0 [] bounds) (charset_sketch charset)
  key_sketch (SequenceKey keys) = Join 4 (Leaf 0 [] []) (parts_sketch keys)
  key_sketch (SetKey keys) = Join 5 (Leaf 0 [] []) (parts_sketch keys)
  key_sketch (ChoiceKey keys) = Join 6 (Leaf 0 [] []) (parts_sketch keys)
  key_sketch (SequenceOfKey of bounds) = Join 7 (Leaf 0 [] bounds) (key_sketch of)
  key_sketch (SetOfKey of bounds) = Join 8 (Leaf 0 [] bounds) (key_sketch of)
  key_sketch (TaggedKey tag explicit of) = Join 9 (tag_sketch tag explicit) (key_sketch of)

  pub parts_sketch : PartKeys → Sketch
  parts_sketch NoKeys = Leaf 0 [] []
  parts_sketch (PartKey name of optional default rest) =
      Join (presence_kind optional default) (Leaf 0 name []) (Join 0 (key_sketch of) (parts_sketch rest))

-- whether a number is below zero
abbrev pub sign_mark : ℤ → ℕ
sign_mark (pos n) = 0
sign_mark (negsuc n) = 1

-- a number with its sign
abbrev pub signed_code : ℤ → List ℕ
signed_code (pos n) = 0 ∷ (n ∷ [])
signed_code (negsuc n) = 1 ∷ (suc n ∷ [])

abbrev pub pair_code : ℤ × ℤ → List ℕ
pair_code x = signed_code x.0 ++ signed_code x.1

abbrev pub pairs_code : List (ℤ × ℤ) → List ℕ
pairs_code [] = []
pairs_code (x ∷ xs) = pair_code x ++ pairs_code xs

abbrev pub leaf_code : ℕ → List ℕ → List (ℤ × ℤ) → List ℕ
leaf_code kind octets pairs = kind ∷ (length octets ∷ (octets ++ pairs_code pairs))

-- the number of a tree: of a leaf 1, the number of its list, and 0; of two trees that are joined what is two above their
-- kind, and their numbers
pub data IsSketchNumber (row : Row) : Sketch → ℕ → Type 0 where
  leaf : {kind k list : ℕ} {octets : List ℕ} {pairs : List (ℤ × ℤ)} → slice_get row k ≡ Some (1, list, 0) →
      IsList row list (leaf_code kind octets pairs) → IsSketchNumber row (Leaf kind octets pairs) (suc k)
  join : {kind k x y : ℕ} {one other : Sketch} → slice_get row k ≡ Some (suc (suc kind), x, y) →
      IsSketchNumber row one x → IsSketchNumber row other y → IsSketchNumber row (Join kind one other) (suc k)

-- what is told of a tree: that it has no parts, or what is two above its kind, and the numbers of the two that it joins
abbrev pub TellsTwo : Row → Sketch → Option (ℕ × ℕ × ℕ) → Type 0
TellsTwo row (Leaf kind octets pairs) None = Unit {0}
TellsTwo row (Leaf kind octets pairs) (Some x) = ⊥
TellsTwo row (Join kind one other) None = ⊥
TellsTwo row (Join kind one other) (Some x) =
    (x.0 ≡ suc (suc kind)) × IsSketchNumber row one x.1 × IsSketchNumber row other x.2

-- the number of a key
abbrev pub IsKeyNumber : Row → TypeKey → ℕ → Type 0
IsKeyNumber row key n = IsSketchNumber row (key_sketch key) n
