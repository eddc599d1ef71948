-- Which tree denotes which value of which syntax: X.690, section 8, and X.680, section 24.9 for defaults.
use Rattle.std.specs.Int.{w64}
use Rattle.std.specs.List.{list_all}
use Rattle.std.specs.Prelude.{◌≡◌, ◌⊎◌, ℕ, zero, suc, ℤ, List, [], ◌∷◌, Bool, true, false, ◌==◌, not, Option, None}
use Rattle.std.specs.Prelude.{Some, FitsSigned, length, map}
use Rattle.term_values.specs.Bounded.{allowed, allowed_size, bit_count, is_named, has_character}
use Rattle.term_values.specs.Der.{written}
use Rattle.term_values.specs.FilterTrees.{is_filter}
use Rattle.term_values.specs.Octets.{integer_contents}
use Rattle.term_values.specs.Oid.{is_oid, is_arc, oid_contents}
use Rattle.term_values.specs.Rearranged.{IsRearrangement, IsRising}
use Rattle.term_values.specs.Strings.{SpellsOctets, SpellsBits}
use Rattle.term_values.specs.Syntaxes.{TypeSyntax, TypeParts}
use Rattle.term_values.specs.Syntaxes.TypeSyntax.{Boolean, Integer, Enumerated, BitString, OctetString, NullType}
use Rattle.term_values.specs.Syntaxes.TypeSyntax.{ObjectIdentifier, TextString, GeneralizedTime, Sequence, SetType}
use Rattle.term_values.specs.Syntaxes.TypeSyntax.{SequenceOf, SetOf, Choice, Tagged, Any, Filter}
use Rattle.term_values.specs.Syntaxes.TypeParts.{NoParts, Part}
use Rattle.term_values.specs.Times.{is_time}
use Rattle.term_values.specs.Tree.{TreeValue, listed as trees_listed}
use Rattle.term_values.specs.Tree.TreeValue.{Primitive, Constructed}
use Rattle.term_values.specs.Tree.TreeValues.{Nothing as NoTrees, Then as AndTrees}
use Rattle.term_values.specs.TreeTags.{tag_of, due}
use Rattle.term_values.specs.Typed.{TypedValue, TypedSlots, listed}
use Rattle.term_values.specs.Typed.TypedValue.{Truth, Int, Bits, Octets, Null, Identifier, Text, Time, Parts, Many}
use Rattle.term_values.specs.Typed.TypedValue.{Pick, Raw}
use Rattle.term_values.specs.Typed.TypedSlots.{NoSlots, Filled, Empty}
use Rattle.term_values.specs.UniversalTags.{boolean, integer, bit_string, octet_string, null, object_identifier}
use Rattle.term_values.specs.UniversalTags.{enumerated}
use Rattle.term_values.specs.UniversalTags.{sequence, set, generalized_time, text_tag}
use Rattle.term_values.specs.Written.{der}
use Rattle.term_values.specs.declared.tag.Tag.{Tag}

-- each of the trees denotes a member, in their order
abbrev pub AllDenote : (TreeValue → TypedValue → Type 0) → List TreeValue → List TypedValue → Type 0
AllDenote member [] [] = Unit {0}
AllDenote member (x ∷ xs) (v ∷ vs) = member x v × AllDenote member xs vs
AllDenote member _ _ = ⊥

-- the first tree denotes a component, and the others the rest
abbrev pub PresentHolds : (TreeValue → TypedValue → Type 0) → (List TreeValue → TypedSlots → Type 0)
    → List TreeValue → TypedSlots → Type 0
PresentHolds denotes rest (x ∷ xs) (Filled v slots) = denotes x v × rest xs slots
PresentHolds denotes rest _ _ = ⊥

-- a component is left out: one with a default holds it, one that is optional is absent
abbrev pub AbsentHolds : Bool → Option TypedValue → (TypedSlots → Type 0) → TypedSlots → Type 0
AbsentHolds optional (Some default) rest (Filled v slots) = (v ≡ default) × rest slots
AbsentHolds true None rest (Empty slots) = rest slots
AbsentHolds _ _ rest _ = ⊥

-- a whole number of 64 bits, its contents octets as few as may be
abbrev pub IsWhole : Tag → TreeValue → ℤ → Type 0
IsWhole tag tree n = (tree ≡ Primitive tag (integer_contents n)) × FitsSigned w64 n

-- a string of octets or characters, primitive or constructed
abbrev pub IsString : Tag → TreeValue → List ℕ → Type 0
IsString tag tree octets = (tag_of tree ≡ tag) × SpellsOctets tree octets

-- an object identifier
abbrev pub IsIdentifier : Tag → TreeValue → List ℕ → Type 0
IsIdentifier tag tree arcs =
    (tree ≡ Primitive tag (oid_contents arcs)) × (is_oid arcs ≡ true) × (list_all is_arc arcs ≡ true)

-- the tree holds these trees
abbrev pub Holds : Tag → TreeValue → List TreeValue → Type 0
Holds tag tree inside = tree ≡ Constructed tag (trees_listed inside)

abbrev mutual
  -- the tree denotes the value under its tag, or under an implicit one in its place
  pub DenotesAs : Option Tag → TypeSyntax → TreeValue → TypedValue → Type 0
  DenotesAs tag Boolean tree value =
      (octet : ℕ) × (tree ≡ Primitive (due tag boolean) (octet ∷ [])) × (value ≡ Truth (not (octet == 0)))
  DenotesAs tag (Integer names ranges) tree value =
      (n : ℤ) × IsWhole (due tag integer) tree n × (allowed ranges n ≡ true) × (value ≡ Int n)
  DenotesAs tag (Enumerated names) tree value =
      (n : ℤ) × IsWhole (due tag enumerated) tree n × (is_named names n ≡ true) × (value ≡ Int n)
  DenotesAs tag (BitString names sizes) tree value =
      (octets : List ℕ) × (unused : ℕ) × (tag_of tree ≡ due tag bit_string) × SpellsBits tree octets unused
      × (allowed_size sizes (bit_count octets unused) ≡ true) × (value ≡ Bits octets unused)
  DenotesAs tag (OctetString sizes) tree value =
      (octets : List ℕ) × IsString (due tag octet_string) tree octets × (allowed_size sizes (length octets) ≡ true)
      × (value ≡ Octets octets)
  DenotesAs tag NullType tree value = (tree ≡ Primitive (due tag null) []) × (value ≡ Null)
  DenotesAs tag ObjectIdentifier tree value =
      (arcs : List ℕ) × IsIdentifier (due tag object_identifier) tree arcs × (value ≡ Identifier arcs)
  DenotesAs tag (TextString charset sizes) tree value =
      (octets : List ℕ) × IsString (due tag (text_tag charset)) tree octets
      × (list_all (has_character charset) octets ≡ true) × (allowed_size sizes (length octets) ≡ true)
      × (value ≡ Text octets)
  DenotesAs tag GeneralizedTime tree value =
      (octets : List ℕ) × IsString (due tag generalized_time) tree octets × (is_time octets ≡ true)
      × (value ≡ Time octets)
  DenotesAs tag (Sequence parts) tree value =
      (inside : List TreeValue) × (slots : TypedSlots) × Holds (due tag sequence) tree inside
      × PartsDenote parts inside slots × (value ≡ Parts slots)
  -- components in any order
  DenotesAs tag (SetType parts) tree value =
      (inside ordered : List TreeValue) × (slots : TypedSlots) × Holds (due tag set) tree inside
      × IsRearrangement inside ordered × PartsDenote parts ordered slots × (value ≡ Parts slots)
  DenotesAs tag (SequenceOf member sizes) tree value =
      (inside : List TreeValue) × (members : List TypedValue) × Holds (due tag sequence) tree inside
      × AllDenote (DenotesAs None member) inside members × (allowed_size sizes (length members) ≡ true)
      × (value ≡ Many (listed members))
  -- members in any order; those of the value are in the rising order of their encodings
  DenotesAs tag (SetOf member sizes) tree value =
      (inside : List TreeValue) × (found members : List TypedValue) × Holds (due tag set) tree inside
      × AllDenote (DenotesAs None member) inside found × IsRearrangement found members
      × IsRising (map (der member) members) × (allowed_size sizes (length members) ≡ true)
      × (value ≡ Many (listed members))
  DenotesAs None (Choice parts) tree value =
      (index : ℕ) × (picked : TypedValue) × PickDenotes parts index tree picked × (value ≡ Pick index picked)
  DenotesAs (Some tag) (Choice parts) tree value = ⊥
  DenotesAs tag (Tagged own true of) tree value =
      (x : TreeValue) × (tree ≡ Constructed (due tag own) (AndTrees x NoTrees)) × DenotesAs None of x value
  DenotesAs tag (Tagged own false of) tree value = DenotesAs (Some (due tag own)) of tree value
  -- kept with definite lengths, as short as may be, and else as it came
  DenotesAs None Any tree value = value ≡ Raw (written tree)
  DenotesAs (Some tag) Any tree value = ⊥
  DenotesAs None Filter tree value = (is_filter tree ≡ true) × (value ≡ Raw (written tree))
  DenotesAs (Some tag) Filter tree value = ⊥

  -- trees in a row denote components in the order of the type
  pub PartsDenote : TypeParts → List TreeValue → TypedSlots → Type 0
  PartsDenote NoParts trees slots = (trees ≡ []) × (slots ≡ NoSlots)
  PartsDenote (Part name syntax optional default rest) trees slots =
      PresentHolds (DenotesAs None syntax) (PartsDenote rest) trees slots
      ⊎ AbsentHolds optional default (PartsDenote rest trees) slots

  -- the tree denotes a value of the alternative with this index
  pub PickDenotes : TypeParts → ℕ → TreeValue → TypedValue → Type 0
  PickDenotes NoParts index tree value = ⊥
  PickDenotes (Part name syntax optional default rest) zero tree value = DenotesAs None syntax tree value
  PickDenotes (Part name syntax optional default rest) (suc index) tree value = PickDenotes rest index tree value

-- the tree denotes the value of the syntax
abbrev pub Denotes : TypeSyntax → TreeValue → TypedValue → Type 0
Denotes syntax tree value = DenotesAs None syntax tree value
