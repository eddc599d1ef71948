-- Which values a syntax has: X.680, sections 17 to 51.
use Rattle.std.specs.Int.{w64}
use Rattle.std.specs.List.{list_all}
use Rattle.std.specs.Prelude.{◌≡◌, ℕ, zero, suc, List, Bool, true, None, FitsSigned, length}
use Rattle.term_values.specs.Bounded.{allowed, allowed_size, bit_count, is_named, has_character}
use Rattle.term_values.specs.Der.{written}
use Rattle.term_values.specs.FilterTrees.{is_filter}
use Rattle.term_values.specs.Oid.{is_oid, is_arc}
use Rattle.term_values.specs.Rearranged.{IsRising}
use Rattle.term_values.specs.Strings.{AreBits}
use Rattle.term_values.specs.Syntaxes.{TypeSyntax, TypeParts}
use Rattle.term_values.specs.Syntaxes.TypeSyntax.{Boolean, Integer, Enumerated, BitString, OctetString, NullType}
use Rattle.term_values.specs.Syntaxes.TypeSyntax.{ObjectIdentifier, TextString, GeneralizedTime, Sequence, SetType}
use Rattle.term_values.specs.Syntaxes.TypeSyntax.{SequenceOf, SetOf, Choice, Tagged, Any, Filter}
use Rattle.term_values.specs.Syntaxes.TypeParts.{NoParts, Part}
use Rattle.term_values.specs.Times.{is_time}
use Rattle.term_values.specs.Tree.{TreeValue}
use Rattle.term_values.specs.Typed.{TypedValue, TypedSlots, TypedValues}
use Rattle.term_values.specs.Typed.TypedValue.{Truth, Int, Bits, Octets, Null, Identifier, Text, Time, Parts, Many}
use Rattle.term_values.specs.Typed.TypedValue.{Pick, Raw}
use Rattle.term_values.specs.Typed.TypedSlots.{NoSlots, Filled, Empty}
use Rattle.term_values.specs.Typed.TypedValues.{Nothing, Then}
use Rattle.term_values.specs.ValueContents.{member_encodings}
use Rattle.term_values.specs.Writable.{IsWritable}
use Rattle.term_values.specs.Written.{der}

-- the octets are one value, of any depth, in the form in which an ANY is kept: definite lengths, as short as may be,
-- and else as it came
pub record IsKept (octets : List ℕ) (which : TreeValue → Bool) : Type 0 where
  pub depth : ℕ
  pub tree : TreeValue
  pub writable : IsWritable depth tree
  pub such : which tree ≡ true
  pub whole : octets ≡ written tree

abbrev pub AllFit : (TypedValue → Type 0) → TypedValues → Type 0
AllFit fits Nothing = Unit {0}
AllFit fits (Then x xs) = fits x × AllFit fits xs

-- how many members there are
abbrev pub count : TypedValues → ℕ
count Nothing = 0
count (Then x xs) = suc (count xs)

abbrev mutual
  -- the value has the form of the syntax, and its numbers, sizes and octets are those that the syntax allows. Tags have
  -- no part in it.
  pub Fits : TypeSyntax → TypedValue → Type 0
  Fits Boolean (Truth holds) = Unit {0}
  Fits (Integer names ranges) (Int n) = FitsSigned w64 n × (allowed ranges n ≡ true)
  Fits (Enumerated names) (Int n) = FitsSigned w64 n × (is_named names n ≡ true)
  Fits (BitString names sizes) (Bits octets unused) =
      AreBits octets unused × (allowed_size sizes (bit_count octets unused) ≡ true)
  Fits (OctetString sizes) (Octets octets) = allowed_size sizes (length octets) ≡ true
  Fits NullType Null = Unit {0}
  Fits ObjectIdentifier (Identifier arcs) = (is_oid arcs ≡ true) × (list_all is_arc arcs ≡ true)
  Fits (TextString charset sizes) (Text octets) =
      (list_all (has_character charset) octets ≡ true) × (allowed_size sizes (length octets) ≡ true)
  Fits GeneralizedTime (Time octets) = is_time octets ≡ true
  Fits (Sequence parts) (Parts slots) = PartsFit parts slots
  Fits (SetType parts) (Parts slots) = PartsFit parts slots
  Fits (SequenceOf member sizes) (Many values) =
      AllFit (Fits member) values × (allowed_size sizes (count values) ≡ true)
  Fits (SetOf member sizes) (Many values) =
      AllFit (Fits member) values × (allowed_size sizes (count values) ≡ true)
      × IsRising (member_encodings (der member) values)
  Fits (Choice parts) (Pick index value) = PickFits parts index value
  Fits (Tagged tag explicit of) value = Fits of value
  Fits Any (Raw octets) = IsKept octets (λ tree. true)
  Fits Filter (Raw octets) = IsKept octets is_filter
  Fits _ _ = ⊥

  -- a component is there, unless it is optional; one with a default always is
  pub PartsFit : TypeParts → TypedSlots → Type 0
  PartsFit NoParts NoSlots = Unit {0}
  PartsFit (Part name syntax optional default rest) (Filled value slots) = Fits syntax value × PartsFit rest slots
  PartsFit (Part name syntax true None rest) (Empty slots) = PartsFit rest slots
  PartsFit _ _ = ⊥

  pub PickFits : TypeParts → ℕ → TypedValue → Type 0
  PickFits NoParts index value = ⊥
  PickFits (Part name syntax optional default rest) zero value = Fits syntax value
  PickFits (Part name syntax optional default rest) (suc index) value = PickFits rest index value
