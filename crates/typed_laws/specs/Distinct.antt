-- Values in which members of a SET OF that have one encoding are one: X.690, section 11.6. Any value is of this kind
-- whose members are written in fewer than 2 ^ 32 octets.
use Rattle.std.specs.Prelude.{◌≡◌, ◌⊎◌, ℕ, zero, suc, List}
use Rattle.term_values.specs.Fits.{AllFit}
use Rattle.term_values.specs.Syntaxes.{TypeSyntax, TypeParts}
use Rattle.term_values.specs.Syntaxes.TypeSyntax.{Sequence, SetType, SequenceOf, SetOf, Choice, Tagged}
use Rattle.term_values.specs.Syntaxes.TypeParts.{NoParts, Part}
use Rattle.term_values.specs.Typed.{TypedValue, TypedSlots, TypedValues}
use Rattle.term_values.specs.Typed.TypedValue.{Parts, Many, Pick}
use Rattle.term_values.specs.Typed.TypedSlots.{Filled, Empty}
use Rattle.term_values.specs.Typed.TypedValues.{Nothing, Then}
use Rattle.term_values.specs.Written.{der}

abbrev pub IsMember : TypedValue → TypedValues → Type 0
IsMember value Nothing = ⊥
IsMember value (Then x xs) = (value ≡ x) ⊎ IsMember value xs

-- no two members have one encoding
abbrev pub OneEach : (TypedValue → List ℕ) → TypedValues → Type 0
OneEach encoding members =
    (v w : TypedValue) → IsMember v members → IsMember w members → encoding v ≡ encoding w → v ≡ w

abbrev mutual
  pub IsDistinct : TypeSyntax → TypedValue → Type 0
  IsDistinct (Sequence parts) (Parts slots) = AreDistinct parts slots
  IsDistinct (SetType parts) (Parts slots) = AreDistinct parts slots
  IsDistinct (SequenceOf member sizes) (Many members) = AllFit (IsDistinct member) members
  IsDistinct (SetOf member sizes) (Many members) =
      AllFit (IsDistinct member) members × OneEach (der member) members
  IsDistinct (Choice parts) (Pick index value) = PickDistinct parts index value
  IsDistinct (Tagged tag explicit of) value = IsDistinct of value
  IsDistinct _ _ = Unit {0}

  pub AreDistinct : TypeParts → TypedSlots → Type 0
  AreDistinct (Part name syntax optional default rest) (Filled value slots) =
      IsDistinct syntax value × AreDistinct rest slots
  AreDistinct (Part name syntax optional default rest) (Empty slots) = AreDistinct rest slots
  AreDistinct _ _ = Unit {0}

  pub PickDistinct : TypeParts → ℕ → TypedValue → Type 0
  PickDistinct NoParts index value = Unit {0}
  PickDistinct (Part name syntax optional default rest) zero value = IsDistinct syntax value
  PickDistinct (Part name syntax optional default rest) (suc index) value = PickDistinct rest index value
