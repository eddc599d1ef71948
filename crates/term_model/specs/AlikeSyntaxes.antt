-- Syntaxes that are one but for the values of their DEFAULTs, as types of rules and fields are compared: X.680, section
-- 25; docs/PROFILE.md, section 12.
use Rattle.std.specs.Prelude.{◌≡◌, Option, Some, option_map}
use Rattle.term_values.specs.Syntaxes.{TypeSyntax, TypeParts}
use Rattle.term_values.specs.Syntaxes.TypeParts.{NoParts, Part}
use Rattle.term_values.specs.Syntaxes.TypeSyntax.{Choice, Sequence, SequenceOf, SetOf, SetType, Tagged}
use Rattle.term_values.specs.Typed.{TypedValue}
use Rattle.term_values.specs.Typed.TypedValue.{Null}

abbrev mutual
  -- a syntax in which each DEFAULT has the value NULL, whatever value it has
  pub without_values : TypeSyntax → TypeSyntax
  without_values (Sequence parts) = Sequence (parts_without_values parts)
  without_values (SetType parts) = SetType (parts_without_values parts)
  without_values (Choice parts) = Choice (parts_without_values parts)
  without_values (SequenceOf member sizes) = SequenceOf (without_values member) sizes
  without_values (SetOf member sizes) = SetOf (without_values member) sizes
  without_values (Tagged tag explicit of) = Tagged tag explicit (without_values of)
  without_values syntax = syntax

  pub parts_without_values : TypeParts → TypeParts
  parts_without_values NoParts = NoParts
  parts_without_values (Part name syntax optional default rest) =
      Part name (without_values syntax) optional (option_map (λ value. Null) default) (parts_without_values rest)

-- all but the values of DEFAULTs is the same in both
abbrev pub AreAlike : TypeSyntax → TypeSyntax → Type 0
AreAlike one other = without_values one ≡ without_values other
