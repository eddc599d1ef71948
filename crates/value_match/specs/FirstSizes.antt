-- The size that stands first among the numbers of a member, beneath alternatives and implicit tags: X.690, section
-- 8.1.3.
use Rattle.std.specs.Prelude.{ℕ, zero, suc, List, [], ◌∷◌, true, false}
use Rattle.term_values.specs.Syntaxes.{TypeSyntax, TypeParts}
use Rattle.term_values.specs.Syntaxes.TypeSyntax.{Sequence, SetType, SequenceOf, SetOf, Choice, Tagged}
use Rattle.term_values.specs.Syntaxes.TypeParts.{NoParts, Part}
use Rattle.term_values.specs.Typed.{TypedValue}
use Rattle.term_values.specs.Typed.TypedValue.{Pick}
use Rattle.value_match.specs.MemberKeys.{member_size}

abbrev mutual
  -- 0 for a member that has no size among its numbers
  pub first_size : TypeSyntax → TypedValue → ℕ
  first_size (Sequence parts) value = member_size (Sequence parts) value
  first_size (SetType parts) value = member_size (SetType parts) value
  first_size (SequenceOf member sizes) value = member_size (SequenceOf member sizes) value
  first_size (SetOf member sizes) value = member_size (SetOf member sizes) value
  first_size (Choice parts) (Pick index value) = pick_size parts index value
  first_size (Tagged tag true of) value = member_size of value
  first_size (Tagged tag false of) value = first_size of value
  first_size syntax value = 0

  -- of a value of the alternative with this index
  pub pick_size : TypeParts → ℕ → TypedValue → ℕ
  pick_size NoParts index value = 0
  pick_size (Part name syntax optional default rest) zero value = first_size syntax value
  pick_size (Part name syntax optional default rest) (suc index) value = pick_size rest index value

-- of the first member, or 0
abbrev pub front_size : TypeSyntax → List TypedValue → ℕ
front_size member [] = 0
front_size member (x ∷ xs) = first_size member x
