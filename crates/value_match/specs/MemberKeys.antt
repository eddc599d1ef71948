-- Numbers by which the members of a SET OF are compared without writing them. Where the members fit their syntax, the
-- order of these numbers is that of the encodings: X.690, section 11.6. A value that holds others has its size in front
-- of theirs; a component of a SEQUENCE has the octets of its tag in front, and one that isn't written has no numbers.
-- The components of a SET are written by rising encodings, so by rising octets of their tags. For each number that such
-- octets may be there is in turn 0 with the component that has it, or 1 where none has: so of two SETs of one size that
-- one stands before the other which alone has a component, or has the lesser one, at the first such number at which
-- they differ.
use Rattle.std.specs.Prelude.{ℕ, zero, suc, List, [], ◌∷◌, ◌++◌, ◌&&◌, ◌==◌, Bool, true, false, not, Option, None, Some}
use Rattle.std.specs.Prelude.{if◌then◌else◌}
use Rattle.term_values.specs.Lengths.{octet_count}
use Rattle.term_values.specs.SameValue.{same_value}
use Rattle.term_values.specs.Syntaxes.{TypeSyntax, TypeParts}
use Rattle.term_values.specs.Syntaxes.TypeSyntax.{Sequence, SetType, SequenceOf, SetOf, Choice, Tagged}
use Rattle.term_values.specs.Syntaxes.TypeParts.{NoParts, Part}
use Rattle.term_values.specs.Typed.{TypedValue, TypedSlots, TypedValues}
use Rattle.term_values.specs.Typed.TypedValue.{Parts, Many, Pick}
use Rattle.term_values.specs.Typed.TypedSlots.{Filled, Empty}
use Rattle.term_values.specs.Typed.TypedValues.{Nothing, Then}
use Rattle.term_values.specs.Written.{der}
use Rattle.value_match.specs.InTurn.{in_turn, mark_count}
use Rattle.value_match.specs.LeafKeys.{leaf_key}
use Rattle.value_match.specs.Marks.{mark_as}

-- how many octets the encoding has, or 2 ^ 64 - 1 where it has more
abbrev pub member_size : TypeSyntax → TypedValue → ℕ
member_size syntax value = octet_count (der syntax value)

-- a component that equals its DEFAULT isn't written: X.690, section 11.5
abbrev pub is_written : Option TypedValue → TypedValue → Bool
is_written None value = true
is_written (Some default) value = not (same_value value default)

-- of members, one behind the other
abbrev pub values_key : (TypedValue → List ℕ) → TypedValues → List ℕ
values_key key Nothing = []
values_key key (Then x xs) = key x ++ values_key key xs

abbrev mutual
  -- of a member of this syntax
  pub member_key : TypeSyntax → TypedValue → List ℕ
  member_key (Sequence parts) (Parts slots) = member_size (Sequence parts) (Parts slots) ∷ slots_key parts slots
  member_key (SetType parts) (Parts slots) =
      member_size (SetType parts) (Parts slots) ∷ in_turn (component_key parts slots) mark_count
  member_key (SequenceOf member sizes) (Many values) =
      member_size (SequenceOf member sizes) (Many values) ∷ values_key (member_key member) values
  member_key (SetOf member sizes) (Many values) =
      member_size (SetOf member sizes) (Many values) ∷ values_key (member_key member) values
  member_key (Choice parts) (Pick index value) = pick_key parts index value
  member_key (Tagged tag true of) value = member_size of value ∷ member_key of value
  member_key (Tagged tag false of) value = member_key of value
  member_key syntax value = leaf_key value

  -- of the components of a SEQUENCE
  pub slots_key : TypeParts → TypedSlots → List ℕ
  slots_key (Part name syntax optional default rest) (Filled value slots) =
      (if is_written default value then mark_as None syntax value ∷ member_key syntax value else [])
      ++ slots_key rest slots
  slots_key (Part name syntax optional default rest) (Empty slots) = slots_key rest slots
  slots_key _ _ = []

  -- of the component of a SET whose tag has these octets
  pub component_key : TypeParts → TypedSlots → ℕ → List ℕ
  component_key (Part name syntax optional default rest) (Filled value slots) mark =
      if is_written default value && (mark_as None syntax value == mark) then 0 ∷ member_key syntax value
      else component_key rest slots mark
  component_key (Part name syntax optional default rest) (Empty slots) mark = component_key rest slots mark
  component_key _ _ mark = 1 ∷ []

  -- of a value of the alternative with this index
  pub pick_key : TypeParts → ℕ → TypedValue → List ℕ
  pick_key NoParts index value = []
  pick_key (Part name syntax optional default rest) zero value = mark_as None syntax value ∷ member_key syntax value
  pick_key (Part name syntax optional default rest) (suc index) value = pick_key rest index value
