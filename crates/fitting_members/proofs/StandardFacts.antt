-- Examples of members added and removed where they stand, computed from the definitions: X.690, sections 8.12 and 11.6;
-- X.711, type ModifyOperator.
use Rattle.std.proofs.Common.{◌≡◌, [], ◌∷◌, true, false, refl}
use Rattle.std.specs.Prelude.{pos}
use Rattle.term_values.specs.Octets.{integer_contents}
use Rattle.term_values.specs.Der.{identifier_octets, length_octets}
use Rattle.term_values.specs.Syntaxes.{TypeSyntax}
use Rattle.term_values.specs.Syntaxes.TypeSyntax.{Integer, SequenceOf, SetOf, Tagged}
use Rattle.term_values.specs.Tag.{context}
use Rattle.term_values.specs.Typed.{TypedValue, TypedValues, listed}
use Rattle.term_values.specs.Typed.TypedValue.{Int, Many}
use Rattle.fitting_members.specs.MemberLengths.{members_length}
use Rattle.fitting_members.specs.MemberTests.{all_numbers_fit, members_fit, number_fits}
use Rattle.fitting_members.specs.TakingBack.{with_all, without_all}
use Rattle.fitting_members.specs.declared.member_change.Removal.{Removal}

-- SET SIZE (1..2) OF INTEGER (0..9)
abbrev digit : TypeSyntax
digit = Integer [] ((pos 0, pos 9) ∷ [])

abbrev digits : TypeSyntax
digits = SetOf digit ((pos 1, pos 2) ∷ [])

abbrev one : TypedValue
one = Int (pos 1)

abbrev two : TypedValue
two = Int (pos 2)

abbrev three : TypedValue
three = Int (pos 3)

abbrev all_three : TypedValues
all_three = listed (one ∷ two ∷ three ∷ [])

-- each takes a tag, a length and an octet; the tags round the set don't count
three_lengths : members_length digits (Many all_three) ≡ 9
unfolding identifier_octets length_octets integer_contents
three_lengths = refl

tagged_lengths : members_length (Tagged (context 0) true digits) (Many (listed [])) ≡ 0
tagged_lengths = refl

no_members : members_length digit one ≡ 0
no_members = refl

-- the number is told apart from the members
too_many : number_fits digits 3 ≡ false
too_many = refl

few_enough : all_numbers_fit (digits ∷ SequenceOf digit [] ∷ []) 2 ≡ true
few_enough = refl

fit_in_order : members_fit (SequenceOf digit []) (listed (two ∷ one ∷ [])) ≡ true
fit_in_order = refl

-- 1 was put at place 0 before 2, and then 3 at place 2
taken_out : without_all (0 ∷ 2 ∷ []) all_three ≡ listed (two ∷ [])
taken_out = refl

-- 1 was removed from place 0, and then 3 from place 1
abbrev first_removed : Removal
first_removed = record { at = 0; member = one }

abbrev then_removed : Removal
then_removed = record { at = 1; member = three }

put_in : with_all (first_removed ∷ then_removed ∷ []) (listed (two ∷ [])) ≡ all_three
put_in = refl
