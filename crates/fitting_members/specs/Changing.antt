-- What is known of the members of a value while some are added or removed, one after the other: X.711, type
-- ModifyOperator. Words for the clauses of private functions.
use Rattle.std.specs.Prelude.{◌≡◌, ◌&&◌, ℕ, ◌≤◌, List, Bool, length, true}
use Rattle.term_values.specs.FitTest.{all_fit, value_fits}
use Rattle.term_values.specs.Lengths.{counted}
use Rattle.term_values.specs.Rearranged.{joined}
use Rattle.term_values.specs.Syntaxes.{TypeSyntax}
use Rattle.term_values.specs.Typed.{TypedValue, listed}
use Rattle.term_values.specs.ValueContents.{member_encodings}
use Rattle.term_values.specs.Written.{der}
use Rattle.fitting_members.specs.MemberTests.{all_members_fit}
use Rattle.fitting_members.specs.TakingBack.{with_all, without_all}
use Rattle.fitting_members.specs.declared.adding.Additions.{Additions}
use Rattle.fitting_members.specs.declared.removing.Removals.{Removals}

-- how many octets the encodings of members take
abbrev pub length_of : TypeSyntax → List TypedValue → ℕ
length_of member items = length (joined (member_encodings (der member) (listed items)))

-- each member is of the member type, and all are those of each type that permits values
abbrev pub are_fit : TypeSyntax → List TypeSyntax → List TypedValue → Bool
are_fit member permitted items =
    all_fit (value_fits member) (listed items) && all_members_fit permitted (listed items)

-- whether the members fit so far, how many octets they take, and where those stand that were added to the ones before
pub record IsAdding (member : TypeSyntax) (permitted : List TypeSyntax) (before items : List TypedValue)
    (made : Additions) : Type 0 where
  pub fit : made.fit ≡ are_fit member permitted items
  pub octets : made.octets ≡ counted (length_of member items)
  pub undone : without_all made.places.items (listed items) ≡ listed before

-- the members fit, how many octets they take, which is a number of 64 bits, and which of the ones before were removed
pub record IsRemoving (member : TypeSyntax) (permitted : List TypeSyntax) (before items : List TypedValue)
    (made : Removals) : Type 0 where
  pub fit : are_fit member permitted items ≡ true
  pub octets : made.octets ≡ length_of member items
  pub small : length_of member items ≤ 18446744073709551615
  pub undone : with_all made.members.items (listed items) ≡ listed before
