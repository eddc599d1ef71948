-- What takes a change of the members of a value back: addValues and removeValues of X.711, type ModifyOperator.
use Rattle.std.specs.Prelude.{◌≡◌, ℕ, zero, suc, List, [], ◌∷◌}
use Rattle.term_values.specs.Typed.{TypedValue, TypedValues}
use Rattle.term_values.specs.Typed.TypedValue.{Many}
use Rattle.term_values.specs.Typed.TypedValues.{Nothing, Then}
use Rattle.fitting_members.specs.declared.member_change.Removal.{Removal}
use Rattle.fitting_members.specs.declared.member_change.Undo.{Undo}
use Rattle.fitting_members.specs.declared.member_change.Undo.TheVariants as changed

-- the members but the one at a place
abbrev pub without_at : ℕ → TypedValues → TypedValues
without_at at Nothing = Nothing
without_at zero (Then x xs) = xs
without_at (suc at) (Then x xs) = Then x (without_at at xs)

-- the members with one more at a place, or behind all of them where there is no such place
abbrev pub with_at : ℕ → TypedValue → TypedValues → TypedValues
with_at at member Nothing = Then member Nothing
with_at zero member (Then x xs) = Then member (Then x xs)
with_at (suc at) member (Then x xs) = Then x (with_at at member xs)

-- the members but those at these places, which are taken out one after the other, the last first
abbrev pub without_all : List ℕ → TypedValues → TypedValues
without_all [] members = members
without_all (at ∷ places) members = without_at at (without_all places members)

-- the members with these at their places, put in one after the other, the last first
abbrev pub with_all : List Removal → TypedValues → TypedValues
with_all [] members = members
with_all (removal ∷ removals) members = with_at removal.at removal.member (with_all removals members)

-- the members before the change
abbrev pub members_before : Undo → TypedValues → TypedValues
members_before changed.Nothing members = members
members_before (changed.Added places) members = without_all places.items members
members_before (changed.Removed removals) members = with_all removals.items members

-- the value before the change
abbrev pub value_before : Undo → TypedValue → TypedValue
value_before undo (Many members) = Many (members_before undo members)
value_before undo value = value

-- it makes the value that was there before the change of the one that is there now
abbrev pub TakesBack : Undo → TypedValue → TypedValue → Type 0
TakesBack undo now before = value_before undo now ≡ before
