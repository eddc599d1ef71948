-- Whether a list of members is of a type, by the members and their order, and by their number: X.680, sections 26 and 28;
-- X.690, section 11.6.
use Rattle.std.specs.List.{list_all}
use Rattle.std.specs.Prelude.{ℕ, List, [], Bool, false, ◌&&◌}
use Rattle.term_values.specs.Bounded.{allowed_size}
use Rattle.term_values.specs.FitTest.{all_fit, rise_from, value_fits}
use Rattle.term_values.specs.Syntaxes.{TypeSyntax}
use Rattle.term_values.specs.Syntaxes.TypeSyntax.{SequenceOf, SetOf, Tagged}
use Rattle.term_values.specs.Typed.{TypedValues}
use Rattle.term_values.specs.ValueContents.{member_encodings}
use Rattle.term_values.specs.Written.{der}

-- each member is of the type's member type, and those of a SET OF stand by the rising order of their encodings
abbrev pub members_fit : TypeSyntax → TypedValues → Bool
members_fit (SequenceOf member sizes) members = all_fit (value_fits member) members
members_fit (SetOf member sizes) members =
    all_fit (value_fits member) members && rise_from [] (member_encodings (der member) members)
members_fit (Tagged tag explicit of) members = members_fit of members
members_fit _ members = false

-- the type admits so many members
abbrev pub number_fits : TypeSyntax → ℕ → Bool
number_fits (SequenceOf member sizes) number = allowed_size sizes number
number_fits (SetOf member sizes) number = allowed_size sizes number
number_fits (Tagged tag explicit of) number = number_fits of number
number_fits _ number = false

-- the members are those of each of these types
abbrev pub all_members_fit : List TypeSyntax → TypedValues → Bool
all_members_fit types members = list_all (λ type. members_fit type members) types

-- each of these types admits so many members
abbrev pub all_numbers_fit : List TypeSyntax → ℕ → Bool
all_numbers_fit types number = list_all (λ type. number_fits type number) types
