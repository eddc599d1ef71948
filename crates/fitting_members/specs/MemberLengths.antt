-- How many octets the members of a value of SET OF take together, its contents octets: X.690, sections 8.12 and 11.6.
use Rattle.std.specs.Prelude.{ℕ, List, [], length}
use Rattle.term_values.specs.MatchingKinds.{beneath_tags}
use Rattle.term_values.specs.Rearranged.{joined}
use Rattle.term_values.specs.Syntaxes.{TypeSyntax}
use Rattle.term_values.specs.Syntaxes.TypeSyntax.{SetOf}
use Rattle.term_values.specs.Typed.{TypedValue}
use Rattle.term_values.specs.ValueContents.{of_members}
use Rattle.term_values.specs.Written.{der}

-- the encodings of the members, one after the other; what is no SET OF has none
abbrev pub set_contents : TypeSyntax → TypedValue → List ℕ
set_contents (SetOf member sizes) value = joined (of_members (der member) value)
set_contents _ value = []

-- the octets of all members of a value of SET OF, beneath its tags
abbrev pub members_length : TypeSyntax → TypedValue → ℕ
members_length syntax value = length (set_contents (beneath_tags syntax) value)
