-- Members beside their encodings.
use Rattle.std.specs.Prelude.{ℕ, List, [], ◌∷◌}
use Rattle.term_values.specs.Typed.{TypedValue, TypedValues}
use Rattle.term_values.specs.Typed.TypedValues.{Nothing, Then}
use Rattle.ber_values.specs.declared.member_order.Member.{Member}

-- each member beside its encoding
abbrev pub beside : (TypedValue → List ℕ) → TypedValues → List Member
beside encoding Nothing = []
beside encoding (Then x xs) = record { octets = encoding x; value = x } ∷ beside encoding xs

-- the members alone
abbrev pub members_of : List Member → TypedValues
members_of [] = Nothing
members_of (x ∷ xs) = Then x.value (members_of xs)
