-- A value in a name that nests deeper than octets of a manager may, computed: X.690, section 8.1; docs/PROFILE.md,
-- sections 3 and 16.
use Rattle.std.specs.Prelude.{◌≡◌, ℕ, zero, suc, pos, ◌+◌, ◌*◌, List, [], ◌∷◌, None, Some, refl}
use Rattle.term_values.specs.BerReading.{front_of, identifier_of, length_at, tree_in}
use Rattle.term_values.specs.Octets.{integer_in}
use Rattle.term_values.specs.Syntaxes.{TypeSyntax}
use Rattle.term_values.specs.Syntaxes.TypeSyntax.{Integer, SequenceOf}
use Rattle.term_values.specs.Typed.{TypedValue}
use Rattle.term_values.specs.Typed.TypedValue.{Int, Many}
use Rattle.term_values.specs.Typed.TypedValues.{Nothing, Then}
use Rattle.term_model.specs.CreateValues.{value_of_octets}

-- so many SEQUENCE OF in one another, and INTEGER in them
abbrev lists : ℕ → TypeSyntax
lists zero = Integer [] []
lists (suc n) = SequenceOf (lists n) []

-- the number 5 in so many lists
abbrev five_in : ℕ → TypedValue
five_in zero = Int (pos 5)
five_in (suc n) = Many (Then (five_in n) Nothing)

-- its octets
abbrev nested : ℕ → List ℕ
nested zero = 0x02 ∷ 0x01 ∷ 0x05 ∷ []
nested (suc n) = 0x30 ∷ (3 + 2 * n) ∷ nested n

-- a manager may bring 32 of them, and no more
too_deep : tree_in (nested 33) ≡ None
unfolding front_of length_at identifier_of
too_deep = refl

-- a name may hold more
deep : value_of_octets (lists 33) (nested 33) ≡ Some (five_in 33)
unfolding front_of length_at identifier_of integer_in
deep = refl
