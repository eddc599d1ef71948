-- The identifiers in a list of values.
use Rattle.std.proofs.Common.{◌≡◌, ◌++◌, List, [], ◌∷◌, refl, ap}
use Rattle.std.specs.Prelude.{flat_map}
use Rattle.term_values.specs.Typed.{TypedValue, listed}
use Rattle.term_model.specs.Creation.{identifiers_among, identifiers_of}

pub among : (xs : List TypedValue) → flat_map identifiers_of xs ≡ identifiers_among (listed xs)
among [] = refl
among (x ∷ xs) = ap (λ ys. identifiers_of x ++ ys) (among xs)
