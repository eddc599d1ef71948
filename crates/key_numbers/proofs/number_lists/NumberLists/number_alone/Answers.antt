-- A number alone.
use Rattle.std.proofs.Common.{[], ◌∷◌, ℤ, rules, w64}
use Rattle.std.proofs.Math.Facts.{to_z-of_z}
use Rattle.std.proofs.Math.Path.{subst}
use Rattle.term_values.specs.Sketch.Sketch.{Leaf}
use Rattle.key_numbers.specs.KeyNumbers.{IsSketchNumber}
use Rattle.key_numbers.proofs.number_lists.NumberLists.number_alone.Goals as goal

pub returns-clause-is : goal.returns-clause-is
returns-clause-is c = subst (λ (z : ℤ). IsSketchNumber c.leaf.new.self (Leaf 0 [] ((z, z) ∷ [])) c.in_ok-found.found)
    (to_z-of_z {w = w64} {z = c.args.number} (search rules)) c.in_ok-found.ensures.is
