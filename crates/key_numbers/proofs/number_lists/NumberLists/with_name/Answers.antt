-- A name before others.
use Rattle.std.proofs.Common.{[], ◌∷◌, ℤ, rules, w64}
use Rattle.std.proofs.Math.Facts.{to_z-of_z}
use Rattle.std.proofs.Math.Path.{subst}
use Rattle.term_values.specs.Sketch.Sketch.{Join, Leaf}
use Rattle.key_numbers.specs.KeyNumbers.{IsSketchNumber}
use Rattle.key_numbers.proofs.SketchLaws.{sketch_grows}
use Rattle.key_numbers.proofs.number_lists.NumberLists.with_name.Goals as goal

pub returns-clause-is : goal.returns-clause-is
returns-clause-is c = λ rest is.
    subst (λ (z : ℤ). IsSketchNumber c.joined-2.new.self (Join 0 (Leaf 0 c.args.entry.now.0 [])
    (Join 0 (Leaf 0 [] ((z, z) ∷ [])) rest)) c.in_ok-number.number)
    (to_z-of_z {w = w64} {z = c.args.entry.now.1} (search rules))
    (c.in_ok-number.ensures.is _ _ (sketch_grows c.joined.ensures.grows (sketch_grows c.number_alone.ensures.grows
    (subst (λ name. IsSketchNumber c.leaf.new.self (Leaf 0 name []) c.in_ok-called.called) c.as_slice.ensures
    c.in_ok-called.ensures.is))) (c.in_ok-more.ensures.is _ _ c.in_ok-numbered.ensures.is
    (sketch_grows c.number_alone.ensures.grows (sketch_grows c.leaf.ensures.grows is))))
