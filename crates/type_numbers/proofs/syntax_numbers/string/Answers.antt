-- A string type.
use Rattle.std.proofs.Math.Path.{subst}
use Rattle.key_numbers.specs.KeyNumbers.{IsSketchNumber}
use Rattle.key_numbers.proofs.SketchLaws.{sketch_grows}
use Rattle.type_numbers.proofs.syntax_numbers.string.Goals as goal

pub returns-clause-is : goal.returns-clause-is
returns-clause-is c =
    c.in_ok-number.ensures.is _ _ (sketch_grows c.leaf.ensures.grows c.in_ok-bounds.ensures.is)
    (subst (λ x. IsSketchNumber c.leaf.new.self x c.in_ok-kind.kind) c.kind_of_charset.ensures c.in_ok-kind.ensures.is)
