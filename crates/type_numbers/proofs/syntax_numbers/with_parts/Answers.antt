-- Components or alternatives.
use Rattle.key_numbers.proofs.SketchLaws.{sketch_grows}
use Rattle.type_numbers.proofs.syntax_numbers.with_parts.Goals as goal

pub returns-clause-is : goal.returns-clause-is
returns-clause-is c = λ x is.
    c.in_ok-number.ensures.is _ _ c.in_ok-nothing.ensures.is (sketch_grows c.leaf.ensures.grows is)
