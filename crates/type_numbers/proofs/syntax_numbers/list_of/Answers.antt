-- The elements of a list.
use Rattle.key_numbers.proofs.SketchLaws.{sketch_grows}
use Rattle.type_numbers.proofs.syntax_numbers.list_of.Goals as goal

pub returns-clause-is : goal.returns-clause-is
returns-clause-is c = λ x is.
    c.in_ok-number.ensures.is _ _ c.in_ok-bounds.ensures.is (sketch_grows c.bounds.ensures.grows is)
