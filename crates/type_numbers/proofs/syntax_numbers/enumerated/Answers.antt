-- ENUMERATED.
use Rattle.key_numbers.proofs.SketchLaws.{sketch_grows}
use Rattle.type_numbers.proofs.syntax_numbers.enumerated.Goals as goal

pub returns-clause-is : goal.returns-clause-is
returns-clause-is c =
    c.in_ok-number.ensures.is _ _ (sketch_grows c.names.ensures.grows c.in_ok-nothing.ensures.is) c.in_ok-names.ensures.is
