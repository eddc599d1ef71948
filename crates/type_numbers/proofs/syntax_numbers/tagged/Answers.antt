-- What stands under a tag.
use Rattle.key_numbers.proofs.SketchLaws.{sketch_grows}
use Rattle.type_numbers.proofs.syntax_numbers.tagged.Goals as goal

pub returns-clause-is : goal.returns-clause-is
returns-clause-is c = λ key is.
    c.in_ok-number.ensures.is _ _ c.in_ok-own.ensures.is (sketch_grows c.tag.ensures.grows is)
