-- The number of the name, and what it tells.
use Rattle.key_numbers.proofs.SketchLaws.{sketch_grows}
use Rattle.key_numbers.proofs.number_lists.NumberLists.names_number.Goals as goal

pub returns-clause-told : goal.returns-clause-told
returns-clause-told c = λ key is.
    c.number_called.ensures c.args.name.now key c.in_ok-called.ensures.is (sketch_grows c.leaf.ensures.grows is)
