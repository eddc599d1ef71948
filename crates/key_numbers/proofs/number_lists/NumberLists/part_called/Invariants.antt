-- The way down ends, and the parts that are left tell what all tell.
use Rattle.key_numbers.proofs.NameLaws.{PartsLeft}
use Rattle.key_numbers.proofs.number_lists.NumberLists.part_called.Given as goal

abbrev pub invariant-parts : goal.invariant-parts
invariant-parts l = PartsLeft l.self l.called l.fn.parts l.at

abbrev pub decreases-parts : goal.decreases-parts
decreases-parts l = l.at
