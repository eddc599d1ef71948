-- The way down ends, and the names that are left tell what all tell.
use Rattle.key_numbers.proofs.NameLaws.{NamesLeft}
use Rattle.key_numbers.proofs.number_lists.NumberLists.has_name.Given as goal

abbrev pub invariant-names : goal.invariant-names
invariant-names l = NamesLeft l.self l.called l.fn.names l.at

abbrev pub decreases-names : goal.decreases-names
decreases-names l = l.at
