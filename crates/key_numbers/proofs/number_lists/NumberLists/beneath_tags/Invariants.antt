-- The way down ends.
use Rattle.key_numbers.proofs.QueryLaws.{IsBeneath}
use Rattle.key_numbers.proofs.number_lists.NumberLists.beneath_tags.Given as goal

abbrev pub invariant-tags : goal.invariant-tags
invariant-tags l = IsBeneath l.self l.number l.at

abbrev pub decreases-tags : goal.decreases-tags
decreases-tags l = l.at
