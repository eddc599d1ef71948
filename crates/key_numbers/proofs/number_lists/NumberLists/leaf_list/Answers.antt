-- The list of what has no parts.
use Rattle.std.proofs.Common.{[]}
use Rattle.key_numbers.specs.NumberedLists.IsList.{empty}
use Rattle.key_numbers.proofs.number_lists.NumberLists.leaf_list.Goals as goal

pub returns-clause-is : goal.returns-clause-is
returns-clause-is c = c.in_ok-list.ensures.is _ (c.in_ok-named.ensures.is _ (c.in_ok-counted.ensures.is _
    (c.in_ok-kind_alone.ensures.is [] empty)))
