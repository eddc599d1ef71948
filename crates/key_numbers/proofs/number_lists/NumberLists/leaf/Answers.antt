-- What has no parts.
use Rattle.key_numbers.proofs.BuildingLaws.{leaf_told}
use Rattle.key_numbers.proofs.number_lists.NumberLists.leaf.Goals as goal

pub returns-clause-is : goal.returns-clause-is
returns-clause-is c = leaf_told c.args.self.now c.leaf_list.new.self c.number_of.new.self c.in_ok-list.list
    c.in_ok-number.number c.number_of.ensures.grows c.in_ok-number.ensures.is c.in_ok-list.ensures.is
