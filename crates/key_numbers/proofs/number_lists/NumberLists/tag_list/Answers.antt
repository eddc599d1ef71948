-- The list of a tag.
use Rattle.std.proofs.Common.{[]}
use Rattle.key_numbers.specs.NumberedLists.IsList.{empty}
use Rattle.key_numbers.proofs.BuildingLaws.{tag_told}
use Rattle.key_numbers.proofs.number_lists.NumberLists.tag_list.Goals as goal

pub returns-clause-is : goal.returns-clause-is
returns-clause-is c = tag_told c.extended-4.new.self c.in_ok-list.list c.mark_of.result c.args.tag c.args.explicit
    c.mark_of.ensures (c.in_ok-list.ensures.is _ (c.in_ok-classed.ensures.is _ (c.in_ok-counted.ensures.is _
    (c.in_ok-kind.ensures.is [] empty))))
