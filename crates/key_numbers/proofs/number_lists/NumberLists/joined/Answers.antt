-- Two that are joined.
use Rattle.key_numbers.proofs.BuildingLaws.{two_joined}
use Rattle.key_numbers.proofs.number_lists.NumberLists.joined.Goals as goal

pub returns-clause-is : goal.returns-clause-is
returns-clause-is c = two_joined c.args.self.now c.number_of.new.self c.args.kind c.args.one c.args.other
    c.known-left.result c.known-right.result c.in_ok-number.number c.number_of.ensures.grows c.known-left.ensures.same
    c.known-right.ensures.same c.in_ok-number.ensures.is
