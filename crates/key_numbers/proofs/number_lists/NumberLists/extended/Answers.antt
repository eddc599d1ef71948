-- A list with one number more.
use Rattle.key_numbers.proofs.ListLaws.{list_extended}
use Rattle.key_numbers.proofs.number_lists.NumberLists.extended.Goals as goal

pub returns-clause-is : goal.returns-clause-is
returns-clause-is c = list_extended c.args.self.now c.number_of.new.self c.args.before c.known-known.result
    c.args.last _ c.number_of.ensures.grows c.known-known.ensures.same c.in_ok-number.ensures.is
