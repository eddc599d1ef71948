-- The parts of a list.
use Rattle.std.proofs.Math.Path.{subst}
use Rattle.key_numbers.specs.NumberedLists.{IsList}
use Rattle.key_numbers.proofs.ListLaws.{list_empty, list_parted}
use Rattle.key_numbers.proofs.number_lists.NumberLists.parted.Goals as goal

pub returns-in-Some : goal.returns-in-Some
returns-in-Some c = λ xs is.
    let found = c.in-Some.ensures in
    list_parted c.args.self.now found.0 c.in-Some.before c.in-Some.last _ found.2 xs
    (subst (λ n. IsList c.args.self.now n xs) found.1 is)

pub returns-in-None : goal.returns-in-None
returns-in-None c = list_empty c.args.self.now c.args.list c.in-None.ensures
