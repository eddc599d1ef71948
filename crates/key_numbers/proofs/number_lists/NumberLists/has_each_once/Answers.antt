-- Nothing has two numbers.
use Rattle.std.proofs.Math.Path.{subst}
use Rattle.key_numbers.proofs.ListLaws.{are_once}
use Rattle.key_numbers.specs.NumberedLists.{AreOnce}
use Rattle.key_numbers.proofs.number_lists.NumberLists.has_each_once.Goals as goal

pub returns : goal.returns
returns c = subst AreOnce c.self.view_is (are_once c.self.inside.row.items c.self.inside.places c.self.invariant)
