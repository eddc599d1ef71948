use Rattle.std.proofs.Common.{◌≡◌, ◌++◌, drop}
use Rattle.term_values.specs.Der.{written_all}
use Rattle.term_values.specs.Tree.{listed}
use Rattle.value_fits.proofs.kept.contents_of.Given as goal

abbrev pub invariant-loop-one : goal.invariant-loop-one
invariant-loop-one l =
    l.contents.items ++ written_all (listed (drop l.one-index l.one-items)) ≡ written_all (listed l.one-items)
