use Rattle.std.proofs.Common.{◌≡◌, drop}
use Rattle.term_model.specs.FilterTrees.{filters_listed}
use Rattle.term_model.specs.FilterTruth.{are_valid}
use Rattle.cmis_filter.proofs.validity.+validity.Given as goal

abbrev pub invariant-are_valid-loop-filter : goal.invariant-are_valid-loop-filter
invariant-are_valid-loop-filter l =
    are_valid l.set.attributes (filters_listed l.filter-items)
    ≡ are_valid l.set.attributes (filters_listed (drop l.filter-index l.filter-items))
