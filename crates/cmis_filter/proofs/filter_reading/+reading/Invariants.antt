use Rattle.std.proofs.Common.{◌≡◌, drop, option_map}
use Rattle.term_values.specs.Tree.{listed}
use Rattle.term_model.specs.FilterReading.{filters_in}
use Rattle.cmis_filter.proofs.ReadingLaws.{filters_before}
use Rattle.cmis_filter.proofs.filter_reading.+reading.Given as goal

abbrev pub invariant-filters_of-loop-tree : goal.invariant-filters_of-loop-tree
invariant-filters_of-loop-tree l =
    filters_in l.set.attributes (listed l.tree-items)
    ≡ option_map (filters_before l.items.items) (filters_in l.set.attributes (listed (drop l.tree-index l.tree-items)))
