-- How a filter of the program is seen.
use Rattle.term_model.specs.declared.filter.FilterForm.{FilterForm}
use Rattle.term_model.specs.declared.filter.FilterForm.TheVariants as forms
use Rattle.term_model.specs.FilterTrees.{FilterTree}
use Rattle.term_model.specs.FilterTrees.FilterTree.{OfItem, And, Or, Not}

abbrev pub filter_of : FilterForm → FilterTree
filter_of (forms.Item item) = OfItem item
filter_of (forms.And filters) = And filters
filter_of (forms.Or filters) = Or filters
filter_of (forms.Not filter) = Not filter.value
