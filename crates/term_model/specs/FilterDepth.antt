-- What stands inside a filter has fewer nodes than the filter.
use Rattle.std.specs.Prelude.{◌≤◌, max}
use Rattle.std.proofs.Common.{arith}
use Rattle.term_model.specs.declared.filter.FilterForm.{FilterForm}
use Rattle.term_model.specs.declared.filter.FilterForm.TheVariants as forms
use Rattle.term_model.specs.declared.filter.Filter.TheDeep.{deep-FilterForm}
use Rattle.term_model.specs.FilterSize.{nodes}
use Rattle.term_model.specs.FilterView.{filter_of}

pub depth_below_nodes : (form : FilterForm) → max (deep-FilterForm form) 0 ≤ nodes (filter_of form)
depth_below_nodes (forms.Item item) = omega arith
depth_below_nodes (forms.And filters) = omega arith
depth_below_nodes (forms.Or filters) = omega arith
depth_below_nodes (forms.Not filter) = omega arith
