-- What stands inside a value has fewer nodes than the value.
use Rattle.std.specs.Prelude.{◌≤◌, max}
use Rattle.std.proofs.Common.{arith}
use Rattle.term_values.specs.declared.value.ValueForm.{ValueForm}
use Rattle.term_values.specs.declared.value.ValueForm.TheVariants as forms
use Rattle.term_values.specs.declared.value.Slots.TheDeep.{deep-ValueForm}
use Rattle.term_values.specs.ValueSize.{nodes}
use Rattle.term_values.specs.ValueView.{value_of}

pub depth_below_nodes : (form : ValueForm) → max (deep-ValueForm form) 0 ≤ nodes (value_of form)
depth_below_nodes (forms.Bool holds) = omega arith
depth_below_nodes (forms.Int n) = omega arith
depth_below_nodes (forms.Bits octets unused) = omega arith
depth_below_nodes (forms.Octets octets) = omega arith
depth_below_nodes forms.Null = omega arith
depth_below_nodes (forms.Oid arcs) = omega arith
depth_below_nodes (forms.Text octets) = omega arith
depth_below_nodes (forms.Time octets) = omega arith
depth_below_nodes (forms.Parts slots) = omega arith
depth_below_nodes (forms.Many values) = omega arith
depth_below_nodes (forms.Pick n x) = omega arith
depth_below_nodes (forms.Raw octets) = omega arith
