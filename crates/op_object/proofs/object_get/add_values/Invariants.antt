-- What was appended so far.
use Rattle.std.proofs.Common.{◌≡◌, ◌++◌}
use Rattle.std.specs.Prelude.{map}
use Rattle.term_model.specs.declared.results.GetInfoStatus.TheVariants as get_info
use Rattle.op_object.proofs.object_get.add_values.Given as goal

abbrev pub invariant-loop-value : goal.invariant-loop-value
invariant-loop-value l = l.errors.items ≡ l.fn.errors.items ++ map get_info.Attribute l.yielded
