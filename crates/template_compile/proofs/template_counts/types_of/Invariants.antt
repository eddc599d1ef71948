use Rattle.std.proofs.Common.{◌≡◌, ◌≤◌, take}
use Rattle.std.specs.Prelude.{count_by}
use Rattle.template_compile.specs.Counting.{is_type}
use Rattle.template_compile.proofs.template_counts.types_of.Given as goal

abbrev pub invariant-loop-assignment : goal.invariant-loop-assignment
invariant-loop-assignment l = record {
  counted : l.count ≡ count_by (λ assignment. is_type assignment.assigned) (take l.assignment-index l.assignment-items);
  small : l.count ≤ l.assignment-index;
}
