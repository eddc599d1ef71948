use Rattle.std.proofs.Common.{◌≡◌, ◌≤◌, take}
use Rattle.gdmo_names.specs.FoundViews.{found_views}
use Rattle.gdmo_names.specs.Roles.{kind_term}
use Rattle.template_compile.specs.Counting.{kind_count}
use Rattle.template_compile.proofs.template_counts.kind_count.Given as goal

abbrev pub invariant-loop-template : goal.invariant-loop-template
invariant-loop-template l = record {
  counted : l.count ≡ kind_count (kind_term l.kind) (found_views (take l.template-index l.templates));
  small : l.count ≤ l.template-index;
}
