use Rattle.std.proofs.Common.{◌≡◌, false, take}
use Rattle.std.specs.List.{list_any}
use Rattle.template_compile.specs.Counting.{is_instances}
use Rattle.template_compile.proofs.compiling.has_instances.Given as goal

abbrev pub invariant-loop-section : goal.invariant-loop-section
invariant-loop-section l = list_any is_instances (take l.section-index l.sections) ≡ false
