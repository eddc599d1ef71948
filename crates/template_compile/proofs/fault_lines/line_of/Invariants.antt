use Rattle.std.proofs.Common.{◌≡◌, ◌≤◌, ◌+◌, ◌==◌, take}
use Rattle.std.specs.Prelude.{count_by}
use Rattle.template_compile.proofs.fault_lines.line_of.Given as goal

abbrev pub invariant-loop-octet : goal.invariant-loop-octet
invariant-loop-octet l = record {
  counted : l.line ≡ count_by (λ octet. octet == 10) (take l.octet-index l.before) + 1;
  small : l.line ≤ l.octet-index + 1;
}
