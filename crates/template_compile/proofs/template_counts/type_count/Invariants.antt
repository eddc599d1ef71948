use Rattle.std.proofs.Common.{◌≡◌, take, min}
use Rattle.std.specs.Prelude.{sum_by}
use Rattle.template_compile.specs.Counting.{types_of}
use Rattle.template_compile.proofs.template_counts.type_count.Given as goal

abbrev pub invariant-loop-each : goal.invariant-loop-each
invariant-loop-each l = l.count ≡ min (sum_by types_of (take l.each-index l.modules)) 18446744073709551615
