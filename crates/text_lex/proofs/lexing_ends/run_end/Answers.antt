-- At the end of the text the run stops.
use Rattle.std.proofs.Common.{arith}
use Rattle.text_lex.proofs.lexing_ends.run_end.Goals as goal

pub returns-clause-run : goal.returns-clause-run
returns-clause-run c = record {
  forward = omega arith;
  within = omega arith;
  each = c.loop-at.invariant.each;
  stops = λ lt. absurd (omega arith);
}
