use Rattle.std.proofs.Common.{◌≡◌, drop}
use Rattle.term_values.specs.Bounded.{is_named}
use Rattle.term_values.proofs.syntax.Names.have.Given as goal

abbrev pub invariant-loop-named : goal.invariant-loop-named
invariant-loop-named l = is_named l.named-items l.number ≡ is_named (drop l.named-index l.named-items) l.number
