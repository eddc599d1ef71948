use Rattle.std.proofs.Common.{◌≡◌, ◌++◌, drop}
use Rattle.term_values.specs.Strings.{cleared}
use Rattle.ber_values.proofs.string_reading.append_cleared.Given as goal

abbrev pub invariant-loop-i : goal.invariant-loop-i
invariant-loop-i l =
    l.fn.into.items ++ cleared l.unused l.given ≡ l.into.items ++ cleared l.unused (drop l.i l.given)
