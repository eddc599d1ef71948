-- What was counted, from the last member on.
use Rattle.std.proofs.Common.{◌≡◌, drop}
use Rattle.term_values.specs.Lengths.{octet_count}
use Rattle.term_values.specs.Rearranged.{joined}
use Rattle.term_values.specs.Typed.{listed}
use Rattle.term_values.specs.ValueContents.{member_encodings}
use Rattle.term_values.specs.Written.{der}
use Rattle.fitting_members.proofs.octet_counts.count_each.Given as goal

abbrev pub invariant-loop-i : goal.invariant-loop-i
invariant-loop-i l =
    l.total ≡ octet_count (joined (member_encodings (der l.member) (listed (drop l.i l.items))))
