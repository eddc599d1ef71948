use Rattle.std.proofs.Common.{◌≡◌, [], drop}
use Rattle.term_values.specs.Typed.{listed}
use Rattle.term_values.specs.ValueContents.{member_encodings}
use Rattle.term_values.specs.Written.{der}
use Rattle.term_values.specs.FitTest.{rise_from}
use Rattle.value_fits.proofs.rising.are_rising.Given as goal

abbrev pub invariant-loop-value : goal.invariant-loop-value
invariant-loop-value l =
    rise_from [] (member_encodings (der l.member) (listed l.value-items))
    ≡ rise_from l.before (member_encodings (der l.member) (listed (drop l.value-index l.value-items)))
