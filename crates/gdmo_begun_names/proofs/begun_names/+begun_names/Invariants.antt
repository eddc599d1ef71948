-- None of the parts so far.
use Rattle.std.proofs.Common.{take}
use Rattle.gdmo_begun_names.proofs.MayLaws.{NoneMay}
use Rattle.gdmo_begun_names.proofs.begun_names.+begun_names.Given as goal

abbrev pub invariant-may_begin-loop-part : goal.invariant-may_begin-loop-part
invariant-may_begin-loop-part l = NoneMay l.names (take l.part-index l.part-items)
