-- None of those so far is it.
use Rattle.std.proofs.Common.{◌≡◌, take, false}
use Rattle.std.specs.List.{list_any}
use Rattle.term_model.specs.Comparing.{is_same_oid}
use Rattle.op_life.proofs.licensing.is_listed.Given as goal

abbrev pub invariant-loop-other : goal.invariant-loop-other
invariant-loop-other l =
    list_any (is_same_oid l.id) (take l.other-index l.ids) ≡ false
