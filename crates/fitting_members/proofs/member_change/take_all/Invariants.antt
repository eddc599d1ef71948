-- What is left to take out, the last first.
use Rattle.std.proofs.Common.{◌≡◌, take}
use Rattle.term_values.specs.Typed.{listed}
use Rattle.fitting_members.specs.TakingBack.{without_all}
use Rattle.fitting_members.proofs.member_change.take_all.Given as goal

abbrev pub invariant-loop-i : goal.invariant-loop-i
invariant-loop-i l =
    without_all (take l.i l.places) (listed l.items.items) ≡ without_all l.places (listed l.fn.items.items)
