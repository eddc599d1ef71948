use Rattle.std.proofs.Common.{◌≡◌, ◌-◌, Some, length, arith, rules, subst, sym}
use Rattle.std.specs.Prelude.{slice_get}
use Rattle.lock_model.specs.PathEnds.{ended}
use Rattle.subtree_locks.proofs.Ends.{ended_last}
use Rattle.subtree_locks.proofs.looking.place_at.Goals as goal

pub returns-clause-place : goal.returns-clause-place
returns-clause-place c =
    let path = c.args.row.now.path in
    let is : slice_get path c.args.at ≡ Some c.in_ok-place.place.now = search rules in
    let is_last : slice_get path (length path - 1) ≡ Some c.in_ok-last.last.now = search rules in
    subst (λ e. slice_get (ended path e) c.args.at ≡ Some (c.in_ok-place.place.now.0, c.in_ok-last.last.now.1))
    (sym c.in-Some.is)
    (ended_last path c.in-Some.end c.args.at c.in_ok-place.place.now c.in_ok-last.last.now is is_last
    (omega (arith, c.if-at-end.false, c.if-at-end-2.false)))
