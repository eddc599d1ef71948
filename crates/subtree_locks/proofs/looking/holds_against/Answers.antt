use Rattle.std.proofs.Common.{◌≡◌, ◌∙◌, Some, None, arith, rules, sym}
use Rattle.std.specs.Prelude.{slice_get}
use Rattle.subtree_locks.specs.LockRows.{path_now}
use Rattle.subtree_locks.proofs.Barring.{bars_gone, bars_none, bars_there}
use Rattle.subtree_locks.proofs.Ends.{ended_way}
use Rattle.subtree_locks.proofs.looking.holds_against.Goals as goal

pub returns-then-row-at : goal.returns-then-row-at
returns-then-row-at c =
    sym (bars_none (path_now c.args.row.now) (c.args.lock.now, c.args.mode) c.args.row.now.held c.args.at
    (ended_way c.args.row.now.path c.args.row.now.end c.requires.row.way) c.requires.depth
    (omega (arith, c.if-row-at.true)))

pub returns-in-None : goal.returns-in-None
returns-in-None c =
    let away : slice_get (path_now c.args.row.now) c.args.at ≡ None = search rules in
    sym (bars_gone (path_now c.args.row.now) (c.args.lock.now, c.args.mode) c.args.row.now.held c.args.at
    (ended_way c.args.row.now.path c.args.row.now.end c.requires.row.way) c.requires.depth away)

pub returns-in-Some : goal.returns-in-Some
returns-in-Some c =
    let is : slice_get (path_now c.args.row.now) c.args.at ≡ Some (c.in-Some.held.now, c.in-Some.held_mode) =
    search rules in
    c.is_against.ensures
    ∙ sym (bars_there (path_now c.args.row.now) (c.args.lock.now, c.args.mode) (c.in-Some.held.now, c.in-Some.held_mode)
    c.args.row.now.held c.args.at (ended_way c.args.row.now.path c.args.row.now.end c.requires.row.way) c.requires.depth
    (omega (arith, c.if-row-at.false)) is)
