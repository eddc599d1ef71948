-- A row more, the first one that bars, and all of them.
use Rattle.std.proofs.Common.{◌∙◌, sym, subst}
use Rattle.std.proofs.lemmas.Map.Iter.{btree_map_turn, rest_all, rest_more}
use Rattle.std.specs.Cmp.{nat_cmp_total}
use Rattle.std.specs.Map.Iter.{deref_pair}
use Rattle.subtree_locks.specs.LockRows.{LockRows}
use Rattle.subtree_locks.proofs.Tables.{Unbarred, barred_by, unbarred_last, unbarred_step}
use Rattle.subtree_locks.proofs.looking.barring.Goals as goal

pub bars_next-barred-requires-clause-row : goal.bars_next-barred-requires-clause-row
bars_next-barred-requires-clause-row c =
    let gives = c.into_iter-other-iterator.ensures.into_iter_gives in
    let turn = btree_map_turn deref_pair c.loop-other.yielded c.into_iter-other-iterator.result
    c.loop-other.other-iterator c.next.new.self c.next.result (c.in-Some.other, c.in-Some.row) c.loop-other.yielded_by
    c.in-Some.is c.next.ensures.steps nat_cmp_total c.args.rows.now gives.0 gives.5 in
    c.requires.table.each c.in-Some.other.now c.in-Some.row.now turn.1

pub returns-then-barred : goal.returns-then-barred
returns-then-barred c =
    let gives = c.into_iter-other-iterator.ensures.into_iter_gives in
    let turn = btree_map_turn deref_pair c.loop-other.yielded c.into_iter-other-iterator.result
    c.loop-other.other-iterator c.next.new.self c.next.result (c.in-Some.other, c.in-Some.row) c.loop-other.yielded_by
    c.in-Some.is c.next.ensures.steps nat_cmp_total c.args.rows.now gives.0 gives.5 in
    barred_by c.args.rows.now.entries c.args.op c.in-Some.other.now c.in-Some.row.now (c.args.lock.now, c.args.mode)
    turn.1 (sym c.bars_next-barred.ensures ∙ c.if-barred.true)

pub loop-other-preserved : goal.loop-other-preserved
loop-other-preserved c =
    let step = rest_more deref_pair c.loop-other.other-iterator c.next.new.self c.next.result
    (c.in-Some.other, c.in-Some.row) c.in-Some.is c.next.ensures.steps in
    unbarred_step c.args.rows.now.entries c.next.new.self c.args.op c.in-Some.other.now c.in-Some.row.now
    (c.args.lock.now, c.args.mode)
    (subst (λ (left : LockRows). Unbarred c.args.rows.now.entries c.args.op (c.args.lock.now, c.args.mode) left) step
    c.loop-other.invariant)
    (sym c.bars_next-barred.ensures ∙ c.if-barred.false)

pub returns : goal.returns
returns c =
    unbarred_last c.args.rows.now.entries c.loop-other.other-iterator c.args.op (c.args.lock.now, c.args.mode)
    c.loop-other.invariant
    (rest_all deref_pair c.loop-other.other-iterator c.next.new.self c.next.result c.in-None.is c.next.ensures.steps)
