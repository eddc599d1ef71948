-- The whole path, the depth of the next place, and that none bars it.
use Rattle.std.proofs.Common.{◌≡◌, ◌∙◌, Some, ap, length, subst, sym}
use Rattle.std.specs.Prelude.{slice_get}
use Rattle.std.proofs.lemmas.Option.{same_Some}
use Rattle.subtree_locks.specs.declared.lock_table.Row.{Row}
use Rattle.subtree_locks.specs.LockRows.{path_now}
use Rattle.subtree_locks.proofs.Ends.{ended_way}
use Rattle.subtree_locks.proofs.Tables.{full_there}
use Rattle.subtree_locks.proofs.looking.look.Goals as goal

pub returns-in_default-place_at-clause-answer : goal.returns-in_default-place_at-clause-answer
returns-in_default-place_at-clause-answer c = λ row there.
    let good = c.requires.table.each c.args.op c.in-Some.row.now (sym c.in-Some.ensures.value) in
    subst (λ (r : Row). r.held ≡ length (path_now r))
    (same_Some c.in-Some.row.now row (c.in-Some.ensures.value ∙ there))
    (full_there c.in-Some.row.now good c.in_default-place_at.ensures.place)

pub barring-requires-clause-depth : goal.barring-requires-clause-depth
barring-requires-clause-depth c =
    let good = c.requires.table.each c.args.op c.in-Some.row.now (sym c.in-Some.ensures.value) in
    ended_way c.in-Some.row.now.path c.in-Some.row.now.end good.way c.in-Some.row.now.held
    (c.in-Some-place_at.lock.now, c.in-Some-place_at.mode) c.in-Some-place_at.ensures.place

pub returns-in-None-clause-answer : goal.returns-in-None-clause-answer
returns-in-None-clause-answer c = λ row there.
    let same = same_Some c.in-Some.row.now row (c.in-Some.ensures.value ∙ there) in (
      ap (λ (r : Row). r.held) same,
      (
        (c.in-Some-place_at.lock.now, c.in-Some-place_at.mode),
        subst (λ (r : Row). slice_get (path_now r) c.in-Some.row.now.held
            ≡ Some (c.in-Some-place_at.lock.now, c.in-Some-place_at.mode)) same c.in-Some-place_at.ensures.place,
        c.in-None.ensures,
      ),
    )
