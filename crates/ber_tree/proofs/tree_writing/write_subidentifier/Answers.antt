use Rattle.ber_tree.proofs.WritingLaws.{groups_appended}
use Rattle.ber_tree.proofs.tree_writing.write_subidentifier.Goals as goal

pub returns-clause-written : goal.returns-clause-written
returns-clause-written c =
    rw (
      c.in_ok-push.ensures.items,
      c.in_ok-write_group-4.ensures.written,
      c.in_ok-write_group-3.ensures.written,
      c.in_ok-write_group-2.ensures.written,
      c.in_ok-write_group.ensures.written,
    )
    (groups_appended c.args.into.now.items c.args.number)
