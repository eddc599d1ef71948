-- One more class has its lists.
use Rattle.std.proofs.Common.{ℕ, List, sym, subst}
use Rattle.set_report.specs.HasLists.{HasLists}
use Rattle.set_report.proofs.DoneLaws.{done_more}
use Rattle.set_report.proofs.list_tables.add_lists.Goals as goal

pub returns : goal.returns
returns c =
    done_more c.args.records.now c.args.table.now c.insert.new.self c.in_ok-id.id c.in_ok-lists.lists c.requires
    (subst (λ (id : List ℕ). HasLists c.args.records.now id c.in_ok-lists.lists) (sym c.in_ok-id.ensures)
    c.in_ok-lists.ensures)
    c.in_ok-insert.ensures.updates.0
