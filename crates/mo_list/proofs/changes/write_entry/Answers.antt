use Rattle.std.proofs.Common.{◌∙◌, ap, sym, if◌then◌else◌}
use Rattle.std.specs.Prelude.{insert, slice_set}
use Rattle.mo_list.specs.Entries.{objects_in}
use Rattle.mo_list.proofs.ChangeLaws.{insert_objects, set_objects}
use Rattle.mo_list.proofs.changes.write_entry.Goals as goal

pub returns-then-had-clause-written : goal.returns-then-had-clause-written
returns-then-had-clause-written c =
    let old = c.args.entries.now.items in
    let at = c.args.at in
    let entry = c.args.entry in
    set_objects c.reserve.new.self.items at c.in-Ok.shared entry c.in-Ok.ensures.ok
    ∙ ap (λ xs. slice_set (objects_in xs) at entry) c.reserve.ensures.items
    ∙ sym (ap (λ b. if b then slice_set (objects_in old) at entry else insert (objects_in old) at entry) c.if-had.true)

pub returns-clause-written : goal.returns-clause-written
returns-clause-written c =
    let old = c.args.entries.now.items in
    let at = c.args.at in
    let entry = c.args.entry in
    ap (λ xs. objects_in xs) c.in-Ok-insert.ensures.items
    ∙ insert_objects c.reserve.new.self.items at c.in-Ok.shared entry c.in-Ok.ensures.ok
    ∙ ap (λ xs. insert (objects_in xs) at entry) c.reserve.ensures.items
    ∙ sym (ap (λ b. if b then slice_set (objects_in old) at entry else insert (objects_in old) at entry) c.if-had.false)
