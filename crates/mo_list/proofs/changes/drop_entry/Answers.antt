use Rattle.std.proofs.Common.{rules, ◌≡◌, ◌∙◌, ap}
use Rattle.std.specs.Prelude.{remove}
use Rattle.mo_list.specs.Entries.{objects_in, objects_of}
use Rattle.mo_list.proofs.ChangeLaws.{remove_objects}
use Rattle.mo_list.proofs.changes.drop_entry.Goals as goal

pub returns-in-Some-get_mut-clause-dropped : goal.returns-in-Some-get_mut-clause-dropped
returns-in-Some-get_mut-clause-dropped c =
    let same : objects_in c.in-Some-get_mut.entries.now.items ≡ objects_of c.args.list.now = search rules in
    ap (λ xs. objects_in xs) c.remove.ensures.items
    ∙ remove_objects c.in-Some-get_mut.entries.now.items c.args.at
    ∙ ap (λ objects. remove objects c.args.at) same
