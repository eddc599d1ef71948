use Rattle.std.proofs.Common.{rules, ◌≡◌, None}
use Rattle.asn1_names.proofs.FirstLaws.{first_kept}
use Rattle.asn1_names.specs.FirstNames.{found}
use Rattle.gdmo_first_names.proofs.assigned_names.keep_first.Goals as goal

pub returns-in_ok-insert : goal.returns-in_ok-insert
returns-in_ok-insert c =
    let new : found c.args.table.now c.args.key.now ≡ None = search rules in
    first_kept (found c.args.table.now) (found c.insert.new.self) c.args.key.now c.args.value new
    (λ name. c.in_ok-insert.ensures.updates.0 (record { ref_ptr = (0, 0); now = name }))
