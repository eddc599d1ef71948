-- A name that is new has its arcs, and one that is there keeps what it has.
use Rattle.std.proofs.Common.{rules, ◌≡◌, List, ℕ, None}
use Rattle.asn1_leaf_values.proofs.NameLaws.{name_kept}
use Rattle.asn1_leaf_values.specs.FirstNames.{arcs_named}
use Rattle.asn1_leaf_values.proofs.arcs.add_first_name.Goals as goal

pub returns-in_ok-insert : goal.returns-in_ok-insert
returns-in_ok-insert c =
    let new : arcs_named c.args.names.now c.args.name.now ≡ None = search rules in
    name_kept (arcs_named c.args.names.now) (arcs_named c.insert.new.self) c.args.name.now c.args.arcs new
    (λ name. c.in_ok-insert.ensures.updates.0 (record { ref_ptr = (0, 0); now = name }))
