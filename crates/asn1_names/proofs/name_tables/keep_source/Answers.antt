use Rattle.std.proofs.Common.{Bor, List, ap, rules, ◌≡◌, ◌∙◌, ℕ, None, sym}
use Rattle.asn1_names.proofs.FirstLaws.{first_kept_view}
use Rattle.asn1_names.specs.FirstNames.{found}
use Rattle.asn1_names.proofs.name_tables.keep_source.Goals as goal

pub returns-in_ok-insert : goal.returns-in_ok-insert
returns-in_ok-insert c =
    let new : found c.args.table.now c.args.key.now ≡ None = search rules in
    first_kept_view (λ source. source.now) (found c.args.table.now) (found c.insert.new.self)
    c.args.key.now c.args.from new
    (λ name. c.in_ok-insert.ensures.updates.0 (record { ref_ptr = (0, 0); now = name }))
