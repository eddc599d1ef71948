-- A number under a name that had none.
use Rattle.std.proofs.Common.{List, rules, ◌≡◌, ℕ, None}
use Rattle.asn1_names.specs.FirstNames.{found}
use Rattle.asn1_names.specs.TermViews.{bound_term}
use Rattle.asn1_names.proofs.FirstLaws.{first_kept_view}
use Rattle.asn1_names.proofs.named_numbers.keep_number.Goals as goal

pub returns-in_ok-insert : goal.returns-in_ok-insert
returns-in_ok-insert c =
    let new : found c.args.table.now c.args.key.now ≡ None = search rules in
    first_kept_view (λ bound. bound_term bound.now) (found c.args.table.now) (found c.insert.new.self)
    c.args.key.now c.args.number new
    (λ name. c.in_ok-insert.ensures.updates.0 (record { ref_ptr = (0, 0); now = name }))
