use Rattle.std.proofs.Common.{◌≡◌, ◌<◌, ◌-◌, ◌∙◌, sym, ap, length, take, arith}
use Rattle.term_values.specs.Oid.{subidentifier}
use Rattle.ber_tree.specs.Subidentifiers.{grouped}
use Rattle.ber_tree.proofs.IntegerLaws.{octets_fit}
use Rattle.ber_tree.proofs.SubidentifierLaws.{in_front, same_size, front_is_groups, subidentifier_of_groups}
use Rattle.ber_tree.proofs.tree_reading.read_subidentifier.Goals as goal

pub returns-in_err-size-clause-none : goal.returns-in_err-size-clause-none
returns-in_err-size-clause-none c = rw c.from_residual.ensures (λ n rest h e.
    let f = in_front n c.args.octets.now rest h e in
    let some = f.size.some in
    let few = f.size.few in
    let within = f.size.within in
    let low = f.size.last in
    let high = c.in_err-size.ensures.none (length (subidentifier n) - 1) (omega arith) (omega arith) in
    absurd (omega arith))

pub returns-then-octets-clause-none : goal.returns-then-octets-clause-none
returns-then-octets-clause-none c = λ n rest h e.
    let f = in_front n c.args.octets.now rest h e in
    f.least c.if-octets.true

pub returns-then-value-gt-MOST_SUBIDENTIFIER-clause-none : goal.returns-then-value-gt-MOST_SUBIDENTIFIER-clause-none
returns-then-value-gt-MOST_SUBIDENTIFIER-clause-none c = λ n rest h e.
    let octets = c.args.octets.now in
    let f = in_front n octets rest h e in
    let long : c.in_ok-size.size ≡ length (subidentifier n) =
    same_size octets c.in_ok-size.size (length (subidentifier n)) c.in_ok-size.ensures.found f.size in
    let value : c.read_groups-value.result ≡ n = c.read_groups-value.ensures
    ∙ (ap (λ k. grouped (take k octets)) long ∙ (ap grouped f.front ∙ f.number)) in
    absurd (omega arith)

pub returns-clause-found : goal.returns-clause-found
returns-clause-found c =
    let octets = c.args.octets.now in
    let s = c.in_ok-size.ensures.found in
    let value : c.read_groups-value.result ≡ grouped (take c.in_ok-size.size octets) = c.read_groups-value.ensures in
    let small : grouped (take c.in_ok-size.size octets) < 4294967296 = omega arith in
    let g = front_is_groups octets c.in_ok-size.size (octets_fit octets c.type_inv.octets) s c.if-octets.false small in
    (s.within, s.some, sym (ap subidentifier value ∙ subidentifier_of_groups (take c.in_ok-size.size octets) g))
