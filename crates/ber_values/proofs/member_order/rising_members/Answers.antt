-- The sort is stable, so it gives the order of insertions.
use Rattle.std.proofs.Common.{◌≡◌, IfOk, subst}
use Rattle.ber_values.proofs.StableLaws.{stable_is_rising}
use Rattle.ber_values.specs.MemberOrder.{members_of}
use Rattle.term_values.specs.Decoding.{rising_by}
use Rattle.term_values.specs.Written.{der}
use Rattle.ber_values.proofs.member_order.rising_members.Goals as goal

pub returns : goal.returns
returns c =
    let same : members_of c.sort.new.self.items ≡ rising_by (der c.args.member.now) c.args.values =
    stable_is_rising (der c.args.member.now) c.args.values c.in_ok-members.members.items c.sort.new.self.items
    c.in_ok-members.ensures c.in_ok-sort.ensures.sorted c.in_ok-sort.ensures.stable in
    subst (λ vs. IfOk c.members_of.result (λ sorted. sorted ≡ vs)) same c.members_of.ensures
