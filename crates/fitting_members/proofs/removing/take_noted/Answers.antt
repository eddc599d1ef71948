-- A member less.
use Rattle.std.proofs.Common.{◌≡◌, ◌-◌, length, refl, rules, subst, sym}
use Rattle.fitting_members.specs.Changing.{IsRemoving}
use Rattle.fitting_members.specs.declared.member_change.Removal.{Removal}
use Rattle.fitting_members.specs.declared.removing.Removals.{Removals}
use Rattle.fitting_members.proofs.ChangeLaws.{removing_step}
use Rattle.fitting_members.proofs.removing.take_noted.Goals as goal

pub returns-clause-made : goal.returns-clause-made
returns-clause-made c = λ permitted before so.
    let member = c.args.member.now in
    let items = c.args.items.now.items in
    let x = c.args.encoding.now in
    let taken : Removal = record { at = c.args.at; member = c.remove-taken.result } in
    let after : Removals = record { members = c.push.new.self; octets = c.saturating_sub-made.result } in
    let octets : c.saturating_sub-made.result ≡ c.args.made.now.octets - length x = search rules in
    subst (λ xs. IsRemoving member permitted before xs after) (sym c.remove-taken.ensures.items)
    (removing_step member permitted before items x c.args.at (length x) c.remove-taken.result taken c.args.made.now after
    c.requires refl refl c.remove-taken.ensures.value c.in_ok-push.ensures.items octets so)
