use Rattle.std.proofs.Common.{◌≡◌, ◌≤◌, length, sym, subst, rules}
use Rattle.std.specs.Prelude.{Some, false, true}
use Rattle.agent_model.specs.declared.agent_state.Association.{Association}
use Rattle.agent_model.specs.AgentState.{is_closed_state, numbered}
use Rattle.agent_steps.proofs.AdmittingLaws.{counted_anew, counted_shut, counted_less}
use Rattle.agent_steps.proofs.association_table.AssociationTable.close.Goals as goal

pub overflow_sub-self : goal.overflow_sub-self
overflow_sub-self c =
    let xs = c.self.inside.associations in
    let at = subst (λ ys. (1 ≤ c.args.number) × (c.args.number ≤ length ys)) (sym c.self.view_is) c.requires.within in
    counted_less xs c.self.inside.unclosed c.self.inside.live c.places_of_live_at-was_live.result
    c.self.inside.admitted.items c.args.number at c.places_of_live_at-was_live.ensures c.self.invariant

pub overflow_sub-self-then-not-was_closed : goal.overflow_sub-self-then-not-was_closed
overflow_sub-self-then-not-was_closed c =
    let xs = c.self.inside.associations in
    let at = subst (λ ys. (1 ≤ c.args.number) × (c.args.number ≤ length ys)) (sym c.self.view_is) c.requires.within in
    let is : (a : Association) → numbered xs c.args.number ≡ Some a → false ≡ is_closed_state a.state =
    subst (λ t. (a : Association) → numbered xs c.args.number ≡ Some a → t ≡ is_closed_state a.state)
    (search rules) c.is_closed_at-was_closed.ensures in
    (counted_shut xs c.self.inside.unclosed c.self.inside.live c.places_of_live_at-was_live.result
    c.self.inside.admitted.items c.args.number c.args.state at c.requires.closed is
    c.places_of_live_at-was_live.ensures c.self.invariant).0

pub invariant_of-self : goal.invariant_of-self
invariant_of-self c =
    let xs = c.self.inside.associations in
    let at = subst (λ ys. (1 ≤ c.args.number) × (c.args.number ≤ length ys)) (sym c.self.view_is) c.requires.within in
    let is : (a : Association) → numbered xs c.args.number ≡ Some a → false ≡ is_closed_state a.state =
    subst (λ t. (a : Association) → numbered xs c.args.number ≡ Some a → t ≡ is_closed_state a.state)
    (search rules) c.is_closed_at-was_closed.ensures in
    rw (c.set_association_state.ensures, c.withdraw.ensures)
    (counted_shut xs c.self.inside.unclosed c.self.inside.live c.places_of_live_at-was_live.result
    c.self.inside.admitted.items c.args.number c.args.state at c.requires.closed is
    c.places_of_live_at-was_live.ensures c.self.invariant).1

pub invariant_of-self-else-not-was_closed : goal.invariant_of-self-else-not-was_closed
invariant_of-self-else-not-was_closed c =
    let xs = c.self.inside.associations in
    let at = subst (λ ys. (1 ≤ c.args.number) × (c.args.number ≤ length ys)) (sym c.self.view_is) c.requires.within in
    let is : (a : Association) → numbered xs c.args.number ≡ Some a → true ≡ is_closed_state a.state =
    subst (λ t. (a : Association) → numbered xs c.args.number ≡ Some a → t ≡ is_closed_state a.state)
    (search rules) c.is_closed_at-was_closed.ensures in
    rw c.set_association_state.ensures
    (counted_anew xs c.self.inside.unclosed c.self.inside.live c.places_of_live_at-was_live.result
    c.self.inside.admitted.items c.args.number c.args.state at c.requires.closed is
    c.places_of_live_at-was_live.ensures c.self.invariant)
