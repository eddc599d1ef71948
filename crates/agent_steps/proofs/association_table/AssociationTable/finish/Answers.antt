use Rattle.std.proofs.Common.{◌≡◌, ◌≤◌, length, sym, subst}
use Rattle.std.specs.Prelude.{Some, true}
use Rattle.agent_model.specs.declared.agent_state.Association.{Association}
use Rattle.agent_model.specs.AgentState.{numbered}
use Rattle.agent_model.specs.Binding.{is_open}
use Rattle.agent_steps.proofs.AdmittingLaws.{counted_finished}
use Rattle.agent_steps.proofs.association_table.AssociationTable.finish.Goals as goal

pub overflow_sub-self : goal.overflow_sub-self
overflow_sub-self c =
    let xs = c.self.inside.associations in
    let at = subst (λ ys. (1 ≤ c.args.number) × (c.args.number ≤ length ys)) (sym c.self.view_is) c.requires.within in
    let is : (a : Association) → numbered xs c.args.number ≡ Some a → true ≡ is_open a =
    subst (λ ys. (a : Association) → numbered ys c.args.number ≡ Some a → true ≡ is_open a) (sym c.self.view_is)
    (λ a h. sym (c.requires.unclosed a h)) in
    (counted_finished xs c.self.inside.unclosed c.self.inside.live c.places_of_live_at-was_live.result
    c.self.inside.admitted.items c.args.number at is c.places_of_live_at-was_live.ensures c.self.invariant).0

pub invariant_of-self : goal.invariant_of-self
invariant_of-self c =
    let xs = c.self.inside.associations in
    let at = subst (λ ys. (1 ≤ c.args.number) × (c.args.number ≤ length ys)) (sym c.self.view_is) c.requires.within in
    let is : (a : Association) → numbered xs c.args.number ≡ Some a → true ≡ is_open a =
    subst (λ ys. (a : Association) → numbered ys c.args.number ≡ Some a → true ≡ is_open a) (sym c.self.view_is)
    (λ a h. sym (c.requires.unclosed a h)) in
    rw c.set_association_state.ensures
    (counted_finished xs c.self.inside.unclosed c.self.inside.live c.places_of_live_at-was_live.result
    c.self.inside.admitted.items c.args.number at is c.places_of_live_at-was_live.ensures c.self.invariant).1
