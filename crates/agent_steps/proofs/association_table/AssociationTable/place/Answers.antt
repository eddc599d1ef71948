use Rattle.std.proofs.Common.{◌≤◌, length, refl, subst, sym}
use Rattle.agent_model.specs.Step.{with_placed}
use Rattle.agent_steps.proofs.AdmittingLaws.{counted_changed}
use Rattle.agent_steps.proofs.association_table.AssociationTable.place.Goals as goal

pub invariant_of-self-2 : goal.invariant_of-self-2
invariant_of-self-2 c =
    let at = subst (λ xs. (1 ≤ c.args.number) × (c.args.number ≤ length xs)) (sym c.self.view_is) c.requires in
    rw c.in_ok-place.ensures.placed
    (counted_changed c.self.inside.associations c.self.inside.unclosed c.self.inside.live c.self.inside.admitted.items c.args.number
    (with_placed c.args.bytes.now) at (λ a h. refl) (λ a h. refl) (λ a h. refl) c.self.invariant)
