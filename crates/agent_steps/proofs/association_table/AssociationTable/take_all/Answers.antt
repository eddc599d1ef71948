use Rattle.std.proofs.Common.{◌≤◌, length, refl, sym, subst}
use Rattle.agent_steps.specs.Admitting.{AreCounted, with_all_taken}
use Rattle.agent_steps.proofs.AdmittingLaws.{counted_changed}
use Rattle.agent_steps.proofs.association_table.AssociationTable.take_all.Goals as goal

pub invariant_of-self : goal.invariant_of-self
invariant_of-self c =
    let at = subst (λ xs. (1 ≤ c.args.number) × (c.args.number ≤ length xs)) (sym c.self.view_is) c.requires in
    subst (λ xs. AreCounted xs c.self.inside.unclosed c.self.inside.live c.self.inside.admitted.items) (sym c.take_placed.ensures)
    (counted_changed c.self.inside.associations c.self.inside.unclosed c.self.inside.live c.self.inside.admitted.items c.args.number
    with_all_taken at (λ a h. refl) (λ a h. refl) (λ a h. refl) c.self.invariant)
