use Rattle.std.proofs.Common.{◌≤◌, length, refl, sym, ap, ◌∙◌, subst, rules, to_z, of_z, w32}
use Rattle.std.proofs.Math.Facts.{to_z-of_z}
use Rattle.agent_model.specs.Performing.{with_own}
use Rattle.agent_model.specs.Step.{changed_association}
use Rattle.agent_steps.specs.Admitting.{AreCounted}
use Rattle.agent_steps.proofs.AdmittingLaws.{counted_changed}
use Rattle.agent_steps.proofs.association_table.AssociationTable.set_own.Goals as goal

pub invariant_of-self : goal.invariant_of-self
invariant_of-self c =
    let at = subst (λ xs. (1 ≤ c.args.number) × (c.args.number ≤ length xs)) (sym c.self.view_is) c.requires in
    subst (λ xs. AreCounted xs c.self.inside.unclosed c.self.inside.live c.self.inside.admitted.items) (sym c.set_own.ensures)
    (counted_changed c.self.inside.associations c.self.inside.unclosed c.self.inside.live c.self.inside.admitted.items c.args.number
    (with_own (to_z w32 (of_z w32 c.args.own))) at (λ a h. refl) (λ a h. refl) (λ a h. refl) c.self.invariant)

pub returns : goal.returns
returns c =
    c.set_own.ensures
    ∙ (ap (λ xs. changed_association xs c.args.number (with_own (to_z w32 (of_z w32 c.args.own)))) c.self.view_is
    ∙ ap (λ z. changed_association c.args.self.now c.args.number (with_own z))
    (to_z-of_z {w = w32} {z = c.args.own} (search rules)))
