use Rattle.std.proofs.Common.{ap, ◌∙◌}
use Rattle.std.specs.List.{list_any}
use Rattle.agent_model.specs.Binding.{has_title}
use Rattle.agent_steps.proofs.AdmittingLaws.{titled_alike, titled_at}
use Rattle.agent_steps.proofs.association_table.AssociationTable.has_title.Goals as goal

pub returns : goal.returns
returns c =
    let xs = c.self.inside.associations in
    let title = c.args.title.now in
    c.any_has_title.ensures
    ∙ (ap (λ ns. list_any (titled_at title xs) ns) c.as_slice.ensures.value
    ∙ (titled_alike title xs c.self.inside.unclosed c.self.inside.live c.self.inside.admitted.items c.self.invariant
    ∙ ap (λ ys. list_any (has_title title) ys) c.self.view_is))
