use Rattle.std.proofs.Common.{◌∙◌, ap, sym}
use Rattle.agent_model.specs.JournalRoom.{reserved_by_associations}
use Rattle.agent_steps.proofs.AdmittingLaws.{counted_places}
use Rattle.agent_steps.proofs.association_table.AssociationTable.count_reserved.Goals as goal

pub returns-clause-reserved : goal.returns-clause-reserved
returns-clause-reserved c =
    sym (counted_places c.self.inside.associations c.self.inside.unclosed c.self.inside.live
    c.self.inside.admitted.items c.self.invariant)
    ∙ ap (λ ys. reserved_by_associations ys) c.self.view_is
