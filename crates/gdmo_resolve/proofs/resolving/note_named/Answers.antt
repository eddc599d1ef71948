-- The names of types and values, and FIXED groups.
use Rattle.std.proofs.Common.{subst, sym}
use Rattle.gdmo_names.proofs.NotingLaws.{both_noted}
use Rattle.gdmo_names.specs.FaultSets.{Notes}
use Rattle.gdmo_names.specs.FoundViews.{body_term, found_view}
use Rattle.gdmo_names.specs.GroupFaults.{FaultsOfGroups}
use Rattle.gdmo_types.specs.ModuleNames.{AreModuleNames}
use Rattle.gdmo_types.specs.QualifiedFaults.{BodyNameFaults, QualifiedFaults}
use Rattle.gdmo_resolve.proofs.resolving.note_named.Goals as goal

pub returns : goal.returns
returns c = λ ps names modules has each.
    let own = c.args.found.now in
    both_noted (QualifiedFaults ps (found_view own)) (FaultsOfGroups ps (found_view own))
    (subst (λ ms. Notes (BodyNameFaults ms own.document (body_term own.body)) c.args.faults.now.first
    c.note_template.new.faults.first) modules
    (c.note_template.ensures (subst (λ ms. AreModuleNames ms c.args.things.now.modules.now) (sym modules) names)))
    (c.note_fixed_groups.ensures ps has each)
