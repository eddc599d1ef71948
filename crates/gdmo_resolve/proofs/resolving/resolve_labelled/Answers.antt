-- The references of templates are looked up, and noted.
use Rattle.std.proofs.Common.{subst, sym}
use Rattle.gdmo_names.proofs.NotingLaws.{both_noted}
use Rattle.gdmo_names.specs.FaultSets.{FaultsOfTemplates, LabelledTwice}
use Rattle.gdmo_names.specs.PartViews.{part_terms}
use Rattle.gdmo_names.specs.TargetTables.{AreTargets}
use Rattle.gdmo_resolve.proofs.resolving.resolve_labelled.Goals as goal

pub returns : goal.returns
returns c = λ read modules are labels noted.
    let ps = part_terms c.args.parts.now in
    let told = c.in_ok-targets.ensures ps are labels in
    c.resolve_templates.ensures read modules are labels
    (subst (AreTargets ps c.args.templates.now) (sym c.as_slice.ensures.value) told.0)
    (both_noted (LabelledTwice ps) (FaultsOfTemplates ps) noted told.1)
