-- The names in templates are noted.
use Rattle.std.proofs.Common.{refl}
use Rattle.gdmo_names.proofs.NotingLaws.{both_noted}
use Rattle.gdmo_names.specs.FaultSets.{Either}
use Rattle.gdmo_names.specs.PartTerms.{module_terms_of}
use Rattle.gdmo_names.specs.PartViews.{part_terms}
use Rattle.gdmo_types.specs.ModuleNames.{DoubleModuleNames}
use Rattle.label_laws.specs.AllFaults.{OfAllNames, OfTemplates}
use Rattle.gdmo_resolve.proofs.resolving.resolve_templates.Goals as goal

pub returns : goal.returns
returns c = λ read modules are labels tells noted.
    let ps = part_terms c.args.parts.now in
    c.resolve_attributes.ensures read modules are labels tells
    (both_noted (OfTemplates ps) (Either (DoubleModuleNames (module_terms_of ps)) (OfAllNames ps)) noted
    (c.in_ok-note_names.ensures ps refl modules are tells))
