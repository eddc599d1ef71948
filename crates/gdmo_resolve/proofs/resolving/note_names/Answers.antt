-- The names of modules, and those in templates.
use Rattle.std.proofs.Common.{◌∙◌, ap, subst, sym}
use Rattle.asn1_names.specs.TermViews.{module_terms}
use Rattle.gdmo_first_names.proofs.TextLaws.{read_terms}
use Rattle.gdmo_names.proofs.NotingLaws.{both_noted}
use Rattle.gdmo_names.specs.FaultSets.{Notes}
use Rattle.gdmo_names.specs.PartTerms.{module_terms_of}
use Rattle.gdmo_types.specs.ModuleNames.{AreModuleNames, DoubleModuleNames}
use Rattle.label_laws.specs.AllFaults.{OfAllNames}
use Rattle.gdmo_resolve.proofs.resolving.note_names.Goals as goal

pub returns : goal.returns
returns c = λ ps has modules are tells.
    let same = ap module_terms c.as_slice.ensures.value ∙ sym (read_terms ps c.args.parts.now.modules.items has) in
    both_noted (DoubleModuleNames (module_terms_of ps)) (OfAllNames ps)
    (subst (λ ms. Notes (DoubleModuleNames ms) c.args.faults.now.first c.module_names.new.faults.first) same
    c.in_ok-modules.ensures.faults)
    (c.note_templates.ensures ps are tells (subst (λ ms. AreModuleNames ms c.in_ok-modules.modules) same
    c.in_ok-modules.ensures.names) modules)
