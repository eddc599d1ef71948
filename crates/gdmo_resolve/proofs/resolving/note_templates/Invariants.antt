-- The templates so far.
use Rattle.std.proofs.Common.{◌≡◌, take}
use Rattle.std.specs.Prelude.{map}
use Rattle.asn1_names.specs.TermViews.{module_terms}
use Rattle.gdmo_names.specs.FaultSets.{AnyOf, Notes}
use Rattle.gdmo_names.specs.FoundViews.{found_view}
use Rattle.gdmo_names.specs.PartTerms.{PartTerms, module_terms_of}
use Rattle.gdmo_names.specs.TargetTables.{AreFound, AreTargets}
use Rattle.gdmo_types.specs.ModuleNames.{AreModuleNames}
use Rattle.label_laws.specs.AllFaults.{OfNames}
use Rattle.gdmo_resolve.proofs.resolving.note_templates.Given as goal

abbrev pub invariant-loop-place : goal.invariant-loop-place
invariant-loop-place l = (ps : PartTerms) → AreFound ps l.templates → AreTargets ps l.templates l.targets →
    AreModuleNames (module_terms_of ps) l.things.modules.now →
    module_terms l.things.types.now ≡ module_terms_of ps →
    Notes (AnyOf (OfNames ps) (map found_view (take l.place l.templates))) l.fn.faults.first l.faults.first
