-- What is wrong with the fields of the templates so far.
use Rattle.std.proofs.Common.{List, map, take}
use Rattle.asn1_names.specs.ModuleTerms.{ModuleTerm}
use Rattle.gdmo_names.specs.FaultSets.{AnyOf, Notes}
use Rattle.gdmo_names.specs.FoundViews.{found_view}
use Rattle.gdmo_names.specs.PartTerms.{PartTerms, module_terms_of}
use Rattle.gdmo_types.specs.FieldFaults.{TemplateFields}
use Rattle.gdmo_types.specs.Linkages.{IsLinkage}
use Rattle.type_numbers.specs.AskedTypes.{AreNumbers, StayNumbers}
use Rattle.gdmo_types.proofs.notification_fields.note_fields.Given as goal

abbrev pub invariant-loop-place : goal.invariant-loop-place
invariant-loop-place l =
    ((ms : List ModuleTerm) → AreNumbers ms l.initial.numbers → StayNumbers ms l.initial.numbers l.numbers)
    × ((parts : PartTerms) → IsLinkage parts l.linkage → AreNumbers (module_terms_of parts) l.initial.numbers →
    Notes (AnyOf (TemplateFields parts) (map found_view (take l.place l.linkage.templates.now)))
    l.initial.faults.first l.faults.first)
