-- What is wrong with the fields so far.
use Rattle.std.proofs.Common.{List, map, take}
use Rattle.token_grammar.specs.declared.qualified_name.QualifiedName.{QualifiedName}
use Rattle.asn1_names.specs.ModuleTerms.{ModuleTerm}
use Rattle.gdmo_names.specs.FaultSets.{AnyOf, Notes}
use Rattle.gdmo_names.specs.InStep.{AreEach}
use Rattle.gdmo_names.specs.PartTerms.{PartTerms, module_terms_of}
use Rattle.gdmo_types.specs.ComparedTypes.{NumbersName}
use Rattle.gdmo_types.specs.FieldFaults.{FieldFault, field_mention}
use Rattle.gdmo_types.specs.Linkages.{IsLinkage}
use Rattle.gdmo_types.specs.RoleTargets.{MeansNumber}
use Rattle.type_numbers.specs.AskedTypes.{AreNumbers, StayNumbers}
use Rattle.gdmo_types.proofs.notification_fields.note_each.Given as goal

abbrev pub invariant-loop-k : goal.invariant-loop-k
invariant-loop-k l =
    ((ms : List ModuleTerm) → AreNumbers ms l.initial.numbers → StayNumbers ms l.initial.numbers l.numbers)
    × ((parts : PartTerms) (information : QualifiedName) → IsLinkage parts l.linkage →
    AreNumbers (module_terms_of parts) l.initial.numbers →
    NumbersName parts l.initial.numbers.lists information l.whole →
    AreEach (MeansNumber parts l.linkage.templates.now l.document) (map field_mention l.fields) l.attributes →
    Notes (AnyOf (FieldFault parts l.document information) (map (λ x. x) (take l.k l.fields)))
    l.initial.faults.first l.faults.first)
