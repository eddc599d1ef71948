-- The instances so far.
use Rattle.std.proofs.Common.{List}
use Rattle.asn1_names.specs.ModuleTerms.{ModuleTerm}
use Rattle.linked_types.specs.KnownParts.{AreClosingParts}
use Rattle.section_values.specs.BadSections.{BadOfInstance}
use Rattle.section_values.specs.SectionRecords.{IsInstance}
use Rattle.section_values.specs.ToldSections.{IsGoodInstance}
use Rattle.section_values.proofs.ReadingLaws.{ReadBefore}
use Rattle.section_values.proofs.instances.instance_values.Given as goal

abbrev pub invariant-loop-instance : goal.invariant-loop-instance
invariant-loop-instance l = (ms : List ModuleTerm) → AreClosingParts ms l.parts →
    ReadBefore (BadOfInstance ms l.parts.linked.now) (IsGoodInstance ms l.parts.linked.now)
    (IsInstance ms l.parts.linked.now) l.parts.linked.now.instances.items l.instance-index l.values.items
    l.initial.bad.first l.bad.first
