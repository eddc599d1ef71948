-- The records so far.
use Rattle.std.proofs.Common.{List, take}
use Rattle.asn1_names.specs.ModuleTerms.{ModuleTerm}
use Rattle.linked_types.specs.PartIdentifiers.{AreEach}
use Rattle.section_values.specs.SectionRecords.{IsInstance}
use Rattle.instance_records.specs.InstanceRecords.{IsInstanceRecord}
use Rattle.instance_records.specs.KnownRecords.{AreKnownParts}
use Rattle.instance_records.specs.RegisteredInstances.{AreRegisteredInstances}
use Rattle.instance_records.proofs.object_records.all_records.Given as goal

abbrev pub invariant-loop-place : goal.invariant-loop-place
invariant-loop-place l = (ms : List ModuleTerm) → AreKnownParts ms l.parts →
    AreRegisteredInstances l.parts.linked.now →
    AreEach (IsInstance ms l.parts.linked.now) l.parts.linked.now.instances.items l.values →
    AreEach (IsInstanceRecord ms l.parts.linked.now) (take l.place l.parts.linked.now.instances.items) l.items.items
