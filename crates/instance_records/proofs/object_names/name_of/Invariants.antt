-- The parts so far.
use Rattle.std.proofs.Common.{List, take}
use Rattle.std.specs.Prelude.{All}
use Rattle.asn1_names.specs.ModuleTerms.{ModuleTerm}
use Rattle.linked_parts.specs.declared.linked.LinkedPair.{LinkedPair}
use Rattle.linked_types.specs.PartIdentifiers.{AreEach}
use Rattle.section_values.specs.RegisteredSections.{IsRegisteredAttribute}
use Rattle.section_values.specs.SectionRecords.{IsPairValue}
use Rattle.instance_records.specs.InstanceRecords.{IsPart}
use Rattle.instance_records.specs.KnownRecords.{AreKnownParts}
use Rattle.instance_records.proofs.object_names.name_of.Given as goal

abbrev pub invariant-loop-place : goal.invariant-loop-place
invariant-loop-place l = (ms : List ModuleTerm) → AreKnownParts ms l.parts →
    All (λ (pair : LinkedPair). IsRegisteredAttribute l.parts.linked.now pair.attribute) l.pairs →
    AreEach (IsPairValue ms l.parts.linked.now) l.pairs l.values →
    AreEach (IsPart ms l.parts.linked.now) (take l.place l.pairs) l.rdns.items
