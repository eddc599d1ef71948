-- The classes so far.
use Rattle.std.proofs.Common.{◌≡◌, List, length, take}
use Rattle.std.specs.Prelude.{All}
use Rattle.asn1_names.specs.ModuleTerms.{ModuleTerm}
use Rattle.linked_types.specs.PartIdentifiers.{AreEach}
use Rattle.schema_records.specs.ClassRecords.{IsClass}
use Rattle.schema_records.specs.KnownPackages.{AreKnownPackages}
use Rattle.schema_records.specs.PropertyRecords.{AreAttributePlaces, HasJoinedProperties}
use Rattle.schema_records.specs.RegisteredParts.{AreRegisteredParts}
use Rattle.schema_records.proofs.class_records.class_records.Given as goal

abbrev pub invariant-loop-place : goal.invariant-loop-place
invariant-loop-place l = record {
  told : (ms : List ModuleTerm) →
      AreKnownPackages ms l.parts.linked.now l.parts.table.now l.parts.values.now l.joined.stated.now →
      AreEach (IsClass ms l.parts.linked.now) (take l.place l.parts.linked.now.classes.items) l.records;
  properties : AreRegisteredParts l.parts.linked.now →
      length l.joined.properties.now ≡ length l.parts.linked.now.classes.items →
      All (AreAttributePlaces l.parts.linked.now) l.joined.properties.now →
      AreEach (HasJoinedProperties l.parts.linked.now l.parts.table.now l.parts.values.now)
      (take l.place l.joined.properties.now) l.records;
}
