-- The packages so far.
use Rattle.std.proofs.Common.{List, take}
use Rattle.std.specs.Prelude.{All}
use Rattle.asn1_names.specs.ModuleTerms.{ModuleTerm}
use Rattle.linked_types.specs.PartIdentifiers.{AreEach}
use Rattle.schema_records.specs.ClassRecords.{IsPackageAt}
use Rattle.schema_records.specs.KnownPackages.{AreKnownPackages}
use Rattle.schema_records.specs.RegisteredParts.{IsPackagePlace}
use Rattle.schema_records.proofs.class_records.package_records.Given as goal

abbrev pub invariant-loop-place : goal.invariant-loop-place
invariant-loop-place l = (ms : List ModuleTerm) →
    AreKnownPackages ms l.parts.linked.now l.parts.table.now l.parts.values.now l.joined.stated.now →
    All (IsPackagePlace l.parts.linked.now) l.places →
    AreEach (IsPackageAt ms l.parts.linked.now) (take l.place-index l.places) l.items.items
