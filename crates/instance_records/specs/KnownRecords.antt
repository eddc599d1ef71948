-- KnownRecords: what is known while records of instances are made: where the record of each attribute stands.
use Rattle.std.specs.Prelude.{◌≡◌, ◌≤◌, ℕ, suc, List, Option, None, Some, length, option_and_then, slice_get}
use Rattle.term_model.specs.declared.schema.AttrRec.{AttrRec}
use Rattle.asn1_names.specs.ModuleTerms.{ModuleTerm}
use Rattle.linked_parts.specs.declared.linked.Linked.{Linked}
use Rattle.linked_parts.specs.declared.linked.LinkedAttribute.{LinkedAttribute}
use Rattle.linked_types.specs.KnownParts.{identifier_at}
use Rattle.schema_records.specs.MemberRecords.{IsAttribute}
use Rattle.instance_records.specs.declared.instance_parts.InstanceParts.{InstanceParts}

-- the record of the attribute at the place k; none where it isn't registered
abbrev pub TellsRecord : List ModuleTerm → Linked → ℕ → Option AttrRec → Type 0
TellsRecord ms linked k None = identifier_at (λ x. x.head) linked.attributes.items k ≡ None
TellsRecord ms linked k (Some x) = IsAttribute ms linked k x

-- the record at a place, where one is told
abbrev pub record_at : List AttrRec → Option ℕ → Option AttrRec
record_at records place = option_and_then (slice_get records) place

-- for each attribute the place of its record
pub record ArePlaces (ms : List ModuleTerm) (linked : Linked) (records : List AttrRec) (places : List (Option ℕ))
    : Type 0 where
  pub size : length linked.attributes.items ≤ length places
  pub told : (k : ℕ) (place : Option ℕ) → slice_get places k ≡ Some place →
      TellsRecord ms linked k (record_at records place)

-- whether the next record is that of an attribute
abbrev pub TellsPlace : LinkedAttribute → List AttrRec → ℕ → Option ℕ → Type 0
TellsPlace part records next None =
    (x : AttrRec) → slice_get records next ≡ Some x → part.head.identifier ≡ Some x.id → ⊥
TellsPlace part records next (Some place) =
    (place ≡ next) × (x : AttrRec) × (slice_get records next ≡ Some x) × (part.head.identifier ≡ Some x.id)

-- which record is the next one then
abbrev pub place_behind : ℕ → Option ℕ → ℕ
place_behind next None = next
place_behind next (Some place) = suc next

abbrev pub AreKnownParts : List ModuleTerm → InstanceParts → Type 0
AreKnownParts ms parts = ArePlaces ms parts.linked.now parts.records.now parts.places.now
