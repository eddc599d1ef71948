-- NameLaws: each part of a name, of an instance or of the system, has fewer than 2 ^ 32 octets (X.690, section 8.1.3;
-- docs/PROFILE.md, sections 9 and 16).
use Rattle.std.specs.Prelude.{◌≡◌, ◌<◌, ◌∷◌, ◌^◌, [], ℕ, List, Bool, true, false, Option, None, Some, All, Contains}
use Rattle.std.specs.Prelude.{find, length, refl}
use Rattle.std.proofs.Common.{arith, cond, inl, inr, sym}
use Rattle.std.proofs.Math.Path.{subst}
use Rattle.std.proofs.lemmas.List.Elements.{All-contains, All-nil}
use Rattle.std.proofs.lemmas.Option.{same_Some}
use Rattle.term_model.specs.declared.name.Rdn.{Rdn}
use Rattle.term_model.specs.declared.schema.InstRec.{InstRec}
use Rattle.term_model.specs.declared.schema.Set.{Set}
use Rattle.asn1_names.specs.ModuleTerms.{ModuleTerm}
use Rattle.linked_parts.specs.declared.linked.Linked.{Linked}
use Rattle.linked_parts.specs.declared.linked.LinkedInstance.{LinkedInstance}
use Rattle.linked_parts.specs.declared.linked.LinkedPair.{LinkedPair}
use Rattle.linked_types.specs.PartIdentifiers.{AreEach}
use Rattle.instance_records.specs.InstanceRecords.{AreInstanceRecords, IsInstanceRecord, IsObjectName, IsPart}
use Rattle.instance_records.specs.InstanceRecords.{IsStatedName, first_root}
use Rattle.reference_laws.proofs.PlaceLaws.{all_made, later_of}
use Rattle.instance_laws.specs.ShortInstances.{AreShortInstances, IsShortInstance, IsShortPair}
use Rattle.opening_laws.specs.Encodable.{IsNamePart}

-- what is found stands in the list
found_there : {A : Type 0} (test : A → Bool) (xs : List A) (x : A) → find test xs ≡ Some x → Contains xs x
found_there test [] x is = absurd (cc)
found_there test (y ∷ ys) x is = by (test y) (λ later. later_of y x ys (found_there test ys x later)) is
  where
    by : (passes : Bool) → (find test ys ≡ Some x → Contains (y ∷ ys) x) →
        cond passes (Some y) (find test ys) ≡ Some x → Contains (y ∷ ys) x
    by true further here = (0, omega arith, same_Some y x here)
    by false further later = further later

abbrev HasShortValue : Rdn → Type 0
HasShortValue part = length part.value < 2 ^ 32

abbrev HasShortName : InstRec → Type 0
HasShortName instance = All HasShortValue instance.name

module _ (ms : List ModuleTerm) (linked : Linked) (schema : Set)
    (of_instances : AreInstanceRecords ms linked schema.instances schema.system)
    (short : AreShortInstances ms linked) where
  -- the one written encoding of what a pair states
  part_short : (pair : LinkedPair) (part : Rdn) → IsShortPair ms linked pair → IsPart ms linked pair part →
      HasShortValue part
  part_short pair part few is =
      subst (λ (xs : List ℕ). length xs < 2 ^ 32) (sym is.is_written) (few is.syntax is.has is.denoted is.denotes)

  pairs_short : (pairs : List LinkedPair) (name : List Rdn) → All (IsShortPair ms linked) pairs →
      AreEach (IsPart ms linked) pairs name → All HasShortValue name
  pairs_short pairs name few = all_made (IsPart ms linked) HasShortValue pairs name
      (λ pair part has is. part_short pair part (All-contains (IsShortPair ms linked) pairs pair few has) is)

  no_parts : (name : List Rdn) → name ≡ [] → All HasShortValue name
  no_parts name is = subst (All HasShortValue) (sym is) (All-nil HasShortValue)

  -- those of a linked instance
  listed_short : (part : LinkedInstance) (name : List Rdn) → Contains linked.instances.items part →
      AreEach (IsPart ms linked) part.name.items name → All HasShortValue name
  listed_short part name listed = pairs_short part.name.items name
      (All-contains (IsShortInstance ms linked) linked.instances.items part short listed).0

  object_short : (is_root : Bool) (part : LinkedInstance) (name : List Rdn) →
      Contains linked.instances.items part → IsObjectName ms linked is_root part.name.items name →
      All HasShortValue name
  object_short true part name listed is = no_parts name is
  object_short false part name listed is = listed_short part name listed is

  names_short : All HasShortName schema.instances
  names_short = all_made (IsInstanceRecord ms linked) HasShortName linked.instances.items schema.instances
      (λ part x listed is. object_short part.is_root part x.name listed is.is_name) of_instances.instances_are

  stated_short : (root : Option LinkedInstance) → first_root linked.instances.items ≡ root →
      IsStatedName ms linked root schema.system → All HasShortValue schema.system
  stated_short None found is = no_parts schema.system is
  stated_short (Some part) found is = listed_short part schema.system
      (found_there (λ (x : LinkedInstance). x.is_root) linked.instances.items part found) is

  pub parts_short : (part : Rdn) → IsNamePart schema part → HasShortValue part
  parts_short part (inl of_system) = All-contains HasShortValue schema.system part
      (stated_short (first_root linked.instances.items) refl of_instances.system_is) of_system
  parts_short part (inr (instance, known, own)) = All-contains HasShortValue instance.name part
      (All-contains HasShortName schema.instances instance names_short known) own
