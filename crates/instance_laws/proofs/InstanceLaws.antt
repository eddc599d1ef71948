-- InstanceLaws: the values of instances, and the parts of their names and of the name of the system, are whole (X.722,
-- section 8; docs/PROFILE.md, sections 9 and 16).
use Rattle.std.specs.Prelude.{◌≡◌, ◌∷◌, [], ℕ, List, Bool, true, false, Option, None, Some, All, Contains, find}
use Rattle.std.specs.Prelude.{refl}
use Rattle.std.proofs.Common.{arith, cond, sym}
use Rattle.std.proofs.Math.Path.{subst}
use Rattle.std.proofs.lemmas.List.Elements.{All-contains, All-nil}
use Rattle.std.proofs.lemmas.Option.{same_Some}
use Rattle.term_values.specs.Soundness.{IsSound}
use Rattle.term_values.specs.Syntaxes.{TypeSyntax}
use Rattle.term_model.specs.WholeRecords.{IsValueOf}
use Rattle.term_model.specs.WholeSet.{IsWholePart}
use Rattle.term_model.specs.declared.name.Rdn.{Rdn}
use Rattle.term_model.specs.declared.object.Attribute.{Attribute}
use Rattle.term_model.specs.declared.schema.InstRec.{InstRec}
use Rattle.term_model.specs.declared.schema.Set.{Set}
use Rattle.asn1_names.specs.ModuleTerms.{ModuleTerm}
use Rattle.linked_parts.specs.declared.linked.Linked.{Linked}
use Rattle.linked_parts.specs.declared.linked.LinkedInstance.{LinkedInstance}
use Rattle.linked_parts.specs.declared.linked.LinkedPair.{LinkedPair}
use Rattle.filled_syntaxes.specs.LinkedMeanings.{linked_arcs}
use Rattle.class_faults.specs.AttributeSyntaxes.{AttributeHas}
use Rattle.linked_types.specs.PartIdentifiers.{AreEach}
use Rattle.schema_records.specs.MemberRecords.{AreRecords}
use Rattle.sound_laws.specs.ShortDefaults.{ValuesFit}
use Rattle.instance_records.specs.InstanceRecords.{AreInstanceRecords, IsGiven, IsInstanceRecord, IsObjectName, IsPart}
use Rattle.instance_records.specs.InstanceRecords.{IsStatedName, first_root}
use Rattle.reference_laws.proofs.PlaceLaws.{all_made, later_of}
use Rattle.instance_laws.specs.ShortInstances.{AreShortInstances, IsShortInstance, IsShortPair}
use Rattle.instance_laws.proofs.PairLaws.{given_value, part_whole}

-- what is found stands in the list
found_there : {A : Type 0} (test : A → Bool) (xs : List A) (x : A) → find test xs ≡ Some x → Contains xs x
found_there test [] x is = absurd (cc)
found_there test (y ∷ ys) x is = by (test y) (λ later. later_of y x ys (found_there test ys x later)) is
  where
    by : (passes : Bool) → (find test ys ≡ Some x → Contains (y ∷ ys) x) →
        cond passes (Some y) (find test ys) ≡ Some x → Contains (y ∷ ys) x
    by true further here = (0, omega arith, same_Some y x here)
    by false further later = further later

module _ (ms : List ModuleTerm) (linked : Linked) (schema : Set) (are : AreRecords ms linked schema)
    (of_instances : AreInstanceRecords ms linked schema.instances schema.system)
    (fit : ValuesFit (linked_arcs linked))
    (sound : (k : ℕ) (syntax : TypeSyntax) → AttributeHas ms linked k syntax → IsSound syntax)
    (short : AreShortInstances ms linked) where
  short_instance : (part : LinkedInstance) → Contains linked.instances.items part → IsShortInstance ms linked part
  short_instance part listed = All-contains (IsShortInstance ms linked) linked.instances.items part short listed

  pairs_whole : (pairs : List LinkedPair) (name : List Rdn) → All (IsShortPair ms linked) pairs →
      AreEach (IsPart ms linked) pairs name → All (IsWholePart schema) name
  pairs_whole pairs name are_short = all_made (IsPart ms linked) (IsWholePart schema) pairs name
      (λ pair part has is. part_whole ms linked schema are fit sound pair part
      (All-contains (IsShortPair ms linked) pairs pair are_short has) is)

  no_parts : (name : List Rdn) → name ≡ [] → All (IsWholePart schema) name
  no_parts name is = subst (All (IsWholePart schema)) (sym is) (All-nil (IsWholePart schema))

  name_whole : (is_root : Bool) (pairs : List LinkedPair) (name : List Rdn) → All (IsShortPair ms linked) pairs →
      IsObjectName ms linked is_root pairs name → All (IsWholePart schema) name
  name_whole true pairs name are_short is = no_parts name is
  name_whole false pairs name are_short is = pairs_whole pairs name are_short is

  -- each part of the name of an instance is an attribute with a written value of it
  pub parts_whole : All (λ (instance : InstRec). All (IsWholePart schema) instance.name) schema.instances
  parts_whole = all_made (IsInstanceRecord ms linked)
      (λ (instance : InstRec). All (IsWholePart schema) instance.name) linked.instances.items schema.instances
      (λ part x listed is. name_whole part.is_root part.name.items x.name (short_instance part listed).0 is.is_name)
      of_instances.instances_are

  -- each value behind WITH is one of its attribute
  pub given_whole : All (λ (instance : InstRec).
      All (λ (held : Attribute). IsValueOf schema held.id held.value) instance.given) schema.instances
  given_whole = all_made (IsInstanceRecord ms linked)
      (λ (instance : InstRec). All (λ (held : Attribute). IsValueOf schema held.id held.value) instance.given)
      linked.instances.items schema.instances
      (λ part x listed is. all_made (IsGiven ms linked)
      (λ (held : Attribute). IsValueOf schema held.id held.value) part.given.items x.given
      (λ pair held has is_given. given_value ms linked schema are fit sound pair held
      (All-contains (IsShortPair ms linked) part.given.items pair (short_instance part listed).1 has) is_given)
      is.given_are) of_instances.instances_are

  stated_whole : (root : Option LinkedInstance) → first_root linked.instances.items ≡ root →
      IsStatedName ms linked root schema.system → All (IsWholePart schema) schema.system
  stated_whole None found is = no_parts schema.system is
  stated_whole (Some part) found is = pairs_whole part.name.items schema.system
      (short_instance part
      (found_there (λ (x : LinkedInstance). x.is_root) linked.instances.items part found)).0 is

  -- and so are the parts of the name of the system
  pub system_whole : All (IsWholePart schema) schema.system
  system_whole = stated_whole (first_root linked.instances.items) refl of_instances.system_is
