-- OrderLaws: the classes of a schema, which are those of linked classes without a fault, stand in an order in which
-- each is behind those from which it derives: by the rank of its place.
use Rattle.std.proofs.Common.{◌≡◌, ◌∙◌, ◌<◌, ℕ, zero, suc, List, [], ◌∷◌, Some, ap, length, map, refl, sym}
use Rattle.std.proofs.Math.Path.{subst}
use Rattle.std.proofs.lemmas.List.{length-map}
use Rattle.std.proofs.lemmas.Option.{same_Some}
use Rattle.std.specs.Prelude.{option_and_then, slice_get}
use Rattle.term_model.specs.Inheritance.{Derives}
use Rattle.term_model.specs.WholeRecords.{IsClass as IsClassOf}
use Rattle.term_model.specs.WholeSet.{AreOrdered}
use Rattle.term_model.specs.declared.schema.ClassRec.{ClassRec}
use Rattle.term_model.specs.declared.schema.Set.{Set}
use Rattle.asn1_names.specs.ModuleTerms.{ModuleTerm}
use Rattle.link_graphs.specs.Leading.{Leads, LeadsAtOnce}
use Rattle.link_graphs.proofs.LeadingLaws.{target_within}
use Rattle.linked_parts.specs.declared.linked.Linked.{Linked}
use Rattle.linked_parts.specs.declared.linked.LinkedClass.{LinkedClass}
use Rattle.class_faults.specs.CyclicClasses.{superclass_lists}
use Rattle.class_faults.specs.CyclicClasses.CyclicClassAt.{of_class}
use Rattle.class_faults.specs.FirstClassFault.{AreFaultless}
use Rattle.class_faults.specs.FirstClassFault.ClassFault.{ClassCyclic}
use Rattle.joined_properties.proofs.GraphPlaces.{got_some, got_within, leads_above, listed, placed}
use Rattle.linked_types.specs.PartIdentifiers.{AreEach, IsClassId}
use Rattle.schema_records.specs.ApartParts.{HaveOwnIdentifiers}
use Rattle.schema_records.specs.ClassRecords.{IsClass}
use Rattle.schema_records.proofs.ClassLaws.{each_from, named_part}
use Rattle.order_laws.proofs.ClassPlaces.{class_place, is_place}
use Rattle.order_laws.proofs.RankLaws.{is_behind, is_below, rank}

-- ---- elements of lists

as_many : {A B : Type 0} (Is : A → B → Type 0) (xs : List A) (ys : List B) → AreEach Is xs ys → length xs ≡ length ys
as_many Is [] [] each = refl
as_many Is [] (y ∷ ys) each = absurd each
as_many Is (x ∷ xs) [] each = absurd each
as_many Is (x ∷ xs) (y ∷ ys) each = ap suc (as_many Is xs ys each.1)

of_mapped : {A B : Type 0} (view : A → B) (xs : List A) (k : ℕ) (y : B) → slice_get (map view xs) k ≡ Some y →
    (x : A) × (slice_get xs k ≡ Some x) × (view x ≡ y)
of_mapped view [] k y at = absurd (cc)
of_mapped view (x ∷ xs) zero y at = (x, refl, same_Some (view x) y at)
of_mapped view (x ∷ xs) (suc k) y at = of_mapped view xs k y at

-- ---- the places of classes

module _ (ms : List ModuleTerm) (linked : Linked) (schema : Set) (faultless : AreFaultless ms linked)
    (own : HaveOwnIdentifiers linked) (are : AreEach (IsClass ms linked) linked.classes.items schema.classes) where
  size : length (superclass_lists linked) ≡ length linked.classes.items
  size = length-map linked.classes.items (λ (x : LinkedClass). x.superclasses.items)

  acyclic : (k : ℕ) → ¬ Leads (superclass_lists linked) k k
  acyclic k leads =
      let class = got_some linked.classes.items k (subst (λ n. k < n) size (target_within leads)) in
      faultless ClassCyclic class.0.head.document class.0.head.label.at
      (of_class class.1 leads (record { in_document = refl; at_token = refl }))

  abbrev place : List ℕ → ℕ
  place id = rank (superclass_lists linked) (class_place linked.classes.items id)

  -- the linked class of a record
  record IsOf (k : ℕ) (x : ClassRec) : Type 0 where
    part : LinkedClass
    at : slice_get linked.classes.items k ≡ Some part
    is : IsClass ms linked part x
    stands : class_place linked.classes.items x.id ≡ k

  part_of : (k : ℕ) (x : ClassRec) → slice_get schema.classes k ≡ Some x → IsOf k x
  part_of k x at =
      let found = each_from (IsClass ms linked) linked.classes.items schema.classes k x are at in
      record {
        part = found.0;
        at = found.1;
        is = found.2;
        stands = is_place linked own k x.id
            (ap (option_and_then (λ (y : LinkedClass). y.head.identifier)) found.1 ∙ found.2.registered.is_id);
      }

  place_below : (class : List ℕ) → IsClassOf schema class → place class < length schema.classes
  place_below class known =
      let ids = map (λ (x : ClassRec). x.id) schema.classes in
      let there = placed ids class known in
      let found = of_mapped (λ (x : ClassRec). x.id) schema.classes there.0 class there.1 in
      let of = part_of there.0 found.0 found.1 in
      let stands = ap (class_place linked.classes.items) (sym found.2) ∙ of.stands in
      let within = subst (λ n. there.0 < n) (sym size) (got_within linked.classes.items there.0 of.part of.at) in
      let many = size ∙ as_many (IsClass ms linked) linked.classes.items schema.classes are in
      subst (λ k. rank (superclass_lists linked) k < length schema.classes) (sym stands)
      (subst (λ n. rank (superclass_lists linked) there.0 < n) many
      (is_below (superclass_lists linked) acyclic there.0 within))

  place_behind : (class above : List ℕ) → Derives schema class above → place above < place class
  place_behind class above derives =
      let there = placed schema.classes derives.of_class derives.has.known in
      let of = part_of there.0 derives.of_class there.1 in
      let from = placed derives.of_class.superclasses above derives.from in
      let found = each_from (IsClassId linked) of.part.superclasses.items derives.of_class.superclasses from.0 above
      of.is.superclasses_are from.1 in
      let named = named_part (λ (x : LinkedClass). x.head) linked.classes.items found.0 above found.2 in
      let one : LeadsAtOnce (superclass_lists linked) there.0 found.0 =
      leads_above linked.classes.items there.0 found.0 of.part of.at
      (listed of.part.superclasses.items from.0 found.0 found.1)
      (got_within linked.classes.items found.0 named.part named.stands) in
      let stands = ap (class_place linked.classes.items) (sym derives.has.named) ∙ of.stands in
      subst (λ k. place above < rank (superclass_lists linked) k) (sym stands)
      (subst (λ j. rank (superclass_lists linked) j < rank (superclass_lists linked) there.0)
      (sym (is_place linked own found.0 above found.2))
      (is_behind (superclass_lists linked) acyclic there.0 found.0 one))

pub are_ordered : (ms : List ModuleTerm) (linked : Linked) (schema : Set) → AreFaultless ms linked →
    HaveOwnIdentifiers linked → AreEach (IsClass ms linked) linked.classes.items schema.classes → AreOrdered schema
are_ordered ms linked schema faultless own are = (
  place ms linked schema faultless own are,
  place_below ms linked schema faultless own are,
  place_behind ms linked schema faultless own are,
)
