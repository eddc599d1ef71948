-- The request that is read of the argument of m-Create is one that the tree denotes: X.711, section 7.4.
use Rattle.std.proofs.Common.{◌≡◌, List, [], ◌∷◌, Bool, true, false, Option, None, Some, refl, sym, ap, subst}
use Rattle.std.proofs.Common.{◌∙◌}
use Rattle.std.proofs.lemmas.Option.{none-some, same_Some}
use Rattle.std.specs.Prelude.{is_some, option_and_then, option_map, if◌then◌else◌}
use Rattle.term_values.specs.Decoding.{inside_of}
use Rattle.term_values.specs.FilterTrees.{is_context}
use Rattle.term_values.specs.Tag.{context, universal}
use Rattle.term_values.specs.Tree.{TreeValue, TreeValues}
use Rattle.term_values.specs.Tree.TreeValue.{Constructed}
use Rattle.term_values.specs.Tree.TreeValues.{Nothing, Then}
use Rattle.term_values.specs.TreeTags.{tag_of}
use Rattle.typed_laws.proofs.Choosing.{if_some, map_some, then_some}
use Rattle.typed_laws.specs.TreeOctets.{HasOctets, HaveOctets}
use Rattle.filter_laws.specs.DenotingLaws.{AreClear}
use Rattle.filter_laws.proofs.GivenTold.{given_told}
use Rattle.filter_laws.proofs.IdTold.{id_is_denoted}
use Rattle.filter_laws.proofs.Options.{there}
use Rattle.term_model.specs.declared.filter_item.Given.{Given}
use Rattle.term_model.specs.declared.request.Instance.{Instance}
use Rattle.term_model.specs.declared.request.Place.{Place}
use Rattle.term_model.specs.declared.request.Place.TheVariants as places
use Rattle.term_model.specs.declared.request.Request.{Request}
use Rattle.term_model.specs.declared.request.Request.TheVariants as requests
use Rattle.term_model.specs.declared.schema.AttrRec.{AttrRec}
use Rattle.term_model.specs.declared.schema.Set.{Set}
use Rattle.term_model.specs.ArgumentRows.{all_in, at_end, at_front, begins_place, held_under}
use Rattle.term_model.specs.Assertions.{given_in, id_in}
use Rattle.term_model.specs.FilterDenoting.{DenoteGiven}
use Rattle.term_model.specs.InstanceNames.{instance_in}
use Rattle.term_model.specs.Parts.{inside_under, one_under}
use Rattle.term_model.specs.CreateReading.{attribute_in, create_attributes, create_in, create_instances, create_of}
use Rattle.term_model.specs.CreateReading.{create_trees, create_with, givens_of, place_in, place_of, reference_of}
use Rattle.request_laws.specs.CreateDenoting.{AreAttributes, AreGiven, CreateIsDenoted, DenotesCreate, IsPlace}
use Rattle.request_laws.specs.CreateDenoting.{IsReference}
use Rattle.request_laws.specs.RequestDenoting.{before}
use Rattle.request_laws.proofs.HeadTold.{access_told, front_back, front_octets, inside_told, instance_told, one_told}
use Rattle.request_laws.proofs.ScopedTold.{inside_held, last_told}

-- ---- where the object is to be created

place_in_told : (set : Set) (x : TreeValue) (place : Place) → HasOctets x → place_in set x ≡ Some place
    → IsPlace set (Some x) place
place_in_told set x place octets e =
    go (is_context 8 (tag_of x)) e
  where
    go : (b : Bool) → (if b then option_map places.Below (option_and_then (instance_in set) (one_under (context 8) x))
        else option_map places.At (instance_in set x)) ≡ Some place → IsPlace set (Some x) place
    go true e =
        let m = map_some places.Below (option_and_then (instance_in set) (one_under (context 8) x)) place e in
        let f = then_some (instance_in set) (one_under (context 8) x) m.0 m.1 in
        let is = one_told (context 8) x f.0 f.1 in
        subst (IsPlace set (Some x)) m.2
        (f.0, is, instance_told set f.0 m.0 (subst HasOctets is octets).0 f.2)
    go false e =
        let m = map_some places.At (instance_in set x) place e in
        subst (IsPlace set (Some x)) m.2 (instance_told set x m.0 octets m.1)

place_told : (set : Set) (o : Option TreeValue) (place : Place) → ((x : TreeValue) → o ≡ Some x → HasOctets x)
    → place_of set o ≡ Some place → IsPlace set o place
place_told set None place octets e = sym (same_Some places.Free place e)
place_told set (Some x) place octets e = place_in_told set x place (octets x refl) e

reference_told : (set : Set) (o : Option TreeValue) (reference : Option Instance)
    → ((x : TreeValue) → o ≡ Some x → HasOctets x) → reference_of set o ≡ Some reference
    → IsReference set o reference
reference_told set None reference octets e = sym (same_Some None reference e)
reference_told set (Some x) reference octets e =
    let m = map_some Some (option_and_then (instance_in set) (one_under (context 6) x)) reference e in
    let f = then_some (instance_in set) (one_under (context 6) x) m.0 m.1 in
    let is = one_told (context 6) x f.0 f.1 in
    (f.0, m.0, is, instance_told set f.0 m.0 (subst HasOctets is (octets x refl)).0 f.2, sym m.2)

-- ---- the attributes

given_all : (records : List AttrRec) (xs : TreeValues) (given : List Given) → AreClear records → HaveOctets xs
    → all_in (attribute_in records) xs ≡ Some given → AreGiven records xs given
given_all records Nothing given clear octets e = subst (AreGiven records Nothing) (same_Some [] given e) refl
given_all records (Then x xs) given clear octets e =
    let f = then_some (λ a. option_map (λ rest. a ∷ rest) (all_in (attribute_in records) xs)) (attribute_in records x)
    given e in
    let m = map_some (λ rest. f.0 ∷ rest) (all_in (attribute_in records) xs) given f.2 in
    let i = then_some (given_in records) (inside_under (universal 16) x) f.0 f.1 in
    let is = inside_told (universal 16) x i.0 i.1 in
    subst (AreGiven records (Then x xs)) m.2 (
      i.0,
      xs,
      ap (λ y. Then y xs) is,
      there (DenoteGiven records i.0) (given_in records i.0) f.0
          (given_told records i.0 clear (subst HasOctets is octets.0)) i.2,
      given_all records xs m.0 clear octets.1 m.1,
    )

attributes_told : (records : List AttrRec) (o : Option TreeValue) (given : List Given) → AreClear records
    → ((x : TreeValue) → o ≡ Some x → HasOctets x) → ((x : TreeValue) → o ≡ Some x → tag_of x ≡ context 7)
    → givens_of records o ≡ Some given → AreAttributes records o given
attributes_told records None given clear octets tags e = sym (same_Some [] given e)
attributes_told records (Some x) given clear octets tags e =
    let i = then_some (all_in (attribute_in records)) (inside_of x) given e in
    let is : x ≡ Constructed (context 7) i.0 =
    inside_held x i.0 i.1 ∙ ap (λ t. Constructed t i.0) (tags x refl) in
    (i.0, is, given_all records i.0 given clear (subst HasOctets is (octets x refl)) i.2)

-- ---- m-Create

inside_is : (set : Set) (xs : TreeValues) (request : Request) → AreClear set.attributes → HaveOctets xs
    → create_in set xs ≡ Some request → DenotesCreate set (Constructed (universal 16) xs) request
inside_is set Nothing request clear octets e = absurd (none-some _ e)
inside_is set (Then class rest) request clear octets e =
    let at = at_front begins_place rest in
    let access = at_front (is_context 5) at.1 in
    let other = at_front (is_context 6) access.1 in
    let at_held = front_octets begins_place rest octets.1 in
    let access_held = front_octets (is_context 5) (at_front begins_place rest).1 at_held.1 in
    let other_held = front_octets (is_context 6) (at_front (is_context 5) (at_front begins_place rest).1).1
    access_held.1 in
    let c = then_some (λ id. create_of set id (create_trees rest)) (id_in 0 1 class) request e in
    let a = then_some (λ given. create_with set c.0 given at.0 other.0)
    (create_attributes set access.0 other.1) request c.2 in
    let w = if_some (is_some (held_under 5 access.0))
    (option_and_then (givens_of set.attributes) (at_end 7 other.1)) a.0 a.1 in
    let g = then_some (givens_of set.attributes) (at_end 7 other.1) a.0 w.1 in
    let last = last_told 7 other.1 g.0 other_held.1 g.1 in
    let m = map_some (λ (instances : Place × Option Instance). requests.Create c.0 instances.0 instances.1 a.0)
    (create_instances set at.0 other.0) request a.2 in
    let p = then_some (λ found. option_map (λ reference. (found, reference)) (reference_of set other.0))
    (place_of set at.0) m.0 m.1 in
    let r = map_some (λ reference. (p.0, reference)) (reference_of set other.0) m.0 p.2 in (
      class,
      at.0,
      access.0,
      other.0,
      g.0,
      c.0,
      m.0.0,
      m.0.1,
      a.0,
      ap (λ ys. Constructed (universal 16) (Then class ys)) (front_back begins_place rest
          ∙ ap (before at.0) (front_back (is_context 5) at.1
          ∙ ap (before access.0) (front_back (is_context 6) access.1
          ∙ ap (before other.0) last.is))),
      id_is_denoted 0 1 class c.0 octets.0 c.1,
      subst (λ (q : Place × Option Instance). IsPlace set at.0 q.0) r.2 (place_told set at.0 p.0 at_held.0 p.1),
      access_told access.0 w.0,
      subst (λ (q : Place × Option Instance). IsReference set other.0 q.1) r.2
          (reference_told set other.0 r.0 other_held.0 r.1),
      attributes_told set.attributes g.0 a.0 clear last.octets last.tags g.2,
      sym m.2,
    )

pub create_is_denoted : CreateIsDenoted
create_is_denoted set tree request clear octets e =
    let i = then_some (create_in set) (inside_under (universal 16) tree) request e in
    let is = inside_told (universal 16) tree i.0 i.1 in
    subst (λ t. DenotesCreate set t request) (sym is)
    (inside_is set i.0 request clear (subst HasOctets is octets) i.2)
