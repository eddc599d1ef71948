-- The objects at the opening are well-formed.
use Rattle.std.proofs.Common.{◌≡◌, ℕ, ◌≤◌, false, List, [], ◌∷◌, Ok, refl, sym, ap, ◌∙◌}
use Rattle.std.proofs.Common.{subst, inl, inr, is_some, length}
use Rattle.std.proofs.lemmas.List.Elements.{All-from_recursion}
use Rattle.std.specs.Prelude.{Contains}
use Rattle.std.specs.List.{AllByRecursion}
use Rattle.term_model.specs.declared.object.Attribute.{Attribute}
use Rattle.term_model.specs.declared.object.Object.{Object}
use Rattle.term_model.specs.declared.objects.NamedObject.{NamedObject}
use Rattle.term_model.specs.declared.schema.ClassRec.{ClassRec}
use Rattle.term_model.specs.declared.schema.InstRec.{InstRec}
use Rattle.term_model.specs.declared.schema.Set.{Set}
use Rattle.term_model.specs.LogRecords.{counted}
use Rattle.term_model.specs.NamedObjects.{object_at, stored}
use Rattle.term_model.specs.Opening.{asking_of, create_instance, create_root, opened, opened_instances}
use Rattle.term_model.specs.WellFormedObjects.{HasValue, IsGoodObject}
use Rattle.term_model.specs.WholeSet.{IsWhole}
use Rattle.package_laws.proofs.Attributes.{attribute_is_listed}
use Rattle.opening_laws.specs.Encodable.{IsEncodable}
use Rattle.opening_laws.specs.OpeningLaws.{OpenedAreGood}
use Rattle.opening_laws.proofs.Built.{instances_built, opened_by_name, opened_few, opened_root}
use Rattle.opening_laws.proofs.Counts.{AreMade, IsMade, counted_made}
use Rattle.opening_laws.proofs.Creations.{instance_created_below, root_created}
use Rattle.opening_laws.proofs.Full.{IsFullAttribute, IsRight, full_made}
use Rattle.opening_laws.proofs.GoodNames.{IsNamedWell, counted_names, good_name_made, name_stays_good}
use Rattle.opening_laws.proofs.Kept.{all_by, all_stored}
use Rattle.opening_laws.proofs.Making.{IsMaking}
use Rattle.opening_laws.proofs.Objects.{good_object, well_made}
use Rattle.opening_laws.proofs.Steps.{instance_free, kept_in, same_Ok, then_ok}
use Rattle.opening_laws.proofs.Whole.{whole_records}

-- ---- as the objects are created

pub record AreCreated (schema : Set) (objects : List NamedObject) : Type 0 where
  pub made : AreMade schema objects
  pub named : AllByRecursion (IsNamedWell schema objects) objects

object_made : (schema : Set) (instance : InstRec) (object : Object) → IsMaking schema instance object
    → IsMade schema object
object_made schema instance object making = record {
  well = well_made schema instance object making.created;
  full = full_made schema instance object making;
}

-- a root alone
root_alone : (schema : Set) (first : InstRec) (object : Object) → IsWhole schema → IsEncodable schema
    → Contains schema.instances first → create_root schema (asking_of schema first) ≡ Ok object
    → AreCreated schema (record { name = []; object = object } ∷ [])
root_alone schema first object whole encodable there made = record {
  made = (
    object_made schema first object
        (record {
          whole = whole;
          encodable = encodable;
          there = there;
          created = root_created schema first object made;
        }),
    tt,
  );
  named = (inl refl, tt);
}

one_more : (schema : Set) (objects : List NamedObject) (instance : InstRec) (object : Object) → IsWhole schema
    → IsEncodable schema → Contains schema.instances instance
    → create_instance schema objects instance ≡ Ok object → AreCreated schema objects
    → AreCreated schema (stored (record { name = instance.name; object = object }) objects)
one_more schema objects instance object whole encodable there made before =
    let entry : NamedObject = record { name = instance.name; object = object } in
    let below = instance_created_below schema objects instance object made in
    let free = instance_free schema objects instance object made in
    let making : IsMaking schema instance object = record {
      whole = whole;
      encodable = encodable;
      there = there;
      created = below.created;
    } in
    let none : is_some (object_at objects instance.name) ≡ false =
    ap (λ n. is_some (object_at objects n)) free.is ∙ free.free in
    record {
      made =
          all_stored (λ (one : NamedObject). IsMade schema one.object) entry objects
          (object_made schema instance object making) before.made;
      named = all_stored (IsNamedWell schema (stored entry objects)) entry objects
          (inr (good_name_made schema objects instance object making below free refl))
          (all_by (IsNamedWell schema objects) (IsNamedWell schema (stored entry objects)) objects
          (λ one well. still_well one none well) before.named);
    }
  where
    still_well : (one : NamedObject) → is_some (object_at objects instance.name) ≡ false
        → IsNamedWell schema objects one
        → IsNamedWell schema (stored (record { name = instance.name; object = object }) objects) one
    still_well one none (inl root) = inl root
    still_well one none (inr good) =
        inr (name_stays_good schema (record { name = instance.name; object = object }) objects one none good)

instances_created : (schema : Set) (objects : List NamedObject) → IsWhole schema → IsEncodable schema
    → opened_instances schema schema.instances ≡ Ok objects → AreCreated schema objects
instances_created schema objects whole encodable e =
    kept_in schema (AreCreated schema) schema.instances objects
    (λ first object there made. root_alone schema first object whole encodable there made)
    (λ os instance object there made few before.
    one_more schema os instance object whole encodable there made before) e

-- ---- with the logs counted

counted_created : (schema : Set) (objects : List NamedObject) → IsWhole schema → length objects ≤ 100000
    → AreCreated schema objects → AreCreated schema (counted schema objects)
counted_created schema objects whole few before = record {
  made = counted_made schema objects whole few before.made;
  named = counted_names schema objects objects before.named;
}

opened_created : (schema : Set) (objects : List NamedObject) → IsWhole schema → IsEncodable schema
    → opened schema ≡ Ok objects → AreCreated schema objects
opened_created schema objects whole encodable e =
    let step =
    then_ok (opened_instances schema schema.instances) (λ found. Ok (counted schema found)) objects e in
    subst (AreCreated schema) (same_Ok (counted schema step.0) objects step.2)
    (counted_created schema step.0 whole (instances_built schema schema.instances step.0 step.1).few
    (instances_created schema step.0 whole encodable step.1))

-- ---- the law

all_values : (schema : Set) (class : List ℕ) (of_class : ClassRec) (attributes : List Attribute)
    → AllByRecursion (IsFullAttribute schema class of_class) attributes
    → AllByRecursion (HasValue schema class) attributes
all_values schema class of_class [] all = tt
all_values schema class of_class (held ∷ others) all = (all.0.0, all_values schema class of_class others all.1)

all_right : (schema : Set) (class : List ℕ) (of_class : ClassRec) (attributes : List Attribute)
    → AllByRecursion (IsFullAttribute schema class of_class) attributes
    → AllByRecursion (IsRight schema class of_class) attributes
all_right schema class of_class [] all = tt
all_right schema class of_class (held ∷ others) all = (all.0.1, all_right schema class of_class others all.1)

is_good : (schema : Set) (objects : List NamedObject) (entry : NamedObject) → IsWhole schema
    → IsMade schema entry.object → IsGoodObject schema objects entry
is_good schema objects entry whole made =
    let object = entry.object in
    let full = made.full in
    let opened_so = good_object schema object made.well in
    record {
      class = full.class;
      known = full.known;
      once = opened_so.once;
      of_packages = opened_so.of_packages;
      each = λ id has.
          subst (λ ids. Contains ids id) (sym made.well.has)
          (attribute_is_listed schema object.class object.chosen id (whole_records schema whole) has);
      values = All-from_recursion (HasValue schema object.class) object.attrs
          (all_values schema object.class full.class object.attrs full.all);
      permitted =
          inr (All-from_recursion (IsRight schema object.class full.class) object.attrs
          (all_right schema object.class full.class object.attrs full.all));
      small = made.well.small;
    }

pub opened_good : OpenedAreGood
opened_good schema objects whole encodable e =
    let created = opened_created schema objects whole encodable e in
    record {
      whole = whole;
      root = opened_root schema objects e;
      few = opened_few schema objects e;
      by_name = opened_by_name schema objects e;
      each = All-from_recursion (IsGoodObject schema objects) objects
          (all_by (λ (one : NamedObject). IsMade schema one.object) (IsGoodObject schema objects) objects
          (λ one made. is_good schema objects one whole made) created.made);
      below = All-from_recursion (IsNamedWell schema objects) objects created.named;
    }
