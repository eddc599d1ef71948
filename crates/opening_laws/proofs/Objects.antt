-- Of each object at the opening: its class has a record, it has exactly the attributes that are listed for its class
-- and its packages, and it isn't too long.
use Rattle.std.proofs.Common.{◌≡◌, ℕ, ◌≤◌, Bool, true, false, List, [], ◌∷◌, Ok, refl, sym, ap, ◌∙◌, subst}
use Rattle.std.proofs.Common.{length}
use Rattle.std.proofs.lemmas.List.Elements.{All-from_recursion}
use Rattle.std.proofs.Common.{pos}
use Rattle.std.specs.Prelude.{Contains, filter, map, not, codes, ◌&&◌, ◌||◌, if◌then◌else◌}
use Rattle.std.specs.List.{AllByRecursion}
use Rattle.std.specs.List.Sorted.{IsStrictlySortedBy}
use Rattle.std.specs.Cmp.Lexicographic.{nat_list_cmp_total, slice_cmp}
use Rattle.std.specs.Ordering.{nat_cmp, ordering_reverse}
use Rattle.std.specs.declared.cmp.Ordering.{Ordering}
use Rattle.std.specs.declared.cmp.Ordering.TheVariants.{Less, Equal, Greater}
use Rattle.term_model.specs.declared.object.Attribute.{Attribute}
use Rattle.term_model.specs.declared.object.Object.{Object}
use Rattle.term_model.specs.declared.objects.NamedObject.{NamedObject}
use Rattle.term_model.specs.declared.schema.ClassRec.{ClassRec}
use Rattle.term_model.specs.declared.schema.InstRec.{InstRec}
use Rattle.term_model.specs.declared.schema.Set.{Set}
use Rattle.term_model.specs.AgentWritten.{is_counter}
use Rattle.term_model.specs.BoundClasses.{counts, is_bound_log, object_size, tells_of_records}
use Rattle.term_model.specs.ClassAttributes.{is_labelled}
use Rattle.term_model.specs.Creation.{attributes_of, noted, noted_all, noted_by, outline_of, packages_named, stated_ids}
use Rattle.term_model.specs.Inheritance.{HasAttribute, HasRecord}
use Rattle.term_model.specs.PresentPackages.{packages_of}
use Rattle.term_values.specs.Typed.{TypedValue}
use Rattle.term_values.specs.Typed.TypedValue.{Int}
use Rattle.term_model.specs.LogRecords.{counted, counted_attribute, counted_entry, counted_log, counted_value}
use Rattle.term_model.specs.LogRecords.{records_of}
use Rattle.term_model.specs.ObjectOperation.{object_octets}
use Rattle.term_model.specs.Opening.{asking_of, opened, opened_instances}
use Rattle.term_model.specs.ObjectAttributes.{identifiers}
use Rattle.package_laws.proofs.Attributes.{attribute_is_listed, listed_has_attribute}
use Rattle.package_laws.proofs.Members.{here, there}
use Rattle.opening_laws.specs.OpeningLaws.{HasEachAttribute, IsOpenedObject, OpenedHaveAttributes, OpenedHaveObjects}
use Rattle.opening_laws.proofs.Creations.{IsCreated, has_record, instance_created, root_created}
use Rattle.opening_laws.proofs.Kept.{all_stored}
use Rattle.opening_laws.proofs.Made.{attributes_are, made_of}
use Rattle.opening_laws.proofs.Steps.{kept_in, same_Ok, then_ok}

pub record IsWellMade (schema : Set) (object : Object) : Type 0 where
  pub class : ClassRec
  pub known : HasRecord schema object.class class
  pub has : identifiers object.attrs ≡ attributes_of schema object.class object.chosen
  pub small : object_size schema object ≤ 16384

-- ---- as it is created

pub well_made : (schema : Set) (instance : InstRec) (object : Object) → IsCreated schema instance object
    → IsWellMade schema object
well_made schema instance object created =
    let given = (asking_of schema instance).given in
    let class = created.class in
    let outline = outline_of schema class given in
    let of = made_of schema created.creation outline object created.made_so in
    let is_class : class ≡ object.class = sym created.of_class ∙ ap (λ (o : Object). o.class) of.is in
    let is_chosen : packages_named schema class given ≡ object.chosen = ap (λ (o : Object). o.chosen) of.is in
    let known = has_record schema instance class created.asked in
    record {
      class = known.0;
      known = subst (λ (id : List ℕ). HasRecord schema id known.0) is_class known.1;
      has = attributes_are schema created.creation outline object of
          ∙ ap (λ (id : List ℕ). attributes_of schema id (packages_named schema class given)) is_class
          ∙ ap (attributes_of schema object.class) is_chosen;
      small = of.small;
    }

-- ---- as it tells of its records

-- an attribute under another value
same_id : (b : Bool) (value : TypedValue) (held : Attribute)
    → ◌≡◌ {A = List ℕ} (if b then record held { value = value } else held).id held.id
same_id true value held = refl
same_id false value held = refl

abbrev value_told : Set → List NamedObject → Attribute → TypedValue
value_told schema records held = Int (pos (counted_value schema records held.id))

counted_ids : (schema : Set) (records : List NamedObject) (attributes : List Attribute)
    → identifiers (map (counted_attribute schema records) attributes) ≡ identifiers attributes
counted_ids schema records [] = refl
counted_ids schema records (held ∷ others) = λ i.
    same_id (is_counter schema true held.id) (value_told schema records held) held i
    ∷ counted_ids schema records others i

either : (a c n : Bool) → (c || n) ≡ true → (a || c || n) ≡ true
either true true n e = refl
either true false true e = refl
either true false false e = refl
either false true n e = refl
either false false true e = refl
either false false false e = absurd (cc)

-- a count doesn't count for the size of a bound log
pub not_measured : (schema : Set) (class id : List ℕ) → is_bound_log schema class ≡ true
    → is_counter schema true id ≡ true → counts schema class id ≡ false
not_measured schema class id bound told =
    ap (λ b. not (b && tells_of_records schema.attributes id)) bound
    ∙ ap not
    (either (is_labelled schema.attributes (codes "availabilityStatus") id)
    (is_labelled schema.attributes (codes "currentLogSize") id)
    (is_labelled schema.attributes (codes "numberOfRecords") id) told)

left_out : {X : Type 0} (p : X → Bool) (x : X) (xs : List X) → p x ≡ false → filter p (x ∷ xs) ≡ filter p xs
left_out p x xs e = rw e refl

measured_same : (schema : Set) (class : List ℕ) (records : List NamedObject) (attributes : List Attribute)
    → is_bound_log schema class ≡ true
    → filter (λ (held : Attribute). counts schema class held.id) (map (counted_attribute schema records) attributes)
    ≡ filter (λ (held : Attribute). counts schema class held.id) attributes
measured_same schema class records [] bound = refl
measured_same schema class records (held ∷ others) bound =
    by (is_counter schema true held.id) refl (measured_same schema class records others bound)
  where
    test : Attribute → Bool
    test one = counts schema class one.id

    rest : List Attribute
    rest = map (counted_attribute schema records) others

    told : Attribute
    told = record held { value = value_told schema records held }

    by : (b : Bool) → is_counter schema true held.id ≡ b → filter test rest ≡ filter test others
        → filter test (counted_attribute schema records held ∷ rest) ≡ filter test (held ∷ others)
    by true is again =
        let none = not_measured schema class held.id bound is in
        ap (λ b. filter test ((if b then told else held) ∷ rest)) is
        ∙ left_out test told rest none ∙ again ∙ sym (left_out test held others none)
    by false is again =
        ap (λ b. filter test ((if b then told else held) ∷ rest)) is
        ∙ ap (λ os. if test held then held ∷ os else os) again

log_well_made : (schema : Set) (records : List NamedObject) (object : Object)
    → is_bound_log schema object.class ≡ true → IsWellMade schema object
    → IsWellMade schema (counted_log schema records object)
log_well_made schema records object bound of = record {
  class = of.class;
  known = of.known;
  has = counted_ids schema records object.attrs ∙ of.has;
  small = subst (λ n. n ≤ 16384)
      (sym (ap (λ held. length (object_octets schema.attributes (record object { attrs = held })))
      (measured_same schema object.class records object.attrs bound)))
      of.small;
}

pub entry_well_made : (schema : Set) (entry : NamedObject) (behind : List NamedObject) → IsWellMade schema entry.object
    → IsWellMade schema (counted_entry schema entry behind).object
entry_well_made schema entry behind of = by (is_bound_log schema entry.object.class) refl
  where
    log : NamedObject
    log = record entry { object = counted_log schema (records_of schema entry.name behind) entry.object }

    by : (b : Bool) → is_bound_log schema entry.object.class ≡ b
        → IsWellMade schema (counted_entry schema entry behind).object
    by true is =
        subst (λ b. IsWellMade schema (if b then log else entry).object) (sym is)
        (log_well_made schema (records_of schema entry.name behind) entry.object is of)
    by false is = subst (λ b. IsWellMade schema (if b then log else entry).object) (sym is) of

all_counted : (schema : Set) (objects : List NamedObject)
    → AllByRecursion (λ (entry : NamedObject). IsWellMade schema entry.object) objects
    → AllByRecursion (λ (entry : NamedObject). IsWellMade schema entry.object) (counted schema objects)
all_counted schema [] all = tt
all_counted schema (entry ∷ others) all =
    (entry_well_made schema entry (counted schema others) all.0, all_counted schema others all.1)

-- ---- all objects

pub all_well_made : (schema : Set) (objects : List NamedObject) → opened schema ≡ Ok objects
    → AllByRecursion (λ (entry : NamedObject). IsWellMade schema entry.object) objects
all_well_made schema objects e =
    let Fact : List NamedObject → Type 0 = AllByRecursion (λ (entry : NamedObject). IsWellMade schema entry.object) in
    let step =
    then_ok (opened_instances schema schema.instances) (λ found. Ok (counted schema found)) objects e in
    subst Fact (same_Ok (counted schema step.0) objects step.2)
    (all_counted schema step.0
    (kept_in schema Fact schema.instances step.0
    (λ first object there made. (well_made schema first object (root_created schema first object made), tt))
    (λ os instance object there made few all.
    all_stored (λ (entry : NamedObject). IsWellMade schema entry.object)
    (record { name = instance.name; object = object }) os
    (well_made schema instance object (instance_created schema os instance object made)) all) step.1))

-- ---- the attributes rise, each once

Rising : List (List ℕ) → Type 0
Rising = IsStrictlySortedBy (slice_cmp nat_cmp)

turned : (xs ys : List ℕ) (o : Ordering) → slice_cmp nat_cmp xs ys ≡ o → slice_cmp nat_cmp ys xs ≡ ordering_reverse o
turned xs ys o e = nat_list_cmp_total.antisymm ys xs ∙ ap ordering_reverse e

all_noted : (P : List ℕ → Type 0) (id : List ℕ) (found : List (List ℕ)) → P id → AllByRecursion P found
    → AllByRecursion P (noted id found)
all_noted P id [] one all = (one, tt)
all_noted P id (first ∷ others) one all = by (all_noted P id others one all.1) (slice_cmp nat_cmp id first)
  where
    by : AllByRecursion P (noted id others) → (o : Ordering)
        → AllByRecursion P (noted_by o id first others (noted id others))
    by rest Less = (one, all)
    by rest Equal = all
    by rest Greater = (all.0, rest)

all_further : (id first : List ℕ) (others : List (List ℕ)) → slice_cmp nat_cmp id first ≡ Less
    → AllByRecursion (λ n. slice_cmp nat_cmp first n ≡ Less) others
    → AllByRecursion (λ n. slice_cmp nat_cmp id n ≡ Less) others
all_further id first [] low all = tt
all_further id first (n ∷ ns) low all =
    (nat_list_cmp_total.trans id first n low all.0, all_further id first ns low all.1)

noted_rises : (id : List ℕ) (found : List (List ℕ)) → Rising found → Rising (noted id found)
unfolding IsStrictlySortedBy Rising
noted_rises id [] h = (tt, tt)
noted_rises id (first ∷ others) h = by (noted_rises id others h.1) (slice_cmp nat_cmp id first) refl
  where
    by : Rising (noted id others) → (o : Ordering) → slice_cmp nat_cmp id first ≡ o
        → Rising (noted_by o id first others (noted id others))
    by rest Less e = ((e, all_further id first others e h.0), h)
    by rest Equal e = h
    by rest Greater e =
        (all_noted (λ n. slice_cmp nat_cmp first n ≡ Less) id others (turned id first Greater e) h.0, rest)

all_rise : (found ids : List (List ℕ)) → Rising found → Rising (noted_all found ids)
all_rise found [] h = h
all_rise found (id ∷ ids) h = all_rise (noted id found) ids (noted_rises id found h)

none_rise : Rising []
unfolding IsStrictlySortedBy Rising
none_rise = tt

pub attributes_rise : (schema : Set) (class : List ℕ) (chosen : List (List ℕ))
    → IsStrictlySortedBy (slice_cmp nat_cmp) (attributes_of schema class chosen)
unfolding Rising
attributes_rise schema class chosen = all_rise [] (stated_ids (packages_of schema class chosen)) none_rise

-- ---- the laws

all_from : (P : List ℕ → Type 0) (xs : List (List ℕ)) → ((x : List ℕ) → Contains xs x → P x) → AllByRecursion P xs
all_from P [] f = tt
all_from P (x ∷ xs) f = (f x (here x xs), all_from P xs (λ y at. f y (there x y xs at)))

pub good_object : (schema : Set) (object : Object) → IsWellMade schema object → IsOpenedObject schema object
good_object schema object of = record {
  class = of.class;
  known = of.known;
  once = subst (IsStrictlySortedBy (slice_cmp nat_cmp)) (sym of.has)
      (attributes_rise schema object.class object.chosen);
  of_packages = All-from_recursion (HasAttribute schema object.class object.chosen) (identifiers object.attrs)
      (all_from (HasAttribute schema object.class object.chosen) (identifiers object.attrs)
      (λ id at.
      listed_has_attribute schema object.class object.chosen id
      (subst (λ (ids : List (List ℕ)). Contains ids id) of.has at)));
  small = of.small;
}

all_by : (P Q : NamedObject → Type 0) (objects : List NamedObject) → ((entry : NamedObject) → P entry → Q entry)
    → AllByRecursion P objects → AllByRecursion Q objects
all_by P Q [] f all = tt
all_by P Q (x ∷ xs) f all = (f x all.0, all_by P Q xs f all.1)

pub opened_objects : OpenedHaveObjects
opened_objects schema objects e =
    All-from_recursion (λ (entry : NamedObject). IsOpenedObject schema entry.object) objects
    (all_by (λ (entry : NamedObject). IsWellMade schema entry.object)
    (λ (entry : NamedObject). IsOpenedObject schema entry.object) objects
    (λ entry of. good_object schema entry.object of) (all_well_made schema objects e))

pub opened_attributes : OpenedHaveAttributes
opened_attributes schema objects once e =
    All-from_recursion (λ (entry : NamedObject). HasEachAttribute schema entry.object) objects
    (all_by (λ (entry : NamedObject). IsWellMade schema entry.object)
    (λ (entry : NamedObject). HasEachAttribute schema entry.object) objects
    (λ entry of id has.
    subst (λ (ids : List (List ℕ)). Contains ids id) (sym of.has)
    (attribute_is_listed schema entry.object.class entry.object.chosen id once has)) (all_well_made schema objects e))
