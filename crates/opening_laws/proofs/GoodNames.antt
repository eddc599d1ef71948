-- The name of an object below the root is that of an object of its class: its binding licenses it below its superior,
-- and the attribute by which it is named has the value of the last part.
use Rattle.std.proofs.Common.{◌≡◌, ◌⊎◌, ℕ, Bool, true, false, List, [], ◌∷◌, refl}
use Rattle.std.proofs.Common.{sym, ap, ◌∙◌, subst, arith, inl, inr, length, is_some}
use Rattle.std.proofs.lemmas.Bool.{and_parts, false≢true, or_cases}
use Rattle.std.proofs.lemmas.List.Elements.{All-contains, All-from_recursion}
use Rattle.std.specs.Prelude.{◌&&◌, Contains, map, not, if◌then◌else◌}
use Rattle.std.specs.List.{AllByRecursion, list_any}
use Rattle.term_model.specs.declared.name.Rdn.{Rdn}
use Rattle.term_model.specs.declared.name_binding.BoundClass.{BoundClass}
use Rattle.term_model.specs.declared.object.Attribute.{Attribute}
use Rattle.term_model.specs.declared.object.Object.{Object}
use Rattle.term_model.specs.declared.objects.NamedObject.{NamedObject}
use Rattle.term_model.specs.declared.schema.InstRec.{InstRec}
use Rattle.term_model.specs.declared.schema.Set.{Set}
use Rattle.term_model.specs.AgentWritten.{is_agent_written, is_counter}
use Rattle.term_model.specs.BoundClasses.{is_bound_log}
use Rattle.term_model.specs.Comparing.{is_same_oid}
use Rattle.term_model.specs.Creating.{last_of, superior_of}
use Rattle.term_model.specs.Licensing.{is_bound_class, licenses}
use Rattle.term_model.specs.LogRecords.{counted, counted_attribute, counted_entry, counted_log, records_of}
use Rattle.term_model.specs.NamedObjects.{object_at, stored}
use Rattle.term_model.specs.PresentPackages.{classes_above, is_among}
use Rattle.term_model.specs.WellFormedObjects.{HasPart, IsGoodName}
use Rattle.term_model.specs.WholeSet.{NamesClass}
use Rattle.package_laws.proofs.Above.{listed_is_above}
use Rattle.package_laws.proofs.Members.{here, is_among_Decides, map_from, map_gets, same_id, there}
use Rattle.set_laws.proofs.Records.{record_is}
use Rattle.opening_laws.proofs.AgentValues.{counter_written}
use Rattle.opening_laws.proofs.Built.{whole_name}
use Rattle.opening_laws.proofs.Creations.{IsCreated, IsCreatedBelow}
use Rattle.opening_laws.proofs.Full.{own_class}
use Rattle.opening_laws.proofs.Held.{IsHeldIn, all_held}
use Rattle.opening_laws.proofs.Kept.{entry_named, stays_there, still_there}
use Rattle.opening_laws.proofs.Made.{attributes_are, made_of}
use Rattle.opening_laws.proofs.Making.{IsMaking, outline_for, plain_part}
use Rattle.opening_laws.proofs.Steps.{IsFree}

-- ---- the binding

any_in : (p : List ℕ → Bool) (xs : List (List ℕ)) → list_any p xs ≡ true
    → (x : List ℕ) × Contains xs x × (p x ≡ true)
any_in p [] e = absurd (false≢true e)
any_in p (x ∷ xs) e = elim (or_cases (p x) (list_any p xs) e) [
  | inl is ↦ (x, here x xs, is)
  | inr later ↦ (let found = any_in p xs later in (found.0, there x found.0 xs found.1, found.2))
]

names_class : (schema : Set) (bound : BoundClass) (class : List ℕ) → is_bound_class schema bound class ≡ true
    → NamesClass bound schema class
names_class schema bound class e =
    elim (or_cases (is_same_oid bound.class class)
    (bound.subclasses && list_any (is_same_oid bound.class) (classes_above schema.classes class)) e) [
      | inl same ↦ inl ((same_id bound.class class).0 same)
      | inr below ↦ (
          let parts = and_parts bound.subclasses
          (list_any (is_same_oid bound.class) (classes_above schema.classes class)) below in
          let found = any_in (is_same_oid bound.class) (classes_above schema.classes class) parts.1 in
          let listed = subst (Contains (classes_above schema.classes class))
          (sym ((same_id bound.class found.0).0 found.2)) found.1 in
          inr (parts.0, listed_is_above schema class bound.class listed)
          )
    ]

-- ---- the attribute that names the object

named_part : (schema : Set) (instance : InstRec) (object : Object) (made : IsMaking schema instance object)
    → HasPart schema object made.created.creation.named
named_part schema instance object made =
    let class = made.created.class in
    let creation = made.created.creation in
    let part = creation.named in
    let outline = outline_for schema instance class in
    let tests = and_parts (is_among outline.attributes part.attribute)
    (not (is_agent_written schema outline.bound_log part.attribute)) made.created.names in
    let among = (is_among_Decides outline.attributes part.attribute).0 tests.0 in
    let all_of = attributes_are schema creation outline object
    (made_of schema creation outline object made.created.made_so) in
    let found = map_from (λ (held : Attribute). held.id) object.attrs part.attribute
    (subst (λ (ids : List (List ℕ)). Contains ids part.attribute) (sym all_of) among) in
    let is = All-contains (IsHeldIn schema class part) object.attrs found.0
    (All-from_recursion (IsHeldIn schema class part) object.attrs (all_held schema instance object made)) found.1 in
    let record_of = record_is schema.attributes found.0.id is.0 is.1 in
    record {
      held = found.0;
      there = found.1;
      named = found.2;
      template = is.0;
      known = record_of.0;
      is = record_of.1;
      value = is.2.agrees (sym found.2);
    }

-- ---- an object that is created

pub good_name_made : (schema : Set) (objects : List NamedObject) (instance : InstRec) (object : Object)
    (made : IsMaking schema instance object) (below : IsCreatedBelow schema objects instance object)
    → IsFree objects instance.name → below.created ≡ made.created
    → IsGoodName schema (stored (record { name = instance.name; object = object }) objects)
    (record { name = instance.name; object = object })
good_name_made schema objects instance object made below free same =
    let entry : NamedObject = record { name = instance.name; object = object } in
    let creation = made.created.creation in
    let class = made.created.class in
    let outline = outline_for schema instance class in
    let last = last_of below.first below.rest in
    let same_class = own_class schema instance object made in
    let named : creation.named ≡ last =
    ap (λ (c : IsCreated schema instance object). c.creation.named) (sym same) ∙ below.named in
    let binds = and_parts (is_same_oid below.binding.attribute below.created.creation.named.attribute)
    (licenses schema below.created.class below.superior.class below.binding) below.licensed in
    let licensed = and_parts (is_bound_class schema below.binding.subordinate below.created.class)
    (is_bound_class schema below.binding.superior below.superior.class) binds.1 in
    let class_so : below.created.class ≡ object.class =
    ap (λ (c : IsCreated schema instance object). c.class) same ∙ same_class in
    let of = made_of schema creation outline object made.created.made_so in
    let none : is_some (object_at objects instance.name) ≡ false =
    ap (λ n. is_some (object_at objects n)) free.is ∙ free.free in
    record {
      front = superior_of (below.first ∷ below.rest);
      last = last;
      is = below.is ∙ whole_name below.first below.rest;
      deep = omega (arith, ap length free.is, free.deep);
      superior = below.superior;
      there = stays_there entry objects (superior_of (below.first ∷ below.rest)) below.superior none below.there;
      binding = below.binding;
      known = below.known;
      bound = ap (λ (o : Object). o.binding) (sym of.is)
          ∙ ap (λ (c : IsCreated schema instance object). c.creation.binding) (sym same) ∙ below.bound;
      subordinate =
          subst (NamesClass below.binding.subordinate schema) class_so
          (names_class schema below.binding.subordinate below.created.class licensed.0);
      above = names_class schema below.binding.superior below.superior.class licensed.1;
      attribute =
          (same_id below.binding.attribute below.created.creation.named.attribute).0 binds.0
          ∙ ap (λ (part : Rdn). part.attribute) below.named;
      plain =
          subst (λ (part : Rdn). is_agent_written schema (is_bound_log schema object.class) part.attribute ≡ false)
          named
          (subst (λ (c : List ℕ). is_agent_written schema (is_bound_log schema c) creation.named.attribute ≡ false)
          same_class (plain_part schema instance object made.created));
      value = subst (HasPart schema object) named (named_part schema instance object made);
    }

-- ---- and beside others

pub name_stays_good : (schema : Set) (entry : NamedObject) (objects : List NamedObject) (one : NamedObject)
    → is_some (object_at objects entry.name) ≡ false → IsGoodName schema objects one
    → IsGoodName schema (stored entry objects) one
name_stays_good schema entry objects one free good = record {
  front = good.front;
  last = good.last;
  is = good.is;
  deep = good.deep;
  superior = good.superior;
  there = stays_there entry objects good.front good.superior free good.there;
  binding = good.binding;
  known = good.known;
  bound = good.bound;
  subordinate = good.subordinate;
  above = good.above;
  attribute = good.attribute;
  plain = good.plain;
  value = good.value;
}

-- ---- and as logs tell of their records

among_counted : (schema : Set) (objects : List NamedObject) (one : NamedObject) → IsGoodName schema objects one
    → IsGoodName schema (counted schema objects) one
among_counted schema objects one good =
    let told = still_there schema objects good.front good.superior good.there in
    record {
      front = good.front;
      last = good.last;
      is = good.is;
      deep = good.deep;
      superior = told.0;
      there = told.1;
      binding = good.binding;
      known = good.known;
      bound = good.bound;
      subordinate = good.subordinate;
      above = subst (NamesClass good.binding.superior schema) (sym told.2) good.above;
      attribute = good.attribute;
      plain = good.plain;
      value = good.value;
    }

-- an attribute that the agent doesn't write is no count
stays_held : (schema : Set) (records : List NamedObject) (held : Attribute) → is_counter schema true held.id ≡ false
    → counted_attribute schema records held ≡ held
stays_held schema records held plain = rw plain refl

part_stays : (schema : Set) (records : List NamedObject) (object : Object) (part : Rdn)
    → is_agent_written schema true part.attribute ≡ false → HasPart schema object part
    → HasPart schema (counted_log schema records object) part
part_stays schema records object part plain has =
    let no_count : is_counter schema true has.held.id ≡ false = by (is_counter schema true has.held.id) refl in
    let same = stays_held schema records has.held no_count in
    record {
      held = has.held;
      there =
          subst (Contains (map (counted_attribute schema records) object.attrs)) same
          (map_gets (counted_attribute schema records) object.attrs has.held has.there);
      named = has.named;
      template = has.template;
      known = has.known;
      is = has.is;
      value = has.value;
    }
  where
    by : (b : Bool) → is_counter schema true has.held.id ≡ b → is_counter schema true has.held.id ≡ false
    by true is =
        absurd
        (false≢true (sym plain ∙ ap (is_agent_written schema true) (sym has.named)
        ∙ counter_written schema true has.held.id is))
    by false is = is

log_name_good : (schema : Set) (objects records : List NamedObject) (one : NamedObject)
    → is_bound_log schema one.object.class ≡ true → IsGoodName schema objects one
    → IsGoodName schema objects (record one { object = counted_log schema records one.object })
log_name_good schema objects records one log good = record {
  front = good.front;
  last = good.last;
  is = good.is;
  deep = good.deep;
  superior = good.superior;
  there = good.there;
  binding = good.binding;
  known = good.known;
  bound = good.bound;
  subordinate = good.subordinate;
  above = good.above;
  attribute = good.attribute;
  plain = good.plain;
  value =
      part_stays schema records one.object good.last
      (ap (λ b. is_agent_written schema b good.last.attribute) (sym log) ∙ good.plain) good.value;
}

entry_name_good : (schema : Set) (objects : List NamedObject) (one : NamedObject) (behind : List NamedObject)
    → IsGoodName schema objects one → IsGoodName schema objects (counted_entry schema one behind)
entry_name_good schema objects one behind good = by (is_bound_log schema one.object.class) refl
  where
    log : NamedObject
    log = record one { object = counted_log schema (records_of schema one.name behind) one.object }

    by : (b : Bool) → is_bound_log schema one.object.class ≡ b
        → IsGoodName schema objects (counted_entry schema one behind)
    by true is =
        subst (λ b. IsGoodName schema objects (if b then log else one)) (sym is)
        (log_name_good schema objects (records_of schema one.name behind) one is good)
    by false is = subst (λ b. IsGoodName schema objects (if b then log else one)) (sym is) good

-- the root, or a good name
abbrev pub IsNamedWell : Set → List NamedObject → NamedObject → Type 0
IsNamedWell schema objects entry = (entry.name ≡ []) ⊎ IsGoodName schema objects entry

counted_well : (schema : Set) (all : List NamedObject) (one : NamedObject) (behind : List NamedObject)
    → IsNamedWell schema all one → IsNamedWell schema (counted schema all) (counted_entry schema one behind)
counted_well schema all one behind (inl root) = inl (entry_named schema one behind ∙ root)
counted_well schema all one behind (inr good) =
    inr (entry_name_good schema (counted schema all) one behind (among_counted schema all one good))

pub counted_names : (schema : Set) (all objects : List NamedObject) → AllByRecursion (IsNamedWell schema all) objects
    → AllByRecursion (IsNamedWell schema (counted schema all)) (counted schema objects)
counted_names schema all [] h = tt
counted_names schema all (entry ∷ others) h =
    (counted_well schema all entry (counted schema others) h.0, counted_names schema all others h.1)
