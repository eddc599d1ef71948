-- Of the values of an object, as it is created: they fit and aren't too long, and those that the agent doesn't write
-- are permitted.
use Rattle.std.proofs.Common.{◌≡◌, ℕ, ◌<◌, true, false, List, [], ◌∷◌, Some}
use Rattle.std.proofs.Common.{sym, ap, ◌∙◌, subst, arith, length}
use Rattle.std.proofs.lemmas.Bool.{and_parts}
use Rattle.std.proofs.lemmas.List.Elements.{All-cons}
use Rattle.std.specs.Prelude.{All, Contains, nat_le, option_and_then}
use Rattle.std.specs.List.{AllByRecursion}
use Rattle.std.specs.Option.{option_map_or}
use Rattle.value_fits.proofs.FitLaws.{fits_if}
use Rattle.term_values.specs.FitTest.{value_fits}
use Rattle.term_values.specs.Fits.{Fits}
use Rattle.term_values.specs.Syntaxes.{TypeSyntax}
use Rattle.term_values.specs.Typed.{TypedValue}
use Rattle.term_values.specs.Written.{der}
use Rattle.term_model.specs.declared.name.Rdn.{Rdn}
use Rattle.term_model.specs.declared.object.Attribute.{Attribute}
use Rattle.term_model.specs.declared.object.Object.{Object}
use Rattle.term_model.specs.declared.packages.Property.{Property}
use Rattle.term_model.specs.declared.schema.AttrRec.{AttrRec}
use Rattle.term_model.specs.declared.schema.ClassRec.{ClassRec}
use Rattle.term_model.specs.declared.schema.InstRec.{InstRec}
use Rattle.term_model.specs.declared.schema.Set.{Set}
use Rattle.term_model.specs.AgentWritten.{is_agent_written}
use Rattle.term_model.specs.BoundClasses.{is_bound_log}
use Rattle.term_model.specs.ClassAttributes.{is_permitted, property_among, property_of}
use Rattle.term_model.specs.Comparing.{is_same_oid}
use Rattle.term_model.specs.CreateSteps.{may_stand, octets_of}
use Rattle.term_model.specs.Inheritance.{HasRecord}
use Rattle.term_model.specs.ObjectOperation.{value_octets}
use Rattle.term_model.specs.WellFormedObjects.{HasValue, IsPermitted}
use Rattle.term_model.specs.WholeSet.{IsWhole}
use Rattle.package_laws.proofs.Members.{same_id}
use Rattle.package_laws.proofs.Records.{record_known}
use Rattle.set_laws.proofs.Properties.{one_property}
use Rattle.set_laws.proofs.Records.{record_is}
use Rattle.opening_laws.specs.Encodable.{IsEncodable, IsIdentifier}
use Rattle.opening_laws.proofs.Creations.{has_record}
use Rattle.opening_laws.proofs.Held.{IsHeldIn, all_held}
use Rattle.opening_laws.proofs.AttributeKinds.{found_if}
use Rattle.opening_laws.proofs.Made.{made_of}
use Rattle.opening_laws.proofs.Making.{IsMaking, attribute_identifier, outline_for}
use Rattle.opening_laws.proofs.Whole.{whole_records}

-- permitted, unless the agent itself writes the attribute
abbrev pub IsRight : Set → List ℕ → ClassRec → Attribute → Type 0
IsRight schema class of_class held =
    is_agent_written schema (is_bound_log schema class) held.id ≡ false → IsPermitted of_class held

-- an identifier, and a value that is no longer than a log can count
abbrev pub IsBounded : Set → Attribute → Type 0
IsBounded schema held =
    IsIdentifier held.id × (length (value_octets schema.attributes held) < 8589934592)

abbrev pub IsFullAttribute : Set → List ℕ → ClassRec → Attribute → Type 0
IsFullAttribute schema class of_class held =
    HasValue schema class held × IsRight schema class of_class held × IsBounded schema held

pub record IsFull (schema : Set) (object : Object) : Type 0 where
  pub class : ClassRec
  pub known : HasRecord schema object.class class
  pub all : AllByRecursion (IsFullAttribute schema object.class class) object.attrs

-- ---- permitted

all_permit : (permitted : List TypeSyntax) (value : TypedValue) → is_permitted permitted value ≡ true
    → All (λ (type : TypeSyntax). Fits type value) permitted
all_permit [] value e = λ i d h. absurd (omega (arith, h))
all_permit (type ∷ types) value e =
    let parts = and_parts (value_fits type value) (is_permitted types value) e in
    All-cons (λ (one : TypeSyntax). Fits one value) type types (fits_if type value parts.0)
    (all_permit types value parts.1)

-- the property that a class has for an attribute
property_known : (schema : Set) (class id : List ℕ) (of_class : ClassRec) (property : Property) → IsWhole schema
    → HasRecord schema class of_class → Contains of_class.properties property → property.attribute ≡ id
    → property_of schema class id ≡ Some property
property_known schema class id of_class property whole has at same =
    let found = found_if (λ (one : Property). is_same_oid one.attribute id) of_class.properties property at
    ((same_id property.attribute id).1 same) in
    let known : property_of schema class id ≡ Some found.0 =
    ap (option_and_then (λ (one : ClassRec). property_among one.properties id))
    (record_known schema class of_class (whole_records schema whole) has) ∙ found.1 in
    known ∙ ap Some (one_property schema class id of_class found.0 property whole has known at same)

permitted_so : (schema : Set) (class id : List ℕ) (of_class : ClassRec) (value : TypedValue) → IsWhole schema
    → HasRecord schema class of_class → may_stand schema class id value ≡ true
    → (property : Property) → Contains of_class.properties property → property.attribute ≡ id
    → All (λ (type : TypeSyntax). Fits type value) property.permitted
permitted_so schema class id of_class value whole has stands property at same =
    let parts = and_parts (option_map_or (λ (one : Property). is_permitted one.permitted value)
    (property_of schema class id) true) (nat_le (length (octets_of schema id value)) 8192) stands in
    all_permit property.permitted value
    (sym (ap (λ o. option_map_or (λ (one : Property). is_permitted one.permitted value) o true)
    (property_known schema class id of_class property whole has at same)) ∙ parts.0)

-- ---- the object

full_attribute : (schema : Set) (class : List ℕ) (of_class : ClassRec) (part : Rdn) (held : Attribute) → IsWhole schema
    → IsEncodable schema → HasRecord schema class of_class → IsHeldIn schema class part held
    → IsFullAttribute schema class of_class held
full_attribute schema class of_class part held whole encodable has (template, known, is) =
    let record_of = record_is schema.attributes held.id template known in (
      record {
        template = template;
        known = record_of.0;
        named = record_of.1;
        fits = is.fits;
        small = is.small;
      },
      λ plain. permitted_so schema class held.id of_class held.value whole has (is.tested plain),
      (
        subst IsIdentifier record_of.1 (attribute_identifier schema template encodable record_of.0),
        subst (λ octets. length octets < 8589934592)
            (sym (ap (λ o. option_map_or (λ (one : AttrRec). der one.syntax held.value) o []) known)) is.long,
      ),
    )

all_full : (schema : Set) (class : List ℕ) (of_class : ClassRec) (part : Rdn) (attributes : List Attribute)
    → IsWhole schema → IsEncodable schema → HasRecord schema class of_class
    → AllByRecursion (IsHeldIn schema class part) attributes
    → AllByRecursion (IsFullAttribute schema class of_class) attributes
all_full schema class of_class part [] whole encodable has all = tt
all_full schema class of_class part (held ∷ others) whole encodable has all = (
  full_attribute schema class of_class part held whole encodable has all.0,
  all_full schema class of_class part others whole encodable has all.1,
)

-- the class that was asked for is that of the object
pub own_class : (schema : Set) (instance : InstRec) (object : Object) (made : IsMaking schema instance object)
    → made.created.class ≡ object.class
own_class schema instance object made =
    let of = made_of schema made.created.creation (outline_for schema instance made.created.class) object
    made.created.made_so in
    sym made.created.of_class ∙ ap (λ (o : Object). o.class) of.is

pub full_made : (schema : Set) (instance : InstRec) (object : Object) → IsMaking schema instance object
    → IsFull schema object
full_made schema instance object made =
    let found = has_record schema instance made.created.class made.created.asked in
    let same = own_class schema instance object made in
    let has = subst (λ (c : List ℕ). HasRecord schema c found.0) same found.1 in
    record {
      class = found.0;
      known = has;
      all = all_full schema object.class found.0 made.created.creation.named object.attrs made.whole made.encodable has
          (subst (λ (c : List ℕ). AllByRecursion (IsHeldIn schema c made.created.creation.named) object.attrs) same
          (all_held schema instance object made));
    }
