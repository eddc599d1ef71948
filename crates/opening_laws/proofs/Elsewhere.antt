-- Values that come neither from the list of a creation nor from the agent: that in the name, the initial value and the
-- default.
use Rattle.std.proofs.Common.{◌≡◌, ◌⊎◌, ℕ, ◌<◌, ◌≤◌, ◌^◌, Bool, true, false, List, [], Option, None}
use Rattle.std.proofs.Common.{Some, refl, sym, ap, ◌∙◌, subst, inl, inr, length, arith}
use Rattle.std.proofs.lemmas.Bool.{false≢true}
use Rattle.std.proofs.lemmas.List.{append-nil}
use Rattle.std.proofs.lemmas.List.Elements.{All-contains}
use Rattle.std.proofs.lemmas.Option.{same_Some}
use Rattle.std.specs.Prelude.{All, Contains, IfSome, find, option_and_then, if◌then◌else◌}
use Rattle.std.specs.Option.{option_map}
use Rattle.term_values.proofs.Statements.{written_is_read_holds}
use Rattle.term_values.specs.BerReading.{alone, tree_at}
use Rattle.term_values.specs.Decoding.{value_in}
use Rattle.term_values.specs.Der.{written}
use Rattle.term_values.specs.Fits.{Fits}
use Rattle.term_values.specs.Soundness.{IsSound}
use Rattle.term_values.specs.Syntaxes.{TypeSyntax}
use Rattle.term_values.specs.Typed.{TypedValue}
use Rattle.term_values.specs.Written.{der}
use Rattle.typed_laws.specs.Nesting.{nesting}
use Rattle.typed_laws.specs.SyntaxTags.{has_tags}
use Rattle.typed_laws.specs.WritingLaws.{CanBeWritten}
use Rattle.typed_laws.proofs.WritableLaws.{writable_deeper}
use Rattle.typed_laws.proofs.WritingStatements.{written_is_read_again_holds}
use Rattle.term_model.specs.declared.creation.Creation.{Creation}
use Rattle.term_model.specs.declared.name.Rdn.{Rdn}
use Rattle.term_model.specs.declared.object.Attribute.{Attribute}
use Rattle.term_model.specs.declared.object.Object.{Object}
use Rattle.term_model.specs.declared.packages.Property.{Property}
use Rattle.term_model.specs.declared.schema.AttrRec.{AttrRec}
use Rattle.term_model.specs.declared.schema.ClassRec.{ClassRec}
use Rattle.term_model.specs.declared.schema.InstRec.{InstRec}
use Rattle.term_model.specs.declared.schema.Set.{Set}
use Rattle.term_model.specs.ClassAttributes.{property_among, property_of}
use Rattle.term_model.specs.Comparing.{is_same_oid}
use Rattle.term_model.specs.CreateValues.{default_value, initial_value, named_value, or_else, other_value, stated_value}
use Rattle.term_model.specs.CreateValues.{taken_value, value_of_octets}
use Rattle.term_model.specs.ObjectOperation.{attribute_record, class_record}
use Rattle.term_model.specs.WholeRecords.{IsWholeClass, IsWholeProperty}
use Rattle.term_model.specs.WholeSet.{IsWhole, IsWholeInstance, IsWholePart}
use Rattle.package_laws.proofs.Members.{same_id}
use Rattle.set_laws.proofs.Found.{found_is}
use Rattle.set_laws.proofs.Records.{class_is, one_attribute, record_is}
use Rattle.opening_laws.specs.Encodable.{HasShortValues, IsEncodable, IsStated}
use Rattle.opening_laws.specs.OpeningLaws.{NamesAreRead}
use Rattle.opening_laws.proofs.AttributeKinds.{template_found}
use Rattle.opening_laws.proofs.Creations.{IsPartOf}
use Rattle.opening_laws.proofs.Making.{IsMaking}
use Rattle.opening_laws.proofs.NestingLaws.{nests}

-- what is to be shown of such a value, before logFull is taken out of it
pub record IsFound (part : Rdn) (template : AttrRec) (id : List ℕ) (value : TypedValue) : Type 0 where
  pub fits : Fits template.syntax value
  pub long : length (der template.syntax value) < 2 ^ 32
  pub agrees : part.attribute ≡ id → der template.syntax value ≡ part.value

-- ---- the value in the name

-- what was written is read, however deep it nests
written_read : (syntax : TypeSyntax) (value : TypedValue) → CanBeWritten syntax value
    → value_of_octets syntax (der syntax value) ≡ Some value
written_read syntax value can =
    let (tree, again) = written_is_read_again_holds syntax value can in
    let count = length (der syntax value) in
    let deep : nesting tree ≤ count = omega (arith, nests tree, ap length again.whole) in
    let found : tree_at count (der syntax value) ≡ Some (tree, []) =
    ap (tree_at count) (again.whole ∙ sym (append-nil (written tree)))
    ∙ written_is_read_holds count tree [] (writable_deeper (nesting tree) count tree deep again.writable) in
    ap (λ read. option_and_then (value_in syntax) (option_and_then alone read)) found ∙ again.read

part_can : (schema : Set) (template : AttrRec) (part : Rdn) (value : TypedValue) → IsWhole schema → IsEncodable schema
    → Contains schema.attributes template → Fits template.syntax value → part.value ≡ der template.syntax value
    → length part.value < 2 ^ 32 → CanBeWritten template.syntax value
part_can schema template part value whole encodable at fits spelt short = record {
  clear = (All-contains (λ (r : AttrRec). IsSound r.syntax) schema.attributes template whole.attributes at).0;
  tags = All-contains (λ (r : AttrRec). has_tags r.syntax ≡ true) schema.attributes template encodable.tags at;
  fits = fits;
  short = subst (λ octets. length octets < 2 ^ 32) spelt short;
}

-- of the record that the search finds
part_read : (schema : Set) (template : AttrRec) (part : Rdn) (value : TypedValue) → IsWhole schema → IsEncodable schema
    → attribute_record schema.attributes part.attribute ≡ Some template → Contains schema.attributes template
    → Fits template.syntax value → part.value ≡ der template.syntax value → length part.value < 2 ^ 32
    → named_value schema part ≡ Some value
part_read schema template part value whole encodable known at fits spelt short =
    ap (λ o. option_and_then (λ syntax. value_of_octets syntax part.value)
    (option_map (λ (r : AttrRec). r.syntax) o)) known
    ∙ ap (value_of_octets template.syntax) spelt
    ∙ written_read template.syntax value (part_can schema template part value whole encodable at fits spelt short)

pub names_read : NamesAreRead
names_read schema part template value whole encodable at named fits spelt short =
    part_read schema template part value whole encodable
    (template_found schema template part.attribute whole at named) at fits spelt short

part_whole : (schema : Set) (instance : InstRec) (part : Rdn) → IsWhole schema → Contains schema.instances instance
    → IsPartOf schema instance part → IsWholePart schema part
part_whole schema instance part whole there (inl at) =
    All-contains (IsWholePart schema) schema.system part whole.system at
part_whole schema instance part whole there (inr at) =
    All-contains (IsWholePart schema) instance.name part
    (All-contains (IsWholeInstance schema) schema.instances instance whole.instances there).name at

part_short : (schema : Set) (instance : InstRec) (part : Rdn) → IsEncodable schema
    → Contains schema.instances instance → IsPartOf schema instance part → length part.value < 2 ^ 32
part_short schema instance part encodable there (inl at) = encodable.parts part (inl at)
part_short schema instance part encodable there (inr at) = encodable.parts part (inr (instance, there, at))

read_value : (schema : Set) (template : AttrRec) (part : Rdn) (id : List ℕ) (value : TypedValue) → IsWhole schema
    → IsEncodable schema → attribute_record schema.attributes id ≡ Some template → part.attribute ≡ id
    → IsWholePart schema part → length part.value < 2 ^ 32 → named_value schema part ≡ Some value
    → IsFound part template id value
read_value schema template part id value whole encodable known same (first, (own, at, named, fits, spelt)) short e =
    let record_of = record_is schema.attributes id template known in
    let equal = one_attribute schema own template whole at record_of.0 (named ∙ same ∙ sym record_of.1) in
    let fits_so : Fits template.syntax first = subst (λ (r : AttrRec). Fits r.syntax first) equal fits in
    let spelt_so : part.value ≡ der template.syntax first = spelt ∙ ap (λ (r : AttrRec). der r.syntax first) equal in
    let can = part_can schema template part first whole encodable record_of.0 fits_so spelt_so short in
    let read = part_read schema template part first whole encodable
    (ap (attribute_record schema.attributes) same ∙ known) record_of.0 fits_so spelt_so short in
    subst (IsFound part template id) (same_Some first value (sym read ∙ e))
    (record { fits = fits_so; long = can.short; agrees = λ names. sym spelt_so })

-- ---- an initial value or a default

abbrev IsPropertyOf : Set → List ℕ → Property → Type 0
IsPropertyOf schema id property =
    (of_class : ClassRec) × Contains schema.classes of_class × Contains of_class.properties property
    × (property.attribute ≡ id)

pub property_is : (schema : Set) (class id : List ℕ) (property : Property) → property_of schema class id ≡ Some property
    → IsPropertyOf schema id property
property_is schema class id property e = by (class_record schema.classes class) refl e
  where
    by : (o : Option ClassRec) → class_record schema.classes class ≡ o
        → option_and_then (λ (of_class : ClassRec). property_among of_class.properties id) o ≡ Some property
        → IsPropertyOf schema id property
    by None known f = absurd (cc)
    by (Some of_class) known f =
        let is = class_is schema.classes class of_class known in
        let found = found_is (λ (one : Property). is_same_oid one.attribute id) of_class.properties property f in
        (of_class, is.0, found.0, (same_id property.attribute id).0 found.1)

fitting : (template : AttrRec) (property : Property) (value : TypedValue) → IsStated property value
    → IfSome property.initial (Fits template.syntax) → IfSome property.default (Fits template.syntax)
    → Fits template.syntax value
fitting template property value (inl is) initial default =
    subst (λ o. IfSome o (Fits template.syntax)) is initial
fitting template property value (inr is) initial default =
    subst (λ o. IfSome o (Fits template.syntax)) is default

stated_is : (schema : Set) (template : AttrRec) (part : Rdn) (class id : List ℕ) (property : Property)
    (value : TypedValue) → IsWhole schema → IsEncodable schema
    → attribute_record schema.attributes id ≡ Some template → (part.attribute ≡ id → ⊥)
    → property_of schema class id ≡ Some property → IsStated property value → IsFound part template id value
stated_is schema template part class id property value whole encodable known other e stated =
    let is = property_is schema class id property e in
    let record_of = record_is schema.attributes id template known in
    let class_whole = All-contains (IsWholeClass schema) schema.classes is.0 whole.classes is.1 in
    let says = All-contains (IsWholeProperty schema) is.0.properties property class_whole.properties is.2 in
    let equal = one_attribute schema says.template template whole says.known record_of.0
    (says.named ∙ is.3 ∙ sym record_of.1) in
    let short = All-contains (HasShortValues schema) is.0.properties property
    (All-contains (λ (of_class : ClassRec). All (HasShortValues schema) of_class.properties) schema.classes is.0
    encodable.values is.1) is.2 in
    record {
      fits =
          subst (λ (r : AttrRec). Fits r.syntax value) equal
          (fitting says.template property value stated says.initial says.default);
      long = short template value record_of.0 (record_of.1 ∙ sym is.3) stated;
      agrees = λ same. absurd (other same);
    }

first_else : (one other : Option TypedValue) (value : TypedValue) → or_else one other ≡ Some value
    → (one ≡ Some value) ⊎ (other ≡ Some value)
first_else (Some found) other value e = inl e
first_else None other value e = inr e

of_property : (which : Property → Option TypedValue) (found : Option Property) (value : TypedValue)
    → option_and_then which found ≡ Some value
    → (property : Property) × (found ≡ Some property) × (which property ≡ Some value)
of_property which None value e = absurd (cc)
of_property which (Some property) value e = (property, refl, e)

nothing_taken : (creation : Creation) (id : List ℕ) → creation.taken ≡ [] → taken_value creation id ≡ None
nothing_taken creation id e =
    ap (λ list. option_map (λ (held : Attribute). held.value)
    (find (λ (held : Attribute). is_same_oid held.id id) list)) e

stated_found : (schema : Set) (template : AttrRec) (creation : Creation) (id : List ℕ) (value : TypedValue)
    → IsWhole schema → IsEncodable schema → attribute_record schema.attributes id ≡ Some template
    → creation.taken ≡ [] → (creation.named.attribute ≡ id → ⊥) → stated_value schema creation id ≡ Some value
    → IsFound creation.named template id value
stated_found schema template creation id value whole encodable known taken other e =
    let stated = or_else (initial_value schema creation.class id) (default_value schema creation.class id) in
    let from_class : stated ≡ Some value = sym (ap (λ o. or_else o stated) (nothing_taken creation id taken)) ∙ e in
    elim (first_else (initial_value schema creation.class id) (default_value schema creation.class id) value
    from_class) [
      | inl initial ↦ (
          let found = of_property (λ (p : Property). p.initial) (property_of schema creation.class id) value initial in
          stated_is schema template creation.named creation.class id found.0 value whole encodable known other found.1
          (inl found.2)
          )
      | inr default ↦ (
          let found = of_property (λ (p : Property). p.default) (property_of schema creation.class id) value default in
          stated_is schema template creation.named creation.class id found.0 value whole encodable known other found.1
          (inr found.2)
          )
    ]

pub other_found : (schema : Set) (instance : InstRec) (object : Object) (made : IsMaking schema instance object)
    (template : AttrRec) (id : List ℕ) (value : TypedValue) → attribute_record schema.attributes id ≡ Some template
    → other_value schema made.created.creation id ≡ Some value
    → IsFound made.created.creation.named template id value
other_found schema instance object made template id value known e =
    by (is_same_oid creation.named.attribute id) refl e
  where
    creation : Creation
    creation = made.created.creation

    by : (b : Bool) → is_same_oid creation.named.attribute id ≡ b
        → (if b then named_value schema creation.named else stated_value schema creation id) ≡ Some value
        → IsFound creation.named template id value
    by true is f =
        read_value schema template creation.named id value made.whole made.encodable known
        ((same_id creation.named.attribute id).0 is)
        (part_whole schema instance creation.named made.whole made.there made.created.part)
        (part_short schema instance creation.named made.encodable made.there made.created.part) f
    by false is f =
        stated_found schema template creation id value made.whole made.encodable known made.created.taken
        (λ same. false≢true (sym is ∙ (same_id creation.named.attribute id).1 same)) f
