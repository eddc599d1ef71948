-- After a modification the values of an object fit their syntaxes and have at most 8192 octets: X.711, section 7.4;
-- docs/PROFILE.md, section 15.
use Rattle.std.proofs.Common.{◌≡◌, ◌≤◌, ℕ, true, List, [], ◌∷◌, Option, None, Some, refl, sym, ◌∙◌, subst, ap}
use Rattle.std.proofs.lemmas.Bool.{and_parts, false≢true}
use Rattle.std.proofs.lemmas.List.Elements.{All-cons, All-head, All-map, All-tail, All-weaker}
use Rattle.std.proofs.lemmas.Slice.Eq.{bytes_eq-Decides}
use Rattle.std.specs.Option.{option_map_or}
use Rattle.std.specs.Prelude.{All, Contains, codes, length, map, pos}
use Rattle.value_fits.proofs.FitLaws.{fits_if}
use Rattle.term_values.specs.Fits.{Fits}
use Rattle.term_values.specs.SetMembers.{without_members}
use Rattle.term_values.specs.Syntaxes.{TypeSyntax}
use Rattle.term_values.specs.Typed.{TypedValue}
use Rattle.term_values.specs.Typed.TypedValue.{Int, Many}
use Rattle.term_values.specs.Typed.TypedValues.{Nothing, Then}
use Rattle.term_values.specs.Written.{der}
use Rattle.term_model.specs.declared.name.Rdn.{Rdn}
use Rattle.term_model.specs.declared.object.Attribute.{Attribute}
use Rattle.term_model.specs.declared.object.Object.{Object}
use Rattle.term_model.specs.declared.schema.AttrRec.{AttrRec}
use Rattle.term_model.specs.declared.schema.Set.{Set}
use Rattle.term_model.specs.BoundClasses.{is_bound_log}
use Rattle.term_model.specs.ClassAttributes.{is_labelled, syntax_of}
use Rattle.term_model.specs.Comparing.{is_same_octets, is_same_oid}
use Rattle.term_model.specs.Modifications.{ends_full, replaced, with_value, without_full}
use Rattle.term_model.specs.ObjectOperation.{attribute_record}
use Rattle.term_model.specs.WellFormedObjects.{HasValue}
use Rattle.term_model.specs.WholeSet.{IsWhole}
use Rattle.set_laws.proofs.Found.{mapped_is}
use Rattle.set_laws.proofs.Given.{IsGiven, tests_of}
use Rattle.set_laws.proofs.LogStatus.{IsSetOf, status_is_set, without_fits}
use Rattle.set_laws.proofs.Members.{either_way}
use Rattle.set_laws.proofs.Records.{one_attribute, record_is, syntax_is}
use Rattle.set_laws.proofs.SameKind.{lessened}
use Rattle.set_laws.proofs.Sizes.{status_counts_not}
use Rattle.set_laws.proofs.Unnamed.{same_id}

-- ---- what holds of each attribute

abbrev pub with_id : List ℕ → TypedValue → Attribute
with_id id value = record { id = id; value = value }

replaced_all : (P : Attribute → Type 0) (id : List ℕ) (value : TypedValue) (attributes : List Attribute)
    → P (with_id id value) → All P attributes → All P (replaced id value attributes)
replaced_all P id value [] new all = all
replaced_all P id value (attribute ∷ others) new all =
    either_way (All P) (is_same_oid attribute.id id) (record attribute { value = value } ∷ others)
    (attribute ∷ replaced id value others)
    (λ same. All-cons P (with_id attribute.id value) others
    (subst (λ i. P (with_id i value)) (sym ((same_id attribute.id id).0 same)) new)
    (All-tail P attribute others all))
    (λ differs. All-cons P attribute (replaced id value others) (All-head P attribute others all)
    (replaced_all P id value others new (All-tail P attribute others all)))

-- of the attribute that is given a value, and of one that loses logFull
pub with_value_all : (P : Attribute → Type 0) (schema : Set) (object : Object) (id : List ℕ) (value : TypedValue)
    → P (with_id id value)
    → (is_bound_log schema object.class ≡ true → (attribute : Attribute) → P attribute
    → P (without_full schema.attributes attribute))
    → All P object.attrs → All P (with_value schema object id value)
with_value_all P schema object id value new less all =
    let stands = replaced_all P id value object.attrs new all in
    either_way (All P) (ends_full schema object.class id)
    (map (without_full schema.attributes) (replaced id value object.attrs)) (replaced id value object.attrs)
    (λ full. All-map P (without_full schema.attributes) (replaced id value object.attrs)
    (All-weaker P (λ attribute. P (without_full schema.attributes attribute))
    (less (and_parts _ (is_bound_log schema object.class) full).1) (replaced id value object.attrs) stands))
    (λ differs. stands)

pub by_label : (P : Attribute → Type 0) (records : List AttrRec) (attribute : Attribute)
    → (is_labelled records (codes "availabilityStatus") attribute.id ≡ true → P (lessened records attribute))
    → P attribute → P (without_full records attribute)
by_label P records attribute labelled other =
    either_way P (is_labelled records (codes "availabilityStatus") attribute.id) (lessened records attribute) attribute
    labelled (λ differs. other)

-- ---- values

given_fits : (schema : Set) (name : List Rdn) (object : Object) (id : List ℕ) (value : TypedValue)
    → IsGiven schema name object id value → HasValue schema object.class (with_id id value)
given_fits schema name object id value given =
    let found = syntax_is schema.attributes id given.syntax given.known in
    let is = record_is schema.attributes id found.0 found.1 in
    let tests = tests_of schema object given.syntax given.property id value given.may in
    record {
      template = found.0;
      known = is.0;
      named = is.1;
      fits = subst (λ syntax. Fits syntax value) (sym found.2) (fits_if given.syntax value tests.fits);
      small = λ counts. subst (λ syntax. length (der syntax value) ≤ 8192) (sym found.2) tests.short;
    }

-- the template of an attribute is the one that is found of its identifier
labelled_so : (schema : Set) (id : List ℕ) (template : AttrRec) → IsWhole schema → Contains schema.attributes template
    → template.id ≡ id → is_labelled schema.attributes (codes "availabilityStatus") id ≡ true
    → template.label ≡ codes "availabilityStatus"
labelled_so schema id template whole at named labelled =
    let found = mapped_is (λ (one : AttrRec). is_same_octets one.label (codes "availabilityStatus"))
    (attribute_record schema.attributes id) labelled in
    let is = record_is schema.attributes id found.0 found.1 in
    let equal : found.0 ≡ template = one_attribute schema found.0 template whole is.0 at (is.1 ∙ sym named) in
    subst (λ (one : AttrRec). one.label ≡ codes "availabilityStatus") equal
    ((bytes_eq-Decides found.0.label (codes "availabilityStatus")).0 found.2)

syntax_so : (schema : Set) (id : List ℕ) (template : AttrRec) (syntax : TypeSyntax) → IsWhole schema
    → Contains schema.attributes template → template.id ≡ id → syntax_of schema.attributes id ≡ Some syntax
    → template.syntax ≡ syntax
syntax_so schema id template syntax whole at named known =
    let found = syntax_is schema.attributes id syntax known in
    let is = record_is schema.attributes id found.0 found.1 in
    let equal : found.0 ≡ template = one_attribute schema found.0 template whole is.0 at (is.1 ∙ sym named) in
    ap (λ (one : AttrRec). one.syntax) (sym equal) ∙ found.2

less_fits : (template : TypeSyntax) (value : TypedValue) (found : Option TypeSyntax)
    → ((syntax : TypeSyntax) → found ≡ Some syntax → template ≡ syntax) → IsSetOf template → Fits template value
    → Fits template (option_map_or (λ syntax. without_members syntax value (Many (Then (Int (pos 8)) Nothing))) found
    value)
less_fits template value None known is fits = fits
less_fits template value (Some syntax) known is fits =
    subst (λ one. Fits template (without_members one value (Many (Then (Int (pos 8)) Nothing)))) (known syntax refl)
    (without_fits template value (Then (Int (pos 8)) Nothing) is fits)

without_full_fits : (schema : Set) (class : List ℕ) → IsWhole schema → is_bound_log schema class ≡ true
    → (attribute : Attribute) → HasValue schema class attribute
    → HasValue schema class (without_full schema.attributes attribute)
without_full_fits schema class whole log attribute has =
    by_label (HasValue schema class) schema.attributes attribute
    (λ labelled.
    record {
      template = has.template;
      known = has.known;
      named = has.named;
      fits =
          less_fits has.template.syntax attribute.value (syntax_of schema.attributes attribute.id)
          (λ syntax known. syntax_so schema attribute.id has.template syntax whole has.known has.named known)
          (status_is_set schema class has.template whole log has.known
          (labelled_so schema attribute.id has.template whole has.known has.named labelled)) has.fits;
      small = λ counts.
          absurd (false≢true (sym (status_counts_not schema class attribute.id log labelled) ∙ counts));
    }) has

pub values_kept : (schema : Set) (name : List Rdn) (object : Object) (id : List ℕ) (value : TypedValue)
    → IsWhole schema → IsGiven schema name object id value → All (HasValue schema object.class) object.attrs
    → All (HasValue schema object.class) (with_value schema object id value)
values_kept schema name object id value whole given all =
    with_value_all (HasValue schema object.class) schema object id value (given_fits schema name object id value given)
    (without_full_fits schema object.class whole) all
