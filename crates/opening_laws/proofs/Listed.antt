-- Values that the list of a creation gives: those of WITH, and the packages behind PACKAGES.
use Rattle.std.proofs.Common.{◌≡◌, ℕ, ◌≤◌, Bool, true, false, List, [], ◌∷◌, Option, None, Some}
use Rattle.std.proofs.Common.{refl, sym, ap, ◌∙◌, subst, inl, inr, length}
use Rattle.std.proofs.lemmas.Bool.{and_parts, false≢true}
use Rattle.std.proofs.lemmas.List.Elements.{All-contains, All-contains_itself, All-head, All-tail, All-weaker}
use Rattle.std.proofs.lemmas.List.Elements.{Contains-append_cases}
use Rattle.std.proofs.lemmas.Option.{same_Some}
use Rattle.std.proofs.lemmas.Slice.Eq.{bytes_eq-Decides}
use Rattle.std.specs.Prelude.{◌||◌, All, Contains, find, map, nat_le, not, pos, if◌then◌else◌}
use Rattle.std.specs.Option.{option_map_or}
use Rattle.term_values.specs.Decoding.{inserted_by, rising_by}
use Rattle.term_values.specs.Fits.{AllFit, Fits}
use Rattle.term_values.specs.Rearranged.{IsRising, may_precede}
use Rattle.term_values.specs.Syntaxes.TypeSyntax.{ObjectIdentifier, SetOf}
use Rattle.term_values.specs.Typed.{TypedValue, TypedValues, listed}
use Rattle.term_values.specs.Typed.TypedValue.{Identifier}
use Rattle.term_values.specs.Typed.TypedValues.{Nothing, Then}
use Rattle.term_values.specs.ValueContents.{member_encodings}
use Rattle.term_values.specs.Written.{der}
use Rattle.typed_laws.proofs.ListsTold.{rising_rises, values_of}
use Rattle.term_model.specs.declared.creation.Creation.{Creation}
use Rattle.term_model.specs.declared.filter_item.Given.{Given}
use Rattle.term_model.specs.declared.object.Attribute.{Attribute}
use Rattle.term_model.specs.declared.request.IdRef.TheVariants as ids
use Rattle.term_model.specs.declared.object.Object.{Object}
use Rattle.term_model.specs.declared.schema.AttrRec.{AttrRec}
use Rattle.term_model.specs.declared.schema.InstRec.{InstRec}
use Rattle.term_model.specs.declared.schema.Set.{Set}
use Rattle.term_model.specs.AgentWritten.{is_package_list}
use Rattle.term_model.specs.Comparing.{is_same_octets}
use Rattle.term_model.specs.CreateSteps.{agrees_with_initial, agrees_with_name, has_conditional_packages}
use Rattle.term_model.specs.CreateSteps.{may_stand, octets_of}
use Rattle.term_model.specs.CreateValues.{identifiers_value, listed_value}
use Rattle.term_model.specs.ObjectOperation.{attribute_record}
use Rattle.term_model.specs.Opening.{asking_of, behind_packages, given_of, is_labelled_packages, packages_given}
use Rattle.term_model.specs.Opening.{packages_of_template}
use Rattle.term_model.specs.WholeRecords.{IsValueOf}
use Rattle.term_model.specs.WholeSet.{IsWhole, IsWholeInstance}
use Rattle.package_laws.proofs.Members.{first_or_later, map_from, nowhere, same_id}
use Rattle.set_laws.proofs.Records.{one_attribute, record_is}
use Rattle.opening_laws.specs.Encodable.{IsIdentifier}
use Rattle.opening_laws.proofs.AttributeKinds.{attribute_so, identifier_set, octets_are}
use Rattle.opening_laws.proofs.EncodingLengths.{at_most}
use Rattle.opening_laws.proofs.Made.{IsMadeOf}
use Rattle.opening_laws.proofs.Making.{IsMaking, outline_for}
use Rattle.opening_laws.proofs.Tested.{GivesIt, each_given_good, listed_from}

-- ---- a SET OF identifiers, by rising encodings

inserted_fit : (P : TypedValue → Type 0) (encoding : TypedValue → List ℕ) (x : TypedValue) (ys : TypedValues) → P x
    → AllFit P ys → AllFit P (inserted_by encoding x ys)
inserted_fit P encoding x Nothing p all = (p, tt)
inserted_fit P encoding x (Then y ys) p all =
    either (may_precede (encoding x) (encoding y)) (inserted_fit P encoding x ys p all.1)
  where
    either : (c : Bool) → AllFit P (inserted_by encoding x ys)
        → AllFit P (if c then Then x (Then y ys) else Then y (inserted_by encoding x ys))
    either true later = (p, all)
    either false later = (all.0, later)

rising_fit : (P : TypedValue → Type 0) (encoding : TypedValue → List ℕ) (xs : TypedValues) → AllFit P xs
    → AllFit P (rising_by encoding xs)
rising_fit P encoding Nothing all = tt
rising_fit P encoding (Then x xs) all =
    inserted_fit P encoding x (rising_by encoding xs) all.0 (rising_fit P encoding xs all.1)

identifiers_fit : (ids : List (List ℕ)) → All IsIdentifier ids
    → AllFit (Fits ObjectIdentifier) (listed (map Identifier ids))
identifiers_fit [] all = tt
identifiers_fit (id ∷ ids) all =
    (All-head IsIdentifier id ids all, identifiers_fit ids (All-tail IsIdentifier id ids all))

encodings_mapped : (encoding : TypedValue → List ℕ) (xs : TypedValues)
    → map encoding (values_of xs) ≡ member_encodings encoding xs
encodings_mapped encoding Nothing = refl
encodings_mapped encoding (Then x xs) = ap (λ ys. encoding x ∷ ys) (encodings_mapped encoding xs)

encodings_rise : (encoding : TypedValue → List ℕ) (xs : TypedValues)
    → IsRising (member_encodings encoding (rising_by encoding xs))
encodings_rise encoding xs =
    subst IsRising (encodings_mapped encoding (rising_by encoding xs)) (rising_rises encoding xs)

packages_fit : (ids : List (List ℕ)) → All IsIdentifier ids → Fits (SetOf ObjectIdentifier []) (identifiers_value ids)
packages_fit ids all = (
  rising_fit (Fits ObjectIdentifier) (der ObjectIdentifier) (listed (map Identifier ids)) (identifiers_fit ids all),
  refl,
  encodings_rise (der ObjectIdentifier) (listed (map Identifier ids)),
)

-- ---- members of the list

held_fits : (schema : Set) (template : AttrRec) (id : List ℕ) (held : Attribute) (value : TypedValue)
    → IsWhole schema → attribute_record schema.attributes id ≡ Some template → IsValueOf schema held.id held.value
    → GivesIt id (given_of held) value → Fits template.syntax value
held_fits schema template id held value whole known has gives_it =
    let is = record_is schema.attributes id template known in
    let same : held.id ≡ id = (same_id held.id id).0 gives_it.0 in
    let equal = one_attribute schema has.template template whole has.known is.0 (has.named ∙ same ∙ sym is.1) in
    subst (λ (one : AttrRec). Fits one.syntax value) equal
    (subst (Fits has.template.syntax) (same_Some held.value value gives_it.1) has.fits)

packages_fit_so : (schema : Set) (template other : AttrRec) (chosen : List (List ℕ)) (id : List ℕ) (value : TypedValue)
    → All IsIdentifier chosen → attribute_record schema.attributes id ≡ Some template
    → GivesIt id (packages_of_template schema chosen other) value → Fits template.syntax value
packages_fit_so schema template other chosen id value identifiers known gives_it =
    by (is_package_list schema other.id) refl gives_it.1
  where
    same : other.id ≡ id
    same = (same_id other.id id).0 gives_it.0

    by : (b : Bool) → is_package_list schema other.id ≡ b
        → (if b then Some (identifiers_value chosen) else None) ≡ Some value → Fits template.syntax value
    by true is f =
        let of_set = identifier_set template.syntax
        (attribute_so schema template _ id known (ap (is_package_list schema) (sym same) ∙ is)) in
        subst (Fits template.syntax) (same_Some (identifiers_value chosen) value f)
        (subst (λ syntax. Fits syntax (identifiers_value chosen)) (sym of_set) (packages_fit chosen identifiers))
    by false is f = absurd (cc)

behind_fits : (schema : Set) (template : AttrRec) (chosen : List (List ℕ)) (id : List ℕ) (given : Given)
    (value : TypedValue) → All IsIdentifier chosen → attribute_record schema.attributes id ≡ Some template
    → Contains (behind_packages schema chosen) given → GivesIt id given value → Fits template.syntax value
behind_fits schema template [] id given value identifiers known at gives_it = absurd (nowhere given at)
behind_fits schema template (first ∷ others) id given value identifiers known at gives_it =
    elim (first_or_later (packages_given schema (first ∷ others)) given [] at) [
      | inl same ↦
          by (find is_labelled_packages schema.attributes)
          (subst (λ one. GivesIt id one value) (sym same) gives_it)
      | inr later ↦ absurd (nowhere given later)
    ]
  where
    by : (o : Option AttrRec)
        → GivesIt id (option_map_or (packages_of_template schema (first ∷ others)) o
        (record { id = ids.Local (pos 0); value = None; raw = [] })) value
        → Fits template.syntax value
    by None g = absurd (false≢true g.0)
    by (Some other) g = packages_fit_so schema template other (first ∷ others) id value identifiers known g

given_fits : (schema : Set) (instance : InstRec) (object : Object) (made : IsMaking schema instance object)
    (template : AttrRec) (id : List ℕ) (given : Given) (value : TypedValue)
    → attribute_record schema.attributes id ≡ Some template → Contains (asking_of schema instance).given given
    → GivesIt id given value → Fits template.syntax value
given_fits schema instance object made template id given value known at gives_it =
    let stated = All-contains (IsWholeInstance schema) schema.instances instance made.whole.instances made.there in
    elim (Contains-append_cases (map given_of instance.given) (behind_packages schema instance.chosen) given at) [
      | inl with_value ↦ (
          let found = map_from given_of instance.given given with_value in
          held_fits schema template id found.0 value made.whole known
          (All-contains (λ (held : Attribute). IsValueOf schema held.id held.value) instance.given found.0 stated.given
          found.1)
          (subst (λ one. GivesIt id one value) (sym found.2) gives_it)
          )
      | inr behind ↦
          behind_fits schema template instance.chosen id given value
          (All-weaker (Contains instance.chosen) IsIdentifier
          (λ one chosen. made.encodable.packages one (inr (instance, made.there, chosen))) instance.chosen
          (All-contains_itself instance.chosen)) known
          behind gives_it
    ]

-- ---- and they were tested

abbrev pub IsMadeWhole : (schema : Set) (instance : InstRec) (object : Object) → IsMaking schema instance object
    → Type 0
IsMadeWhole schema instance object made =
    IsMadeOf schema made.created.creation (outline_for schema instance made.created.class) object

pub record IsListed (schema : Set) (creation : Creation) (template : AttrRec) (id : List ℕ) (value : TypedValue) :
    Type 0 where
  pub fits : Fits template.syntax value
  pub stands : may_stand schema creation.class id value ≡ true
  pub agrees : creation.named.attribute ≡ id → der template.syntax value ≡ creation.named.value

agreeing : (schema : Set) (creation : Creation) (template : AttrRec) (id : List ℕ) (value : TypedValue)
    → attribute_record schema.attributes id ≡ Some template → agrees_with_name schema creation id value ≡ true
    → creation.named.attribute ≡ id → der template.syntax value ≡ creation.named.value
agreeing schema creation template id value known e same =
    sym (octets_are schema template id value known)
    ∙ (bytes_eq-Decides (octets_of schema id value) creation.named.value).0
    (ap (λ b. not b || is_same_octets (octets_of schema id value) creation.named.value)
    (sym ((same_id creation.named.attribute id).1 same)) ∙ e)

pub listed_is : (schema : Set) (instance : InstRec) (object : Object) (made : IsMaking schema instance object)
    (template : AttrRec) (id : List ℕ) (value : TypedValue) → IsMadeWhole schema instance object made
    → attribute_record schema.attributes id ≡ Some template
    → listed_value made.created.creation id ≡ Some value
    → IsListed schema made.created.creation template id value
listed_is schema instance object made template id value of known e =
    let creation = made.created.creation in
    let outline = outline_for schema instance made.created.class in
    let found = listed_from creation id value e in
    let good = each_given_good schema creation outline.attributes [] creation.given found.0 id value of.listed found.1
    found.2 in
    let with_packages = and_parts _ (has_conditional_packages schema creation id value) good in
    let with_initial = and_parts _ (agrees_with_initial schema creation id value) with_packages.0 in
    let tests = and_parts (may_stand schema creation.class id value) (agrees_with_name schema creation id value)
    with_initial.0 in
    record {
      fits =
          given_fits schema instance object made template id found.0 value known
          (subst (λ list. Contains list found.0) made.created.given found.1) found.2;
      stands = tests.0;
      agrees = agreeing schema creation template id value known tests.1;
    }

-- a value that may stand has at most 8192 octets
pub stands_short : (schema : Set) (template : AttrRec) (class id : List ℕ) (value : TypedValue)
    → attribute_record schema.attributes id ≡ Some template → may_stand schema class id value ≡ true
    → length (der template.syntax value) ≤ 8192
stands_short schema template class id value known e =
    let parts = and_parts _ (nat_le (length (octets_of schema id value)) 8192) e in
    subst (λ octets. length octets ≤ 8192) (octets_are schema template id value known)
    (at_most (length (octets_of schema id value)) 8192 parts.1)
