-- Modifications leave an object the attributes that it had, its class, its name binding and its packages: X.711,
-- section 7.4.
use Rattle.std.proofs.Common.{◌≡◌, ℕ, ℤ, List, [], ◌∷◌, refl, ap, ◌∙◌}
use Rattle.std.specs.Prelude.{Result, Ok, Err, codes, map, pos}
use Rattle.std.specs.Option.{option_map_or}
use Rattle.term_values.specs.Typed.{TypedValue}
use Rattle.term_values.specs.Typed.TypedValue.{Int, Many}
use Rattle.term_values.specs.Typed.TypedValues.{Nothing, Then}
use Rattle.term_values.specs.SetMembers.{without_members}
use Rattle.term_model.specs.declared.name.Rdn.{Rdn}
use Rattle.term_model.specs.declared.object.Attribute.{Attribute}
use Rattle.term_model.specs.declared.object.Object.{Object}
use Rattle.term_model.specs.declared.request.Change.{Change}
use Rattle.term_model.specs.declared.request.IdRef.{IdRef}
use Rattle.term_model.specs.declared.request.IdRef.TheVariants as ids
use Rattle.term_model.specs.declared.schema.AttrRec.{AttrRec}
use Rattle.term_model.specs.declared.schema.Set.{Set}
use Rattle.term_model.specs.ClassAttributes.{is_labelled, syntax_of}
use Rattle.term_model.specs.Comparing.{is_same_oid}
use Rattle.term_model.specs.Modifications.{Modified, ends_full, modified, modified_by, replaced, settled, tried}
use Rattle.term_model.specs.Modifications.{unmodified, with_value, without_full}
use Rattle.term_model.specs.ObjectAttributes.{identifiers}
use Rattle.set_laws.specs.ModificationLaws.{IdentifiersStay, KindStays}
use Rattle.set_laws.proofs.Members.{either_way}

replaced_identifiers : (id : List ℕ) (value : TypedValue) (attributes : List Attribute)
    → identifiers (replaced id value attributes) ≡ identifiers attributes
replaced_identifiers id value [] = refl
replaced_identifiers id value (attribute ∷ others) =
    either_way (λ made. identifiers made ≡ identifiers (attribute ∷ others)) (is_same_oid attribute.id id)
    (record attribute { value = value } ∷ others) (attribute ∷ replaced id value others)
    (λ same. refl) (λ differs. ap (λ found. attribute.id ∷ found) (replaced_identifiers id value others))

-- availabilityStatus without logFull 8
abbrev pub lessened : List AttrRec → Attribute → Attribute
lessened records attribute = record attribute {
  value =
      option_map_or (λ syntax. without_members syntax attribute.value (Many (Then (Int (pos 8)) Nothing)))
      (syntax_of records attribute.id) attribute.value;
}

pub without_full_identifier : (records : List AttrRec) (attribute : Attribute)
    → (without_full records attribute).id ≡ attribute.id
without_full_identifier records attribute =
    either_way (λ made. made.id ≡ attribute.id) (is_labelled records (codes "availabilityStatus") attribute.id)
    (lessened records attribute) attribute (λ labelled. refl) (λ other. refl)

without_full_identifiers : (records : List AttrRec) (attributes : List Attribute)
    → identifiers (map (without_full records) attributes) ≡ identifiers attributes
without_full_identifiers records [] = refl
without_full_identifiers records (attribute ∷ others) =
    ap (λ first. first ∷ identifiers (map (without_full records) others)) (without_full_identifier records attribute)
    ∙ ap (λ found. attribute.id ∷ found) (without_full_identifiers records others)

pub with_value_identifiers : (schema : Set) (object : Object) (id : List ℕ) (value : TypedValue)
    → identifiers (with_value schema object id value) ≡ identifiers object.attrs
with_value_identifiers schema object id value =
    let stays = replaced_identifiers id value object.attrs in
    either_way (λ made. identifiers made ≡ identifiers object.attrs) (ends_full schema object.class id)
    (map (without_full schema.attributes) (replaced id value object.attrs)) (replaced id value object.attrs)
    (λ full. without_full_identifiers schema.attributes (replaced id value object.attrs) ∙ stays) (λ other. stays)

-- the identifiers, the class, the name binding and the packages
abbrev pub StaysOf : Object → Object → Type 0
StaysOf before now = (identifiers now.attrs ≡ identifiers before.attrs) × (now.class ≡ before.class)
    × (now.binding ≡ before.binding) × (now.chosen ≡ before.chosen)

settled_stays : (schema : Set) (made : Modified) (change : Change) (id : List ℕ) (value : Result TypedValue ℤ)
    → StaysOf made.object (settled schema made change id value).object
settled_stays schema made change id (Err status) = (refl, refl, refl, refl)
settled_stays schema made change id (Ok value) =
    (with_value_identifiers schema made.object id value, refl, refl, refl)

pub modified_by_stays : (schema : Set) (name : List Rdn) (made : Modified) (change : Change) (id : IdRef)
    → StaysOf made.object (modified_by schema name made change id).object
modified_by_stays schema name made change (ids.Global id) =
    settled_stays schema made change id (tried schema name made.object change id)
modified_by_stays schema name made change (ids.Local number) = (refl, refl, refl, refl)

modified_stays : (schema : Set) (name : List Rdn) (made : Modified) (changes : List Change)
    → StaysOf made.object (modified schema name made changes).object
modified_stays schema name made [] = (refl, refl, refl, refl)
modified_stays schema name made (change ∷ changes) =
    let first = modified_by_stays schema name made change change.id in
    let later = modified_stays schema name (modified_by schema name made change change.id) changes in
    (later.0 ∙ first.0, later.1 ∙ first.1, later.2 ∙ first.2, later.3 ∙ first.3)

pub identifiers_stay : IdentifiersStay
identifiers_stay schema name object changes = (modified_stays schema name (unmodified object) changes).0

pub kind_stays : KindStays
kind_stays schema name object changes =
    let stays = modified_stays schema name (unmodified object) changes in
    (stays.1, stays.2, stays.3)
