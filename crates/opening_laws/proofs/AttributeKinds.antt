-- The record of an attribute, and what its label tells of its syntax: that of the attributes that the agent writes, and
-- of those of a bound log.
use Rattle.std.proofs.Common.{◌≡◌, ℕ, ◌<◌, Bool, true, false, List, [], ◌∷◌, Option, None, Some}
use Rattle.std.proofs.Common.{refl, sym, ap, ◌∙◌, subst, arith, inl, inr}
use Rattle.std.proofs.lemmas.Bool.{and_parts, false≢true}
use Rattle.std.proofs.lemmas.Bool.Decides.{Decides-int_eq}
use Rattle.std.proofs.lemmas.Option.{same_Some}
use Rattle.std.proofs.lemmas.Slice.Eq.{bytes_eq-Decides}
use Rattle.std.specs.Ordering.{int_eq}
use Rattle.std.specs.Prelude.{◌&&◌, ℤ, pos, Contains, codes, find}
use Rattle.std.specs.List.{list_all, list_any}
use Rattle.std.specs.Option.{option_map, option_map_or}
use Rattle.term_values.specs.Bounded.{allowed}
use Rattle.term_values.specs.CmipTypes.{object_class, set_of}
use Rattle.term_values.specs.Fits.{Fits}
use Rattle.term_values.specs.SameSyntax.{same_bounds, same_names, same_pair, same_syntax}
use Rattle.term_values.specs.Syntaxes.{Bounds, TypeSyntax, TypeParts}
use Rattle.term_values.specs.Syntaxes.TypeSyntax.{Choice, Integer, ObjectIdentifier, SetOf, Tagged}
use Rattle.term_values.specs.Syntaxes.TypeParts.{NoParts, Part}
use Rattle.term_values.specs.Typed.{TypedValue}
use Rattle.term_values.specs.Typed.TypedValue.{Int}
use Rattle.term_values.specs.Written.{der}
use Rattle.term_values.specs.declared.tag.Tag.{Tag}
use Rattle.term_model.specs.declared.packages.PackageRec.{PackageRec}
use Rattle.term_model.specs.declared.packages.Property.{Property}
use Rattle.term_model.specs.declared.schema.AttrRec.{AttrRec}
use Rattle.term_model.specs.declared.schema.Set.{Set}
use Rattle.term_model.specs.BoundClasses.{have_attribute, is_attribute, is_bound_log, is_class_labelled}
use Rattle.term_model.specs.ClassAttributes.{is_labelled}
use Rattle.term_model.specs.Comparing.{is_same_octets, is_same_oid}
use Rattle.term_model.specs.ControlSyntaxes.{from_zero, log_attributes}
use Rattle.term_model.specs.CreateSteps.{octets_of}
use Rattle.term_model.specs.ObjectOperation.{attribute_record}
use Rattle.term_model.specs.PresentPackages.{classes_above, packages_of}
use Rattle.term_model.specs.WholeSet.{IsWhole}
use Rattle.package_laws.proofs.Members.{either_way, first_or_later, nowhere, same_id}
use Rattle.set_laws.proofs.Found.{all_gets, any_gets, mapped_is}
use Rattle.set_laws.proofs.Records.{one_attribute, one_labelled, record_is}

-- ---- the record of an attribute

pub found_if : {X : Type 0} (p : X → Bool) (xs : List X) (x : X) → Contains xs x → p x ≡ true
    → (y : X) × (find p xs ≡ Some y)
found_if p [] x at e = absurd (nowhere x at)
found_if {X} p (first ∷ others) x at e =
    either_way (λ o. (y : X) × (o ≡ Some y)) (p first) (Some first) (find p others) (λ is. (first, refl))
    (λ is. elim (first_or_later first x others at) [
      | inl same ↦ absurd (false≢true (sym is ∙ ap p same ∙ e))
      | inr later ↦ found_if p others x later e
    ])

pub template_found : (schema : Set) (template : AttrRec) (id : List ℕ) → IsWhole schema
    → Contains schema.attributes template → template.id ≡ id → attribute_record schema.attributes id ≡ Some template
template_found schema template id whole at named =
    let found = found_if (λ (one : AttrRec). is_same_oid one.id id) schema.attributes template at
    ((same_id template.id id).1 named) in
    let is = record_is schema.attributes id found.0 found.1 in
    found.1 ∙ ap Some (one_attribute schema found.0 template whole is.0 at (is.1 ∙ sym named))

pub octets_are : (schema : Set) (template : AttrRec) (id : List ℕ) (value : TypedValue)
    → attribute_record schema.attributes id ≡ Some template → octets_of schema id value ≡ der template.syntax value
octets_are schema template id value e =
    ap (λ o. option_map_or (λ syntax. der syntax value) (option_map (λ (one : AttrRec). one.syntax) o) []) e

-- ---- its label and its syntax

pub labelled_so : (schema : Set) (template : AttrRec) (label id : List ℕ)
    → attribute_record schema.attributes id ≡ Some template → is_labelled schema.attributes label id ≡ true
    → template.label ≡ label
labelled_so schema template label id known labelled =
    let found = mapped_is (λ (one : AttrRec). is_same_octets one.label label) (attribute_record schema.attributes id)
    labelled in
    subst (λ (one : AttrRec). one.label ≡ label) (same_Some found.0 template (sym found.1 ∙ known))
    ((bytes_eq-Decides found.0.label label).0 found.2)

-- two attributes with one label are one
pub same_labelled : (schema : Set) (label one other : List ℕ) → IsWhole schema
    → is_labelled schema.attributes label one ≡ true → is_labelled schema.attributes label other ≡ true → one ≡ other
same_labelled schema label one other whole first second =
    let here = mapped_is (λ (r : AttrRec). is_same_octets r.label label) (attribute_record schema.attributes one)
    first in
    let there = mapped_is (λ (r : AttrRec). is_same_octets r.label label) (attribute_record schema.attributes other)
    second in
    let is = record_is schema.attributes one here.0 here.1 in
    let also = record_is schema.attributes other there.0 there.1 in
    let equal = one_labelled schema here.0 there.0 whole is.0 also.0
    ((bytes_eq-Decides here.0.label label).0 here.2 ∙ sym ((bytes_eq-Decides there.0.label label).0 there.2)) in
    sym is.1 ∙ ap (λ (r : AttrRec). r.id) equal ∙ also.1

pub attribute_so : (schema : Set) (template : AttrRec) (wanted : List ℕ × TypeSyntax) (id : List ℕ)
    → attribute_record schema.attributes id ≡ Some template → is_attribute schema.attributes wanted id ≡ true
    → same_syntax template.syntax wanted.1 ≡ true
attribute_so schema template wanted id known is =
    let found = mapped_is (λ (one : AttrRec). is_same_octets one.label wanted.0 && same_syntax one.syntax wanted.1)
    (attribute_record schema.attributes id) is in
    subst (λ (one : AttrRec). same_syntax one.syntax wanted.1 ≡ true)
    (same_Some found.0 template (sym found.1 ∙ known))
    (and_parts (is_same_octets found.0.label wanted.0) (same_syntax found.0.syntax wanted.1) found.2).1

-- an attribute that a bound log must have, by its label
pub log_syntax : (schema : Set) (class : List ℕ) (wanted : List ℕ × TypeSyntax) (template : AttrRec) → IsWhole schema
    → is_bound_log schema class ≡ true → Contains log_attributes wanted → Contains schema.attributes template
    → template.label ≡ wanted.0 → same_syntax template.syntax wanted.1 ≡ true
log_syntax schema class wanted template whole log needed at labelled =
    let packages = packages_of schema class [] in
    let parts = and_parts (list_any (is_class_labelled schema.classes (codes "log"))
    (classes_above schema.classes class)) (list_all (have_attribute schema.attributes packages) log_attributes) log in
    let has = all_gets (have_attribute schema.attributes packages) log_attributes wanted parts.1 needed in
    let of_package = any_gets (λ (one : PackageRec).
    list_any (λ (property : Property). is_attribute schema.attributes wanted property.attribute) one.attributes)
    packages has in
    let property = any_gets (λ (one : Property). is_attribute schema.attributes wanted one.attribute)
    of_package.0.attributes of_package.1 in
    let found = mapped_is (λ (one : AttrRec). is_same_octets one.label wanted.0 && same_syntax one.syntax wanted.1)
    (attribute_record schema.attributes property.0.attribute) property.1 in
    let same = and_parts (is_same_octets found.0.label wanted.0) (same_syntax found.0.syntax wanted.1) found.2 in
    let equal : found.0 ≡ template =
    one_labelled schema found.0 template whole
    (record_is schema.attributes property.0.attribute found.0 found.1).0 at
    ((bytes_eq-Decides found.0.label wanted.0).0 same.0 ∙ sym labelled) in
    subst (λ (one : AttrRec). same_syntax one.syntax wanted.1 ≡ true) equal same.1

-- ---- the syntaxes of these attributes

pub identifier_type : (syntax : TypeSyntax) → same_syntax syntax ObjectIdentifier ≡ true → syntax ≡ ObjectIdentifier
identifier_type ObjectIdentifier e = refl
identifier_type _ e = absurd (false≢true e)

no_bounds : (bounds : Bounds) → same_bounds bounds [] ≡ true → bounds ≡ []
no_bounds [] e = refl
no_bounds (pair ∷ pairs) e = absurd (false≢true e)

pub identifier_set : (syntax : TypeSyntax) → same_syntax syntax (set_of ObjectIdentifier) ≡ true
    → syntax ≡ SetOf ObjectIdentifier []
identifier_set (SetOf member sizes) e =
    let parts = and_parts (same_syntax member ObjectIdentifier) (same_bounds sizes []) e in
    λ i. SetOf (identifier_type member parts.0 i) (no_bounds sizes parts.1 i)
identifier_set _ e = absurd (false≢true e)

-- a CHOICE whose first alternative is a tagged OBJECT IDENTIFIER
pub record IsIdentifierChoice (syntax : TypeSyntax) : Type 0 where
  pub name : List ℕ
  pub tag : Tag
  pub explicit : Bool
  pub optional : Bool
  pub default : Option TypedValue
  pub rest : TypeParts
  pub is : syntax ≡ Choice (Part name (Tagged tag explicit ObjectIdentifier) optional default rest)

pub record IsTaggedIdentifier (syntax : TypeSyntax) : Type 0 where
  pub tag : Tag
  pub explicit : Bool
  pub is : syntax ≡ Tagged tag explicit ObjectIdentifier

tagged_identifier : (syntax : TypeSyntax) (tag : Tag) (explicit : Bool)
    → same_syntax syntax (Tagged tag explicit ObjectIdentifier) ≡ true → IsTaggedIdentifier syntax
tagged_identifier (Tagged t e of) tag explicit h =
    let parts = and_parts _ (same_syntax of ObjectIdentifier) h in
    record { tag = t; explicit = e; is = ap (Tagged t e) (identifier_type of parts.1) }
tagged_identifier _ tag explicit h = absurd (false≢true h)

first_identifier : (parts : TypeParts) (name : List ℕ) (tag : Tag) (explicit : Bool) (others : TypeParts)
    → same_syntax (Choice parts) (Choice (Part name (Tagged tag explicit ObjectIdentifier) false None others)) ≡ true
    → IsIdentifierChoice (Choice parts)
first_identifier NoParts name tag explicit others h = absurd (false≢true h)
first_identifier (Part n syntax optional default rest) name tag explicit others h =
    let one = and_parts _ _ h in
    let two = and_parts _ _ one.0 in
    let three = and_parts _ _ two.0 in
    let four = and_parts _ (same_syntax syntax (Tagged tag explicit ObjectIdentifier)) three.0 in
    let is = tagged_identifier syntax tag explicit four.1 in
    record {
      name = n;
      tag = is.tag;
      explicit = is.explicit;
      optional = optional;
      default = default;
      rest = rest;
      is = ap (λ one. Choice (Part n one optional default rest)) is.is;
    }

choice_identifier : (syntax : TypeSyntax) (name : List ℕ) (tag : Tag) (explicit : Bool) (others : TypeParts)
    → same_syntax syntax (Choice (Part name (Tagged tag explicit ObjectIdentifier) false None others)) ≡ true
    → IsIdentifierChoice syntax
choice_identifier (Choice parts) name tag explicit others h =
    first_identifier parts name tag explicit others h
choice_identifier _ name tag explicit others h = absurd (false≢true h)

pub class_choice : (syntax : TypeSyntax) → same_syntax syntax object_class ≡ true → IsIdentifierChoice syntax
class_choice syntax h = choice_identifier syntax _ _ _ _ h

-- ---- the numbers of a log

same_number : (pair : ℤ × ℤ) (low high : ℤ) → same_pair pair (low, high) ≡ true → pair ≡ (low, high)
same_number (a, b) low high e =
    let parts = and_parts (int_eq a low) (int_eq b high) e in
    λ i. ((Decides-int_eq a low).0 parts.0 i, (Decides-int_eq b high).0 parts.1 i)

one_range : (ranges : Bounds) (low high : ℤ) → same_bounds ranges ((low, high) ∷ []) ≡ true
    → ranges ≡ (low, high) ∷ []
one_range [] low high e = absurd (false≢true e)
one_range (pair ∷ []) low high e =
    ap (λ p. p ∷ []) (same_number pair low high (and_parts (same_pair pair (low, high)) _ e).0)
one_range (pair ∷ second ∷ others) low high e =
    absurd (false≢true (and_parts (same_pair pair (low, high)) _ e).1)

in_range : (n : ℕ) → n < 9223372036854775808 → allowed ((pos 0, pos 9223372036854775807) ∷ []) (pos n) ≡ true
in_range n small = grind (arith, small)

pub number_fits : (syntax : TypeSyntax) (n : ℕ) → same_syntax syntax from_zero ≡ true → n < 9223372036854775808
    → Fits syntax (Int (pos n))
number_fits (Integer names ranges) n e small =
    let parts = and_parts (same_names names []) (same_bounds ranges ((pos 0, pos 9223372036854775807) ∷ [])) e in (
      record { sfits = small },
      subst (λ bounds. allowed bounds (pos n) ≡ true) (sym (one_range ranges _ _ parts.1)) (in_range n small),
    )
number_fits _ n e small = absurd (false≢true e)

pub record IsNumber (syntax : TypeSyntax) : Type 0 where
  pub names : List (List ℕ × ℤ)
  pub ranges : Bounds
  pub is : syntax ≡ Integer names ranges

pub number_form : (syntax : TypeSyntax) → same_syntax syntax from_zero ≡ true → IsNumber syntax
number_form (Integer names ranges) e = record { names = names; ranges = ranges; is = refl }
number_form _ e = absurd (false≢true e)
