-- The availabilityStatus of a bound log is a SET OF of any size, so what is left of it without a member fits: X.721;
-- docs/PROFILE.md, section 15.
use Rattle.std.proofs.Common.{◌≡◌, ℕ, true, List, [], ◌∷◌, refl, sym, ◌∙◌, ap, subst, arith}
use Rattle.std.proofs.lemmas.Bool.{and_parts, false≢true}
use Rattle.std.proofs.lemmas.Slice.Eq.{bytes_eq-Decides}
use Rattle.std.specs.Prelude.{◌&&◌, Contains, codes}
use Rattle.std.specs.List.{list_all, list_any}
use Rattle.set_values.proofs.SetLaws.{removed_fit_holds, removed_rise_holds}
use Rattle.term_values.specs.Fits.{Fits}
use Rattle.term_values.specs.SameSyntax.{same_bounds, same_syntax}
use Rattle.term_values.specs.SetMembers.{without_members}
use Rattle.term_values.specs.Syntaxes.{Bounds, TypeSyntax}
use Rattle.term_values.specs.Syntaxes.TypeSyntax.{Integer, SetOf}
use Rattle.term_values.specs.Typed.{TypedValue, TypedValues}
use Rattle.term_values.specs.Typed.TypedValue.{Many}
use Rattle.term_values.specs.Written.{der}
use Rattle.term_model.specs.declared.packages.PackageRec.{PackageRec}
use Rattle.term_model.specs.declared.packages.Property.{Property}
use Rattle.term_model.specs.declared.schema.AttrRec.{AttrRec}
use Rattle.term_model.specs.declared.schema.Set.{Set}
use Rattle.term_model.specs.BoundClasses.{have_attribute, is_attribute, is_bound_log, is_class_labelled}
use Rattle.term_model.specs.Comparing.{is_same_octets}
use Rattle.term_model.specs.ControlSyntaxes.{availability_status, log_attributes}
use Rattle.term_model.specs.ObjectOperation.{attribute_record}
use Rattle.term_model.specs.PresentPackages.{classes_above, packages_of}
use Rattle.term_model.specs.WholeSet.{IsWhole}
use Rattle.set_laws.proofs.Found.{all_gets, any_gets, mapped_is}
use Rattle.set_laws.proofs.Records.{one_labelled, record_is}

no_bounds : (bounds : Bounds) → same_bounds bounds [] ≡ true → bounds ≡ []
no_bounds [] e = refl
no_bounds (pair ∷ pairs) e = absurd (false≢true e)

-- SET OF, of any size
abbrev pub IsSetOf : TypeSyntax → Type 0
IsSetOf syntax = (member : TypeSyntax) × (syntax ≡ SetOf member [])

set_of_numbers : (syntax : TypeSyntax) → same_syntax syntax availability_status ≡ true → IsSetOf syntax
set_of_numbers (SetOf member sizes) e =
    let parts = and_parts (same_syntax member (Integer [] [])) (same_bounds sizes []) e in
    (member, ap (SetOf member) (no_bounds sizes parts.1))
set_of_numbers _ e = absurd (false≢true e)

-- the log's own availabilityStatus
own_status : (schema : Set) (class : List ℕ) → is_bound_log schema class ≡ true
    → (template : AttrRec) × Contains schema.attributes template × (template.label ≡ codes "availabilityStatus")
    × IsSetOf template.syntax
own_status schema class log =
    let wanted : List ℕ × TypeSyntax = (codes "availabilityStatus", availability_status) in
    let packages = packages_of schema class [] in
    let parts = and_parts (list_any (is_class_labelled schema.classes (codes "log"))
    (classes_above schema.classes class)) (list_all (have_attribute schema.attributes packages) log_attributes) log in
    let has = all_gets (have_attribute schema.attributes packages) log_attributes wanted parts.1
    (4, omega arith, refl) in
    let of_package = any_gets (λ (one : PackageRec).
    list_any (λ (property : Property). is_attribute schema.attributes wanted property.attribute) one.attributes)
    packages has in
    let property = any_gets (λ (one : Property). is_attribute schema.attributes wanted one.attribute)
    of_package.0.attributes of_package.1 in
    let found = mapped_is (λ (one : AttrRec). is_same_octets one.label wanted.0 && same_syntax one.syntax wanted.1)
    (attribute_record schema.attributes property.0.attribute) property.1 in
    let same = and_parts (is_same_octets found.0.label wanted.0) (same_syntax found.0.syntax wanted.1) found.2 in (
      found.0,
      (record_is schema.attributes property.0.attribute found.0 found.1).0,
      (bytes_eq-Decides found.0.label wanted.0).0 same.0,
      set_of_numbers found.0.syntax same.1,
    )

pub status_is_set : (schema : Set) (class : List ℕ) (template : AttrRec) → IsWhole schema
    → is_bound_log schema class ≡ true → Contains schema.attributes template
    → template.label ≡ codes "availabilityStatus" → IsSetOf template.syntax
status_is_set schema class template whole log at labelled =
    let own = own_status schema class log in
    let equal : own.0 ≡ template = one_labelled schema own.0 template whole own.1 at (own.2 ∙ sym labelled) in
    subst (λ (one : AttrRec). IsSetOf one.syntax) equal own.3

lessened_set : (member : TypeSyntax) (value : TypedValue) (taken : TypedValues) → Fits (SetOf member []) value
    → Fits (SetOf member []) (without_members (SetOf member []) value (Many taken))
lessened_set member (Many values) taken fits = (
  removed_fit_holds member values taken fits.0,
  refl,
  removed_rise_holds (der member) values taken fits.2,
)
lessened_set member _ taken fits = absurd fits

pub without_fits : (syntax : TypeSyntax) (value : TypedValue) (taken : TypedValues) → IsSetOf syntax
    → Fits syntax value → Fits syntax (without_members syntax value (Many taken))
without_fits syntax value taken is fits =
    subst (λ one. Fits one (without_members one value (Many taken))) (sym is.1)
    (lessened_set is.0 value taken (subst (λ one. Fits one value) is.1 fits))
