-- PropertyLaws: each property that a package states is whole (X.722, section 8.4).
use Rattle.std.specs.Prelude.{◌≡◌, ◌∷◌, [], ℕ, List, Option, None, Some, true, All, IfSome, refl, suc, zero}
use Rattle.std.proofs.Common.{◌∙◌, arith, inl, inr}
use Rattle.term_values.specs.Fits.{Fits}
use Rattle.term_values.specs.Soundness.{IsSound}
use Rattle.term_values.specs.Syntaxes.{TypeSyntax}
use Rattle.term_values.specs.Typed.{TypedValue}
use Rattle.term_model.specs.WholeRecords.{IsSetValued, IsWholeProperty}
use Rattle.term_model.specs.declared.packages.Property.{Property}
use Rattle.asn1_names.specs.ModuleTerms.{ModuleTerm}
use Rattle.linked_parts.specs.declared.linked.Linked.{Linked}
use Rattle.linked_parts.specs.declared.linked.LinkedName.{LinkedName}
use Rattle.class_faults.specs.AttributeSyntaxes.{AttributeHas}
use Rattle.class_faults.specs.FirstClassFault.{AreFaultless}
use Rattle.class_faults.specs.StatedProperties.{HasValue, TypeHas}
use Rattle.schema_records.specs.ClassRecords.{ArePermittedTypes, IsOptionalValue}
use Rattle.stated_laws.proofs.TemplateLaws.{AreRecorded}
use Rattle.stated_laws.proofs.RecordLaws.{HasUse}
use Rattle.stated_laws.proofs.TemplateLaws.{template_of}
use Rattle.stated_laws.proofs.UseLaws.{added_is_set, removed_is_set, stated_fits}

-- ---- the parts of a property

value_fits_in : (ms : List ModuleTerm) (linked : Linked) (syntax : TypeSyntax) (name : Option LinkedName)
    (found : Option TypedValue) → IsOptionalValue ms linked name found →
    ((own : LinkedName) (value : TypedValue) → name ≡ Some own → HasValue ms linked own value → Fits syntax value) →
    IfSome found (Fits syntax)
value_fits_in ms linked syntax None None is fits = tt
value_fits_in ms linked syntax None (Some value) is fits = absurd is
value_fits_in ms linked syntax (Some name) None is fits = absurd is
value_fits_in ms linked syntax (Some name) (Some value) is fits = fits name value refl is

all_of_none : {A : Type 0} (P : A → Type 0) → All P []
all_of_none P k d within = absurd (omega (arith, within))

all_of_one : {A : Type 0} (P : A → Type 0) (x : A) → P x → All P (x ∷ [])
all_of_one P x is zero d within = is
all_of_one P x is (suc k) d within = absurd (omega (arith, within))

types_sound : (ms : List ModuleTerm) (linked : Linked) (name : Option LinkedName) (types : List TypeSyntax) →
    ((own : LinkedName) (syntax : TypeSyntax) → TypeHas ms linked own syntax → IsSound syntax) →
    ArePermittedTypes ms linked name types → All IsSound types
types_sound ms linked None [] sound are = all_of_none IsSound
types_sound ms linked None (type ∷ types) sound are = absurd are
types_sound ms linked (Some name) [] sound are = absurd are
types_sound ms linked (Some name) (type ∷ []) sound are = all_of_one IsSound type (sound name type are)
types_sound ms linked (Some name) (type ∷ other ∷ types) sound are = absurd are

-- what is said of an attribute with this syntax is whole
pub record IsWholeFor (syntax : TypeSyntax) (x : Property) : Type 0 where
  pub default : IfSome x.default (Fits syntax)
  pub initial : IfSome x.initial (Fits syntax)
  pub permitted : All IsSound x.permitted
  pub add : x.add ≡ true → IsSetValued syntax
  pub remove : x.remove ≡ true → IsSetValued syntax

module _ (m : AreRecorded) (faultless : AreFaultless m.ms m.linked)
    (sound : (name : LinkedName) (syntax : TypeSyntax) → TypeHas m.ms m.linked name syntax → IsSound syntax) where
  pub use_whole : {k : ℕ} (x : Property) (use_ : HasUse m k x) (syntax : TypeSyntax) →
      AttributeHas m.ms m.linked use_.stated.attribute syntax → IsWholeFor syntax x
  use_whole x use_ syntax has =
      let own = use_.own in
      let stated = use_.stated in record {
        default = value_fits_in m.ms m.linked syntax stated.default_value x.default use_.is.is_default
            (λ name value there has_value. stated_fits m.ms m.linked faultless own.place own.of_package own.package_at
            stated own.says syntax has name value (inl there) has_value);
        initial = value_fits_in m.ms m.linked syntax stated.initial_value x.initial use_.is.is_initial
            (λ name value there has_value. stated_fits m.ms m.linked faultless own.place own.of_package own.package_at
            stated own.says syntax has name value (inr there) has_value);
        permitted = types_sound m.ms m.linked stated.permitted x.permitted sound use_.is.permits;
        add = λ there. added_is_set m.ms m.linked faultless own.place own.of_package own.package_at stated own.says
            syntax has (use_.is.adds ∙ there);
        remove = λ there. removed_is_set m.ms m.linked faultless own.place own.of_package own.package_at stated
            own.says syntax has (use_.is.removes ∙ there);
      }

  -- what a package states is whole
  pub property_whole : {k : ℕ} (x : Property) → HasUse m k x → IsWholeProperty m.schema x
  property_whole x use_ =
      let template = template_of m use_.stated.attribute x.attribute use_.is.is_attribute in
      let whole = use_whole x use_ template.x.syntax template.is.has in record {
        template = template.x;
        known = template.known;
        named = template.named;
        default = whole.default;
        initial = whole.initial;
        permitted = whole.permitted;
        add = whole.add;
        remove = whole.remove;
      }
