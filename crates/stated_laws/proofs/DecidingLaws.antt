-- DecidingLaws: whether a value fits a syntax, and whether a syntax is SET OF, is decided (X.680, sections 17 to 51).
use Rattle.std.specs.Prelude.{◌≡◌, ◌⊎◌, Bool, true, false}
use Rattle.std.proofs.Common.{◌∙◌, ap, inl, inr, refl, sym, true≢false}
use Rattle.term_values.specs.FitTest.{value_fits}
use Rattle.term_values.specs.Fits.{Fits}
use Rattle.term_values.specs.MatchingKinds.{beneath_tags, is_set_of}
use Rattle.term_values.specs.Syntaxes.{Bounds, TypeSyntax}
use Rattle.term_values.specs.Syntaxes.TypeSyntax.{SetOf}
use Rattle.term_values.specs.Typed.{TypedValue}
use Rattle.term_model.specs.WholeRecords.{IsSetValued}
use Rattle.value_fits.proofs.FitLaws.{fits_if, fits_is}

-- what is decided holds where it isn't refuted
pub unless_not : {A : Type 0} → A ⊎ (¬ A) → ¬ (¬ A) → A
unless_not (inl is) unless = is
unless_not (inr not_so) unless = absurd (unless not_so)

pub fits_or_not : (syntax : TypeSyntax) (value : TypedValue) → Fits syntax value ⊎ (¬ Fits syntax value)
fits_or_not syntax value = by (value_fits syntax value) refl
  where
    by : (test : Bool) → value_fits syntax value ≡ test → Fits syntax value ⊎ (¬ Fits syntax value)
    by true is = inl (fits_if syntax value is)
    by false is = inr (λ fits. true≢false (sym (fits_is syntax value fits) ∙ is))

pub fits_unless : (syntax : TypeSyntax) (value : TypedValue) → ¬ (¬ Fits syntax value) → Fits syntax value
fits_unless syntax value = unless_not (fits_or_not syntax value)

set_there : (syntax : TypeSyntax) → is_set_of syntax ≡ true →
    (member : TypeSyntax) × ((sizes : Bounds) × (syntax ≡ SetOf member sizes))
set_there (SetOf member sizes) is = (member, (sizes, refl))
set_there _ is = absurd (cc)

set_is : (syntax : TypeSyntax) → IsSetValued syntax → is_set_of (beneath_tags syntax) ≡ true
set_is syntax (member, (sizes, is)) = ap is_set_of is

pub set_or_not : (syntax : TypeSyntax) → IsSetValued syntax ⊎ (¬ IsSetValued syntax)
set_or_not syntax = by (is_set_of (beneath_tags syntax)) refl
  where
    by : (test : Bool) → is_set_of (beneath_tags syntax) ≡ test → IsSetValued syntax ⊎ (¬ IsSetValued syntax)
    by true is = inl (set_there (beneath_tags syntax) is)
    by false is = inr (λ set. true≢false (sym (set_is syntax set) ∙ is))

pub set_unless : (syntax : TypeSyntax) → ¬ (¬ IsSetValued syntax) → IsSetValued syntax
set_unless syntax = unless_not (set_or_not syntax)
