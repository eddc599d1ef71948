-- GivenLaws: the syntax of a type that an assignment of modules without a fault gives, or CMIP-1, has clear tags
-- (X.680, section 16; docs/PROFILE.md, section 11).
use Rattle.std.proofs.Common.{◌≡◌, ℕ, List, true, Option, None, Some, refl, sym, ap, ◌∙◌, subst, slice_get}
use Rattle.std.proofs.lemmas.Option.{none-some, same_Some}
use Rattle.term_values.specs.Soundness.{has_clear_tags}
use Rattle.term_values.specs.Syntaxes.{TypeSyntax}
use Rattle.asn1_names.specs.FirstModuleFault.{AreFaultless}
use Rattle.asn1_names.specs.ModuleTerms.{AssignedTerm, AssignmentTerm, ModuleTerm, TypeTerm}
use Rattle.asn1_names.specs.ModuleTerms.AssignedTerm.{AssignsType, AssignsValue}
use Rattle.asn1_names.specs.NameMeaning.{Meaning, assigned_meaning, standard_meaning}
use Rattle.asn1_names.specs.NameMeaning.Meaning.{Nothing, StandardType, TypeAt, ValueAt}
use Rattle.asn1_names.specs.Occurrences.{type_assigned}
use Rattle.asn1_names.specs.ResolvedTypes.{HasSyntax}
use Rattle.asn1_names.specs.ResolvedTypes.HasSyntax.{of_standard as has_standard, of_type, of_value}
use Rattle.asn1_names.specs.StandardModule.{standard_type}
use Rattle.filled_syntaxes.specs.LinkedMeanings.{assignment_meaning, meaning_in, meaning_of_assignment}
use Rattle.sound_laws.specs.GivenMeanings.{HaveAlternatives, IsGiven}
use Rattle.sound_laws.specs.GivenMeanings.IsGiven.{of_assignment, of_standard}
use Rattle.sound_laws.proofs.PlaceLaws.{IsAssigned, assigned_stands, assignment_assigned}
use Rattle.sound_laws.proofs.StandardNames.{IsStandard, assigned_standard, standard_named}
use Rattle.sound_laws.proofs.StandardTags.{standard_clear}
use Rattle.sound_laws.proofs.ClearLaws.{clear_tags}

-- the type that a meaning has, and its module
abbrev type_meant : Meaning → Option (ℕ × TypeTerm)
type_meant (TypeAt m i of) = Some (m, of)
type_meant (ValueAt m i of number text) = Some (m, of)
type_meant (StandardType syntax) = None
type_meant Nothing = None

type_told : (m i : ℕ) (assigned : AssignedTerm) →
    type_meant (assigned_meaning m i assigned) ≡ Some (m, type_assigned assigned)
type_told m i (AssignsType of) = refl
type_told m i (AssignsValue of number text) = refl

place_assigned : (ms : List ModuleTerm) (v j m : ℕ) (of : TypeTerm) →
    type_meant (assignment_meaning ms v j) ≡ Some (m, of) → IsAssigned ms m of
place_assigned ms v j m of e = by (slice_get ms v) refl e
  where
    in_module : (x : ModuleTerm) (found : Option AssignmentTerm) → slice_get ms v ≡ Some x →
        slice_get x.assignments j ≡ found → type_meant (meaning_in v j (Some x)) ≡ Some (m, of) → IsAssigned ms m of
    in_module x None at is h = absurd (none-some _ (sym (ap (λ found. type_meant
        (meaning_of_assignment v j found)) is) ∙ h))
    in_module x (Some a) at is h =
        let told : Some (v, type_assigned a.assigned) ≡ Some (m, of) = sym (type_told v j a.assigned) ∙
        sym (ap (λ found. type_meant
        (meaning_of_assignment v j found)) is) ∙ h in
        subst (λ (p : ℕ × TypeTerm). IsAssigned ms p.0 p.1) (same_Some _ _ told)
        (assignment_assigned ms v j x a (type_assigned a.assigned) at is refl)

    by : (found : Option ModuleTerm) → slice_get ms v ≡ found → type_meant (meaning_in v j found) ≡ Some (m, of) →
        IsAssigned ms m of
    by None at h = absurd (none-some _ h)
    by (Some x) at h = in_module x (slice_get x.assignments j) at refl h

standard_none : (found : Option TypeSyntax) → type_meant (standard_meaning found) ≡ None
standard_none None = refl
standard_none (Some syntax) = refl

given_assigned : {ms : List ModuleTerm} {meant : Meaning} (m : ℕ) (of : TypeTerm) → IsGiven ms meant →
    type_meant meant ≡ Some (m, of) → IsAssigned ms m of
given_assigned {ms = ms} m of (of_assignment v j is) e = place_assigned ms v j m of (ap type_meant is ∙ e)
given_assigned m of (of_standard name is) e =
    absurd (none-some _ (sym (standard_none (standard_type name)) ∙ ap type_meant is ∙ e))

not_standard : (ms : List ModuleTerm) (v j : ℕ) (syntax : TypeSyntax) →
    assignment_meaning ms v j ≡ StandardType syntax → ⊥
not_standard ms v j syntax e = by (slice_get ms v) e
  where
    in_module : (found : Option AssignmentTerm) →
        meaning_of_assignment v j found ≡ StandardType syntax → ⊥
    in_module None h = absurd (cc)
    in_module (Some a) h = assigned_standard v j a.assigned syntax h

    by : (found : Option ModuleTerm) → meaning_in v j found ≡ StandardType syntax → ⊥
    by None h = absurd (cc)
    by (Some x) h = in_module (slice_get x.assignments j) h

given_standard : {ms : List ModuleTerm} {meant : Meaning} (syntax : TypeSyntax) → IsGiven ms meant →
    meant ≡ StandardType syntax → IsStandard syntax
given_standard {ms = ms} syntax (of_assignment v j is) e = absurd (not_standard ms v j syntax (is ∙ e))
given_standard syntax (of_standard name is) e = standard_named name syntax (is ∙ e)

-- the syntax of a type that an assignment or CMIP-1 gives has clear tags
pub syntax_clear : {ms : List ModuleTerm} {meant : Meaning} {syntax : TypeSyntax} → AreFaultless ms →
    HaveAlternatives ms → IsGiven ms meant → HasSyntax ms meant syntax → has_clear_tags syntax ≡ true
syntax_clear faultless have given (of_type {m = m} {of = of} d) =
    clear_tags faultless have (assigned_stands (given_assigned m of given refl).1) d
syntax_clear faultless have given (of_value {m = m} {of = of} d) =
    clear_tags faultless have (assigned_stands (given_assigned m of given refl).1) d
syntax_clear {syntax = syntax} faultless have given has_standard =
    let known = given_standard syntax given refl in (standard_clear known.0 syntax known.1).clear
