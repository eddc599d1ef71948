-- MeaningLaws: what a linked name of a type or of a value means is what the name means that was linked (X.680, sections
-- 13.1 and 14).
use Rattle.std.specs.Prelude.{◌≡◌, ◌+◌, ◌∷◌, [], ℕ, zero, suc, List, Bool, true, false, Option, None, Some}
use Rattle.std.specs.Prelude.{if◌then◌else◌, refl, slice_get}
use Rattle.std.proofs.Common.{◌∙◌, ap, arith}
use Rattle.std.proofs.Math.Path.{subst}
use Rattle.token_grammar.specs.declared.qualified_name.QualifiedName.{QualifiedName}
use Rattle.token_grammar.specs.declared.token.Token.{Token}
use Rattle.term_values.specs.Syntaxes.{TypeSyntax}
use Rattle.asn1_names.specs.ModuleTerms.{AssignedTerm, AssignmentTerm, ModuleTerm}
use Rattle.asn1_names.specs.ModuleTerms.AssignedTerm.{AssignsType, AssignsValue}
use Rattle.asn1_names.specs.NameMeaning.{Meaning, ModuleMeaning, assigned_in, assigned_meaning, first_assignment}
use Rattle.asn1_names.specs.NameMeaning.{is_called, meaning_within, module_meaning, standard_meaning}
use Rattle.asn1_names.specs.NameMeaning.Meaning.{Nothing, StandardType, TypeAt, ValueAt}
use Rattle.asn1_names.specs.NameMeaning.ModuleMeaning.{ModuleAt, NoModule, Standard}
use Rattle.asn1_names.specs.StandardModule.{standard_type}
use Rattle.linked_parts.specs.declared.linked.NamedMeaning.{NamedMeaning}
use Rattle.filled_syntaxes.specs.LinkedMeanings.{assignment_meaning, linked_meaning, meaning_in, meaning_of_assignment}
use Rattle.gdmo_names.specs.TypeMeaning.{qualified_meaning}
use Rattle.gdmo_linking.specs.LinkedNames.{IsMeant}
use Rattle.gdmo_linking.specs.LinkedNames.IsMeant.{of_standard, of_type, of_value}

-- ---- assignments

-- a meaning stands where it says: `at` gives the assignments of the module at the place m
abbrev StandsAt : ℕ → (ℕ → Option AssignmentTerm) → Meaning → Type 0
StandsAt m at (TypeAt v i of) = (m ≡ v) × (meaning_of_assignment m i (at i) ≡ TypeAt v i of)
StandsAt m at (ValueAt v i of number text) =
    (m ≡ v) × (meaning_of_assignment m i (at i) ≡ ValueAt v i of number text)
StandsAt m at (StandardType syntax) = ⊥
StandsAt m at Nothing = Unit {0}

assigned_stands : (m i : ℕ) (at : ℕ → Option AssignmentTerm) (assigned : AssignedTerm) →
    meaning_of_assignment m i (at i) ≡ assigned_meaning m i assigned → StandsAt m at (assigned_meaning m i assigned)
assigned_stands m i at (AssignsType of) is = (refl, is)
assigned_stands m i at (AssignsValue of number text) is = (refl, is)

first_stands : (name : List ℕ) (m i : ℕ) (xs : List AssignmentTerm) (at : ℕ → Option AssignmentTerm) →
    ((j : ℕ) → at (i + j) ≡ slice_get xs j) → StandsAt m at (first_assignment name m i xs)
unfolding first_assignment
first_stands name m i [] at same = tt
first_stands name m i (x ∷ xs) at same = by (is_called name x.name) (first_stands name m (i + 1) xs at further)
  where
    further : (j : ℕ) → at (i + 1 + j) ≡ slice_get xs j
    further j = ap at (omega arith) ∙ same (suc j)

    here : at i ≡ Some x
    here = ap at (omega arith) ∙ same zero

    by : (test : Bool) → StandsAt m at (first_assignment name m (i + 1) xs) →
        StandsAt m at (if test then assigned_meaning m i x.assigned else first_assignment name m (i + 1) xs)
    by true behind = assigned_stands m i at x.assigned (ap (meaning_of_assignment m i) here)
    by false behind = behind

-- ---- names with their modules

-- a meaning is the one that stands at its places, or the one that CMIP-1 gives the name
abbrev IsTold : List ModuleTerm → List ℕ → Meaning → Type 0
IsTold ms name (TypeAt m i of) = assignment_meaning ms m i ≡ TypeAt m i of
IsTold ms name (ValueAt m i of number text) = assignment_meaning ms m i ≡ ValueAt m i of number text
IsTold ms name (StandardType syntax) = standard_meaning (standard_type name) ≡ StandardType syntax
IsTold ms name Nothing = Unit {0}

standard_told : (ms : List ModuleTerm) (name : List ℕ) (o : Option TypeSyntax) → standard_type name ≡ o →
    IsTold ms name (standard_meaning o)
standard_told ms name None is = tt
standard_told ms name (Some syntax) is = ap standard_meaning is

-- what stands in the module that is there is told
stands_told : (ms : List ModuleTerm) (name : List ℕ) (m : ℕ) (x : ModuleTerm) (meaning : Meaning) →
    slice_get ms m ≡ Some x → StandsAt m (slice_get x.assignments) meaning → IsTold ms name meaning
stands_told ms name m x (TypeAt v i of) at stands =
    subst (λ w. assignment_meaning ms w i ≡ TypeAt v i of) stands.0 (ap (meaning_in m i) at ∙ stands.1)
stands_told ms name m x (ValueAt v i of number text) at stands =
    subst (λ w. assignment_meaning ms w i ≡ ValueAt v i of number text) stands.0 (ap (meaning_in m i) at ∙ stands.1)
stands_told ms name m x (StandardType syntax) at stands = absurd stands
stands_told ms name m x Nothing at stands = tt

assigned_told : (ms : List ModuleTerm) (m : ℕ) (name : List ℕ) → IsTold ms name (assigned_in ms m name)
unfolding assigned_in
assigned_told ms m name = by (slice_get ms m) refl
  where
    by : (o : Option ModuleTerm) → slice_get ms m ≡ o → IsTold ms name (elim o as (λ _. Meaning) [
      | None ↦ Nothing
      | Some x ↦ first_assignment name m 0 x.assignments
    ])
    by None is = tt
    by (Some x) is = stands_told ms name m x (first_assignment name m 0 x.assignments) is
        (first_stands name m 0 x.assignments (slice_get x.assignments)
        (λ j. ap (slice_get x.assignments) (omega arith)))

within_told : (ms : List ModuleTerm) (in_module : ModuleMeaning) (name : List ℕ) →
    IsTold ms name (meaning_within ms in_module name)
unfolding meaning_within
within_told ms Standard name = standard_told ms name (standard_type name) refl
within_told ms (ModuleAt m) name = assigned_told ms m name
within_told ms NoModule name = tt

-- ---- linked names

linked_as : (ms : List ModuleTerm) (name : Token) (meaning : Meaning) (told : NamedMeaning) →
    IsTold ms name.text meaning → IsMeant name meaning told → linked_meaning ms told ≡ meaning
linked_as ms name _ _ is of_type = is
linked_as ms name _ _ is of_value = is
linked_as ms name _ _ is of_standard = is

pub same_meaning : (ms : List ModuleTerm) (name : QualifiedName) (told : NamedMeaning) →
    IsMeant name.name (qualified_meaning ms name) told → linked_meaning ms told ≡ qualified_meaning ms name
unfolding qualified_meaning
same_meaning ms name told meant = linked_as ms name.name (qualified_meaning ms name) told
    (within_told ms (module_meaning ms name.module_name.text) name.name.text) meant
