-- StandardNames: a type of CMIP-1 is meant by one of its names alone (X.680, section 13; X.711, section 7.5).
use Rattle.std.proofs.Common.{◌≡◌, ℕ, ◌+◌, List, [], ◌∷◌, Bool, true, false, Option, None, Some, refl, ap, ◌∙◌}
use Rattle.std.proofs.Common.{slice_get}
use Rattle.std.specs.Prelude.{if◌then◌else◌}
use Rattle.token_grammar.specs.declared.token.Token.{Token}
use Rattle.term_values.specs.Syntaxes.{TypeSyntax}
use Rattle.asn1_names.specs.ModuleTerms.{AssignedTerm, AssignmentTerm, ModuleTerm}
use Rattle.asn1_names.specs.ModuleTerms.AssignedTerm.{AssignsType, AssignsValue}
use Rattle.asn1_names.specs.NameMeaning.{Meaning, ModuleMeaning, assigned_in, assigned_meaning, first_assignment}
use Rattle.asn1_names.specs.NameMeaning.{import_of, imported_meaning, is_called, meaning_within, module_meaning}
use Rattle.asn1_names.specs.NameMeaning.{name_meaning, own_or_imported, reference_meaning, standard_meaning}
use Rattle.asn1_names.specs.NameMeaning.Meaning.{Nothing, StandardType, TypeAt, ValueAt}
use Rattle.asn1_names.specs.NameMeaning.ModuleMeaning.{ModuleAt, NoModule, Standard}
use Rattle.asn1_names.specs.StandardModule.{standard_type}

-- it is a type of CMIP-1
abbrev pub IsStandard : TypeSyntax → Type 0
IsStandard syntax = (name : List ℕ) × (standard_type name ≡ Some syntax)

standard_by : (name : List ℕ) (found : Option TypeSyntax) (syntax : TypeSyntax) → standard_type name ≡ found →
    standard_meaning found ≡ StandardType syntax → IsStandard syntax
standard_by name None syntax is e = absurd (cc)
standard_by name (Some own) syntax is e = let same : own ≡ syntax = cc in (name, is ∙ ap Some same)

pub standard_named : (name : List ℕ) (syntax : TypeSyntax) →
    standard_meaning (standard_type name) ≡ StandardType syntax → IsStandard syntax
standard_named name syntax e = standard_by name (standard_type name) syntax refl e

pub assigned_standard : (m i : ℕ) (assigned : AssignedTerm) (syntax : TypeSyntax) →
    assigned_meaning m i assigned ≡ StandardType syntax → ⊥
assigned_standard m i (AssignsType of) syntax e = absurd (cc)
assigned_standard m i (AssignsValue of number text) syntax e = absurd (cc)

first_standard : (name : List ℕ) (m i : ℕ) (xs : List AssignmentTerm) (syntax : TypeSyntax) →
    first_assignment name m i xs ≡ StandardType syntax → ⊥
unfolding first_assignment
first_standard name m i [] syntax e = absurd (cc)
first_standard name m i (x ∷ xs) syntax e =
    by (is_called name x.name) (λ h. first_standard name m (i + 1) xs syntax h) e
  where
    by : (b : Bool) → (first_assignment name m (i + 1) xs ≡ StandardType syntax → ⊥) →
        (if b then assigned_meaning m i x.assigned else first_assignment name m (i + 1) xs) ≡ StandardType syntax → ⊥
    by true rest h = assigned_standard m i x.assigned syntax h
    by false rest h = rest h

own_standard : (ms : List ModuleTerm) (m : ℕ) (name : List ℕ) (syntax : TypeSyntax) →
    assigned_in ms m name ≡ StandardType syntax → ⊥
unfolding assigned_in
own_standard ms m name syntax e = by (slice_get ms m) e
  where
    by : (found : Option ModuleTerm) → (elim found as (λ _. Meaning) [
      | None ↦ Nothing
      | Some x ↦ first_assignment name m 0 x.assignments
    ]) ≡ StandardType syntax → ⊥
    by None h = absurd (cc)
    by (Some x) h = first_standard name m 0 x.assignments syntax h

within_standard : (ms : List ModuleTerm) (within : ModuleMeaning) (name : List ℕ) (syntax : TypeSyntax) →
    meaning_within ms within name ≡ StandardType syntax → IsStandard syntax
unfolding meaning_within
within_standard ms Standard name syntax e = standard_named name syntax e
within_standard ms (ModuleAt m) name syntax e = absurd (own_standard ms m name syntax e)
within_standard ms NoModule name syntax e = absurd (cc)

imported_standard : (ms : List ModuleTerm) (name : List ℕ) (from : Option Token) (syntax : TypeSyntax) →
    imported_meaning ms name from ≡ StandardType syntax → IsStandard syntax
unfolding imported_meaning
imported_standard ms name None syntax e = absurd (cc)
imported_standard ms name (Some x) syntax e = within_standard ms (module_meaning ms x.text) name syntax e

name_standard : (ms : List ModuleTerm) (m : ℕ) (name : List ℕ) (syntax : TypeSyntax) →
    name_meaning ms m name ≡ StandardType syntax → IsStandard syntax
unfolding name_meaning
name_standard ms m name syntax e = by (assigned_in ms m name) refl e
  where
    by : (own : Meaning) → assigned_in ms m name ≡ own →
        own_or_imported own (imported_meaning ms name (import_of ms m name)) ≡ StandardType syntax → IsStandard syntax
    by (TypeAt v i of) is h = absurd (cc)
    by (ValueAt v i of number text) is h = absurd (cc)
    by (StandardType other) is h = absurd (own_standard ms m name other is)
    by Nothing is h = imported_standard ms name (import_of ms m name) syntax h

-- a name that means a type of CMIP-1
pub reference_standard : (ms : List ModuleTerm) (m : ℕ) (module_name : Option Token) (name : Token)
    (syntax : TypeSyntax) → reference_meaning ms m module_name name ≡ StandardType syntax → IsStandard syntax
unfolding reference_meaning
reference_standard ms m None name syntax e = name_standard ms m name.text syntax e
reference_standard ms m (Some x) name syntax e =
    within_standard ms (module_meaning ms x.text) name.text syntax e
