-- MeaningLaws: in modules without a fault each name in linked parts that means something has a syntax with the values
-- of its DEFAULTs (X.680, sections 13.1, 17 and 25; docs/PROFILE.md, sections 11 and 12).
use Rattle.std.proofs.Common.{◌≡◌, ◌∙◌, ◌⊎◌, ℕ, List, Option, None, Some, ap, inl, inr, refl, sym, subst}
use Rattle.std.proofs.lemmas.Option.{get_or_from_slice_get, slice_get_within}
use Rattle.std.specs.Prelude.{slice_get}
use Rattle.term_values.specs.Syntaxes.{TypeSyntax}
use Rattle.asn1_names.specs.DenotedSyntax.{Denotes}
use Rattle.asn1_names.specs.FirstModuleFault.{AreFaultless}
use Rattle.asn1_names.specs.ModuleTerms.{AssignedTerm, AssignmentTerm, ModuleTerm}
use Rattle.asn1_names.specs.ModuleTerms.AssignedTerm.{AssignsType, AssignsValue}
use Rattle.asn1_names.specs.NameMeaning.{assigned_meaning, standard_meaning}
use Rattle.asn1_names.specs.NameMeaning.Meaning.{Nothing, StandardType, TypeAt, ValueAt}
use Rattle.asn1_names.specs.Occurrences.{Assigns, type_assigned}
use Rattle.asn1_names.specs.ResolvedTypes.{HasSyntax}
use Rattle.asn1_names.specs.ResolvedTypes.HasSyntax.{of_standard, of_type, of_value}
use Rattle.asn1_names.specs.StandardModule.{standard_type}
use Rattle.asn1_leaf_values.specs.Arcs.{NamedArcs}
use Rattle.denoted_types.specs.DenotedTypes.{NotNone}
use Rattle.denoted_types.proofs.TypeLaws.{each_type_denotes}
use Rattle.linked_parts.specs.declared.linked.NamedMeaning.{NamedMeaning}
use Rattle.linked_parts.specs.declared.linked.NamedMeaning.TheVariants.{Assigned, Standard}
use Rattle.filled_syntaxes.specs.FilledSyntaxes.{HasFilled}
use Rattle.filled_syntaxes.specs.LinkedMeanings.{assignment_meaning, linked_meaning, meaning_in, meaning_of_assignment}
use Rattle.meant_names.proofs.FillLaws.{has_filled}
use Rattle.meant_names.proofs.NoneLaws.{none_by, none_map}
use Rattle.meant_names.proofs.TextLaws.{AreAllTold, assigned_meaning_told}

-- ---- what stands at a place

-- an assignment stands at the place i of the module at the place m
pub record IsPlaced (ms : List ModuleTerm) (m i : ℕ) : Type 0 where
  pub home : ModuleTerm
  pub at : slice_get ms m ≡ Some home
  pub assignment : AssignmentTerm
  pub stands : slice_get home.assignments i ≡ Some assignment
  pub means : assignment_meaning ms m i ≡ assigned_meaning m i assignment.assigned

pub placed : (ms : List ModuleTerm) (m i : ℕ) → (assignment_meaning ms m i ≡ Nothing) ⊎ IsPlaced ms m i
placed ms m i = by (slice_get ms m) refl
  where
    in_module : (x : ModuleTerm) → slice_get ms m ≡ Some x → (found : Option AssignmentTerm) →
        slice_get x.assignments i ≡ found → (assignment_meaning ms m i ≡ Nothing) ⊎ IsPlaced ms m i
    in_module x at None stands = inl (ap (meaning_in m i) at ∙ ap (meaning_of_assignment m i) stands)
    in_module x at (Some a) stands = inr (record {
      home = x;
      at = at;
      assignment = a;
      stands = stands;
      means = ap (meaning_in m i) at ∙ ap (meaning_of_assignment m i) stands;
    })

    by : (found : Option ModuleTerm) → slice_get ms m ≡ found →
        (assignment_meaning ms m i ≡ Nothing) ⊎ IsPlaced ms m i
    by None at = inl (ap (meaning_in m i) at)
    by (Some x) at = in_module x at (slice_get x.assignments i) refl

placed_assigns : (ms : List ModuleTerm) (m i : ℕ) (p : IsPlaced ms m i) →
    Assigns ms p.home.document m (type_assigned p.assignment.assigned)
placed_assigns ms m i p = record {
  in_module = p.home;
  is_in = record { module_at = p.at; numbered = refl };
  assignment = p.assignment;
  stands = (
    i,
    slice_get_within p.home.assignments i p.assignment p.stands,
    get_or_from_slice_get p.home.assignments i p.assignment p.assignment p.stands,
  );
  is_of = refl;
}

-- ---- its syntax

-- the type that is assigned, or that of the value, denotes one
assigned_syntax : (ms : List ModuleTerm) (m i : ℕ) (assigned : AssignedTerm) →
    NotNone (λ (syntax : TypeSyntax). Denotes ms m (type_assigned assigned) syntax) →
    NotNone (HasSyntax ms (assigned_meaning m i assigned))
assigned_syntax ms m i (AssignsType of) denotes =
    none_map (λ (syntax : TypeSyntax). Denotes ms m of syntax) (HasSyntax ms (TypeAt m i of)) (λ syntax. syntax) denotes
    (λ syntax is. of_type is)
assigned_syntax ms m i (AssignsValue of number text) denotes =
    none_map (λ (syntax : TypeSyntax). Denotes ms m of syntax) (HasSyntax ms (ValueAt m i of number text))
    (λ syntax. syntax) denotes (λ syntax is. of_value is)

pub placed_filled : (ms : List ModuleTerm) (names : NamedArcs) → AreFaultless ms → AreAllTold ms →
    (m i : ℕ) (p : IsPlaced ms m i) → NotNone (HasFilled ms names (assigned_meaning m i p.assignment.assigned))
placed_filled ms names faultless all m i p =
    let meant = assigned_meaning m i p.assignment.assigned in
    let told = assigned_meaning_told m i p.assignment.assigned (all m i p.home p.assignment p.at p.stands) in
    none_by (HasSyntax ms meant) (HasFilled ms names meant)
    (assigned_syntax ms m i p.assignment.assigned
    (each_type_denotes ms faultless p.home.document m (type_assigned p.assignment.assigned) (placed_assigns ms m i p)))
    (λ plain has. has_filled ms names meant plain all told has)

standard_filled : (ms : List ModuleTerm) (names : NamedArcs) → AreAllTold ms → (found : Option TypeSyntax) →
    ¬ (standard_meaning found ≡ Nothing) → NotNone (HasFilled ms names (standard_meaning found))
standard_filled ms names all None means = absurd (means refl)
standard_filled ms names all (Some syntax) means =
    has_filled ms names (StandardType syntax) syntax all tt of_standard

-- what means something has a syntax
pub meaning_filled : (ms : List ModuleTerm) (names : NamedArcs) → AreFaultless ms → AreAllTold ms →
    (meaning : NamedMeaning) → ¬ (linked_meaning ms meaning ≡ Nothing) →
    NotNone (HasFilled ms names (linked_meaning ms meaning))
meaning_filled ms names faultless all (Assigned m i) means = elim (placed ms m i) as
    (λ _. NotNone (HasFilled ms names (assignment_meaning ms m i))) [
      | inl nothing ↦ absurd (means nothing)
      | inr p ↦ subst (λ meant. NotNone (HasFilled ms names meant)) (sym p.means)
          (placed_filled ms names faultless all m i p)
    ]
meaning_filled ms names faultless all (Standard name) means =
    standard_filled ms names all (standard_type name.text) means
