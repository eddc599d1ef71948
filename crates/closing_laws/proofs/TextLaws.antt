-- TextLaws: the first of the texts that are noted denotes no value of its syntax, and no such text stands before it.
use Rattle.std.proofs.Common.{◌≡◌, ◌⊎◌, ℕ, List, None, Option, Some, inl, inr}
use Rattle.asn1_names.specs.ModuleTerms.{ModuleTerm}
use Rattle.asn1_names.specs.NameMeaning.{standard_meaning}
use Rattle.asn1_names.specs.StandardModule.{standard_type}
use Rattle.asn1_names.specs.ResolvedTypes.{HasDefaultText}
use Rattle.token_grammar.specs.Form.{Tree}
use Rattle.term_values.specs.Syntaxes.{TypeSyntax}
use Rattle.linked_parts.specs.declared.linked.Linked.{Linked}
use Rattle.linked_parts.specs.declared.linked.NamedMeaning.{NamedMeaning}
use Rattle.linked_parts.specs.declared.linked.NamedMeaning.TheVariants.{Assigned, Standard}
use Rattle.filled_syntaxes.specs.BadAssignments.{BadOfAssignments}
use Rattle.filled_syntaxes.specs.BadDefaults.{BadBeside}
use Rattle.filled_syntaxes.specs.LinkedMeanings.{linked_arcs, linked_meaning}
use Rattle.filled_syntaxes.specs.NotedTexts.{KeepsText}
use Rattle.filled_syntaxes.specs.declared.bad_texts.TextPlace.{TextPlace}
use Rattle.filled_syntaxes.proofs.NotingTexts.{no_later}
use Rattle.class_faults.specs.BadValues.{BadValueAt}
use Rattle.class_faults.specs.BadValues.BadValueAt.{of_assignment, of_default, of_instance, of_rule}
use Rattle.linked_types.specs.NotedDefaults.{BadDefaults}
use Rattle.section_values.specs.BadSections.{BadOfInstances, BadOfRules}
use Rattle.closing_laws.specs.NotedSteps.{AreNamedTexts, AreNotedTexts}

-- ---- each is one of a value

-- no type of CMIP-1 has a DEFAULT
none_standard : (ms : List ModuleTerm) (standard : Option TypeSyntax) {path : List ℕ} {v : ℕ} {text : Tree} →
    ¬ HasDefaultText ms (standard_meaning standard) path v text
none_standard ms None stands = elim stands [ ]
none_standard ms (Some syntax) stands = elim stands [ ]

beside_bad : (ms : List ModuleTerm) (linked : Linked) (named : NamedMeaning) (place : TextPlace) →
    BadBeside ms (linked_arcs linked) (linked_meaning ms named) place → BadValueAt ms linked place.document place.token
beside_bad ms linked (Assigned m i) place (syntax, has, within) = of_default (record {
  m = m;
  i = i;
  syntax = syntax;
  has = has;
  path = within.rest;
  component = within.component;
  is_part = within.is_part;
  v = within.bad.v;
  text = within.bad.text;
  stands = within.bad.stands;
  is_of = within.bad.is_of;
  none = within.bad.none;
})
beside_bad ms linked (Standard name) place (syntax, has, within) =
    absurd (none_standard ms (standard_type name.text) within.bad.stands)

assignment_bad : (ms : List ModuleTerm) (linked : Linked) (place : TextPlace) → BadOfAssignments ms linked place →
    BadValueAt ms linked place.document place.token
assignment_bad ms linked place (inl bad) = of_assignment bad
assignment_bad ms linked place (inr bad) = of_default bad

-- ---- what was noted stays noted, or an earlier one

kept_on : {before after : Option TextPlace} (place : TextPlace) →
    ((x : TextPlace) → before ≡ Some x → KeepsText after x) → KeepsText before place → KeepsText after place
kept_on place kept (x, is, late) = let y = kept x is in (y.0, y.1, no_later y.2 late)

-- ---- of all steps

named_there : (ms : List ModuleTerm) (linked : Linked) (texts : Option TextPlace) → AreNamedTexts ms linked texts →
    (x : TextPlace) → texts ≡ Some x → BadValueAt ms linked x.document x.token
named_there ms linked texts steps x is = elim (steps.of_statements.there x is) as
    (λ _. BadValueAt ms linked x.document x.token) [
      | inr (named, bad) ↦ beside_bad ms linked named x bad
      | inl at ↦ elim (steps.of_types.there x at) as (λ _. BadValueAt ms linked x.document x.token) [
        | inr (named, bad) ↦ beside_bad ms linked named x bad
        | inl before ↦ elim (steps.of_assignments.there x before) as (λ _. BadValueAt ms linked x.document x.token) [
          | inr bad ↦ assignment_bad ms linked x bad
          | inl none ↦ absurd (cc)
        ]
      ]
    ]

pub text_there : (ms : List ModuleTerm) (linked : Linked) (texts : Option TextPlace) → AreNotedTexts ms linked texts →
    (x : TextPlace) → texts ≡ Some x → BadValueAt ms linked x.document x.token
text_there ms linked texts steps x is = elim (steps.of_instances.there x is) as
    (λ _. BadValueAt ms linked x.document x.token) [
      | inr bad ↦ of_instance bad
      | inl at ↦ elim (steps.of_rules.there x at) as (λ _. BadValueAt ms linked x.document x.token) [
        | inr bad ↦ of_rule bad
        | inl before ↦ named_there ms linked steps.named steps.are_named x before
      ]
    ]

assigned_kept : (ms : List ModuleTerm) (linked : Linked) (texts : Option TextPlace) → AreNamedTexts ms linked texts →
    (place : TextPlace) → BadOfAssignments ms linked place → KeepsText texts place
assigned_kept ms linked texts steps place bad = kept_on place steps.of_statements.kept
    (kept_on place steps.of_types.kept (steps.of_assignments.least place bad))

pub assignment_kept : (ms : List ModuleTerm) (linked : Linked) (texts : Option TextPlace) →
    AreNotedTexts ms linked texts → (place : TextPlace) → BadOfAssignments ms linked place → KeepsText texts place
assignment_kept ms linked texts steps place bad = kept_on place steps.of_instances.kept
    (kept_on place steps.of_rules.kept (assigned_kept ms linked steps.named steps.are_named place bad))

pub rule_kept : (ms : List ModuleTerm) (linked : Linked) (texts : Option TextPlace) → AreNotedTexts ms linked texts →
    (place : TextPlace) → BadOfRules ms linked place → KeepsText texts place
rule_kept ms linked texts steps place bad = kept_on place steps.of_instances.kept (steps.of_rules.least place bad)

pub instance_kept : (ms : List ModuleTerm) (linked : Linked) (texts : Option TextPlace) →
    AreNotedTexts ms linked texts →
    (place : TextPlace) → BadOfInstances ms linked place → KeepsText texts place
instance_kept ms linked texts steps place bad = steps.of_instances.least place bad
