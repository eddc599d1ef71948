-- JudgedAssignments: the texts of one assignment that denote no value, and what is known when the first assignments have
-- been looked at, in the order of their numbers (X.680, sections 16 and 25; docs/PROFILE.md, section 18).
use Rattle.std.specs.Prelude.{◌≡◌, ◌++◌, ℕ, List, Bool, true, Option, Some, length, slice_get}
use Rattle.term_values.specs.Typed.{TypedValue}
use Rattle.asn1_names.specs.AssignmentNumbers.{Numbered, all_numbered, numbered_at}
use Rattle.asn1_names.specs.ModuleTerms.{AssignedTerm, ModuleTerm}
use Rattle.asn1_names.specs.ModuleTerms.AssignedTerm.{AssignsType, AssignsValue}
use Rattle.asn1_leaf_values.specs.Arcs.{NamedArcs}
use Rattle.linked_parts.specs.declared.linked.Linked.{Linked}
use Rattle.filled_syntaxes.specs.AssignedValues.{IsToldOf, numbered_meaning}
use Rattle.filled_syntaxes.specs.BadDefaults.{BadBeside, IsOfDocument}
use Rattle.filled_syntaxes.specs.KnownThings.{AreNamedThings}
use Rattle.filled_syntaxes.specs.LinkedMeanings.{AssignsNone, linked_arcs}
use Rattle.filled_syntaxes.specs.NotedTexts.{EachText, EitherText, NotesTexts, TextSet}
use Rattle.filled_syntaxes.specs.WrittenDefaults.{writes_default}
use Rattle.filled_syntaxes.specs.declared.bad_texts.TextPlace.{TextPlace}
use Rattle.filled_syntaxes.specs.declared.named_things.NamedThings.{NamedThings}

-- the text of the value that is assigned
abbrev pub BadValueOf : List ModuleTerm → NamedArcs → Numbered → TextSet
BadValueOf ms names x place =
    IsOfDocument ms x.in_module place.document × AssignsNone ms names (numbered_meaning x) place.token

-- DEFAULTs are looked at beside the type of a value, and beside a type in whose text DEFAULT is written; those of a type
-- that is only named are looked at where it is assigned
abbrev pub shows_defaults : AssignedTerm → Bool
shows_defaults (AssignsType of) = writes_default of
shows_defaults (AssignsValue of number text) = true

abbrev pub BadDefaultsOf : List ModuleTerm → NamedArcs → Numbered → TextSet
BadDefaultsOf ms names x place =
    (shows_defaults x.assignment.assigned ≡ true) × BadBeside ms names (numbered_meaning x) place

-- all texts of an assignment; and those of some
abbrev pub BadOfOne : List ModuleTerm → NamedArcs → Numbered → TextSet
BadOfOne ms names x = EitherText (BadDefaultsOf ms names x) (BadValueOf ms names x)

abbrev pub BadOfSome : List ModuleTerm → NamedArcs → List Numbered → TextSet
BadOfSome ms names xs = EachText (λ k x. BadOfOne ms names x) xs

-- the assignment with a number, which assigns this
pub record IsJudging (ms : List ModuleTerm) (linked : Linked) (things : NamedThings) (number : ℕ) (x : Numbered)
    (assigned : AssignedTerm) : Type 0 where
  pub known : AreNamedThings ms linked things
  pub at : numbered_at ms number ≡ Some x
  pub assigns : x.assignment.assigned ≡ assigned

-- the assignments before some others have been looked at: their values, and the first of the texts that denote none
pub record AreJudged (ms : List ModuleTerm) (linked : Linked) (behind : List Numbered)
    (values : List (Option TypedValue)) (before after : Option TextPlace) : Type 0 where
  pub front : List Numbered
  pub whole : all_numbered 0 ms ≡ front ++ behind
  pub count : length values ≡ length front
  pub each : (k : ℕ) (x : Numbered) → slice_get front k ≡ Some x → IsToldOf ms (linked_arcs linked) values k x
  pub noted : NotesTexts (BadOfSome ms (linked_arcs linked) front) before after
