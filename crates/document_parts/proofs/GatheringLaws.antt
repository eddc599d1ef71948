-- GatheringLaws: units stand behind those that were gathered before; a step of the reader adds one, or none.
use Rattle.std.proofs.Common.{◌≡◌, ℕ, ◌<◌, ◌≤◌, List, [], ◌++◌, sym, ◌∙◌, ap, length, map}
use Rattle.std.proofs.Common.{Result, Ok, Err}
use Rattle.std.proofs.lemmas.Grind.{flat_map-append}
use Rattle.std.proofs.lemmas.List.{append_assoc, append-nil}
use Rattle.std.specs.Prelude.{flat_map}
use Rattle.token_grammar.specs.declared.token.Token.{Token}
use Rattle.document_units.specs.declared.unit.DocumentUnit.{DocumentUnit}
use Rattle.std.specs.Result.{IsErrAnd}
use Rattle.token_grammar.specs.declared.syntax_refusal.SyntaxRefusal.{SyntaxRefusal}
use Rattle.token_grammar.specs.declared.syntax_refusal.SyntaxRefusal.TheVariants.{Syntax}
use Rattle.document_units.specs.DocumentForms.{AreUnits, IsFaultHere, IsStep}
use Rattle.document_units.specs.DocumentForms.IsStep.{added, skipped}
use Rattle.document_units.specs.UnitOutcome.{IsUnitFault, unit_term}
use Rattle.document_units.proofs.UnitRows.{Reached, Semicolon, all_read, fault_read, reached_start, step_on, step_rises}
use Rattle.gdmo_names.specs.declared.parsed.Parsed.{Parsed}
use Rattle.document_parts.specs.ReadDocuments.{GathersNext, GathersUnits}
use Rattle.document_parts.specs.DocumentParts.{Gathers, classes_in, members_in, modules_in, sections_in}

-- ---- one list

both_lists : {X : Type 0} (f : DocumentUnit → List X) (us vs : List DocumentUnit) (front : List X)
    {between back : List X} →
    between ≡ front ++ flat_map f us → back ≡ between ++ flat_map f vs → back ≡ front ++ flat_map f (us ++ vs)
both_lists f us vs front e g = g ∙ (ap (λ xs. xs ++ flat_map f vs) e
    ∙ (append_assoc front (flat_map f us) (flat_map f vs) ∙ ap (λ xs. front ++ xs) (sym (flat_map-append f us vs))))

-- ---- all four

pub none_gathered : (n : ℕ) (parts : Parsed) → Gathers n [] parts parts
none_gathered n parts = record {
  modules = sym (append-nil parts.modules.items);
  classes = sym (append-nil parts.classes.items);
  members = sym (append-nil parts.members.items);
  sections = sym (append-nil parts.sections.items);
}

pub both_gathered : {n : ℕ} {us vs : List DocumentUnit} {before between after : Parsed} →
    Gathers n us before between → Gathers n vs between after → Gathers n (us ++ vs) before after
both_gathered {n} {us} {vs} {before} front back = record {
  modules = both_lists (modules_in n) us vs before.modules.items front.modules back.modules;
  classes = both_lists (classes_in n) us vs before.classes.items front.classes back.classes;
  members = both_lists (members_in n) us vs before.members.items front.members back.members;
  sections = both_lists (sections_in n) us vs before.sections.items front.sections back.sections;
}

-- ---- the units of a document

-- what was read up to a place
pub record IsGathered (tokens : List Token) (n : ℕ) (before after : Parsed) (i : ℕ) : Type 0 where
  pub us : List DocumentUnit
  pub reached : Reached tokens (map unit_term us) i
  pub gathers : Gathers n us before after

pub gathered_start : (tokens : List Token) (n : ℕ) (parts : Parsed) → IsGathered tokens n parts parts 0
gathered_start tokens n parts =
    record { us = []; reached = reached_start tokens; gathers = none_gathered n parts }

step_behind : {tokens : List Token} {us : List DocumentUnit} {i k : ℕ} (xs : List DocumentUnit) →
    IsStep tokens i [] us k → IsStep tokens i xs (xs ++ us) k
step_behind xs (skipped here next same) = skipped here next (ap (λ us. xs ++ us) same ∙ append-nil xs)
step_behind xs (added x other one same) = added x other one (ap (λ us. xs ++ us) same)

pub gathered_step : {tokens : List Token} {n i k : ℕ} {before between after : Parsed} → i < length tokens →
    IsGathered tokens n before between i →
    (us : List DocumentUnit) × IsStep tokens i [] us k × Gathers n us between after →
    IsGathered tokens n before after k
gathered_step within so_far step = record {
  us = so_far.us ++ step.0;
  reached = step_on within (step_behind so_far.us step.1) so_far.reached;
  gathers = both_gathered so_far.gathers step.2;
}

pub gathered_end : {tokens : List Token} {n i : ℕ} {before after : Parsed} → length tokens ≤ i →
    IsGathered tokens n before after i →
    (us : List DocumentUnit) × AreUnits tokens (map unit_term us) × Gathers n us before after
gathered_end past so_far = (so_far.us, all_read past so_far.reached, so_far.gathers)

-- the step goes on past a token
pub gathered_rises : {tokens : List Token} {n i k : ℕ} {between after : Parsed} →
    (us : List DocumentUnit) × IsStep tokens i [] us k × Gathers n us between after → i < k
gathered_rises step = step_rises step.1

-- the exits of a `?`
pub exit_gathered : {tokens : List Token} {i : ℕ} (n : ℕ) (before after : Parsed) {e : SyntaxRefusal}
    (r : Result ℕ SyntaxRefusal) → IsErrAnd r (λ d. d ≡ e) → ¬ Semicolon tokens i →
    ((k : ℕ) → e ≡ Syntax k → IsUnitFault tokens i k) → GathersNext tokens i n before after r
exit_gathered n before after (Ok k) is other fails = absurd is
exit_gathered n before after (Err d) is other fails =
    λ k same. record { other = other; fault = fails k (sym is ∙ same) }

pub exit_units : {tokens : List Token} {n i : ℕ} {before between : Parsed} (after : Parsed) {e : SyntaxRefusal}
    (r : Result Unit SyntaxRefusal) → IsErrAnd r (λ d. d ≡ e) → i < length tokens →
    ((k : ℕ) → e ≡ Syntax k → IsFaultHere tokens i k) → IsGathered tokens n before between i →
    GathersUnits tokens n before after r
exit_units after (Ok u) is within fails so_far = absurd is
exit_units after (Err d) is within fails so_far =
    λ k same. fault_read within (fails k (sym is ∙ same)) so_far.reached
