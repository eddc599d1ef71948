-- PlayableLaws: a script and documents with which a command comes to its end have no fault that could be told of them.
use Rattle.std.proofs.Common.{◌≡◌, ◌≢◌, ℕ, ◌+◌, ◌⊎◌, inl, inr, List, [], length, Result, Ok, Err, refl, sym, ◌∙◌}
use Rattle.std.proofs.Math.Path.{subst}
use Rattle.std.proofs.lemmas.Bool.{true≢false}
use Rattle.std.proofs.lemmas.Result.{IfErr-at_err, IfOk-at_ok}
use Rattle.std.specs.Prelude.{IfErr, IfOk, false}
use Rattle.accepted_laws.proofs.AcceptedLaws.{never_both}
use Rattle.document_parts.specs.declared.documents.Doc.{Doc}
use Rattle.mib_opening.specs.declared.refusal.OpeningRefusal.TheVariants as O
use Rattle.mib_opening.specs.Refusals.{HasRefusal}
use Rattle.template_compile.specs.declared.refusal.Kind.{Kind}
use Rattle.template_compile.specs.DocumentFaults.{IsTold}
use Rattle.term_model.specs.declared.objects.NamedObject.{NamedObject}
use Rattle.term_model.specs.declared.schema.Set.{Set}
use Rattle.agent_model.specs.AgentLimits.{shipped}
use Rattle.term_model.specs.Opening.{opened}
use Rattle.agent_model.specs.Played.{Play}
use Rattle.agent_model.specs.declared.script_line.ScriptLine.{ScriptLine}
use Rattle.agent_model.specs.JournalRoom.{HasRoom}
use Rattle.agent_model.specs.Playing.{ended, played}
use Rattle.agent_model.specs.Starting.{started}
use Rattle.agent_steps.specs.Asking.{has_unbuilt}
use Rattle.script_lines.specs.ScriptText.{AreFirstLines}
use Rattle.script_lines.proofs.ScriptLaws.{first_lines_are_one}
use Rattle.run_command.specs.ScriptRuns.{AreCompiled, HasUnbuilt, IsBadInstance as IsUnopened, IsBadLine, IsBadScript}
use Rattle.run_command.specs.ScriptRuns.{IsFilledOn, IsJournalFull, IsUnplayedDocument, IsUnplayedScript}
use Rattle.set_commands.specs.CommandTexts.{IsBadInstance}
use Rattle.agent_run.specs.Runnable.{AreOpenable, CanBeOpened, ComesToItsEnd, IsPlayable}

one_answer : {X E : Type 0} {r : Result X E} (x y : X) → r ≡ Ok x → r ≡ Ok y → x ≡ y
one_answer x y one other = IfOk-at_ok (λ z. x ≡ z) other (subst (λ s. IfOk s (λ z. x ≡ z)) (sym one) refl)

no_refusal : {X E : Type 0} {r : Result X E} (x : X) (e : E) → r ≡ Ok x → r ≡ Err e → ⊥
no_refusal x e ok err = IfErr-at_err (λ _. ⊥) err (subst (λ s. IfErr s (λ _. ⊥)) (sym ok) tt)

-- ---- the instances

opened_is_not_refused : (schema : Set) (index error : ℕ) → CanBeOpened schema →
    HasRefusal (opened schema) (O.BadInstance index error) → ⊥
opened_is_not_refused schema index error opens refused = no_refusal opens.0 _ opens.1 refused

-- ---- a script that comes to its end

module _ (schema : Set) (script : List ℕ) (ends : ComesToItsEnd schema script) where
  -- it is said of the objects at the opening
  of_objects : (Holds : List NamedObject → Type 0) (objects : List NamedObject) → opened schema ≡ Ok objects →
      Holds objects → Holds ends.objects
  of_objects Holds objects opens holds =
      subst Holds (one_answer objects ends.objects opens ends.opened_to) holds

  of_lines : (lines : List ScriptLine) (rest : List ℕ) → AreFirstLines script lines rest →
      (ends.lines ≡ lines) × ([] ≡ rest)
  of_lines lines rest spelt = first_lines_are_one script [] rest ends.lines lines ends.spelt spelt

  -- these lines are played as those of the script
  of_play : (lines : List ScriptLine) (rest : List ℕ) → AreFirstLines script lines rest →
      played (started schema shipped ends.objects) lines ≡ Ok ends.play
  of_play lines rest spelt = subst (λ ls. played (started schema shipped ends.objects) ls ≡ Ok ends.play)
      (of_lines lines rest spelt).0 ends.played_to

  no_bad_line : (number : ℕ) → IsBadLine schema ends.objects script number → ⊥
  no_bad_line number line = by line.bad
    where
      by : (played (started schema shipped ends.objects) line.lines ≡ Err number) ⊎ ((play : Play)
          × (played (started schema shipped ends.objects) line.lines ≡ Ok play) × (line.rest ≢ [])
          × (number ≡ length line.lines + 1)) → ⊥
      by (inl refused) = no_refusal ends.play number (of_play line.lines line.rest line.spelt) refused
      by (inr behind) = behind.2 (sym (of_lines line.lines line.rest line.spelt).1)

  no_unbuilt : HasUnbuilt schema ends.objects script → ⊥
  no_unbuilt other =
      let same = one_answer other.play ends.play other.played_to (of_play other.lines [] other.spelt) in
      true≢false (sym other.unbuilt ∙ subst (λ p. has_unbuilt (ended p).agent ≡ false) (sym same) ends.built)

  no_filled : (text : List ℕ) → IsFilledOn schema ends.objects script text → ⊥
  no_filled text other =
      let part = other.is_played in
      let filled = part.filled in
      let same = one_answer part.play ends.play part.is_play.played_to (of_play other.lines [] other.spelt) in
      let room = subst (λ p. HasRoom (started schema shipped ends.objects) (ended p).journal) (sym same) ends.room in
      true≢false (sym filled.refused ∙ room part.part filled.others filled.next filled.begins)

-- ---- documents

pub openable_has_no_fault : {docs : List Doc} {document line : ℕ} {kind : Kind} → AreOpenable docs →
    IsTold docs document line kind → ⊥
openable_has_no_fault openable told = never_both openable.accepted told

pub openable_has_no_bad_instance : {docs : List Doc} {index error : ℕ} → AreOpenable docs →
    IsBadInstance docs index error → ⊥
openable_has_no_bad_instance {index = index} {error = error} openable bad =
    opened_is_not_refused bad.schema index error (openable.each bad.schema bad.counts bad.compiled) bad.refused

-- ---- documents and a script

module _ (script : List ℕ) (docs : List Doc) (playable : IsPlayable script docs) where
  of_compiled : (schema : Set) → AreCompiled docs schema → ComesToItsEnd schema script
  of_compiled schema compiled = playable.each schema (compiled.compiled.parts, compiled.compiled.accepted)

  pub playable_has_no_fault : {document line : ℕ} {kind : Kind} → IsTold docs document line kind → ⊥
  playable_has_no_fault told = never_both playable.accepted told

  pub playable_has_no_bad_instance : {index error : ℕ} → IsUnopened docs index error → ⊥
  playable_has_no_bad_instance {index} {error} bad =
      let ends = of_compiled bad.schema bad.compiled in
      opened_is_not_refused bad.schema index error (ends.objects, ends.opened_to) bad.refused

  pub playable_has_no_behaviour : IsUnplayedDocument docs → ⊥
  playable_has_no_behaviour unplayed =
      true≢false (sym unplayed.acts ∙ (of_compiled unplayed.schema unplayed.are_opened.compiled).calm)

  pub playable_has_no_bad_line : (number : ℕ) → IsBadScript script docs number → ⊥
  playable_has_no_bad_line number bad =
      let schema = bad.schema in
      let ends = of_compiled schema bad.are_opened.compiled in
      no_bad_line schema script ends number (of_objects schema script ends
      (λ objects. IsBadLine schema objects script number) bad.objects bad.are_opened.opened_to bad.holds)

  pub playable_has_no_unbuilt : IsUnplayedScript script docs → ⊥
  playable_has_no_unbuilt unplayed =
      let schema = unplayed.schema in
      let ends = of_compiled schema unplayed.are_opened.compiled in
      no_unbuilt schema script ends (of_objects schema script ends (λ objects. HasUnbuilt schema objects script)
      unplayed.objects unplayed.are_opened.opened_to unplayed.holds)

  pub playable_has_room : (text : List ℕ) → IsJournalFull script docs text → ⊥
  playable_has_room text full =
      let schema = full.schema in
      let ends = of_compiled schema full.are_opened.compiled in
      no_filled schema script ends text (of_objects schema script ends
      (λ objects. IsFilledOn schema objects script text) full.objects full.are_opened.opened_to full.holds)
