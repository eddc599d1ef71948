-- Entries keep what holds of the operations that are not ended.
use Rattle.std.proofs.Common.{◌≡◌, ◌<◌, ℕ, false, List, [], ◌∷◌, ◌++◌, length}
use Rattle.std.proofs.Common.{Some, refl, sym, ap, ◌∙◌, subst, arith, length-append, inl, inr}
use Rattle.std.proofs.lemmas.Option.{same_Some}
use Rattle.agent_model.specs.declared.agent_state.AgentState.{AgentState}
use Rattle.agent_model.specs.declared.entry.Entry.{Entry}
use Rattle.agent_model.specs.declared.entry.Entry.TheVariants as entry
use Rattle.term_model.specs.declared.objects.NamedObject.{NamedObject}
use Rattle.term_model.specs.declared.schema.Set.{Set}
use Rattle.operation_model.specs.WholeOperation.{outcome}
use Rattle.agent_model.specs.Journals.{replayed}
use Rattle.agent_model.specs.Stepping.{step}
use Rattle.agent_model.proofs.HistoryLaws.{replay_more}
use Rattle.lock_model.specs.Invariant.{AreSound, Row}
use Rattle.lock_model.specs.declared.path.Wanted.{Wanted}
use Rattle.lock_model.specs.OperationLaws.{KeepsToUnit}
use Rattle.lock_model.proofs.Sound.{commit_keeps_sound}
use Rattle.lock_model.proofs.Granting.{grant_keeps_sound, others_keep_sound}
use Rattle.hall_model.specs.JournalMaps.{is_commit, map_after}
use Rattle.hall_model.specs.JournalSound.{CommittedEntryKeeps, CommittedRequestKeeps, GrantedEntryKeeps}
use Rattle.hall_model.specs.JournalSound.{IsSoundJournal, OtherEntryKeeps}
use Rattle.hall_model.proofs.JournalMaps.{commit_does, only_commits_change, past_stays, present_is_last, schema_stays}

replayed_schema : (start : AgentState) (journal : List Entry) → (replayed start journal).schema ≡ start.schema
replayed_schema start [] = refl
replayed_schema start (next ∷ others) = replayed_schema (step start next) others ∙ schema_stays start next

objects_stay : (start : AgentState) (journal : List Entry) (next : Entry) → is_commit next ≡ false
    → (replayed start (journal ++ next ∷ [])).objects ≡ (replayed start journal).objects
objects_stay start journal next plain =
    ap (λ (agent : AgentState). agent.objects) (replay_more start journal next)
    ∙ only_commits_change (replayed start journal) next plain

later_place : (journal : List Entry) (next : Entry) (place : ℕ) → place < length journal
    → place < length (journal ++ next ∷ [])
later_place journal next place h = omega (arith, length-append journal (next ∷ []))

-- the same rows over the longer journal, whose objects are the same
moved : (start : AgentState) (journal : List Entry) (rows left : List Row) (next : Entry)
    → IsSoundJournal start journal rows → is_commit next ≡ false
    → AreSound start.schema (map_after start (journal ++ next ∷ [])) (replayed start journal).objects rows
moved start journal rows left next h plain =
    others_keep_sound start.schema (map_after start journal) (map_after start (journal ++ next ∷ []))
    (replayed start journal).objects rows rows h.sound
    (λ row place there has. past_stays start journal next place (h.places row place there has))
    (λ other there. inl there)

pub other_entry_keeps : OtherEntryKeeps
other_entry_keeps = λ start journal rows left next h plain from. record {
  sound = subst (λ (now : List NamedObject). AreSound start.schema (map_after start (journal ++ next ∷ [])) now left)
      (sym (objects_stay start journal next plain))
      (others_keep_sound start.schema (map_after start journal) (map_after start (journal ++ next ∷ []))
      (replayed start journal).objects rows left h.sound
      (λ row place there has. past_stays start journal next place (h.places row place there has)) from);
  places = λ row place there has. elim (from row there) [
    | inl old ↦ later_place journal next place (h.places row place old has)
    | inr new ↦ absurd (cc (sym new.1 ∙ has))
  ];
}

pub granted_entry_keeps : GrantedEntryKeeps
granted_entry_keeps = λ start journal rows left row moment last h at wants whole free from.
    let next : Entry = entry.Granted row.op moment in
    let later = map_after start (journal ++ next ∷ []) in
    let now = (replayed start journal).objects in
    let present : later (length journal) ≡ now =
    present_is_last start journal next ∙ only_commits_change (replayed start journal) next refl in
    record {
      sound = subst (λ (objects : List NamedObject). AreSound start.schema later objects left)
          (sym (objects_stay start journal next refl))
          (grant_keeps_sound start.schema later now rows left row last (Some (length journal))
          (moved start journal rows rows next h refl) at wants free (whole, present) from);
      places = λ other place there has. elim (from other there) [
        | inl new ↦ (
            let is : length journal ≡ place =
            same_Some (length journal) place (sym (ap (λ (r : Row). r.granted) new) ∙ has) in
            omega (arith, length-append journal (next ∷ [])))
        | inr old ↦ later_place journal next place (h.places other place old.0 has)
      ];
    }

pub committed_entry_keeps : CommittedEntryKeeps
committed_entry_keeps = λ start journal rows left row place does h at has keeps does_it short from.
    let next : Entry = entry.Committed row.op in
    let now : AgentState = replayed start journal in
    let later = map_after start (journal ++ next ∷ []) in
    let left_objects : (replayed start (journal ++ next ∷ [])).objects ≡ (does now.objects).objects =
    ap (λ (agent : AgentState). agent.objects) (replay_more start journal next) ∙ does_it in
    let sound = commit_keeps_sound start.schema (map_after start journal) now.objects rows left row place does
    h.sound at has keeps short from in
    record {
      sound = subst (λ (objects : List NamedObject). AreSound start.schema later objects left) (sym left_objects)
          (others_keep_sound start.schema (map_after start journal) later (does now.objects).objects left left sound
          (λ other p in_left granted. past_stays start journal next p (h.places other p (from other in_left).0 granted))
          (λ other in_left. inl in_left));
      places = λ other p in_left granted.
          later_place journal next p (h.places other p (from other in_left).0 granted);
    }

pub committed_request_keeps : CommittedRequestKeeps
committed_request_keeps =
    λ start journal rows left row place association_ invoke asked moment does h at has unit there keeps told short from.
    let now : AgentState = replayed start journal in
    let told_now : outcome now.schema now.objects asked moment ≡ Some (does now.objects) =
    ap (λ (s : Set). outcome s now.objects asked moment) (replayed_schema start journal) ∙ told in
    committed_entry_keeps start journal rows left row place does h at has
    (subst (λ (w : Wanted). KeepsToUnit start.schema w does) (sym unit) keeps)
    (commit_does now row.op association_ invoke asked moment (does now.objects) there told_now) short from
