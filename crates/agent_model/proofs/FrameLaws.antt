-- Which frames the journal of a script has for an association: those of the script's lines, in their order.
use Rattle.std.proofs.Common.{◌≡◌, ℕ, ◌+◌, Bool, true, false, List, [], ◌∷◌, ◌++◌, length}
use Rattle.std.proofs.Common.{refl, sym, ap, ◌∙◌, ⊎_elim, append_assoc}
use Rattle.std.specs.Prelude.{Ok, ◌==◌, if◌then◌else◌}
use Rattle.std.proofs.lemmas.Bool.{cases_Bool}
use Rattle.std.proofs.lemmas.List.{append-nil, length-append}
use Rattle.std.proofs.lemmas.List.Elements.{filter_map-append}
use Rattle.agent_model.specs.declared.agent_state.AgentState.{AgentState}
use Rattle.agent_model.specs.declared.agent_state.Association.{Association}
use Rattle.agent_model.specs.declared.agent_state.Operation.{Operation}
use Rattle.agent_model.specs.declared.entry.Entry.{Entry}
use Rattle.agent_model.specs.declared.entry.Entry.TheVariants as entry
use Rattle.agent_model.specs.Bind.{bind_answer, title_in}
use Rattle.agent_model.specs.History.{brought, came}
use Rattle.agent_model.specs.Played.{Play}
use Rattle.term_model.specs.RemoteOperation.{frame}
use Rattle.agent_model.specs.Step.{changed_association, is_legal}
use Rattle.agent_model.specs.declared.script_line.ScriptLine.{ScriptLine}
use Rattle.agent_model.specs.declared.script_line.ScriptLine.TheVariants as line
use Rattle.agent_model.specs.Binding.{answer_to, associated}
use Rattle.agent_model.specs.Playing.{beginning, ended, frames_of, line_played, lines_played, played, with_entry}
use Rattle.agent_model.specs.Stepping.{after_effect, effect, step}
use Rattle.agent_model.proofs.KeepingLaws.{OpensNone, effect_same, placed_same}
use Rattle.agent_model.proofs.PlacingLaws.{changed_count, placed_for_keeps}
use Rattle.agent_model.proofs.ScriptLaws.{BringsNone, closed_keeps, ended_keeps, lines_end, lines_more, open_keeps}
use Rattle.agent_model.proofs.ScriptLaws.{send_keeps}
use Rattle.agent_model.proofs.StepLaws.{next_opens, opened_at}

-- no entry but one that opens an association changes their number
abbrev count_of : AgentState → ℕ
count_of agent = length agent.associations

either_count : (b : Bool) (agent one : AgentState) → count_of one ≡ count_of agent
    → count_of (if b then one else agent) ≡ count_of agent
either_count true agent one h = h
either_count false agent one h = refl

pub step_count : (agent : AgentState) (next : Entry) → OpensNone next
    → length (step agent next).associations ≡ length agent.associations
unfolding step
step_count agent next none =
    let change : (s : AgentState) (number : ℕ) (f : Association → Association)
    → count_of (record s { associations = changed_association s.associations number f }) ≡ count_of s =
    λ s number f. changed_count s.associations number f in
    let alike : (s : AgentState) (xs : List Operation) → count_of (record s { operations = xs }) ≡ count_of s =
    λ s xs. refl in
    let done = effect agent next in
    either_count (is_legal agent next) agent (after_effect done)
    (placed_same count_of change alike done.agent done.sent
    ∙ effect_same count_of change alike (λ s xs. refl) agent next none)

opens_none : (next : Entry) → BringsNone next → OpensNone next
opens_none (entry.Opened number bind) none = absurd none
opens_none (entry.Arrived number apdu) none = absurd none
opens_none (entry.Begun number log) none = tt
opens_none (entry.Granted number moment) none = tt
opens_none (entry.Committed number) none = tt
opens_none (entry.Taken number count) none = tt
opens_none (entry.Starved number) none = tt
opens_none (entry.Finished number) none = tt
opens_none (entry.Closed number cause) none = tt

-- an association under the next number is always opened
pub opened_count : (agent : AgentState) (bind : List ℕ)
    → length (step agent (entry.Opened (length agent.associations + 1) bind)).associations ≡ length
    agent.associations + 1
opened_count agent bind =
    let number = length agent.associations + 1 in
    let answer = answer_to agent (title_in bind) in
    let after = record agent { associations = agent.associations ++ associated answer (title_in bind) ∷ [] } in
    ap (λ (s : AgentState). length s.associations) (opened_at agent number bind (next_opens agent bind))
    ∙ ((placed_for_keeps after number (frame (bind_answer answer number))).associations_count
    ∙ length-append agent.associations (associated answer (title_in bind) ∷ []))

-- the frames that one entry more brings stand behind the others
came_more : (number : ℕ) (journal : List Entry) (next : Entry)
    → came number (journal ++ next ∷ []) ≡ came number journal ++ came number (next ∷ [])
came_more number journal next = filter_map-append (brought number) journal (next ∷ [])

came_none : (number : ℕ) (next : Entry) → BringsNone next → came number (next ∷ []) ≡ []
came_none number (entry.Opened a bind) none = absurd none
came_none number (entry.Arrived a apdu) none = absurd none
came_none number (entry.Begun a log) none = refl
came_none number (entry.Granted a moment) none = refl
came_none number (entry.Committed a) none = refl
came_none number (entry.Taken a count) none = refl
came_none number (entry.Starved a) none = refl
came_none number (entry.Finished a) none = refl
came_none number (entry.Closed a cause) none = refl

came_same : (number : ℕ) (play : Play) (next : Entry) → BringsNone next
    → came number (with_entry play next).journal ≡ came number play.journal
came_same number play next none =
    came_more number play.journal next
    ∙ (ap (λ xs. came number play.journal ++ xs) (came_none number next none)
    ∙ append-nil (came number play.journal))

-- so many associations were opened, and these frames came for the one under a number
record HasFrames (number opened : ℕ) (frames : List (List ℕ)) (play : Play) : Type 0 where
  counts : length play.agent.associations ≡ opened
  brings : came number play.journal ≡ frames

entry_frames : (number opened : ℕ) (frames : List (List ℕ)) (play : Play) (next : Entry) → BringsNone next
    → HasFrames number opened frames play → HasFrames number opened frames (with_entry play next)
entry_frames number opened frames play next none h = record {
  counts = step_count play.agent next (opens_none next none) ∙ h.counts;
  brings = came_same number play next none ∙ h.brings;
}

opened_frames : (number opened : ℕ) (frames : List (List ℕ)) (play : Play) (bind : List ℕ)
    → HasFrames number opened frames play
    → HasFrames number (opened + 1) (frames ++ came number (entry.Opened (opened + 1) bind ∷ []))
    (with_entry play (entry.Opened (length play.agent.associations + 1) bind))
opened_frames number opened frames play bind h =
    let next = entry.Opened (length play.agent.associations + 1) bind in
    record {
      counts = opened_count play.agent bind ∙ ap (λ n. n + 1) h.counts;
      brings =
          came_more number play.journal next
          ∙ (ap (λ xs. xs ++ came number (next ∷ [])) h.brings
          ∙ ap (λ n. frames ++ came number (entry.Opened (n + 1) bind ∷ [])) h.counts);
    }

arrived_frames : (number opened : ℕ) (frames : List (List ℕ)) (play : Play) (to : ℕ) (apdu : List ℕ)
    → HasFrames number opened frames play
    → HasFrames number opened (frames ++ came number (entry.Arrived to apdu ∷ []))
    (with_entry play (entry.Arrived to apdu))
arrived_frames number opened frames play to apdu h = record {
  counts = step_count play.agent (entry.Arrived to apdu) tt ∙ h.counts;
  brings = came_more number play.journal (entry.Arrived to apdu)
      ∙ ap (λ xs. xs ++ came number (entry.Arrived to apdu ∷ [])) h.brings;
}

moment_frames : (number opened moment : ℕ) (frames : List (List ℕ)) (play : Play) → HasFrames number opened frames play
    → HasFrames number opened frames (record play { moment = moment })
moment_frames number opened moment frames play h = record { counts = h.counts; brings = h.brings }

-- the frame of a line stands in front of those of the other lines
open_first : (number opened : ℕ) (bind : List ℕ) (others : List ScriptLine)
    → came number (entry.Opened (opened + 1) bind ∷ [])
    ++ frames_of number (opened + 1) others ≡ frames_of number opened (line.Open bind ∷ others)
open_first number opened bind others =
    ⊎_elim
    (λ (e : (opened + 1 == number) ≡ true). rw e refl)
    (λ (e : (opened + 1 == number) ≡ false). rw e refl)
    (cases_Bool (opened + 1 == number))

send_first : (number opened to : ℕ) (apdu : List ℕ) (others : List ScriptLine)
    → came number (entry.Arrived to apdu ∷ [])
    ++ frames_of number opened others ≡ frames_of number opened (line.Send to apdu ∷ others)
send_first number opened to apdu others =
    ⊎_elim
    (λ (e : (to == number) ≡ true). rw e refl)
    (λ (e : (to == number) ≡ false). rw e refl)
    (cases_Bool (to == number))

-- the frames of a script's lines follow those that came before
lines_frames : (number opened : ℕ) (frames : List (List ℕ)) (at : ℕ) (play last : Play) (script : List ScriptLine)
    → HasFrames number opened frames play → lines_played at play script ≡ Ok last
    → came number last.journal ≡ frames ++ frames_of number opened script
lines_frames number opened frames at play last [] h e =
    ap (λ (p : Play). came number p.journal) (sym (lines_end at play last e)) ∙ (h.brings ∙ sym (append-nil frames))
lines_frames number opened frames at play last (line.At moment ∷ others) h e =
    lines_frames number opened frames (at + 1) (line_played play (line.At moment)) last others
    (moment_frames number opened _ frames play h) (lines_more at play last (line.At moment) others e).1
lines_frames number opened frames at play last (line.Open bind ∷ others) h e =
    let first = came number (entry.Opened (opened + 1) bind ∷ []) in
    let keeps = entry_frames number (opened + 1) (frames ++ first) in
    let next = open_keeps (HasFrames number (opened + 1) (frames ++ first)) keeps play bind
    (opened_frames number opened frames play bind h) in
    lines_frames number (opened + 1) (frames ++ first) (at + 1) (line_played play (line.Open bind)) last others next
    (lines_more at play last (line.Open bind) others e).1
    ∙ (append_assoc frames first (frames_of number (opened + 1) others)
    ∙ ap (λ xs. frames ++ xs) (open_first number opened bind others))
lines_frames number opened frames at play last (line.Send to apdu ∷ others) h e =
    let first = came number (entry.Arrived to apdu ∷ []) in
    let keeps = entry_frames number opened (frames ++ first) in
    let next = send_keeps (HasFrames number opened (frames ++ first)) keeps play to apdu
    (arrived_frames number opened frames play to apdu h) in
    lines_frames number opened (frames ++ first) (at + 1) (line_played play (line.Send to apdu)) last others next
    (lines_more at play last (line.Send to apdu) others e).1
    ∙ (append_assoc frames first (frames_of number opened others)
    ∙ ap (λ xs. frames ++ xs) (send_first number opened to apdu others))
lines_frames number opened frames at play last (line.End to ∷ others) h e =
    let keeps = entry_frames number opened frames in
    lines_frames number opened frames (at + 1) (line_played play (line.End to)) last others
    (closed_keeps (HasFrames number opened frames) keeps to play h) (lines_more at play last (line.End to) others e).1

-- each association's frames stand in the journal of a script in their order, and no others
pub script_frames : (agent : AgentState) (script : List ScriptLine) (play : Play) → agent.associations ≡ []
    → played agent script ≡ Ok play → (number : ℕ) → came number (ended play).journal ≡ frames_of number 0 script
script_frames agent script play unopened e number =
    ended_keeps (λ p. came number p.journal ≡ frames_of number 0 script)
    (λ p next none h. came_same number p next none ∙ h) play
    (lines_frames number 0 [] 1 (beginning agent) play script
    (record { counts = ap (λ (xs : List Association). length xs) unopened; brings = refl }) e)
