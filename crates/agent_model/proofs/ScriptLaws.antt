-- What each entry keeps, each script keeps: so the journal of a script comes to the agent that the script came to.
use Rattle.std.proofs.Common.{◌≡◌, ℕ, zero, suc, ◌+◌, ◌≤◌, Bool, true, false, List, [], ◌∷◌, length, Option, Some}
use Rattle.std.proofs.Common.{None, refl, ap, ◌∙◌, ⊎_elim, subst, arith}
use Rattle.std.specs.Prelude.{Result, Ok, Err, ◌==◌, min, nat_lt, if◌then◌else◌}
use Rattle.std.specs.Option.{option_map_or}
use Rattle.std.proofs.lemmas.Bool.{cases_Bool}
use Rattle.agent_model.specs.declared.agent_state.AgentState.{AgentState}
use Rattle.agent_model.specs.declared.agent_state.Association.{Association}
use Rattle.agent_model.specs.declared.entry.Entry.{Entry}
use Rattle.agent_model.specs.declared.entry.Entry.TheVariants as entry
use Rattle.agent_model.specs.declared.entry.Why.TheVariants as why
use Rattle.agent_model.specs.AgentState.{association_of, left_to_take, is_live_state, is_closed_state}
use Rattle.agent_model.specs.Played.{Play}
use Rattle.agent_model.specs.Step.{last_moment}
use Rattle.agent_model.specs.declared.script_line.ScriptLine.{ScriptLine}
use Rattle.agent_model.specs.declared.script_line.ScriptLine.TheVariants as line
use Rattle.agent_model.specs.Journals.{replayed}
use Rattle.agent_model.specs.Playing.{all_taken, answered, beginning, closed, closed_from, ended, finished}
use Rattle.agent_model.specs.Playing.{line_played, lines_played, may_play, played, taken_all, taken_from, with_entry}
use Rattle.agent_model.specs.Stepping.{step}
use Rattle.agent_model.proofs.HistoryLaws.{replay_more}

-- an entry that brings no frame
abbrev pub BringsNone : Entry → Type 0
BringsNone (entry.Opened number bind) = ⊥
BringsNone (entry.Arrived number apdu) = ⊥
BringsNone _ = Unit {0}

-- what each entry without a frame keeps, a line keeps behind its frame, and the end of a script keeps
module _ (P : Play → Type 0) (keeps : (play : Play) (next : Entry) → BringsNone next → P play
    → P (with_entry play next)) where
  keeps_if : (b : Bool) (p q : Play) → P p → P q → P (if b then p else q)
  keeps_if true p q h k = h
  keeps_if false p q h k = k

  keeps_where : (change : Association → Play) (o : Option Association) (play : Play)
      → ((a : Association) → P (change a)) → P play → P (option_map_or change o play)
  keeps_where change None play h k = k
  keeps_where change (Some a) play h k = h a

  pub taken_all_keeps : (number : ℕ) (play : Play) → P play → P (taken_all number play)
  taken_all_keeps number play h =
      keeps_where (λ (a : Association). if left_to_take a == 0 then play else with_entry play
      (entry.Taken number (left_to_take a))) (association_of play.agent number) play
      (λ a. keeps_if (left_to_take a == 0) play (with_entry play (entry.Taken number (left_to_take a))) h
      (keeps play (entry.Taken number (left_to_take a)) tt h)) h

  pub taken_from_keeps : (count number : ℕ) (play : Play) → P play → P (taken_from count number play)
  taken_from_keeps zero number play h = h
  taken_from_keeps (suc count) number play h =
      taken_from_keeps count (number + 1) (taken_all number play) (taken_all_keeps number play h)

  pub answered_keeps : (before : ℕ) (play : Play) → P play → P (answered before play)
  answered_keeps before play h =
      let number = length play.agent.operations in
      let granted = with_entry play (entry.Granted number play.moment) in
      keeps_if (nat_lt before number) (with_entry granted (entry.Committed number)) play
      (keeps granted (entry.Committed number) tt (keeps play (entry.Granted number play.moment) tt h)) h

  pub all_taken_keeps : (play : Play) → P play → P (all_taken play)
  all_taken_keeps play h = taken_from_keeps (length play.agent.associations) 1 play h

  pub open_keeps : (play : Play) (bind : List ℕ)
      → P (with_entry play (entry.Opened (length play.agent.associations + 1) bind))
      → P (line_played play (line.Open bind))
  open_keeps play bind h = all_taken_keeps (with_entry play (entry.Opened (length play.agent.associations + 1) bind)) h

  pub send_keeps : (play : Play) (number : ℕ) (apdu : List ℕ) → P (with_entry play (entry.Arrived number apdu))
      → P (line_played play (line.Send number apdu))
  send_keeps play number apdu h =
      let came = with_entry play (entry.Arrived number apdu) in
      let before = length play.agent.operations in
      all_taken_keeps (answered before came) (answered_keeps before came h)

  pub finished_keeps : (number : ℕ) (play : Play) → P play → P (finished number play)
  finished_keeps number play h =
      keeps_where (λ (a : Association). if is_live_state a.state then with_entry play (entry.Finished number) else play)
      (association_of play.agent number) play
      (λ a. keeps_if (is_live_state a.state) (with_entry play (entry.Finished number)) play
      (keeps play (entry.Finished number) tt h) h) h

  pub closed_keeps : (number : ℕ) (play : Play) → P play → P (closed number play)
  closed_keeps number play h =
      let last = taken_all number (finished number play) in
      let after = with_entry last (entry.Closed number why.End) in
      keeps_where (λ (a : Association). if is_closed_state a.state then play else after)
      (association_of play.agent number) play
      (λ a. keeps_if (is_closed_state a.state) play after h
      (keeps last (entry.Closed number why.End) tt
      (taken_all_keeps number (finished number play) (finished_keeps number play h)))) h

  pub closed_from_keeps : (count number : ℕ) (play : Play) → P play → P (closed_from count number play)
  closed_from_keeps zero number play h = h
  closed_from_keeps (suc count) number play h =
      closed_from_keeps count (number + 1) (closed number play) (closed_keeps number play h)

  pub ended_keeps : (play : Play) → P play → P (ended play)
  ended_keeps play h = closed_from_keeps (length play.agent.associations) 1 play h

-- what a script came to is what its lines came to, one after the other
one_play : (play last : Play) → ◌≡◌ {A = Result Play ℕ} (Ok play) (Ok last) → play ≡ last
one_play play last h = cc

pub lines_end : (number : ℕ) (play last : Play) → lines_played number play [] ≡ Ok last → play ≡ last
lines_end number play last h = one_play play last h

pub lines_more : (number : ℕ) (play last : Play) (next : ScriptLine) (others : List ScriptLine)
    → lines_played number play (next ∷ others) ≡ Ok last
    → (may_play play.agent next ≡ true) × (lines_played (number + 1) (line_played play next) others ≡ Ok last)
lines_more number play last next others h =
    ⊎_elim
    (λ (e : may_play play.agent next ≡ true).
    (e, let more : lines_played (number + 1) (line_played play next) others ≡ Ok last = rw e at h in more))
    (λ (e : may_play play.agent next ≡ false).
    let refused : ◌≡◌ {A = Result Play ℕ} (Err number) (Ok last) = rw e at h in absurd (cc))
    (cases_Bool (may_play play.agent next))

least_within : (moment last : ℕ) → min moment last ≤ last
least_within moment last = omega arith

-- what each entry keeps, and a further time of the script, each script keeps
module _ (P : Play → Type 0) (keeps : (play : Play) (next : Entry) → P play → P (with_entry play next))
    (keeps_at : (play : Play) (moment : ℕ) → moment ≤ last_moment → P play → P (record play { moment = moment })) where
  pub line_keeps : (play : Play) (next : ScriptLine) → P play → P (line_played play next)
  line_keeps play (line.At moment) h =
      keeps_at play (min moment last_moment) (least_within moment last_moment) h
  line_keeps play (line.Open bind) h =
      open_keeps P (λ p next none. keeps p next) play bind
      (keeps play (entry.Opened (length play.agent.associations + 1) bind) h)
  line_keeps play (line.Send number apdu) h =
      send_keeps P (λ p next none. keeps p next) play number apdu (keeps play (entry.Arrived number apdu) h)
  line_keeps play (line.End number) h = closed_keeps P (λ p next none. keeps p next) number play h

  pub lines_keep : (number : ℕ) (play last : Play) (script : List ScriptLine) → P play
      → lines_played number play script ≡ Ok last → P last
  lines_keep number play last [] h e = subst P (lines_end number play last e) h
  lines_keep number play last (next ∷ others) h e =
      lines_keep (number + 1) (line_played play next) last others (line_keeps play next h)
      (lines_more number play last next others e).1

  pub script_keeps : (agent : AgentState) (script : List ScriptLine) (play : Play) → P (beginning agent)
      → played agent script ≡ Ok play → P play
  script_keeps agent script play h e = lines_keep 1 (beginning agent) play script h e

  pub end_keeps : (play : Play) → P play → P (ended play)
  end_keeps play h = ended_keeps P (λ p next none. keeps p next) play h

  pub whole_keeps : (agent : AgentState) (script : List ScriptLine) (play : Play) → P (beginning agent)
      → played agent script ≡ Ok play → P (ended play)
  whole_keeps agent script play h e = end_keeps play (script_keeps agent script play h e)

-- the journal of a script comes to its agent
pub script_replays : (agent : AgentState) (script : List ScriptLine) (play : Play) → played agent script ≡ Ok play
    → replayed agent (ended play).journal ≡ (ended play).agent
script_replays agent script play e =
    whole_keeps (λ p. replayed agent p.journal ≡ p.agent)
    (λ p next h. replay_more agent p.journal next ∙ ap (λ s. step s next) h) (λ p moment within h. h) agent script play
    refl e
