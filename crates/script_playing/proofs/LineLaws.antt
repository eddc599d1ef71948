-- What the lines of a script come to: between two of them all was taken and every operation has ended.
use Rattle.std.proofs.Common.{◌≡◌, ℕ, ◌+◌, ◌<◌, ◌≤◌, true, List, [], ◌∷◌, length, Option, Some, None}
use Rattle.std.proofs.Common.{refl, sym, ap, ◌∙◌, arith, subst}
use Rattle.std.specs.Prelude.{Ok, Err, MatchOption}
use Rattle.std.proofs.lemmas.List.Elements.{All-nil}
use Rattle.agent_model.specs.declared.agent_state.AgentState.{AgentState}
use Rattle.agent_model.specs.declared.agent_state.Association.{Association}
use Rattle.agent_model.specs.declared.agent_state.Operation.{Operation}
use Rattle.agent_model.specs.declared.entry.Entry.{Entry}
use Rattle.agent_model.specs.declared.entry.Entry.TheVariants as entry
use Rattle.agent_model.specs.AgentState.{is_ended_state, numbered}
use Rattle.agent_model.specs.Played.{Play}
use Rattle.agent_model.specs.Settled.{IsSettled}
use Rattle.agent_model.specs.Step.{is_legal, last_moment}
use Rattle.agent_model.proofs.StandingLaws.{ground_of, stands_from_some}
use Rattle.agent_model.specs.declared.script_line.ScriptLine.{ScriptLine}
use Rattle.agent_model.specs.declared.script_line.ScriptLine.TheVariants as line
use Rattle.agent_model.specs.Journals.{is_legal_journal, replayed}
use Rattle.agent_model.specs.Playing.{answered, beginning, closed, closed_from, ended, line_played}
use Rattle.agent_model.specs.Playing.{lines_played, may_play, played, taken_all, with_entry}
use Rattle.agent_model.proofs.FrameLaws.{step_count}
use Rattle.agent_model.proofs.KeepingLaws.{OpensNone}
use Rattle.agent_model.proofs.ScriptLaws.{BringsNone, answered_keeps, closed_from_keeps, closed_keeps, lines_end}
use Rattle.agent_model.proofs.ScriptLaws.{lines_more, taken_all_keeps, whole_keeps}
use Rattle.agent_model.proofs.StepLaws.{next_opens, step_ground}
use Rattle.script_playing.specs.Ready.{AreTaken, HaveEnded, IsFresh, IsJournaled, IsKept, IsReady}
use Rattle.script_playing.proofs.AnsweringLaws.{answered_midway, grant_legal}
use Rattle.script_playing.proofs.ClosingLaws.{all_closed, closed_closing}
use Rattle.script_playing.proofs.ComingLaws.{Comes, all_comes, answered_comes, beginning_comes, closed_comes}
use Rattle.script_playing.proofs.ComingLaws.{closed_from_comes, entry_comes}
use Rattle.script_playing.proofs.EntryLaws.{Arrives, IsIdle, IsMidway, arrived, arrives_legal, opened_midway}
use Rattle.script_playing.proofs.TakenLaws.{none_outstanding}
use Rattle.script_playing.proofs.TakingLaws.{one_taken, taken_all_idle}

pub ready_idle : (play : Play) → IsReady play → IsIdle play.agent
ready_idle play r = record { taken = r.taken; ended = r.ended }

ready : (play : Play) → IsIdle play.agent → play.moment ≤ last_moment → IsReady play
ready play i within = record { taken = i.taken; ended = i.ended; within = within }

-- no entry changes the time of the script
abbrev InTime : Play → Type 0
InTime play = play.moment ≤ last_moment

stays : (play : Play) (next : Entry) → BringsNone next → InTime play → InTime (with_entry play next)
stays play next none h = h

-- before the first line
nothing_there : (k : ℕ) (a : Association) → numbered [] k ≡ Some a → ⊥
nothing_there k a e =
    let s = stands_from_some [] k a e in
    let some : 1 ≤ k = s.positive in
    let none_ : k ≤ 0 = s.within in omega arith

pub beginning_ready : (agent : AgentState) → IsFresh agent → IsReady (beginning agent)
beginning_ready agent f = record {
  taken = subst AreTaken (sym f.unopened) (λ k a e. absurd (nothing_there k a e));
  ended = subst HaveEnded (sym f.unasked) (All-nil (λ (o : Operation). is_ended_state o.state ≡ true));
  within = omega arith;
}

-- a line that opens an association
abbrev pub opening_play : Play → List ℕ → Play
opening_play play bind = with_entry play (entry.Opened (length play.agent.associations + 1) bind)

pub opening_midway : (play : Play) (bind : List ℕ) → IsReady play
    → IsMidway (length play.agent.associations + 1) (opening_play play bind).agent
opening_midway play bind r = opened_midway play.agent bind (ready_idle play r)

pub open_line : (play : Play) (bind : List ℕ) → IsReady play
    → line_played play (line.Open bind) ≡ taken_all (length play.agent.associations + 1) (opening_play play bind)
open_line play bind r =
    one_taken (length play.agent.associations + 1) (opening_play play bind) (opening_midway play bind r)

open_ready : (play : Play) (bind : List ℕ) → IsReady play → IsReady (line_played play (line.Open bind))
open_ready play bind r =
    let number = length play.agent.associations + 1 in
    let next = opening_play play bind in
    subst IsReady (sym (open_line play bind r))
    (ready (taken_all number next) (taken_all_idle number next (opening_midway play bind r))
    (taken_all_keeps InTime stays number next r.within))

-- a line that sends an APDU
module _ (play : Play) (number : ℕ) (apdu : List ℕ) (r : IsReady play)
    (live : may_play play.agent (line.Send number apdu) ≡ true) where
  abbrev pub arrived_play : Play
  arrived_play = with_entry play (entry.Arrived number apdu)

  abbrev pub answered_play : Play
  answered_play = answered (length play.agent.operations) arrived_play

  pub send_legal : is_legal play.agent (entry.Arrived number apdu) ≡ true
  send_legal = arrives_legal play.agent number apdu (ready_idle play r) live

  sent : Arrives play.agent number arrived_play.agent
  sent = arrived play.agent number apdu (ready_idle play r) live

  pub send_grants : length play.agent.operations < length arrived_play.agent.operations
      → is_legal arrived_play.agent (entry.Granted (length arrived_play.agent.operations) play.moment) ≡ true
  send_grants h = grant_legal play.agent number (ready_idle play r) live arrived_play r.within sent h

  pub send_midway : IsMidway number answered_play.agent
  send_midway = answered_midway play.agent number (ready_idle play r) live arrived_play r.within sent

  pub send_line : line_played play (line.Send number apdu) ≡ taken_all number answered_play
  send_line = one_taken number answered_play send_midway

  send_ready : IsReady (line_played play (line.Send number apdu))
  send_ready =
      subst IsReady (sym send_line)
      (ready (taken_all number answered_play) (taken_all_idle number answered_play send_midway)
      (taken_all_keeps InTime stays number answered_play
      (answered_keeps InTime stays (length play.agent.operations) arrived_play r.within)))

  send_comes : (first : AgentState) → Comes first play → Comes first (line_played play (line.Send number apdu))
  send_comes first c =
      all_comes first answered_play
      (answered_comes first (length play.agent.operations) arrived_play
      (entry_comes first play (entry.Arrived number apdu) c send_legal) send_grants)

-- an association that ends
pub closed_ready : (number : ℕ) (play : Play) → IsReady play → IsReady (closed number play)
closed_ready number play r =
    ready (closed number play) (closed_closing number play (ready_idle play r)).idle
    (closed_keeps InTime stays number play r.within)

-- any line
pub line_ready : (play : Play) (next : ScriptLine) → IsReady play → may_play play.agent next ≡ true
    → IsReady (line_played play next)
line_ready play (line.At moment) r h = record { taken = r.taken; ended = r.ended; within = omega arith }
line_ready play (line.Open bind) r h = open_ready play bind r
line_ready play (line.Send number apdu) r h = send_ready play number apdu r h
line_ready play (line.End number) r h = closed_ready number play r

line_comes : (first : AgentState) (play : Play) (next : ScriptLine) → IsReady play → may_play play.agent next ≡ true
    → Comes first play → Comes first (line_played play next)
line_comes first play (line.At moment) r h c = record { legal = c.legal; comes = c.comes }
line_comes first play (line.Open bind) r h c =
    all_comes first (opening_play play bind)
    (entry_comes first play (entry.Opened (length play.agent.associations + 1) bind) c (next_opens play.agent bind))
line_comes first play (line.Send number apdu) r h c = send_comes play number apdu r h first c
line_comes first play (line.End number) r h c = closed_comes first number play (ready_idle play r) c

lines_come : (first : AgentState) (number : ℕ) (play last : Play) (script : List ScriptLine) → IsReady play
    → Comes first play → lines_played number play script ≡ Ok last → IsReady last × Comes first last
lines_come first number play last [] r c e =
    let is = lines_end number play last e in (subst IsReady is r, subst (Comes first) is c)
lines_come first number play last (next ∷ others) r c e =
    let more = lines_more number play last next others e in
    lines_come first (number + 1) (line_played play next) last others (line_ready play next r more.0)
    (line_comes first play next r more.0 c) more.1

-- the journal of a script is legal, and comes to its agent
pub script_comes : (agent : AgentState) (script : List ScriptLine) (play : Play) → IsFresh agent
    → played agent script ≡ Ok play → Comes agent (ended play)
script_comes agent script play f e =
    let last = lines_come agent 1 (beginning agent) play script (beginning_ready agent f) (beginning_comes agent) e in
    closed_from_comes agent (length play.agent.associations) 1 play (ready_idle play last.0) last.1

-- at its end all is settled
opens_none : (next : Entry) → BringsNone next → OpensNone next
opens_none (entry.Opened number bind) none = none
opens_none (entry.Arrived number apdu) none = tt
opens_none (entry.Begun number log) none = tt
opens_none (entry.Granted number moment) none = tt
opens_none (entry.Committed number) none = tt
opens_none (entry.Starved number) none = tt
opens_none (entry.Taken number count) none = tt
opens_none (entry.Finished number) none = tt
opens_none (entry.Closed number cause) none = tt

pub closed_count : (count number : ℕ) (play : Play)
    → length (closed_from count number play).agent.associations ≡ length play.agent.associations
closed_count count number play =
    closed_from_keeps (λ p. length p.agent.associations ≡ length play.agent.associations)
    (λ p next none h. step_count p.agent next (opens_none next none) ∙ h) count number play refl

pub ended_settled : (play : Play) → IsReady play → IsSettled (ended play).agent
ended_settled play r number a there =
    let count = length play.agent.associations in
    let s = stands_from_some (ended play).agent.associations number a there in
    let all = all_closed count play (ready_idle play r) in
    record {
      closed = all.below number a (omega (arith, s.within, closed_count count 1 play)) there;
      taken = all.idle.taken number a there;
      idle = none_outstanding number (ended play).agent.operations all.idle.ended;
    }

-- the play of a script that ended
pub script_settled : (agent : AgentState) (script : List ScriptLine) (play : Play) → IsFresh agent
    → played agent script ≡ Ok play → IsSettled (ended play).agent
script_settled agent script play f e =
    ended_settled play
    (lines_come agent 1 (beginning agent) play script (beginning_ready agent f) (beginning_comes agent) e).0

pub script_ground : (agent : AgentState) (script : List ScriptLine) (play : Play) → played agent script ≡ Ok play
    → ground_of (ended play).agent ≡ ground_of agent
script_ground agent script play e =
    whole_keeps (λ p. ground_of p.agent ≡ ground_of agent) (λ p next h. step_ground p.agent next ∙ h)
    (λ p moment within h. h) agent script play refl e

-- lines that were all played
matched_none : {X : Type 0} (o : Option X) (none_ : Type 0) (some : X → Type 0) → ((x : X) → o ≡ Some x → ⊥)
    → MatchOption o none_ some → none_
matched_none None none_ some absent h = h
matched_none (Some x) none_ some absent h = absurd (absent x refl)

abbrev pub begun : AgentState → List Entry → Play
begun agent journal = record { agent = agent; journal = journal; moment = 0 }

pub all_played : (agent : AgentState) (script lines : List ScriptLine) (journal : List Entry) (bad : Option ℕ)
    (last : Play) → lines ≡ script → journal ≡ [] → ((number : ℕ) → bad ≡ Some number → ⊥)
    → MatchOption bad (lines_played 1 (begun agent journal) lines ≡ Ok last)
    (λ number. lines_played 1 (begun agent journal) lines ≡ Err number) → played agent script ≡ Ok last
all_played agent script lines journal bad last same none_ absent h =
    ap (λ xs. lines_played 1 (begun agent xs) script) (sym none_)
    ∙ (ap (λ ls. lines_played 1 (begun agent journal) ls) (sym same)
    ∙ matched_none bad (lines_played 1 (begun agent journal) lines ≡ Ok last)
    (λ number. lines_played 1 (begun agent journal) lines ≡ Err number) absent h)

pub script_journaled : (agent : AgentState) (script : List ScriptLine) (last play : Play) → IsFresh agent
    → played agent script ≡ Ok last → play ≡ ended last → IsKept play.agent play.journal
    → IsJournaled play.agent play.journal
script_journaled agent script last play f e is kept =
    let c = script_comes agent script last f e in
    record {
      first = agent;
      fresh = f;
      legal = ap (λ (p : Play). is_legal_journal agent p.journal) is ∙ c.legal;
      replayed_ =
          ap (λ (p : Play). replayed agent p.journal) is ∙ (c.comes ∙ ap (λ (p : Play). p.agent) (sym is));
      counted = kept.counted;
      held = kept.held;
    }
