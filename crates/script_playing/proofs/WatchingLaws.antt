-- What is known of a journal's room, once an entry more is written down.
use Rattle.std.proofs.Common.{◌≡◌, ℕ, ◌+◌, ◌-◌, ◌^◌, ◌<◌, ◌≤◌, Bool, true, false, List, [], ◌∷◌, ◌++◌, length, take, min}
use Rattle.std.proofs.Common.{Option, Some, None, refl, sym, ap, ◌∙◌, arith, subst, zero-add}
use Rattle.std.specs.Prelude.{MatchOption, sum_by, if◌then◌else◌}
use Rattle.std.proofs.Math.Seq.{take-append_seam}
use Rattle.std.proofs.lemmas.Bool.{false≢true}
use Rattle.std.proofs.lemmas.List.{flat_map_more, length-append, length_push, take-append-le}
use Rattle.std.proofs.lemmas.List.Elements.{All-head, All-tail}
use Rattle.std.proofs.lemmas.List.Sums.{sum_by-cons}
use Rattle.agent_model.specs.declared.agent_state.AgentState.{AgentState}
use Rattle.agent_model.specs.declared.agent_state.Operation.{Operation}
use Rattle.agent_model.specs.declared.agent_state.OperationState.{OperationState}
use Rattle.agent_model.specs.declared.agent_state.OperationState.TheVariants as operation
use Rattle.agent_model.specs.declared.entry.Entry.{Entry}
use Rattle.agent_model.specs.AgentState.{is_ended_state}
use Rattle.agent_model.specs.Texts.{journal_text, line}
use Rattle.agent_model.specs.JournalRoom.{HasRoom, IsFilled, is_refused, is_refused_behind, places_asked, reserved}
use Rattle.agent_model.specs.JournalRoom.{reserved_by_associations, reserved_by_operation, reserved_by_operations}
use Rattle.agent_model.specs.Stepping.{step}
use Rattle.agent_model.proofs.HistoryLaws.{replay_more}
use Rattle.agent_model.proofs.RoomLaws.{filled_more, room_more, room_none}
use Rattle.script_playing.specs.declared.watching.Watch.{Watch}
use Rattle.script_playing.specs.Ready.{HaveEnded}
use Rattle.script_playing.specs.Watching.{IsCounted, IsFilledAt, IsWatched, refused_then}

-- operations that have ended reserve no place
ended_reserves : (state : OperationState) → is_ended_state state ≡ true → reserved_by_operation state ≡ 0
ended_reserves operation.Waiting h = absurd (false≢true h)
ended_reserves (operation.Granted moment) h = absurd (false≢true h)
ended_reserves (operation.Ended place) h = refl

none_reserved : (xs : List Operation) → HaveEnded xs → reserved_by_operations xs ≡ 0
none_reserved [] all = refl
none_reserved (o ∷ xs) all =
    let P = λ (p : Operation). is_ended_state p.state ≡ true in
    let places : Operation → ℕ = λ p. reserved_by_operation p.state in
    let rest : sum_by places xs ≡ 0 = none_reserved xs (All-tail P o xs all) in
    let first : places o ≡ 0 = ended_reserves o.state (All-head P o xs all) in
    sum_by-cons places o xs ∙ (ap (λ n. n + sum_by places xs) first ∙ (zero-add (sum_by places xs) ∙ rest))

pub associations_reserve : (agent : AgentState) (count : ℕ) → HaveEnded agent.operations
    → count ≡ reserved_by_associations agent.associations → count ≡ reserved agent
associations_reserve agent count ended is = let none_ = none_reserved agent.operations ended in omega (arith, is, none_)

-- before any entry
watched_first : (agent : AgentState) → IsWatched agent agent [] (record { octets = 0; refused = None })
watched_first agent = record { comes = refl; counted = refl; told = room_none agent }

pub watched_begun : (agent : AgentState) (journal : List Entry) (watch : Watch) → journal ≡ []
    → watch ≡ record { octets = 0; refused = None } → IsWatched agent agent journal watch
watched_begun agent journal watch none_ is =
    subst (λ xs. IsWatched agent agent xs watch) (sym none_)
    (subst (λ w. IsWatched agent agent [] w) (sym is) (watched_first agent))

-- an entry that asks for no place
passed_over : (agent : AgentState) (count : ℕ) (next : Entry) → places_asked next ≡ 0
    → is_refused agent count next ≡ false
passed_over agent count next none_ = rw none_ refl

pub refused_as_before : (agent : AgentState) (count : ℕ) (refused : Option ℕ) (next : Entry) → places_asked next ≡ 0
    → refused ≡ refused_then agent count refused next
refused_as_before agent count (Some place) next none_ = refl
refused_as_before agent count None next none_ =
    ap (λ (b : Bool). if b then Some agent.entries else None) (sym (passed_over agent count next none_))

-- one entry more
module _ (first agent : AgentState) (journal : List Entry) (next : Entry) where
  abbrev longer : List Entry
  longer = journal ++ next ∷ []

  abbrev octets_of : List Entry → ℕ
  octets_of entries = length (journal_text entries)

  abbrev IsTold : List Entry → Option ℕ → Type 0
  IsTold entries refused = MatchOption refused (HasRoom first entries) (λ place. IsFilledAt first entries place)

  text_more : octets_of longer ≡ octets_of journal + length (line next)
  text_more =
      ap (λ (xs : List ℕ). length xs) (sym (flat_map_more line [] journal next))
      ∙ length-append (journal_text journal) (line next)

  counted_more : (octets more : ℕ) → IsCounted (octets_of journal) octets
      → more ≡ min (octets + length (line next)) (2 ^ 128 - 1) → IsCounted (octets_of longer) more
  counted_more octets more e f = let whole = text_more in omega (arith, e, f, whole)

  -- what was refused before stays so
  filled_on : (place : ℕ) → IsFilledAt first journal place → IsFilledAt first longer place
  filled_on place f =
      let within : place < length journal = f.0 in
      let one = length_push journal next in
      let few : place ≤ length journal = omega arith in (
        omega (arith, within, one),
        subst (λ part. IsFilled first longer part) (sym (take-append-le place journal (next ∷ []) few))
            (filled_more first journal (take place journal) (next ∷ []) f.1),
      )

  -- it is refused, the first one, or it isn't
  filled_here : HasRoom first journal → is_refused_behind first journal next ≡ true
      → IsFilledAt first longer (length journal)
  filled_here room refused =
      let one = length_push journal next in
      let filled : IsFilled first longer journal = record {
        next = next;
        others = [];
        begins = refl;
        room = room;
        refused = refused;
      } in
      (omega (arith, one), subst (λ part. IsFilled first longer part) (sym (take-append_seam journal (next ∷ []))) filled)

  told_by : (refused : Bool) (place : ℕ) → place ≡ length journal → HasRoom first journal
      → is_refused_behind first journal next ≡ refused
      → IsTold longer (if refused then Some place else None)
  told_by true place same room is =
      subst (λ n. IsFilledAt first longer n) (sym same) (filled_here room is)
  told_by false place same room is = room_more first journal next room is

  told_more : (refused : Option ℕ) → agent.entries ≡ length journal
      → is_refused_behind first journal next ≡ is_refused agent (octets_of journal) next
      → IsTold journal refused → IsTold longer (refused_then agent (octets_of journal) refused next)
  told_more (Some place) count same f = filled_on place f
  told_more None count same room = told_by (is_refused agent (octets_of journal) next) agent.entries count room same

  pub watched_more : (before after : Watch) → agent.entries ≡ length journal → IsWatched first agent journal before
      → after.octets ≡ min (before.octets + length (line next)) (2 ^ 128 - 1)
      → after.refused ≡ refused_then agent (octets_of journal) before.refused next
      → IsWatched first (step agent next) longer after
  watched_more before after count w octets refused = record {
    comes = replay_more first journal next ∙ ap (λ s. step s next) w.comes;
    counted = counted_more before.octets after.octets w.counted octets;
    told = subst (λ o. IsTold longer o) (sym refused)
        (told_more before.refused count (ap (λ s. is_refused s (octets_of journal) next) w.comes) w.told);
  }

  pub watched_passing : (before after : Watch) → agent.entries ≡ length journal → places_asked next ≡ 0
      → IsWatched first agent journal before
      → after.octets ≡ min (before.octets + length (line next)) (2 ^ 128 - 1) → after.refused ≡ before.refused
      → IsWatched first (step agent next) longer after
  watched_passing before after count none_ w octets refused =
      watched_more before after count w octets
      (refused ∙ refused_as_before agent (octets_of journal) before.refused next none_)

-- of an agent and a journal that are these
pub watched_at : (first agent after : AgentState) (journal longer : List Entry) (watch : Watch)
    → IsWatched first agent journal watch → after ≡ agent → longer ≡ journal → IsWatched first after longer watch
watched_at first agent after journal longer watch w stepped written =
    subst (λ s. IsWatched first s longer watch) (sym stepped)
    (subst (λ xs. IsWatched first agent xs watch) (sym written) w)
