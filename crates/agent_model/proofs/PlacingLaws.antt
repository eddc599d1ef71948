-- Placing one association's bytes, and what placing keeps of the agent.
use Rattle.std.proofs.Common.{◌≡◌, ℕ, zero, suc, ◌+◌, ◌-◌, ◌<◌, ◌≤◌, Bool, true, false, List, [], ◌∷◌, length}
use Rattle.std.proofs.Common.{Option, Some, None, refl, sym, ap, ◌∙◌, ⊎_elim, arith}
use Rattle.std.specs.Prelude.{◌==◌, nat_lt, slice_get, slice_set, map, if◌then◌else◌}
use Rattle.std.specs.Option.{option_map_or}
use Rattle.std.proofs.lemmas.Bool.{cases_Bool, eqb-true, eqb-false, ltb-true, ltb-false, ne_eqb, eq-eqb}
use Rattle.std.proofs.lemmas.List.{append-nil, length-set}
use Rattle.std.proofs.lemmas.Option.{same_Some, slice_get_past}
use Rattle.agent_model.specs.declared.agent_state.AgentState.{AgentState}
use Rattle.agent_model.specs.declared.agent_state.Association.{Association}
use Rattle.agent_model.specs.declared.agent_state.Operation.{Operation}
use Rattle.agent_model.specs.declared.agent_state.AssociationState.TheVariants as standing
use Rattle.agent_model.specs.declared.agent_state.OperationState.{OperationState}
use Rattle.agent_model.specs.declared.agent_state.OperationState.TheVariants as operation
use Rattle.agent_model.specs.AgentState.{association_of, is_outstanding, left_to_take, numbered}
use Rattle.agent_model.specs.Step.{changed_association, ended_with, with_placed, with_state}
use Rattle.agent_model.proofs.StandingLaws.{changed_association_at, stands_from_some}
use Rattle.agent_model.specs.Placing.{Sent, bytes_for, overrun, placed, placed_for, placed_from, placed_within}

-- where nothing is sent, nothing is placed
none_from : (count number : ℕ) (agent : AgentState) → placed_from count number [] agent ≡ agent
none_from zero number agent = refl
none_from (suc count) number agent = none_from count (number + 1) agent

pub placed_none : (agent : AgentState) → placed agent [] ≡ agent
placed_none agent = none_from (length agent.associations) 1 agent

-- for no number in front of a first one, and none behind a last one, is anything placed
passed : (number : ℕ) (bytes : List ℕ) (count first : ℕ) (agent : AgentState) → number < first
    → placed_from count first ((number, bytes) ∷ []) agent ≡ agent
passed number bytes zero first agent h = refl
passed number bytes (suc count) first agent h =
    rw (ne_eqb number first (λ e. omega arith)) (passed number bytes count (first + 1) agent (omega arith))

ahead : (number : ℕ) (bytes : List ℕ) (count first : ℕ) (agent : AgentState) → first + count ≤ number
    → placed_from count first ((number, bytes) ∷ []) agent ≡ agent
ahead number bytes zero first agent h = refl
ahead number bytes (suc count) first agent h =
    rw (ne_eqb number first (λ e. omega arith)) (ahead number bytes count (first + 1) agent (omega arith))

reached : (number : ℕ) (bytes : List ℕ) (count : ℕ) (agent : AgentState)
    → placed_from (suc count) number ((number, bytes) ∷ []) agent ≡ placed_for agent number bytes
reached number bytes count agent =
    rw (eq-eqb number number refl, append-nil bytes)
    (passed number bytes count (number + 1) (placed_for agent number bytes) (omega arith))

among : (number : ℕ) (bytes : List ℕ) (count first : ℕ) (agent : AgentState) → first ≤ number → number < first + count
    → placed_from count first ((number, bytes) ∷ []) agent ≡ placed_for agent number bytes
among number bytes zero first agent h k = absurd (omega arith)
among number bytes (suc count) first agent h k =
    ⊎_elim
    (λ (e : (number == first) ≡ true).
    let same : number ≡ first = eqb-true number first e in
    ap (λ n. placed_from (suc count) n ((number, bytes) ∷ []) agent) (sym same) ∙ reached number bytes count agent)
    (λ (e : (number == first) ≡ false).
    let other : number ≡ first → ⊥ = eqb-false number first e in
    rw e (among number bytes count (first + 1) agent (omega arith) (omega arith)))
    (cases_Bool (number == first))

-- nothing stands under 0, and nothing behind the last
absent_zero : (agent : AgentState) (bytes : List ℕ) → placed_for agent 0 bytes ≡ agent
absent_zero agent [] = refl
absent_zero agent (byte ∷ bytes) = refl

nothing_past : {T : Type 0} (items : List T) (number : ℕ) → length items < number → numbered items number ≡ None
nothing_past items number h =
    rw (ne_eqb number 0 (λ e. omega arith)) (slice_get_past items (number - 1) (omega arith))

absent_past : (agent : AgentState) (number : ℕ) (bytes : List ℕ) → length agent.associations < number
    → placed_for agent number bytes ≡ agent
absent_past agent number [] h = refl
absent_past agent number (byte ∷ bytes) h =
    ap (λ o. option_map_or (placed_within agent number (byte ∷ bytes)) o agent)
    (nothing_past agent.associations number h)

-- what is sent to one association alone is placed for it
positive_one : (agent : AgentState) (number : ℕ) (bytes : List ℕ) → 1 ≤ number
    → placed agent ((number, bytes) ∷ []) ≡ placed_for agent number bytes
positive_one agent number bytes h =
    ⊎_elim
    (λ (e : nat_lt (length agent.associations) number ≡ true).
    let past : length agent.associations < number = ltb-true (length agent.associations) number e in
    ahead number bytes (length agent.associations) 1 agent (omega arith) ∙ sym (absent_past agent number bytes past))
    (λ (e : nat_lt (length agent.associations) number ≡ false).
    let within : number ≤ length agent.associations = ltb-false (length agent.associations) number e in
    among number bytes (length agent.associations) 1 agent h (omega arith))
    (cases_Bool (nat_lt (length agent.associations) number))

pub placed_one : (agent : AgentState) (number : ℕ) (bytes : List ℕ)
    → placed agent ((number, bytes) ∷ []) ≡ placed_for agent number bytes
placed_one agent zero bytes =
    passed 0 bytes (length agent.associations) 1 agent (omega arith) ∙ sym (absent_zero agent bytes)
placed_one agent (suc n) bytes = positive_one agent (suc n) bytes (omega arith)

-- what placing leaves of an agent; the fields are named for what is as it was
pub record Keeps (before after : AgentState) : Type 0 where
  pub schema_stays : after.schema ≡ before.schema
  pub limits_stay : after.limits ≡ before.limits
  pub objects_stay : after.objects ≡ before.objects
  pub waiting_stays : after.waiting ≡ before.waiting
  pub entries_stay : after.entries ≡ before.entries
  pub associations_count : length after.associations ≡ length before.associations
  pub operations_count : length after.operations ≡ length before.operations
  pub works_stay : map (λ (o : Operation). o.work) after.operations ≡ map (λ (o : Operation). o.work) before.operations

pub keeps_itself : (agent : AgentState) → Keeps agent agent
keeps_itself agent = record {
  schema_stays = refl;
  limits_stay = refl;
  objects_stay = refl;
  waiting_stays = refl;
  entries_stay = refl;
  associations_count = refl;
  operations_count = refl;
  works_stay = refl;
}

pub keeps_through : (a b c : AgentState) → Keeps a b → Keeps b c → Keeps a c
keeps_through a b c p q = record {
  schema_stays = q.schema_stays ∙ p.schema_stays;
  limits_stay = q.limits_stay ∙ p.limits_stay;
  objects_stay = q.objects_stay ∙ p.objects_stay;
  waiting_stays = q.waiting_stays ∙ p.waiting_stays;
  entries_stay = q.entries_stay ∙ p.entries_stay;
  associations_count = q.associations_count ∙ p.associations_count;
  operations_count = q.operations_count ∙ p.operations_count;
  works_stay = q.works_stay ∙ p.works_stay;
}

-- a change of one association keeps their number
change_count : (associations : List Association) (i : ℕ) (change : Association → Association) (o : Option Association)
    → length (option_map_or (λ a. slice_set associations i (change a)) o associations) ≡ length associations
change_count associations i change None = refl
change_count associations i change (Some a) = length-set associations i (change a)

pub changed_count : (associations : List Association) (number : ℕ) (change : Association → Association)
    → length (changed_association associations number change) ≡ length associations
changed_count associations number change =
    change_count associations (number - 1) change (slice_get associations (number - 1))

-- operations that end are as many, and of the same work
either_work : (b : Bool) (o : Operation) (state : OperationState)
    → (if b then record o { state = state } else o).work ≡ o.work
either_work true o state = refl
either_work false o state = refl

pub ended_works : (number place : ℕ) (operations : List Operation)
    → map (λ (o : Operation). o.work) (map (ended_with number place) operations)
    ≡ map (λ (o : Operation). o.work) operations
ended_works number place [] = refl
ended_works number place (o ∷ operations) =
    rw (either_work (is_outstanding number o) o (operation.Ended place), ended_works number place operations) refl

pub ended_count : (number place : ℕ) (operations : List Operation)
    → length (map (ended_with number place) operations) ≡ length operations
ended_count number place [] = refl
ended_count number place (o ∷ operations) = ap (λ n. suc n) (ended_count number place operations)

pub overrun_keeps : (agent : AgentState) (number : ℕ) → Keeps agent (overrun agent number)
overrun_keeps agent number = record {
  schema_stays = refl;
  limits_stay = refl;
  objects_stay = refl;
  waiting_stays = refl;
  entries_stay = refl;
  associations_count = changed_count agent.associations number (with_state standing.Overrun);
  operations_count = ended_count number agent.entries agent.operations;
  works_stay = ended_works number agent.entries agent.operations;
}

-- a change of associations alone, which are as many
pub changed_keeps : (agent : AgentState) (number : ℕ) (change : Association → Association)
    → Keeps agent (record agent { associations = changed_association agent.associations number change })
changed_keeps agent number change = record {
  schema_stays = refl;
  limits_stay = refl;
  objects_stay = refl;
  waiting_stays = refl;
  entries_stay = refl;
  associations_count = changed_count agent.associations number change;
  operations_count = refl;
  works_stay = refl;
}

either_keeps : (b : Bool) (agent one other : AgentState) → Keeps agent one → Keeps agent other
    → Keeps agent (if b then one else other)
either_keeps true agent one other h g = h
either_keeps false agent one other h g = g

within_keeps : (agent : AgentState) (number : ℕ) (bytes : List ℕ) (o : Option Association)
    → Keeps agent (option_map_or (placed_within agent number bytes) o agent)
within_keeps agent number bytes None = keeps_itself agent
within_keeps agent number bytes (Some a) =
    either_keeps (nat_lt agent.limits.untaken (left_to_take a + length bytes)) agent _ _
    (overrun_keeps agent number) (changed_keeps agent number (with_placed bytes))

pub placed_for_keeps : (agent : AgentState) (number : ℕ) (bytes : List ℕ) → Keeps agent (placed_for agent number bytes)
placed_for_keeps agent number [] = keeps_itself agent
placed_for_keeps agent number (byte ∷ bytes) =
    within_keeps agent number (byte ∷ bytes) (association_of agent number)

pub placed_from_keeps : (count number : ℕ) (sent : Sent) (agent : AgentState)
    → Keeps agent (placed_from count number sent agent)
placed_from_keeps zero number sent agent = keeps_itself agent
placed_from_keeps (suc count) number sent agent =
    let next = placed_for agent number (bytes_for number sent) in
    keeps_through agent next (placed_from count (number + 1) sent next)
    (placed_for_keeps agent number (bytes_for number sent)) (placed_from_keeps count (number + 1) sent next)

pub placed_keeps : (agent : AgentState) (sent : Sent) → Keeps agent (placed agent sent)
placed_keeps agent sent = placed_from_keeps (length agent.associations) 1 sent agent

-- bytes that fit behind those that are not taken
set_alike : {T : Type 0} (items : List T) (i : ℕ) (x : T) → slice_get items i ≡ Some x → slice_set items i x ≡ items
set_alike [] i x h = refl
set_alike (y ∷ items) zero x h = ap (λ z. z ∷ items) (sym (same_Some y x h))
set_alike (y ∷ items) (suc i) x h = ap (λ zs. y ∷ zs) (set_alike items i x h)

nothing_more : (agent : AgentState) (number : ℕ) (a : Association) → slice_get agent.associations (number - 1) ≡ Some a
    → changed_association agent.associations number (with_placed []) ≡ agent.associations
nothing_more agent number a h =
    changed_association_at agent.associations number (with_placed []) a h
    ∙ (ap (λ l. slice_set agent.associations (number - 1) (record a { placed = l })) (append-nil a.placed)
    ∙ set_alike agent.associations (number - 1) a h)

pub fits_at : (agent : AgentState) (number : ℕ) (bytes : List ℕ) (a : Association)
    → association_of agent number ≡ Some a
    → nat_lt agent.limits.untaken (left_to_take a + length bytes) ≡ false
    → placed_for agent number bytes
    ≡ record agent { associations = changed_association agent.associations number (with_placed bytes) }
fits_at agent number [] a is fits =
    sym (ap (λ xs. record agent { associations = xs })
    (nothing_more agent number a (stands_from_some agent.associations number a is).there))
fits_at agent number (byte ∷ bytes) a is fits =
    ap (λ o. option_map_or (placed_within agent number (byte ∷ bytes)) o agent) is ∙ rw fits refl

-- bytes that don't fit; there is one at least
pub overruns_at : (agent : AgentState) (number byte : ℕ) (bytes : List ℕ) (a : Association)
    → association_of agent number ≡ Some a
    → nat_lt agent.limits.untaken (left_to_take a + length (byte ∷ bytes)) ≡ true
    → placed_for agent number (byte ∷ bytes) ≡ overrun agent number
overruns_at agent number byte bytes a is full =
    ap (λ o. option_map_or (placed_within agent number (byte ∷ bytes)) o agent) is ∙ rw full refl
