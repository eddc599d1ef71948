-- The operations of an agent are askable after each change, and none is in the way of an APDU while all have ended.
use Rattle.std.proofs.Common.{◌≡◌, ℕ, zero, suc, ◌+◌, true, false, List, [], ◌∷◌, ◌++◌}
use Rattle.std.proofs.Common.{Option, Some, None, refl}
use Rattle.std.proofs.Common.{ap, ◌∙◌, ⊎_elim, subst}
use Rattle.std.specs.Prelude.{ℤ, ◌-◌, ◌&&◌, not, All, map, position, slice_get, slice_set}
use Rattle.std.specs.List.{list_any, position_from}
use Rattle.std.specs.Option.{option_map_or}
use Rattle.std.proofs.Math.Bool.{and-false}
use Rattle.std.proofs.lemmas.Bool.{cases_Bool}
use Rattle.std.proofs.lemmas.List.Elements.{All-cons, All-head, All-push, All-set, All-tail}
use Rattle.std.proofs.lemmas.Iterator.Adapters.{position_from-zero}
use Rattle.std.proofs.lemmas.Option.{none-some, same_Some}
use Rattle.agent_model.specs.declared.agent_state.Operation.{Operation}
use Rattle.agent_model.specs.declared.agent_state.OperationState.{OperationState}
use Rattle.term_model.specs.declared.request.Invocation.{Invocation}
use Rattle.term_model.specs.declared.schema.Set.{Set}
use Rattle.agent_model.specs.AgentState.{is_asked_by, is_ended_state, is_outstanding}
use Rattle.agent_model.specs.Step.{changed_operation, ended_with, is_asked_as, is_outstanding_as, queued}
use Rattle.operation_model.specs.OperationConditions.{HasValidFilter}
use Rattle.agent_steps.specs.Asking.{AreAskableUnder, IsAskable}

abbrev Askable : Set → Operation → Type 0
Askable schema o = IsAskable schema o.work

-- one that stands at an index
pub at_index : {T : Type 0} (P : T → Type 0) (xs : List T) (i : ℕ) (x : T) → slice_get xs i ≡ Some x → All P xs → P x
at_index P [] i x h all = absurd (none-some x h)
at_index P (y ∷ xs) zero x h all = subst P (same_Some y x h) (All-head P y xs all)
at_index P (y ∷ xs) (suc i) x h all = at_index P xs i x h (All-tail P y xs all)

changed_where : (schema : Set) (operations : List Operation) (i : ℕ) (state : OperationState) (found : Option Operation)
    → slice_get operations i ≡ found → AreAskableUnder schema operations
    → AreAskableUnder schema (option_map_or (λ (o : Operation). slice_set operations i (record o { state = state }))
    found operations)
changed_where schema operations i state None e all = all
changed_where schema operations i state (Some o) e all =
    All-set (Askable schema) operations i (record o { state = state }) (at_index (Askable schema) operations i o e all)
    all

pub changed_askable : (schema : Set) (operations : List Operation) (number : ℕ) (state : OperationState)
    → AreAskableUnder schema operations → AreAskableUnder schema (changed_operation operations number state)
changed_askable schema operations number state all =
    changed_where schema operations (number - 1) state (slice_get operations (number - 1)) refl all

ended_one : (schema : Set) (number place : ℕ) (o : Operation) → Askable schema o
    → Askable schema (ended_with number place o)
ended_one schema number place o h =
    ⊎_elim (λ (e : is_outstanding number o ≡ true). rw e h) (λ (e : is_outstanding number o ≡ false). rw e h)
    (cases_Bool (is_outstanding number o))

pub ended_askable : (schema : Set) (number place : ℕ) (operations : List Operation)
    → AreAskableUnder schema operations → AreAskableUnder schema (map (ended_with number place) operations)
ended_askable schema number place [] all = all
ended_askable schema number place (o ∷ operations) all =
    All-cons (Askable schema) (ended_with number place o) (map (ended_with number place) operations)
    (ended_one schema number place o (All-head (Askable schema) o operations all))
    (ended_askable schema number place operations (All-tail (Askable schema) o operations all))

pub queued_askable : (schema : Set) (operations : List Operation) (number : ℕ) (invocation : Invocation)
    → HasValidFilter schema invocation.request → AreAskableUnder schema operations
    → AreAskableUnder schema (operations ++ queued number invocation ∷ [])
queued_askable schema operations number invocation h all =
    All-push (Askable schema) operations (queued number invocation) all h

abbrev HasEnded : Operation → Type 0
HasEnded o = is_ended_state o.state ≡ true

-- while all have ended no invoke id is in use
ended_not_as : (number : ℕ) (id : ℤ) (o : Operation) → is_ended_state o.state ≡ true
    → is_outstanding_as number id o ≡ false
ended_not_as number id o h =
    ap (λ t. is_asked_as number id o.work && (is_asked_by number o.work && not t)) h
    ∙ (ap (λ t. is_asked_as number id o.work && t) (and-false (is_asked_by number o.work))
    ∙ and-false (is_asked_as number id o.work))

pub none_in_use : (number : ℕ) (id : ℤ) (operations : List Operation)
    → All HasEnded operations
    → list_any (is_outstanding_as number id) operations ≡ false
none_in_use number id [] all = refl
none_in_use number id (o ∷ operations) all =
    rw (ended_not_as number id o (All-head HasEnded o operations all))
    (none_in_use number id operations (All-tail HasEnded o operations all))

none_from : (number : ℕ) (id : ℤ) (operations : List Operation) (from : ℕ)
    → All HasEnded operations
    → position_from (is_outstanding_as number id) from operations ≡ None
none_from number id [] from all = refl
none_from number id (o ∷ operations) from all =
    rw (ended_not_as number id o (All-head HasEnded o operations all))
    (none_from number id operations (from + 1) (All-tail HasEnded o operations all))

pub none_is_named : (number : ℕ) (id : ℤ) (operations : List Operation)
    → All HasEnded operations
    → position (is_outstanding_as number id) operations ≡ None
none_is_named number id operations all =
    position_from-zero (is_outstanding_as number id) operations ∙ none_from number id operations 0 all
