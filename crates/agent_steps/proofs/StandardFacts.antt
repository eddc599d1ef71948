-- Examples of the definitions, by docs/PROFILE.md, section 7: two associations, of which one is closed, and an
-- operation that was granted at a moment.
use Rattle.std.specs.Prelude.{◌≡◌, ℕ, pos, [], ◌∷◌, true, false, None, Some, refl}
use Rattle.agent_model.specs.declared.agent_state.AgentState.{AgentState}
use Rattle.agent_model.specs.declared.agent_state.Association.{Association}
use Rattle.agent_model.specs.declared.agent_state.AssociationState.{AssociationState}
use Rattle.agent_model.specs.declared.agent_state.AssociationState.TheVariants.{Closed, Finished, Live}
use Rattle.agent_model.specs.declared.agent_state.OperationState.{OperationState}
use Rattle.agent_model.specs.declared.agent_state.OperationState.TheVariants.{Ended, Granted}
use Rattle.agent_model.specs.declared.agent_state.Work.TheVariants.{Asked}
use Rattle.agent_model.specs.declared.entry.Why.TheVariants.{End}
use Rattle.term_model.specs.declared.filter.Asked.TheVariants.{Large}
use Rattle.term_model.specs.declared.request.Head.{Head}
use Rattle.term_model.specs.declared.request.IdRef.TheVariants.{Local}
use Rattle.term_model.specs.declared.request.Named.TheVariants.{NonSpecific}
use Rattle.term_model.specs.declared.request.Request.{Request}
use Rattle.term_model.specs.declared.request.Request.TheVariants.{Delete, Get}
use Rattle.term_model.specs.declared.schema.Set.{Set}
use Rattle.term_model.specs.declared.scope.Scope.TheVariants.{Plain}
use Rattle.agent_model.specs.AgentLimits.{shipped}
use Rattle.agent_model.specs.AgentState.{is_closed_state, is_live_state}
use Rattle.agent_model.specs.Performing.{nothing_sent}
use Rattle.agent_steps.specs.Admitting.{AreCounted, count_live, is_admitted, is_live, with_all_taken}
use Rattle.agent_steps.specs.Answering.{answered}
use Rattle.agent_steps.specs.Asking.{has_unbuilt}
use Rattle.agent_steps.specs.States.{agent_of, has_state, moment_of_grant, sent_to}
use Rattle.agent_steps.proofs.AdmittingLaws.{counted_admitted, none_counted}

-- records of no document
abbrev no_records : Set
no_records = record {
  classes = [];
  attributes = [];
  groups = [];
  bindings = [];
  actions = [];
  notifications = [];
  rules = [];
  instances = [];
  system = [];
}

-- the association of a manager with the title 2.999.11.1, and one that was turned away
abbrev manager : AssociationState → ℕ → Association
manager state taken = record {
  title = Some (2 ∷ 999 ∷ 11 ∷ 1 ∷ []);
  state = state;
  next_own = pos 1;
  placed = 0x0A ∷ 0x01 ∷ 0x00 ∷ [];
  taken = taken;
}

abbrev turned_away : Association
turned_away = record { title = None; state = Finished; next_own = pos 1; placed = []; taken = 0 }

admitted_while_live : is_admitted (manager Live 0) ≡ true
admitted_while_live = refl

not_once_closed : is_admitted (manager (Closed End) 0) ≡ false
not_once_closed = refl

not_where_turned_away : is_admitted turned_away ≡ false
not_where_turned_away = refl

one_is_counted : AreCounted (manager Live 0 ∷ []) 1 1 (1 ∷ [])
one_is_counted = counted_admitted [] 0 0 [] (manager Live 0) refl refl none_counted

one_of_three_is_live : count_live (manager Live 0 ∷ turned_away ∷ manager (Closed End) 0 ∷ []) ≡ 1
one_of_three_is_live = refl

no_more_than_live : (is_live (manager Live 0) ≡ true) × (is_live turned_away ≡ false)
no_more_than_live = (refl, refl)

all_three_octets_taken : with_all_taken (manager Live 1) ≡ manager Live 3
all_three_octets_taken = refl

-- an operation of the second association
abbrev head : Head
head = record {
  class = Local (pos 0);
  base = record { raw = []; named = NonSpecific };
  sync = pos 0;
  scope = Plain (pos 0);
  filter = Large;
}

abbrev asking : Request → OperationState → AgentState
asking request state =
    agent_of no_records shipped [] (manager (Closed End) 3 ∷ manager Live 3 ∷ [])
    (record { work = Asked 2 (pos 7) request; state = state } ∷ []) 5

first_is_closed : has_state is_closed_state (asking (Get head None) (Granted 60)) 1 ≡ true
first_is_closed = refl

second_is_live : has_state is_live_state (asking (Get head None) (Granted 60)) 2 ≡ true
second_is_live = refl

there_is_no_third : has_state is_closed_state (asking (Get head None) (Granted 60)) 3 ≡ false
there_is_no_third = refl

granted_after_a_minute : moment_of_grant (asking (Get head None) (Granted 60)) 1 ≡ Some 60
granted_after_a_minute = refl

no_moment_once_ended : moment_of_grant (asking (Get head None) (Ended 4)) 1 ≡ None
no_moment_once_ended = refl

get_is_built : has_unbuilt (asking (Get head None) (Granted 60)) ≡ false
get_is_built = refl

delete_is_not : has_unbuilt (asking (Delete head) (Granted 60)) ≡ true
delete_is_not = refl

nothing_for_none : sent_to None ≡ []
nothing_for_none = refl

two_octets_for_one : sent_to (Some (2, 0x0A ∷ 0x00 ∷ [])) ≡ (2, 0x0A ∷ 0x00 ∷ []) ∷ []
two_octets_for_one = refl

no_third_is_answered : answered (asking (Get head None) (Granted 60)) 3 (pos 7) (pos 3) []
    ≡ nothing_sent (asking (Get head None) (Granted 60))
no_third_is_answered = refl
