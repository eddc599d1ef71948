-- Examples of what the agent holds and of which entries may stand next, computed; docs/PROFILE.md, section 7.
use Rattle.std.specs.Prelude.{◌≡◌, ℕ, pos, true, false, [], ◌∷◌, None, Some, refl}
use Rattle.term_values.specs.Typed.TypedSlots.{Empty, Filled, NoSlots}
use Rattle.term_values.specs.Typed.TypedValue.{Raw}
use Rattle.agent_model.specs.declared.agent_state.AgentState.{AgentState}
use Rattle.agent_model.specs.declared.agent_state.Association.{Association}
use Rattle.agent_model.specs.declared.agent_state.AssociationState.TheVariants as association
use Rattle.agent_model.specs.declared.agent_state.Operation.{Operation}
use Rattle.agent_model.specs.declared.agent_state.OperationState.TheVariants as operation
use Rattle.agent_model.specs.declared.agent_state.Work.TheVariants as work
use Rattle.agent_model.specs.declared.entry.Entry.TheVariants as entry
use Rattle.agent_model.specs.declared.entry.Why.TheVariants as why
use Rattle.agent_model.specs.AgentLimits.{shipped}
use Rattle.agent_model.specs.AgentState.{association_of, is_closed_state, left_to_take, numbered, outstanding}
use Rattle.term_model.specs.GetRequest.{get_request}
use Rattle.term_model.specs.SentApdus.{parameter_slot}
use Rattle.agent_model.specs.Step.{is_legal, may_close, may_take}
use Rattle.term_model.proofs.ExampleNetwork.{element_oid, network}

-- an association of which two octets are taken, and its Get of the root with the invoke id 7, which waits
abbrev live : Association
live = record {
  title = Some (2 ∷ 999 ∷ 11 ∷ 1 ∷ []);
  state = association.Live;
  next_own = pos 1;
  placed = 1 ∷ 2 ∷ 3 ∷ [];
  taken = 2;
}

abbrev asked : Operation
asked = record { work = work.Asked 1 (pos 7) (get_request element_oid []); state = operation.Waiting }

abbrev agent : AgentState
agent = record {
  schema = network;
  limits = shipped;
  objects = [];
  associations = live ∷ [];
  operations = asked ∷ [];
  waiting = [];
  entries = 4;
}

-- numbers count from 1
first_association : association_of agent 1 ≡ Some live
first_association = refl

no_association : association_of agent 0 ≡ None
no_association = refl

second_numbered : numbered {T = ℕ} (5 ∷ 6 ∷ []) 2 ≡ Some 6
second_numbered = refl

one_outstanding : outstanding agent 1 ≡ 1
one_outstanding = refl

none_of_another : outstanding agent 2 ≡ 0
none_of_another = refl

-- one octet is left to take, and none once the association is closed
one_left : left_to_take live ≡ 1
one_left = refl

none_of_closed : left_to_take (record live { state = association.Closed why.ReadFault }) ≡ 0
none_of_closed = refl

closed_by_overrun : is_closed_state association.Overrun ≡ true
closed_by_overrun = refl

-- all octets are taken, or 65,536 and more of them
all_taken : may_take 12 12 ≡ true
all_taken = refl

none_taken : may_take 0 0 ≡ false
none_taken = refl

part_taken : may_take 65536 65537 ≡ true
part_taken = refl

small_part : may_take 65535 65537 ≡ false
small_part = refl

too_many_taken : may_take 65538 65537 ≡ false
too_many_taken = refl

-- the last moment is the last second of the year 9998
granted_then : is_legal agent (entry.Granted 1 253370764799) ≡ true
granted_then = refl

granted_later : is_legal agent (entry.Granted 1 253370764800) ≡ false
granted_later = refl

-- an association that is live may fail, but doesn't end
may_fail : may_close agent 1 why.WriteFault live ≡ true
may_fail = refl

may_not_end : may_close agent 1 why.End live ≡ false
may_not_end = refl

-- a parameter is sent where it is there
no_parameter : parameter_slot None NoSlots ≡ Empty NoSlots
no_parameter = refl

short_parameter : parameter_slot (Some (5 ∷ 0 ∷ [])) NoSlots ≡ Filled (Raw (5 ∷ 0 ∷ [])) NoSlots
short_parameter = refl
