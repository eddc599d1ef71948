-- Binding: what a BIND is answered. Its answer is accepted(0), titleInUse(1), badBind(2) or tooMany(3), of several causes
-- of a refusal the one that is tried first: badBind, tooMany, titleInUse; docs/PROFILE.md, sections 4 and 7.
use Rattle.std.specs.Prelude.{ℕ, pos, List, [], Bool, false, not, ◌&&◌, ◌==◌, Option, None, count_by}
use Rattle.std.specs.Prelude.{nat_le, if◌then◌else◌}
use Rattle.std.specs.List.{list_any}
use Rattle.std.specs.Option.{option_map_or}
use Rattle.agent_model.specs.declared.agent_state.AgentState.{AgentState}
use Rattle.agent_model.specs.declared.agent_state.Association.{Association}
use Rattle.agent_model.specs.declared.agent_state.AssociationState.TheVariants as association
use Rattle.agent_model.specs.AgentState.{is_closed_state}
use Rattle.term_model.specs.Comparing.{is_same_oid}

abbrev pub accepted : ℕ
accepted = 0

abbrev pub title_in_use : ℕ
title_in_use = 1

abbrev pub bad_bind : ℕ
bad_bind = 2

abbrev pub too_many : ℕ
too_many = 3

abbrev pub is_open : Association → Bool
is_open a = not (is_closed_state a.state)

-- how many associations are not closed; those that were turned away count until they are closed
abbrev pub count_open : List Association → ℕ
count_open associations = count_by is_open associations

-- an association that was admitted and is not closed has this title; one that was turned away has none
abbrev pub has_title : List ℕ → Association → Bool
has_title title a = is_open a && option_map_or (is_same_oid title) a.title false

-- what a manager with this title is answered, where the octets are a BIND
abbrev pub titled_answer : AgentState → List ℕ → ℕ
titled_answer agent title =
    if nat_le agent.limits.associations (count_open agent.associations) then too_many
    else (if list_any (has_title title) agent.associations then title_in_use else accepted)

abbrev pub answer_to : AgentState → Option (List ℕ) → ℕ
answer_to agent title = option_map_or (titled_answer agent) title bad_bind

-- the association, before its answer is placed; one that is turned away has no title and is finished at once
abbrev pub associated : ℕ → Option (List ℕ) → Association
associated answer title =
    if answer == accepted
    then record { title = title; state = association.Live; next_own = pos 1; placed = []; taken = 0 }
    else record { title = None; state = association.Finished; next_own = pos 1; placed = []; taken = 0 }
