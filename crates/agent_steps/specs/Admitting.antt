-- Admitting: which associations were admitted and are not closed, and what is known of their numbers, and of how many
-- are live; docs/PROFILE.md, section 7.
use Rattle.std.specs.Prelude.{◌≡◌, ℕ, List, Bool, false, ◌&&◌, ◌==◌, count_by, is_some, length}
use Rattle.std.specs.List.{list_any}
use Rattle.std.specs.Option.{option_map_or}
use Rattle.agent_model.specs.declared.agent_state.Association.{Association}
use Rattle.agent_model.specs.AgentState.{is_live_state, numbered}
use Rattle.agent_model.specs.Binding.{count_open, is_open}

-- it is not closed, and was admitted; one that was turned away has no title
abbrev pub is_admitted : Association → Bool
is_admitted a = is_open a && is_some a.title

-- its manager may send
abbrev pub is_live : Association → Bool
is_live a = is_live_state a.state

abbrev pub count_live : List Association → ℕ
count_live associations = count_by is_live associations

-- so many associations are not closed, so many of them live, and under these numbers and no others those stand that were
-- admitted
pub record AreCounted (associations : List Association) (count live : ℕ) (admitted : List ℕ) : Type 0 where
  pub counted : count ≡ count_open associations
  pub living : live ≡ count_live associations
  pub told : (number : ℕ)
      → list_any (λ n. n == number) admitted ≡ option_map_or is_admitted (numbered associations number) false

-- all that was placed counts as taken
abbrev pub with_all_taken : Association → Association
with_all_taken a = record a { taken = length a.placed }
