-- What was placed for an association begins what is placed for it later.
use Rattle.std.proofs.Common.{◌≡◌, ℕ, zero, suc, ◌-◌, Bool, true, false, List, [], ◌∷◌, ◌++◌, Option, Some, None}
use Rattle.std.proofs.Common.{refl, sym, ap, ◌∙◌, append_assoc, subst}
use Rattle.std.specs.Prelude.{ℤ, ◌==◌, slice_get, slice_set, if◌then◌else◌}
use Rattle.std.specs.Option.{option_map_or}
use Rattle.std.proofs.lemmas.List.{append-nil}
use Rattle.std.proofs.lemmas.Option.{same_Some}
use Rattle.agent_model.specs.declared.agent_state.AgentState.{AgentState}
use Rattle.agent_model.specs.declared.agent_state.Association.{Association}
use Rattle.agent_model.specs.declared.agent_state.AssociationState.{AssociationState}
use Rattle.agent_model.specs.AgentState.{association_of, numbered}
use Rattle.agent_model.specs.Step.{changed_association, with_placed, with_state, with_taken}
use Rattle.agent_model.specs.Performing.{with_own}

-- a list of octets begins another
pub record Begins (shorter longer : List ℕ) : Type 0 where
  pub rest : List ℕ
  pub whole : longer ≡ shorter ++ rest

pub begins_itself : (xs : List ℕ) → Begins xs xs
begins_itself xs = record { rest = []; whole = sym (append-nil xs) }

pub begins_through : (xs ys zs : List ℕ) → Begins xs ys → Begins ys zs → Begins xs zs
begins_through xs ys zs p q = record {
  rest = p.rest ++ q.rest;
  whole = q.whole ∙ (ap (λ l. l ++ q.rest) p.whole ∙ append_assoc xs p.rest q.rest);
}

-- a change that takes nothing of what was placed
abbrev pub Grows : (Association → Association) → Type 0
Grows change = (a : Association) → Begins a.placed (change a).placed

pub placed_grows : (bytes : List ℕ) → Grows (with_placed bytes)
placed_grows bytes a = record { rest = bytes; whole = refl }

pub taken_grows : (count : ℕ) → Grows (with_taken count)
taken_grows count a = begins_itself a.placed

pub state_grows : (state : AssociationState) → Grows (with_state state)
state_grows state a = begins_itself a.placed

pub own_grows : (own : ℤ) → Grows (with_own own)
own_grows own a = begins_itself a.placed

-- what was placed for the association at an index, and for the one under a number
abbrev placed_of : Option Association → List ℕ
placed_of o = option_map_or (λ (a : Association). a.placed) o []

abbrev pub placed_in : AgentState → ℕ → List ℕ
placed_in agent k = placed_of (association_of agent k)

numbered_begins_if : (b : Bool) (o p : Option Association) → Begins (placed_of o) (placed_of p)
    → Begins (placed_of (if b then None else o)) (placed_of (if b then None else p))
numbered_begins_if true o p h = begins_itself []
numbered_begins_if false o p h = h

numbered_begins : (before after : List Association) (k : ℕ)
    → ((i : ℕ) → Begins (placed_of (slice_get before i)) (placed_of (slice_get after i)))
    → Begins (placed_of (numbered before k)) (placed_of (numbered after k))
numbered_begins before after k h =
    numbered_begins_if (k == 0) (slice_get before (k - 1)) (slice_get after (k - 1)) (h (k - 1))

-- a new association changes none of the others
more_begins_at : (associations : List Association) (a : Association) (i : ℕ)
    → Begins (placed_of (slice_get associations i)) (placed_of (slice_get (associations ++ a ∷ []) i))
more_begins_at [] a i = record { rest = placed_of (slice_get (a ∷ []) i); whole = refl }
more_begins_at (x ∷ associations) a zero = begins_itself x.placed
more_begins_at (x ∷ associations) a (suc i) = more_begins_at associations a i

pub more_begins : (associations : List Association) (a : Association) (k : ℕ)
    → Begins (placed_of (numbered associations k)) (placed_of (numbered (associations ++ a ∷ []) k))
more_begins associations a k =
    numbered_begins associations (associations ++ a ∷ []) k (more_begins_at associations a)

-- a change that takes nothing changes none of the others
module _ (change : Association → Association) (grows : Grows change) where
  set_begins : (associations : List Association) (j i : ℕ) (a : Association) → slice_get associations j ≡ Some a
      → Begins (placed_of (slice_get associations i)) (placed_of (slice_get (slice_set associations j (change a)) i))
  set_begins [] j i a e = begins_itself []
  set_begins (x ∷ associations) zero zero a e =
      subst (λ (y : Association). Begins x.placed (change y).placed) (same_Some x a e) (grows x)
  set_begins (x ∷ associations) zero (suc i) a e = begins_itself (placed_of (slice_get associations i))
  set_begins (x ∷ associations) (suc j) zero a e = begins_itself x.placed
  set_begins (x ∷ associations) (suc j) (suc i) a e = set_begins associations j i a e

  change_begins_at : (associations : List Association) (j i : ℕ) (o : Option Association) → slice_get associations j ≡ o
      → Begins (placed_of (slice_get associations i))
      (placed_of (slice_get (option_map_or (λ a. slice_set associations j (change a)) o associations) i))
  change_begins_at associations j i None e = begins_itself (placed_of (slice_get associations i))
  change_begins_at associations j i (Some a) e = set_begins associations j i a e

  pub change_begins : (associations : List Association) (number k : ℕ)
      → Begins (placed_of (numbered associations k))
      (placed_of (numbered (changed_association associations number change) k))
  change_begins associations number k =
      numbered_begins associations (changed_association associations number change) k
      (λ i. change_begins_at associations (number - 1) i (slice_get associations (number - 1)) refl)
