-- What stands under a number, once an item is pushed or changed.
use Rattle.std.proofs.Common.{◌≡◌, ℕ, zero, suc, ◌+◌, ◌-◌, ◌<◌, ◌≤◌, true, List, []}
use Rattle.std.proofs.Common.{◌∷◌, ◌++◌, length, Option, Some, None, ◌⊎◌}
use Rattle.std.proofs.Common.{refl, sym, ap, ◌∙◌, ⊎_elim, inl, inr, arith}
use Rattle.std.specs.Prelude.{is_some, slice_get, slice_set}
use Rattle.std.specs.Option.{option_map_or}
use Rattle.std.proofs.lemmas.Bool.{ne_eqb}
use Rattle.std.proofs.lemmas.Option.{none-some, same_Some}
use Rattle.agent_model.specs.declared.agent_state.Association.{Association}
use Rattle.agent_model.specs.AgentState.{numbered}
use Rattle.agent_model.specs.Step.{changed_association}
use Rattle.agent_model.proofs.StandingLaws.{changed_association_at, numbered_set, stands_from_some}

numbered_get : {T : Type 0} (items : List T) (number i : ℕ) → number ≡ i + 1 → numbered items number ≡ slice_get items i
numbered_get items number i e = let d : number - 1 ≡ i = omega arith in rw (ne_eqb number 0 (λ z. omega arith), d) refl

-- one more item
get_push : {T : Type 0} (xs : List T) (y : T) (i : ℕ) (a : T) → slice_get (xs ++ y ∷ []) i ≡ Some a
    → (slice_get xs i ≡ Some a) ⊎ ((i ≡ length xs) × (a ≡ y))
get_push [] y zero a e = inr (refl, sym (same_Some y a e))
get_push [] y (suc i) a e = absurd (none-some a e)
get_push (x ∷ xs) y zero a e = inl e
get_push (x ∷ xs) y (suc i) a e =
    ⊎_elim (λ h. inl h) (λ (h : (i ≡ length xs) × (a ≡ y)). inr (ap (λ n. suc n) h.0, h.1)) (get_push xs y i a e)

pub numbered_push : {T : Type 0} (xs : List T) (y : T) (k : ℕ) (a : T) → numbered (xs ++ y ∷ []) k ≡ Some a
    → (numbered xs k ≡ Some a) ⊎ ((k ≡ length xs + 1) × (a ≡ y))
numbered_push xs y zero a e = absurd (none-some a e)
numbered_push xs y (suc i) a e =
    ⊎_elim
    (λ (h : slice_get xs i ≡ Some a). inl (numbered_get xs (suc i) i (omega arith) ∙ h))
    (λ (h : (i ≡ length xs) × (a ≡ y)). let at = h.0 in inr (omega arith, h.1))
    (get_push xs y i a (sym (numbered_get (xs ++ y ∷ []) (suc i) i (omega arith)) ∙ e))

-- one item changed
get_set_other : {T : Type 0} (xs : List T) (i j : ℕ) (y : T) → (i ≡ j → ⊥)
    → slice_get (slice_set xs i y) j ≡ slice_get xs j
get_set_other [] i j y other = refl
get_set_other (x ∷ xs) zero zero y other = absurd (other refl)
get_set_other (x ∷ xs) zero (suc j) y other = refl
get_set_other (x ∷ xs) (suc i) zero y other = refl
get_set_other (x ∷ xs) (suc i) (suc j) y other = get_set_other xs i j y (λ e. other (ap (λ n. suc n) e))

set_other : (xs : List Association) (i j : ℕ) (change : Association → Association) (o : Option Association)
    → (i ≡ j → ⊥) → slice_get (option_map_or (λ a. slice_set xs i (change a)) o xs) j ≡ slice_get xs j
set_other xs i j change None other = refl
set_other xs i j change (Some a) other = get_set_other xs i j (change a) other

pub changed_other : (xs : List Association) (number k : ℕ) (change : Association → Association) → 1 ≤ number
    → (k ≡ number → ⊥) → numbered (changed_association xs number change) k ≡ numbered xs k
changed_other xs number zero change some other = refl
changed_other xs number (suc j) change some other =
    numbered_get (changed_association xs number change) (suc j) j (omega arith)
    ∙ (set_other xs (number - 1) j change (slice_get xs (number - 1)) (λ e. other (omega arith))
    ∙ sym (numbered_get xs (suc j) j (omega arith)))

pub changed_own : (xs : List Association) (number : ℕ) (change : Association → Association) (a : Association)
    → numbered xs number ≡ Some a → numbered (changed_association xs number change) number ≡ Some (change a)
changed_own xs number change a e =
    let s = stands_from_some xs number a e in
    ap (λ ys. numbered ys number) (changed_association_at xs number change a s.there)
    ∙ numbered_set xs number (change a) s.positive s.within

-- up to the last one something stands
get_within : {T : Type 0} (xs : List T) (i : ℕ) → i < length xs → is_some (slice_get xs i) ≡ true
get_within [] i h = absurd (omega arith)
get_within (x ∷ xs) zero h = refl
get_within (x ∷ xs) (suc i) h = get_within xs i (omega arith)

pub some_there : {T : Type 0} (xs : List T) (i : ℕ) → i < length xs → is_some (numbered xs (i + 1)) ≡ true
some_there xs i h = ap (λ o. is_some o) (numbered_get xs (i + 1) i refl) ∙ get_within xs i h
