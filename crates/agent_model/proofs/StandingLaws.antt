-- Where associations and operations stand in the state, and what changes of them do there.
use Rattle.std.proofs.Common.{◌≡◌, ℕ, zero, suc, ◌+◌, ◌-◌, ◌<◌, ◌≤◌, Bool, true, false, List, [], ◌∷◌, ◌++◌, length}
use Rattle.std.proofs.Common.{Option, Some, None, refl, sym, ap, ◌∙◌, ⊎_elim, arith}
use Rattle.std.specs.Prelude.{◌==◌, slice_get, slice_set, map, count_by, sum_by, if◌then◌else◌}
use Rattle.std.specs.Prelude.{option_and_then}
use Rattle.std.specs.Option.{option_map_or}
use Rattle.std.proofs.lemmas.Bool.{false≢true, cases_Bool, eqb-false, ne_eqb}
use Rattle.std.proofs.lemmas.List.Sums.{sum_by-cons}
use Rattle.std.proofs.lemmas.Option.{none-some, slice_get_past, slice_get_within, slice_get-get_or}
use Rattle.std.proofs.lemmas.List.{length-set, get_or-set_same, set_at}
use Rattle.agent_model.specs.declared.agent_state.AgentState.{AgentState}
use Rattle.agent_model.specs.declared.agent_state.Association.{Association}
use Rattle.agent_model.specs.declared.agent_state.Operation.{Operation}
use Rattle.agent_model.specs.declared.agent_state.OperationState.{OperationState}
use Rattle.agent_model.specs.declared.limits.Limits.{Limits}
use Rattle.term_model.specs.declared.schema.Set.{Set}
use Rattle.agent_model.specs.AgentState.{numbered, is_outstanding}
use Rattle.agent_model.specs.AgentState.{left_to_take, granted_moment, is_closed_state}
use Rattle.agent_model.specs.Step.{changed_association, changed_operation, ended_with, with_taken}

-- an item stands under a number
pub record StandsAt {T : Type 0} (items : List T) (number : ℕ) (item : T) : Type 0 where
  pub positive : 1 ≤ number
  pub within : number ≤ length items
  pub there : slice_get items (number - 1) ≡ Some item
  pub is : numbered items number ≡ Some item

some_passes : {T : Type 0} (test : T → Bool) (o : Option T) → option_map_or test o false ≡ true → (x : T) × (o ≡ Some x)
    × (test x ≡ true)
some_passes test None h = absurd (false≢true h)
some_passes test (Some x) h = (x, refl, h)

pub stands_from_some : {T : Type 0} (items : List T) (number : ℕ) (x : T) → numbered items number ≡ Some x
    → StandsAt items number x
stands_from_some {T} items number x h =
    ⊎_elim
    (λ (e : (number == 0) ≡ true). let none : ◌≡◌ {A = Option T} None (Some x) = rw e at h in absurd cc)
    (λ (e : (number == 0) ≡ false).
    let some : slice_get items (number - 1) ≡ Some x = rw e at h in
    let positive : number ≡ 0 → ⊥ = eqb-false number 0 e in
    let inside : number - 1 < length items = slice_get_within items (number - 1) x some in
    record { positive = omega arith; within = omega arith; there = some; is = h })
    (cases_Bool (number == 0))

-- what passes a test under a number stands there
pub stands_where_passed : {T : Type 0} (test : T → Bool) (items : List T) (number : ℕ)
    → option_map_or test (numbered items number) false ≡ true → (x : T) × StandsAt items number x × (test x ≡ true)
stands_where_passed test items number h = let p =
    some_passes test (numbered items number) h in (p.0, stands_from_some items number p.0 p.1, p.2)

pub changed_association_at : (associations : List Association) (number : ℕ) (change : Association → Association)
    (a : Association) → slice_get associations (number - 1) ≡ Some a
    → changed_association associations number change ≡ slice_set associations (number - 1) (change a)
changed_association_at associations number change a h = rw h refl

pub changed_operation_at : (operations : List Operation) (number : ℕ) (state : OperationState) (o : Operation)
    → slice_get operations (number - 1) ≡ Some o
    → changed_operation operations number state ≡ slice_set operations (number - 1) (record o { state = state })
changed_operation_at operations number state o h = rw h refl

slice_get_last : {T : Type 0} (items : List T) (item : T) → slice_get (items ++ item ∷ []) (length items) ≡ Some item
slice_get_last [] item = refl
slice_get_last (x ∷ items) item = slice_get_last items item

slice_get_set : {T : Type 0} (items : List T) (i : ℕ) (item : T) → i < length items
    → slice_get (slice_set items i item) i ≡ Some item
slice_get_set items i item h =
    slice_get-get_or (slice_set items i item) i item (omega (arith, length-set items i item))
    ∙ ap Some (get_or-set_same items i item item h)

numbered_get : {T : Type 0} (items : List T) (number i : ℕ) → number ≡ i + 1 → numbered items number ≡ slice_get items i
numbered_get items number i e = let d : number - 1 ≡ i = omega arith in rw (ne_eqb number 0 (λ z. omega arith), d) refl

-- the last item stands under the list's length
pub numbered_last : {T : Type 0} (items : List T) (item : T) (number : ℕ) → number ≡ length items + 1
    → numbered (items ++ item ∷ []) number ≡ Some item
numbered_last items item number e =
    numbered_get (items ++ item ∷ []) number (length items) e ∙ slice_get_last items item

-- of one item, only it stands under a number, which is 1
pub numbered_alone : {T : Type 0} (item : T) (number : ℕ) (other : T) → numbered (item ∷ []) number ≡ Some other
    → (number ≡ 1) × (item ≡ other)
numbered_alone item zero other e = absurd (none-some other e)
numbered_alone item (suc zero) other e = (refl, cc)
numbered_alone item (suc (suc n)) other e =
    absurd (none-some other (sym (numbered_get (item ∷ []) (suc (suc n)) (n + 1) (omega arith)
    ∙ slice_get_past (item ∷ []) (n + 1) (omega arith)) ∙ e))

pub numbered_set : {T : Type 0} (items : List T) (number : ℕ) (item : T) → 1 ≤ number → number ≤ length items
    → numbered (slice_set items (number - 1) item) number ≡ Some item
numbered_set items number item p w =
    numbered_get (slice_set items (number - 1) item) number (number - 1) (omega arith)
    ∙ slice_get_set items (number - 1) item (omega arith)

-- a change of the last operation
pub changed_last : (operations : List Operation) (o : Operation) (number : ℕ) (state : OperationState)
    → number ≡ length operations + 1 → changed_operation (operations ++ o ∷ []) number state ≡ operations
    ++ (record o { state = state }) ∷ []
changed_last operations o number state e =
    let d : number - 1 ≡ length operations = omega arith in
    rw (d, slice_get_last operations o) (set_at operations o [] (record o { state = state }) (length operations) refl)

-- where none of an association's operations is outstanding, its end ends none
ended_alike : (number place : ℕ) (o : Operation) (rest : ℕ) → (if is_outstanding number o then 1 else 0) + rest ≡ 0
    → (ended_with number place o ≡ o) × (rest ≡ 0)
ended_alike number place o rest h =
    ⊎_elim
    (λ (e : is_outstanding number o ≡ true). absurd (let k = rw e at h in omega arith))
    (λ (e : is_outstanding number o ≡ false). (rw e refl, let k = rw e at h in omega arith))
    (cases_Bool (is_outstanding number o))

pub none_ended : (number place : ℕ) (operations : List Operation) → count_by (is_outstanding number) operations ≡ 0
    → map (ended_with number place) operations ≡ operations
none_ended number place [] h = refl
none_ended number place (o ∷ operations) h =
    let open_ : Operation → ℕ = λ p. if is_outstanding number p then 1 else 0 in
    let e = ended_alike number place o (sum_by open_ operations) (sym (sum_by-cons open_ o operations) ∙ h) in
    rw (e.0, none_ended number place operations e.1) refl

-- something is left only where an association stands
pub left_stands : (o : Option Association) (count : ℕ) → count ≡ option_map_or left_to_take o 0 → (count ≡ 0 → ⊥)
    → (a : Association) × (o ≡ Some a) × (left_to_take a ≡ count)
left_stands None count e some = absurd (some e)
left_stands (Some a) count e some = (a, refl, sym e)

-- where something is left and all of it is taken, all that was placed is taken
taken_whole : (a : Association) (count : ℕ) → left_to_take a ≡ count → (count ≡ 0 → ⊥)
    → length a.placed ≡ a.taken + count
taken_whole a count left some =
    ⊎_elim
    (λ (e : is_closed_state a.state ≡ true). let none : 0 ≡ count = rw e at left in absurd (some (sym none)))
    (λ (e : is_closed_state a.state ≡ false). let rest : length a.placed - a.taken ≡ count =
    rw e at left in omega arith)
    (cases_Bool (is_closed_state a.state))

pub taken_wholly : (associations : List Association) (number count : ℕ) (a : Association)
    → slice_get associations (number - 1) ≡ Some a → left_to_take a ≡ count → (count ≡ 0 → ⊥)
    → changed_association associations number
    (λ (b : Association). record b { taken = length b.placed }) ≡ changed_association associations number
    (with_taken count)
taken_wholly associations number count a there left some =
    changed_association_at associations number (λ (b : Association). record b { taken = length b.placed }) a there
    ∙ (ap (λ n. slice_set associations (number - 1) (record a { taken = n })) (taken_whole a count left some)
    ∙ sym (changed_association_at associations number (with_taken count) a there))

-- a granted operation is performed
pub granted_stands : (q : Option Operation) (moment : ℕ)
    → option_and_then (λ (o : Operation). granted_moment o.state) q ≡ Some moment → (o : Operation) × (q ≡ Some o)
    × (granted_moment o.state ≡ Some moment)
granted_stands None moment h = absurd cc
granted_stands (Some o) moment h = (o, refl, h)

-- no entry changes the records and the limits
abbrev pub ground_of : AgentState → Set × Limits
ground_of agent = (agent.schema, agent.limits)
