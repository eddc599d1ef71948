-- What the code does of an entry is the step.
use Rattle.std.proofs.Common.{◌≡◌, ℕ, ◌+◌, true, false, List, [], ◌∷◌, ◌++◌, length}
use Rattle.std.proofs.Common.{Option, Some, refl}
use Rattle.std.proofs.Common.{sym, ap, ◌∙◌, ⊎_elim}
use Rattle.std.specs.Prelude.{ℤ, ◌==◌}
use Rattle.std.proofs.Math.Path.{fun_ext}
use Rattle.std.proofs.lemmas.Bool.{cases_Bool}
use Rattle.agent_model.specs.declared.agent_state.AgentState.{AgentState}
use Rattle.agent_model.specs.declared.agent_state.Association.{Association}
use Rattle.agent_model.specs.declared.agent_state.Operation.{Operation}
use Rattle.agent_model.specs.declared.entry.Entry.TheVariants as entry
use Rattle.agent_model.specs.AgentState.{granted_moment, operation_of}
use Rattle.term_model.specs.Arriving.{Arriving}
use Rattle.term_model.specs.Arriving.Arriving.{Cancels}
use Rattle.agent_model.specs.Bind.{bind_answer, title_in}
use Rattle.term_model.specs.RemoteOperation.{frame, integer}
use Rattle.agent_model.specs.Step.{counted, ended, is_legal, no_such_invoke_id}
use Rattle.agent_model.specs.Binding.{accepted, answer_to, associated, is_open}
use Rattle.agent_model.specs.Performing.{Done, carried_out}
use Rattle.agent_model.specs.Placing.{placed}
use Rattle.agent_model.specs.Receiving.{is_in_use, received_where}
use Rattle.agent_model.specs.Stepping.{cancelled_where, sending_to, sent_error, step, taken_in}
use Rattle.agent_model.proofs.StepLaws.{committed_at, next_opens, step_legal}
use Rattle.apdu_receiving.specs.Arrivals.{is_listed}
use Rattle.agent_steps.specs.States.{IsIdle, sent_to}
use Rattle.agent_steps.proofs.AskingLaws.{none_in_use, none_is_named}

-- an association is not closed when it is added
pub associated_open : (answer : ℕ) (title : Option (List ℕ)) → is_open (associated answer title) ≡ true
associated_open answer title =
    ⊎_elim (λ (e : (answer == accepted) ≡ true). rw e refl) (λ (e : (answer == accepted) ≡ false). rw e refl)
    (cases_Bool (answer == accepted))

-- an association is opened
pub open_steps : (agent : AgentState) (bind : List ℕ) (title : Option (List ℕ)) (answer number : ℕ) (bytes : List ℕ)
    (added : Association) (pushed sent : AgentState) → title ≡ title_in bind → answer ≡ answer_to agent title
    → number ≡ length agent.associations + 1 → bytes ≡ frame (bind_answer answer number)
    → added ≡ associated answer title → pushed ≡ record agent { associations = agent.associations ++ added ∷ [] }
    → sent ≡ placed pushed ((number, bytes) ∷ [])
    → counted sent ≡ step agent (entry.Opened (length agent.associations + 1) bind)
open_steps agent bind title answer number bytes added pushed sent e1 e2 e3 e4 e5 e6 e7 =
    rw (e7, e6, e5, e4, e3, e2, e1)
    (sym (step_legal agent (entry.Opened (length agent.associations + 1) bind) (next_opens agent bind)))

-- an APDU comes while no operation is outstanding
pub none_used : (agent : AgentState) (number : ℕ) → IsIdle agent → is_in_use agent number ≡ is_listed []
none_used agent number idle = fun_ext (λ id. none_in_use number id agent.operations idle)

pub arrive_steps : (agent : AgentState) (number : ℕ) (apdu : List ℕ) (brings : Arriving) (after sent : AgentState)
    (sending : Option (ℕ × List ℕ)) → is_legal agent (entry.Arrived number apdu) ≡ true → IsIdle agent
    → brings ≡ received_where agent.schema (is_listed []) apdu
    → (let done : Done = record { agent = after; sent = sent_to sending } in done) ≡ taken_in agent number brings
    → sent ≡ placed after (sent_to sending) → counted sent ≡ step agent (entry.Arrived number apdu)
arrive_steps agent number apdu brings after sent sending legal idle is does e =
    ap counted e
    ∙ (ap (λ (done : Done). counted (placed done.agent done.sent)) (does ∙ ap (taken_in agent number) (is
    ∙ ap (λ test. received_where agent.schema test apdu) (sym (none_used agent number idle))))
    ∙ sym (step_legal agent (entry.Arrived number apdu) legal))

-- m-Cancel-Get then finds nothing
pub cancels_none : (agent : AgentState) (number : ℕ) (id cancelled : ℤ) → IsIdle agent
    → sending_to number (sent_error id no_such_invoke_id (Some (integer cancelled))) agent
    ≡ taken_in agent number (Cancels id cancelled)
cancels_none agent number id cancelled idle =
    sym (ap (cancelled_where agent number id cancelled) (none_is_named number cancelled agent.operations idle))

-- a granted operation is carried out
pub commit_steps : (agent : AgentState) (number moment : ℕ) (o : Operation) (after done sent : AgentState)
    (sending : Option (ℕ × List ℕ)) → operation_of agent number ≡ Some o → granted_moment o.state ≡ Some moment
    → (let made : Done = record { agent = after; sent = sent_to sending } in made) ≡ carried_out agent o.work moment
    → done ≡ ended after number → sent ≡ placed done (sent_to sending)
    → counted sent ≡ step agent (entry.Committed number)
commit_steps agent number moment o after done sent sending is at does e1 e2 =
    ap counted (e2 ∙ ap (λ s. placed s (sent_to sending)) e1)
    ∙ (ap (λ (made : Done). counted (placed (ended made.agent number) made.sent)) does
    ∙ sym (committed_at agent number moment o is at))
