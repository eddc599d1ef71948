-- Each entry leaves well-formed objects: an operation does, and no other entry changes any.
use Rattle.std.proofs.Common.{◌≡◌, ℕ, ℤ, Bool, true, false, List, [], ◌∷◌, Option, Some, None, refl, sym, ap, subst}
use Rattle.std.specs.Prelude.{if◌then◌else◌}
use Rattle.std.specs.Option.{option_map_or}
use Rattle.agent_model.specs.declared.agent_state.AgentState.{AgentState}
use Rattle.agent_model.specs.declared.agent_state.Association.{Association}
use Rattle.agent_model.specs.declared.agent_state.Operation.{Operation}
use Rattle.agent_model.specs.declared.agent_state.Work.{Work}
use Rattle.agent_model.specs.declared.agent_state.Work.TheVariants as work
use Rattle.agent_model.specs.declared.entry.Entry.{Entry}
use Rattle.agent_model.specs.declared.entry.Entry.TheVariants as entry
use Rattle.agent_model.specs.declared.limits.Limits.{Limits}
use Rattle.term_model.specs.declared.reply.Reply.{Reply}
use Rattle.term_model.specs.declared.request.Request.{Request}
use Rattle.term_model.specs.declared.schema.Set.{Set}
use Rattle.agent_model.specs.AgentState.{association_of, granted_moment, operation_of}
use Rattle.agent_model.specs.Step.{is_legal}
use Rattle.term_model.specs.WellFormedObjects.{AreGood}
use Rattle.operation_model.specs.WholeOperation.{Outcome, outcome}
use Rattle.op_install.proofs.Staying.{outcomes_stay_good}
use Rattle.agent_model.specs.Journals.{replayed}
use Rattle.agent_model.specs.Performing.{carried_out, concluding, frames_to, is_confirmed, nothing_sent, sending}
use Rattle.agent_model.specs.Stepping.{after_effect, effect, performing, step}
use Rattle.agent_model.proofs.KeepingLaws.{CommitsNone}
use Rattle.agent_model.proofs.PlacingLaws.{placed_keeps}
use Rattle.agent_model.proofs.StepLaws.{step_ground, step_objects}
use Rattle.script_playing.specs.GoodObjects.{ObjectsStayGood}

-- an answer leaves the objects as they are
answer_objects : (agent : AgentState) (number : ℕ) (invoke : ℤ) (asked : Request) (replies : List Reply)
    (o : Option Association) (b : Bool)
    → (if b then option_map_or (λ a. sending agent number (frames_to invoke asked replies a)) o (nothing_sent agent)
    else nothing_sent agent).agent.objects ≡ agent.objects
answer_objects agent number invoke asked replies None true = refl
answer_objects agent number invoke asked replies (Some a) true = refl
answer_objects agent number invoke asked replies o false = refl

told_good : (agent : AgentState) (number : ℕ) (invoke : ℤ) (asked : Request) (moment : ℕ) (q : Option Outcome)
    → AreGood agent.schema agent.objects → outcome agent.schema agent.objects asked moment ≡ q
    → AreGood agent.schema (option_map_or (concluding agent number invoke asked) q (nothing_sent agent)).agent.objects
told_good agent number invoke asked moment None good e = good
told_good agent number invoke asked moment (Some told) good e =
    subst (AreGood agent.schema)
    (sym (answer_objects (record agent { objects = told.objects }) number invoke asked told.replies
    (association_of agent number) (is_confirmed asked)))
    (outcomes_stay_good agent.schema agent.objects asked moment told good e)

carried_good : (agent : AgentState) (w : Work) (moment : ℕ) → AreGood agent.schema agent.objects
    → AreGood agent.schema (carried_out agent w moment).agent.objects
carried_good agent (work.Asked number invoke asked) moment good =
    told_good agent number invoke asked moment (outcome agent.schema agent.objects asked moment) good refl
carried_good agent (work.Append log own) moment good = good

granted_good : (agent : AgentState) (number : ℕ) (o : Operation) (moment : Option ℕ)
    → AreGood agent.schema agent.objects
    → AreGood agent.schema (option_map_or (performing agent number o.work) moment (nothing_sent agent)).agent.objects
granted_good agent number o None good = good
granted_good agent number o (Some moment) good = carried_good agent o.work moment good

committed_good : (agent : AgentState) (number : ℕ) (found : Option Operation) → AreGood agent.schema agent.objects
    → AreGood agent.schema (option_map_or (λ (o : Operation).
    option_map_or (performing agent number o.work) (granted_moment o.state) (nothing_sent agent)) found
    (nothing_sent agent)).agent.objects
committed_good agent number None good = good
committed_good agent number (Some o) good = granted_good agent number o (granted_moment o.state) good

-- placing bytes does too
either_good : (b : Bool) (schema : Set) (agent one : AgentState) → AreGood schema agent.objects
    → AreGood schema one.objects → AreGood schema (if b then one else agent).objects
either_good true schema agent one h k = k
either_good false schema agent one h k = h

commit_good : (agent : AgentState) (number : ℕ) → AreGood agent.schema agent.objects
    → AreGood agent.schema (step agent (entry.Committed number)).objects
unfolding step
commit_good agent number good =
    let done = effect agent (entry.Committed number) in
    either_good (is_legal agent (entry.Committed number)) agent.schema agent (after_effect done) good
    (subst (AreGood agent.schema) (sym (placed_keeps done.agent done.sent).objects_stay)
    (committed_good agent number (operation_of agent number) good))

plain_good : (agent : AgentState) (next : Entry) → CommitsNone next → AreGood agent.schema agent.objects
    → AreGood agent.schema (step agent next).objects
plain_good agent next none good = subst (AreGood agent.schema) (sym (step_objects agent next none)) good

step_good : (agent : AgentState) (next : Entry) → AreGood agent.schema agent.objects
    → AreGood agent.schema (step agent next).objects
step_good agent (entry.Opened number bind) = plain_good agent (entry.Opened number bind) tt
step_good agent (entry.Arrived number apdu) = plain_good agent (entry.Arrived number apdu) tt
step_good agent (entry.Begun number log) = plain_good agent (entry.Begun number log) tt
step_good agent (entry.Granted number moment) = plain_good agent (entry.Granted number moment) tt
step_good agent (entry.Committed number) = commit_good agent number
step_good agent (entry.Starved number) = plain_good agent (entry.Starved number) tt
step_good agent (entry.Taken number count) = plain_good agent (entry.Taken number count) tt
step_good agent (entry.Finished number) = plain_good agent (entry.Finished number) tt
step_good agent (entry.Closed number cause) = plain_good agent (entry.Closed number cause) tt

-- so does a journal
same_schema : (agent : AgentState) (next : Entry) → (step agent next).schema ≡ agent.schema
same_schema agent next = ap (λ (g : Set × Limits). g.0) (step_ground agent next)

pub objects_stay_good : ObjectsStayGood
objects_stay_good agent [] good = good
objects_stay_good agent (next ∷ others) good =
    let same = same_schema agent next in
    let after = step agent next in
    subst (λ schema. AreGood schema (replayed after others).objects) same
    (objects_stay_good after others (subst (λ schema. AreGood schema after.objects) (sym same)
    (step_good agent next good)))
