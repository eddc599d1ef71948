-- What a granted operation does, by what its performing told.
use Rattle.std.proofs.Common.{◌≡◌, ℕ, true, List, [], ◌∷◌, ◌++◌, Option, Some, None, refl, sym}
use Rattle.std.proofs.Common.{ap, ◌∙◌, append_assoc}
use Rattle.std.specs.Prelude.{ℤ, option_and_then}
use Rattle.std.specs.Option.{option_map, option_map_or}
use Rattle.std.proofs.lemmas.List.{append-nil}
use Rattle.std.proofs.lemmas.Option.{same_Some}
use Rattle.agent_model.specs.declared.agent_state.AgentState.{AgentState}
use Rattle.agent_model.specs.declared.agent_state.Association.{Association}
use Rattle.agent_model.specs.declared.agent_state.Operation.{Operation}
use Rattle.agent_model.specs.declared.agent_state.Work.TheVariants.{Asked}
use Rattle.term_model.specs.declared.objects.NamedObject.{NamedObject}
use Rattle.term_model.specs.declared.reply.Reply.{Reply}
use Rattle.term_model.specs.declared.request.Request.{Request}
use Rattle.agent_model.specs.AgentState.{association_of, granted_moment, operation_of}
use Rattle.term_model.specs.Operation.{operation_number, own_behind, replied}
use Rattle.term_model.specs.SentApdus.{sent_reply}
use Rattle.agent_model.specs.Step.{changed_association}
use Rattle.operation_model.specs.WholeOperation.{Outcome, outcome}
use Rattle.agent_model.specs.Performing.{Done, carried_out, is_confirmed, nothing_sent, sending, with_own}
use Rattle.agent_steps.specs.Answering.{answered}
use Rattle.agent_steps.specs.States.{moment_of_grant}

-- one more reply, and the last one
pub octets_next : (invoke operation own : ℤ) (x : Reply) (xs rest : List Reply) (before after whole : List ℕ)
    → xs ≡ x ∷ rest → after ≡ before ++ sent_reply invoke operation own x
    → whole ≡ before ++ (replied invoke operation own xs).octets
    → whole ≡ after ++ (replied invoke operation (own_behind own x) rest).octets
octets_next invoke operation own x xs rest before after whole e1 e2 e3 =
    e3 ∙ (ap (λ ys. before ++ (replied invoke operation own ys).octets) e1
    ∙ (sym (append_assoc before (sent_reply invoke operation own x)
    (replied invoke operation (own_behind own x) rest).octets)
    ∙ ap (λ bs. bs ++ (replied invoke operation (own_behind own x) rest).octets) (sym e2)))

pub own_next : (invoke operation own : ℤ) (x : Reply) (xs rest : List Reply) (whole : ℤ) → xs ≡ x ∷ rest
    → whole ≡ (replied invoke operation own xs).own → whole ≡ (replied invoke operation (own_behind own x) rest).own
own_next invoke operation own x xs rest whole e1 e2 = e2 ∙ ap (λ ys. (replied invoke operation own ys).own) e1

pub octets_last : (invoke operation own : ℤ) (xs : List Reply) (before whole : List ℕ) → xs ≡ []
    → whole ≡ before ++ (replied invoke operation own xs).octets → before ≡ whole
octets_last invoke operation own xs before whole e1 e2 =
    sym (e2 ∙ (ap (λ ys. before ++ (replied invoke operation own ys).octets) e1 ∙ append-nil before))

pub own_last : (invoke operation own : ℤ) (xs : List Reply) (whole : ℤ) → xs ≡ []
    → whole ≡ (replied invoke operation own xs).own → own ≡ whole
own_last invoke operation own xs whole e1 e2 =
    sym (e2 ∙ ap (λ ys. (replied invoke operation own ys).own) e1)

-- where the association stands
pub answered_at : (agent : AgentState) (number : ℕ) (invoke operation : ℤ) (replies : List Reply) (a : Association)
    (octets : List ℕ) (own : ℤ) (after : AgentState) → association_of agent number ≡ Some a
    → octets ≡ (replied invoke operation a.next_own replies).octets
    → own ≡ (replied invoke operation a.next_own replies).own
    → after ≡ record agent { associations = changed_association agent.associations number (with_own own) }
    → (let done : Done = record { agent = after; sent = (number, octets) ∷ [] } in done)
    ≡ answered agent number invoke operation replies
answered_at agent number invoke operation replies a octets own after is e1 e2 e3 =
    rw (e3, e1, e2)
    (sym (ap (λ o. option_map_or (λ (b : Association).
    sending agent number (replied invoke operation b.next_own replies)) o (nothing_sent agent)) is))

-- an operation that was granted
pub granted_stands : (agent : AgentState) (number moment : ℕ) → moment_of_grant agent number ≡ Some moment
    → (o : Operation) × (operation_of agent number ≡ Some o) × (granted_moment o.state ≡ Some moment)
granted_stands agent number moment h = granted_in (operation_of agent number) moment h
  where
    granted_in : (q : Option Operation) (m : ℕ)
        → option_and_then (λ (o : Operation). granted_moment o.state) q ≡ Some m
        → (o : Operation) × (q ≡ Some o) × (granted_moment o.state ≡ Some m)
    granted_in None m e = absurd cc
    granted_in (Some o) m e = (o, refl, e)

-- what performing told
pub told_outcome : (told : Option Outcome) (replies : List Reply)
    → Some replies ≡ option_map (λ (left : Outcome). left.replies) told
    → (left : Outcome) × (told ≡ Some left) × (replies ≡ left.replies)
told_outcome None replies h = absurd cc
told_outcome (Some left) replies h = (left, refl, same_Some replies left.replies h)

carried_confirmed : (agent : AgentState) (number : ℕ) (invoke : ℤ) (asked : Request) (moment : ℕ) (left : Outcome)
    → outcome agent.schema agent.objects asked moment ≡ Some left → is_confirmed asked ≡ true
    → answered (record agent { objects = left.objects }) number invoke (operation_number asked) left.replies
    ≡ carried_out agent (Asked number invoke asked) moment
carried_confirmed agent number invoke asked moment left is confirmed = rw (is, confirmed) refl

pub carried : (agent : AgentState) (found o : Operation) (place number : ℕ) (invoke operation : ℤ) (asked : Request)
    (moment : ℕ) (objects : List NamedObject) (replies : List Reply) (after : AgentState) (done : Done)
    → operation_of agent place ≡ Some found → found.work ≡ Asked number invoke asked
    → Some replies ≡ option_map (λ (left : Outcome). left.replies) (outcome agent.schema agent.objects asked moment)
    → objects ≡ option_map_or (λ (left : Outcome). left.objects) (outcome agent.schema agent.objects asked moment)
    agent.objects
    → is_confirmed asked ≡ true → operation ≡ operation_number asked
    → after ≡ record agent { objects = objects } → done ≡ answered after number invoke operation replies
    → operation_of agent place ≡ Some o → done ≡ carried_out agent o.work moment
carried agent found o place number invoke operation asked moment objects replies after done is works told left_is
    confirmed numbers e1 e2 there =
    let told_is = told_outcome (outcome agent.schema agent.objects asked moment) replies told in
    let left = told_is.0 in
    let kept : objects ≡ left.objects =
    left_is ∙ ap (λ q. option_map_or (λ (l : Outcome). l.objects) q agent.objects) told_is.1 in
    let same : found ≡ o = same_Some found o (sym is ∙ there) in
    e2 ∙ (ap (λ s. answered s number invoke operation replies) (e1
    ∙ ap (λ os. record agent { objects = os }) kept)
    ∙ (ap (λ z. answered (record agent { objects = left.objects }) number invoke z replies) numbers
    ∙ (ap (λ rs. answered (record agent { objects = left.objects }) number invoke (operation_number asked) rs)
    told_is.2
    ∙ (carried_confirmed agent number invoke asked moment left told_is.1 confirmed
    ∙ ap (λ w. carried_out agent w moment) (sym works ∙ ap (λ (p : Operation). p.work) same)))))
