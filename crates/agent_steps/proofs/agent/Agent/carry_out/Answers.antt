use Rattle.std.proofs.Common.{◌≡◌, true, sym, ap, ◌∙◌, rules, to_z, of_z, w32, w64}
use Rattle.std.proofs.Math.Facts.{to_z-of_z}
use Rattle.std.specs.Option.{option_map, option_map_or}
use Rattle.agent_model.specs.declared.agent_state.AgentState.{AgentState}
use Rattle.agent_model.specs.AgentState.{operation_of}
use Rattle.term_model.specs.Operation.{operation_number}
use Rattle.operation_model.specs.WholeOperation.{Outcome, outcome}
use Rattle.agent_model.specs.Performing.{is_confirmed}
use Rattle.agent_steps.specs.Answering.{answered}
use Rattle.agent_steps.specs.States.{agent_of, sent_to}
use Rattle.agent_steps.proofs.PerformingLaws.{carried}
use Rattle.agent_steps.proofs.agent.Agent.carry_out.Goals as goal

pub returns-clause-carried_out : goal.returns-clause-carried_out
returns-clause-carried_out g c =
    let agent = c.args.self.now in
    let i = c.self.inside in
    let place = c.args.number in
    let number = c.in-Asked.association in
    let invoke = to_z w32 (of_z w32 c.in-Asked.invoke) in
    let operation = to_z w64 (of_z w64 c.operation_number-operation.result) in
    let asked = c.in-Asked.request in
    let moment = c.args.moment in
    let objects = c.perform_request.new.mib in
    let after = agent_of i.schema i.limits objects i.associations i.operations i.entries in
    let same_invoke : invoke ≡ c.in-Asked.invoke = to_z-of_z {w = w32} {z = c.in-Asked.invoke} (search rules) in
    let numbers : operation ≡ operation_number asked =
    to_z-of_z {w = w64} {z = c.operation_number-operation.result} (search rules)
    ∙ c.operation_number-operation.ensures in
    let confirmed : is_confirmed asked ≡ true = search rules in
    λ o there. carried agent c.operation_at-operation.result.now o place number c.in-Asked.invoke operation asked moment
    objects c.in-Some.replies after (record { agent = c.answer.new.self; sent = sent_to c.in_ok-sending.sending })
    (sym (c.operation_at-operation.ensures ∙ ap (λ (s : AgentState). operation_of s place) c.self.view_is))
    c.in-Asked.is
    (sym c.in-Some.is ∙ (c.in_ok-told.ensures.replies
    ∙ ap (λ (s : AgentState). option_map (λ (left : Outcome). left.replies) (outcome s.schema s.objects asked moment))
    c.self.view_is))
    (c.in_ok-told.ensures.objects
    ∙ ap (λ (s : AgentState). option_map_or (λ (left : Outcome). left.objects)
    (outcome s.schema s.objects asked moment) s.objects) c.self.view_is)
    confirmed numbers
    (ap (λ (s : AgentState). record s { objects = objects }) c.self.view_is)
    (c.in_ok-sending.ensures.answered
    ∙ (ap (λ z. answered after number z operation c.as_slice.result.now) same_invoke
    ∙ ap (λ rs. answered after number c.in-Asked.invoke operation rs)
    (c.as_slice.ensures.value ∙ c.replies.view_is)))
    there
