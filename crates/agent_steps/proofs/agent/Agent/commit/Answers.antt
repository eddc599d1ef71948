use Rattle.std.proofs.Common.{◌≡◌, sym, ap, ◌∙◌, subst}
use Rattle.agent_model.specs.declared.agent_state.AgentState.{AgentState}
use Rattle.agent_model.specs.Step.{counted}
use Rattle.operation_model.specs.OperationConditions.{AreSmall}
use Rattle.agent_model.specs.Placing.{placed}
use Rattle.agent_model.proofs.PlacingLaws.{placed_keeps}
use Rattle.agent_steps.specs.States.{sent_to}
use Rattle.agent_steps.proofs.EntryLaws.{commit_steps}
use Rattle.agent_steps.proofs.PerformingLaws.{granted_stands}
use Rattle.agent_steps.proofs.agent.Agent.commit.Goals as goal

pub returns-clause-stepped : goal.returns-clause-stepped
returns-clause-stepped g c =
    let agent = c.args.self.now in
    let stands = granted_stands agent c.args.number c.args.moment c.requires.granted in
    c.count_entry.ensures ∙ commit_steps agent c.args.number c.args.moment stands.0 c.carry_out.new.self
    c.end_operation.new.self c.send.new.self c.in_ok-sending.sending stands.1 stands.2
    (c.in_ok-sending.ensures.carried_out stands.0 stands.1) c.end_operation.ensures c.in_ok-send.ensures.placed

pub returns-clause-small : goal.returns-clause-small
returns-clause-small g c =
    let kept = placed_keeps c.end_operation.new.self (sent_to c.in_ok-sending.sending) in
    let is : c.count_entry.new.self ≡ counted (placed c.end_operation.new.self (sent_to c.in_ok-sending.sending)) =
    c.count_entry.ensures ∙ ap counted c.in_ok-send.ensures.placed in
    subst (λ (s : AgentState). AreSmall s.schema s.objects) (sym is)
    (subst (λ objects. AreSmall (placed c.end_operation.new.self (sent_to c.in_ok-sending.sending)).schema objects)
    (sym kept.objects_stay)
    (subst (λ schema. AreSmall schema c.end_operation.new.self.objects) (sym kept.schema_stays)
    (subst (λ (s : AgentState). AreSmall s.schema s.objects) (sym c.end_operation.ensures)
    c.in_ok-sending.ensures.small)))
