use Rattle.std.proofs.Common.{◌≡◌, sym, ap, ◌∙◌, rules, to_z, of_z, w32, w64}
use Rattle.std.proofs.Math.Facts.{to_z-of_z}
use Rattle.agent_model.specs.declared.agent_state.AgentState.{AgentState}
use Rattle.agent_model.specs.AgentState.{association_of}
use Rattle.term_model.specs.Operation.{Replied, replied}
use Rattle.agent_model.specs.Step.{changed_association}
use Rattle.agent_model.specs.Performing.{with_own}
use Rattle.agent_steps.specs.States.{agent_of}
use Rattle.agent_steps.proofs.PerformingLaws.{answered_at}
use Rattle.agent_steps.proofs.agent.Agent.answer.Goals as goal

pub returns-clause-answered : goal.returns-clause-answered
returns-clause-answered g c =
    let i = c.self.inside in
    let number = c.args.number in
    let a = c.in-Some.association.now in
    let rs = c.args.replies.now in
    let invoke = to_z w32 (of_z w32 c.args.invoke) in
    let operation = to_z w64 (of_z w64 c.args.operation) in
    let next = to_z w32 (of_z w32 a.next_own) in
    let own = to_z w32 (of_z w32 c.in_ok-frames.frames.own) in
    let same_invoke : invoke ≡ c.args.invoke = to_z-of_z {w = w32} {z = c.args.invoke} (search rules) in
    let same_operation : operation ≡ c.args.operation = to_z-of_z {w = w64} {z = c.args.operation} (search rules) in
    let same_next : next ≡ a.next_own = to_z-of_z {w = w32} {z = a.next_own} (search rules) in
    let same_own : own ≡ c.in_ok-frames.frames.own =
    to_z-of_z {w = w32} {z = c.in_ok-frames.frames.own} (search rules) in
    let frames : replied invoke operation next rs ≡ replied c.args.invoke c.args.operation a.next_own rs =
    ap (λ z. replied z operation next rs) same_invoke
    ∙ (ap (λ z. replied c.args.invoke z next rs) same_operation
    ∙ ap (λ z. replied c.args.invoke c.args.operation z rs) same_next) in
    answered_at c.args.self.now number c.args.invoke c.args.operation rs a c.in_ok-frames.frames.octets.items own
    (agent_of i.schema i.limits i.mib c.set_own.new.self i.operations i.entries)
    (sym (c.in-Some.ensures ∙ ap (λ (s : AgentState). association_of s number) c.self.view_is))
    (c.in_ok-frames.ensures.octets ∙ ap (λ (f : Replied). f.octets) frames)
    (same_own ∙ (c.in_ok-frames.ensures.own ∙ ap (λ (f : Replied). f.own) frames))
    (ap (λ xs. agent_of i.schema i.limits i.mib xs i.operations i.entries) c.set_own.ensures
    ∙ ap (λ (s : AgentState). record s {
      associations = changed_association s.associations number (with_own own);
    }) c.self.view_is)
