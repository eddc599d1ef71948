use Rattle.std.proofs.Common.{◌≡◌, ◌+◌, arith, sym, ap, ◌∙◌}
use Rattle.std.proofs.lemmas.Bool.{ne_eqb}
use Rattle.agent_model.specs.declared.agent_state.AgentState.{AgentState}
use Rattle.agent_model.specs.AgentState.{association_of}
use Rattle.agent_model.specs.Step.{changed_association, counted}
use Rattle.agent_model.proofs.StandingLaws.{left_stands, stands_from_some, taken_wholly}
use Rattle.agent_model.proofs.StepLaws.{taken_at}
use Rattle.agent_steps.specs.Admitting.{with_all_taken}
use Rattle.agent_steps.specs.States.{agent_of}
use Rattle.agent_steps.proofs.agent.Agent.take_all.Goals as goal

pub returns-then-count-gt0-clause-taken : goal.returns-then-count-gt0-clause-taken
returns-then-count-gt0-clause-taken g c =
    let agent = c.args.self.now in
    let i = c.self.inside in
    let number = c.args.number in
    let count = c.count_left-count.result in
    let some : count ≡ 0 → ⊥ = λ e. omega arith in
    let left = left_stands (association_of agent number) count c.count_left-count.ensures some in
    let stands = stands_from_some agent.associations number left.0 left.1 in
    let taken = ap (λ xs. agent_of i.schema i.limits i.mib xs i.operations (i.entries + 1)) c.take_all.ensures
    ∙ (ap (λ (s : AgentState). counted (record s {
      associations = changed_association s.associations number with_all_taken;
    })) c.self.view_is
    ∙ (ap (λ xs. counted (record agent { associations = xs }))
    (taken_wholly agent.associations number count left.0 stands.there left.2 some)
    ∙ sym (taken_at agent number count left.0 left.1 left.2 some))) in
    rw (ne_eqb count 0 some) taken
