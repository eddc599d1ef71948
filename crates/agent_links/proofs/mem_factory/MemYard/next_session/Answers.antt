use Rattle.std.proofs.Common.{IfOk, IfSome, sym, subst}
use Rattle.agent_links.specs.Memory.{IsFresh}
use Rattle.agent_links.proofs.SessionLemmas.{popped_fresh, silent_fresh}
use Rattle.agent_links.proofs.mem_factory.MemYard.next_session.Goals as goal
use Rattle.agent_links.proofs.mem_factory.MemYard.next_session.Goals.{in-Some, in-None}

pub returns-clause-fresh : goal.returns-clause-fresh
returns-clause-fresh c =
    let fresh = popped_fresh c.pop_front.result _ _ c.self.invariant c.pop_front.ensures.items in
    elim c.match-pop_front.branch [
      | in-Some w ↦ subst (λ made. IfOk made IsFresh) (sym w.result-is)
          (subst (λ popped. IfSome popped IsFresh) w.in-Some.is fresh)
      | in-None w ↦ subst (λ made. IfOk made IsFresh) (sym w.result-is) (silent_fresh w.silent.result w.silent.ensures)
    ]
