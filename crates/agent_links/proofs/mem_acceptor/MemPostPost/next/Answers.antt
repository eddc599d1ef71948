use Rattle.agent_links.proofs.SessionLemmas.{popped_fresh}
use Rattle.agent_links.proofs.mem_acceptor.MemPostPost.next.Goals as goal

pub returns-clause-fresh : goal.returns-clause-fresh
returns-clause-fresh c = popped_fresh c.pop_front.result _ _ c.self.invariant c.pop_front.ensures.items
