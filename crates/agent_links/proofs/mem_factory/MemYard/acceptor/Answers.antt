use Rattle.agent_links.proofs.SessionLemmas.{session_added, more_taken}
use Rattle.agent_links.proofs.mem_factory.MemYard.acceptor.Goals as goal

pub loop-preserved : goal.loop-preserved
loop-preserved c = record {
  post = session_added c.args.self.now c.loop.self c.loop.post c.add.new.self
      (c.in_ok-source.source, c.in_ok-source.sink) c.loop.counter c.loop.invariant.post c.loop.invariant.rest
      c.in_ok-source.ensures.next c.in_ok-add.ensures.added;
  rest = more_taken c.args.self.now c.loop.self c.next_session.new.self c.loop.counter 1 c.loop.invariant.rest
      c.in_ok-source.ensures.rest;
}
