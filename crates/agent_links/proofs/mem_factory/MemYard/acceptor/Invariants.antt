-- The sessions so far are the front of the list, and the others are left.
use Rattle.std.proofs.Common.{◌≡◌, drop}
use Rattle.agent_links.specs.Shares.{part}
use Rattle.agent_links.specs.Memory.{silent_halves}
use Rattle.agent_links.proofs.mem_factory.MemYard.acceptor.Given as goal

abbrev pub invariant-loop : goal.invariant-loop
invariant-loop l = record {
  post : l.post ≡ record {
    sessions = part silent_halves l.initial.self.sessions 0 l.counter;
    failing = l.initial.self.failing_next;
    seconds = l.initial.self.seconds;
    calls = 0;
    faults = 0;
  };
  rest : l.self ≡ record l.initial.self { sessions = drop l.counter l.initial.self.sessions };
}
