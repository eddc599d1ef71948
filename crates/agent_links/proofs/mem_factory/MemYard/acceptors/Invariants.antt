-- The acceptors so far have the first parts, and the others are left.
use Rattle.std.proofs.Common.{◌≡◌, All, map, drop}
use Rattle.agent_links.specs.Shares.{shared, first_parts}
use Rattle.agent_links.specs.Memory.{silent_halves}
use Rattle.agent_links.proofs.mem_factory.MemYard.acceptors.Given as goal

abbrev pub invariant-loop-worker : goal.invariant-loop-worker
invariant-loop-worker l = record {
  parts : map (λ post. post.sessions) l.posts.items
      ≡ first_parts silent_halves l.initial.self.sessions l.sessions l.workers l.worker;
  each : All (λ post. (post.failing ≡ l.initial.self.failing_next) × (post.seconds ≡ l.initial.self.seconds)
      × (post.calls ≡ 0) × (post.faults ≡ 0)) l.posts.items;
  rest : l.self ≡ record l.initial.self {
    sessions = drop (shared l.sessions l.workers l.worker) l.initial.self.sessions;
  };
}
