-- The acceptors so far have the first shares, and no fault.
use Rattle.std.proofs.Common.{◌≡◌, All, map}
use Rattle.agent_links.specs.Shares.{first_shares}
use Rattle.agent_links.proofs.tcp_factory.TcpYard.acceptors.Given as goal

abbrev pub invariant-loop-worker : goal.invariant-loop-worker
invariant-loop-worker g l = record {
  shares : map (λ post. post.0) l.posts.items ≡ first_shares l.sessions l.workers l.worker;
  fresh : All (λ post. post.1 ≡ 0) l.posts.items;
}
