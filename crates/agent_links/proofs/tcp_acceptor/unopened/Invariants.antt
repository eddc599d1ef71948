-- There is a connection for each session so far.
use Rattle.std.proofs.Common.{◌≡◌, vec_len}
use Rattle.agent_links.proofs.tcp_acceptor.unopened.Given as goal

abbrev pub invariant-loop : goal.invariant-loop
invariant-loop l = record {
  count : vec_len l.connections ≡ l.counter;
}
