use Rattle.std.proofs.Common.{◌≡◌, suc, ◌+◌, All, map, ap, sym, subst, ◌∙◌, arith}
use Rattle.agent_links.specs.Shares.{shared, first_parts}
use Rattle.agent_links.specs.Memory.{AcceptorState, silent_halves}
use Rattle.agent_links.proofs.SessionLemmas.{IsOf, all_with_last, map_with_last}
use Rattle.agent_links.proofs.SessionLemmas.{more_taken, part_given, rest_given, without}
use Rattle.agent_links.proofs.mem_factory.MemYard.acceptors.Goals as goal

pub loop-worker-preserved : goal.loop-worker-preserved
loop-worker-preserved c =
    let before = c.args.self.now in
    let taken = shared c.args.sessions c.args.workers c.loop-worker.worker in
    let one_more : suc c.loop-worker.worker ≡ c.loop-worker.worker + 1 = omega arith in
    let part = c.in_ok-acceptor.ensures.part in
    let pushed = c.in_ok-push.ensures.items in record {
      parts = ap (map (λ (post : AcceptorState). post.sessions)) pushed
          ∙ map_with_last (λ (post : AcceptorState). post.sessions) _ _ _ _ c.loop-worker.invariant.parts
          (part_given before c.loop-worker.self c.in_ok-acceptor.field-0 c.args.sessions c.args.workers
          c.loop-worker.worker c.share_of.result c.loop-worker.invariant.rest c.share_of.ensures part)
          ∙ ap (λ n. first_parts silent_halves before.sessions c.args.sessions c.args.workers n) one_more;
      each = subst (λ posts. All (IsOf before) posts) (sym pushed)
          (all_with_last (IsOf before) c.loop-worker.posts.items c.in_ok-acceptor.field-0 c.loop-worker.invariant.each
          (rest_given before c.loop-worker.self c.in_ok-acceptor.field-0 taken c.share_of.result
          c.loop-worker.invariant.rest part));
      rest = more_taken before c.loop-worker.self c.acceptor.new.self taken c.share_of.result
          c.loop-worker.invariant.rest c.in_ok-acceptor.ensures.rest
          ∙ ap (λ more. without before (taken + more)) c.share_of.ensures
          ∙ ap (λ n. without before (shared c.args.sessions c.args.workers n)) one_more;
    }
