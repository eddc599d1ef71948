use Rattle.std.proofs.Common.{ap, sym, arith, ◌∙◌}
use Rattle.agent_bytes.proofs.GivenLemmas.{seen_front_and_rest}
use Rattle.agent_bytes.proofs.mem_source.MemSource.give.Goals as goal

pub returns-clause-read : goal.returns-clause-read
returns-clause-read c =
    ap (λ source. source.left) (sym c.self.view_is)
    ∙ seen_front_and_rest _ _ c.args.into.now _ c.self.inside.at c.min-count.result
    c.deref-2.ensures.value (omega arith) c.copy_from_slice.ensures.after
