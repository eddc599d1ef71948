use Rattle.std.proofs.Common.{◌-◌, ℕ, length, take, drop, arith, length-drop, length-take, ◌∙◌, ap}
use Rattle.agent_bytes.specs.Told.{gained}
use Rattle.agent_bytes.proofs.ToldLemmas.{gained-part}
use Rattle.agent_bytes.proofs.writing.write_all.Goals as goal

pub loop-done-preserved : goal.loop-done-preserved
loop-done-preserved g c =
    let bytes = c.args.bytes.now in
    let done = c.loop-done.done in
    let count = c.in_ok-done.field-0 in (
      omega (arith, c.in_ok-done.ensures.within, length-take {A = ℕ}, length-drop {A = ℕ}),
      c.in_ok-done.ensures.written
          ∙ ap (λ told. gained told (take count (take (length bytes - done) (drop done bytes)))) c.loop-done.invariant.1
          ∙ gained-part (g.S.Sink.contents c.args.sink.now) bytes done count,
      c.in_ok-done.ensures.quiet ∙ c.loop-done.invariant.2,
    )
