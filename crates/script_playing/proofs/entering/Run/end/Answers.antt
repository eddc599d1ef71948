use Rattle.std.proofs.Common.{◌+◌, ◌-◌, ◌<◌, length, rules, arith, sym, ap, ◌∙◌, subst}
use Rattle.agent_model.specs.Played.{Play}
use Rattle.agent_model.specs.Playing.{closed_from}
use Rattle.script_playing.specs.Ready.{IsReady}
use Rattle.script_playing.proofs.ClosingLaws.{closed_step}
use Rattle.script_playing.proofs.LineLaws.{closed_count, closed_ready}
use Rattle.script_playing.proofs.entering.Run.end.Goals as goal

pub loop-before-preserved : goal.loop-before-preserved
loop-before-preserved g c =
    let now = c.loop-before.self in
    let before = c.loop-before.before in
    let number = before + 1 in
    let count = c.count_associations-count.result in
    let is = c.in_ok-close.ensures.closed in
    let within : before < count = first_of (search rules, omega arith, grind arith) in
    record {
      kept = c.in_ok-close.ensures.kept;
      ready = subst IsReady (sym is) (closed_ready number now c.loop-before.invariant.ready);
      all = c.loop-before.invariant.all
          ∙ sym (ap (λ (p : Play). length p.agent.associations) is ∙ closed_count 1 number now);
      rest = ap (λ p. closed_from (count - number) (number + 1) p) is
          ∙ (sym (closed_step count before now within) ∙ c.loop-before.invariant.rest);
      watched = λ first w. c.in_ok-close.ensures.watched first (c.loop-before.invariant.watched first w);
    }
