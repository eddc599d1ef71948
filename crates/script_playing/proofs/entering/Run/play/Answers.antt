use Rattle.std.proofs.Common.{◌≡◌, true, refl, sym, ap, ◌∙◌, subst}
use Rattle.std.proofs.lemmas.Result.{on_ok_weaker}
use Rattle.agent_model.specs.declared.script_line.ScriptLine.TheVariants as line
use Rattle.agent_model.specs.Playing.{may_play}
use Rattle.script_playing.specs.Ready.{IsReady}
use Rattle.script_playing.proofs.LineLaws.{closed_ready, line_ready}
use Rattle.script_playing.proofs.entering.Run.play.Goals as goal

pub returns-in-Open-clause-ready : goal.returns-in-Open-clause-ready
returns-in-Open-clause-ready g c =
    on_ok_weaker c.play_open.result
    (λ e. subst IsReady (sym e) (line_ready c.args.self.now (line.Open c.in-Open.bind) c.requires.ready refl))
    c.play_open.ensures.played

pub returns-in-Send-clause-ready : goal.returns-in-Send-clause-ready
returns-in-Send-clause-ready g c =
    let old = c.args.self.now in
    let send = line.Send c.in-Send.number c.in-Send.apdu in
    let may : may_play old.agent send ≡ true = ap (λ l. may_play old.agent l) (sym c.in-Send.is) ∙ c.requires.may in
    on_ok_weaker c.play_send.result
    (λ e. subst IsReady (sym e) (line_ready old send c.requires.ready may))
    c.play_send.ensures.played

pub returns-in-End-clause-ready : goal.returns-in-End-clause-ready
returns-in-End-clause-ready g c =
    on_ok_weaker c.close.result
    (λ e. subst IsReady (sym e) (closed_ready c.in-End.number c.args.self.now c.requires.ready))
    c.close.ensures.closed
