use Rattle.std.proofs.Common.{◌≡◌, ℕ, false, true, sym, ap, ◌∙◌, subst}
use Rattle.std.specs.Prelude.{is_some}
use Rattle.std.proofs.lemmas.Result.{on_ok_weaker}
use Rattle.agent_model.specs.declared.entry.Entry.TheVariants.{Closed}
use Rattle.agent_model.specs.declared.entry.Why.TheVariants.{End}
use Rattle.agent_model.specs.AgentState.{association_of, is_closed_state}
use Rattle.agent_model.specs.Played.{Play}
use Rattle.agent_model.specs.Step.{is_legal}
use Rattle.agent_model.specs.Playing.{finished, taken_all}
use Rattle.agent_steps.specs.States.{has_state}
use Rattle.script_playing.specs.Ready.{HaveEnded, IsReady}
use Rattle.script_playing.proofs.ClosingLaws.{IsFinished, close_legal, finished_there, found_open, taken_finished}
use Rattle.script_playing.proofs.LineLaws.{ready_idle}
use Rattle.script_playing.proofs.entering.Run.close.Goals as goal

finished_now : (number : ℕ) (old : Play) → IsReady old → is_some (association_of old.agent number) ≡ true
    → has_state is_closed_state old.agent number ≡ false → IsFinished number old (finished number old)
finished_now number old ready opened open_ =
    let found = found_open (association_of old.agent number) opened open_ in
    finished_there number old (ready_idle old ready) found.0 found.1 found.2

pub take-requires-clause-ended : goal.take-requires-clause-ended
take-requires-clause-ended g c =
    let old = c.args.self.now in
    let number = c.args.number in
    let open_ : has_state is_closed_state old.agent number ≡ false =
    ap (λ (p : Play). has_state is_closed_state p.agent number) (sym c.self.view_is)
    ∙ (sym c.is_closed.ensures ∙ c.if-is_closed.false) in
    let f = finished_now number old c.requires.ready c.requires.opened open_ in
    subst (λ (p : Play). HaveEnded p.agent.operations) (sym c.in_ok-finish.ensures.finished) f.idle.ended

pub close_at_end-requires-clause-legal : goal.close_at_end-requires-clause-legal
close_at_end-requires-clause-legal g c =
    let old = c.args.self.now in
    let number = c.args.number in
    let last = finished number old in
    let open_ : has_state is_closed_state old.agent number ≡ false =
    ap (λ (p : Play). has_state is_closed_state p.agent number) (sym c.self.view_is)
    ∙ (sym c.is_closed.ensures ∙ c.if-is_closed.false) in
    let f = finished_now number old c.requires.ready c.requires.opened open_ in
    let taken : c.take.new.self ≡ last =
    c.in_ok-take.ensures.taken
    ∙ (ap (λ p. taken_all number p) c.in_ok-finish.ensures.finished ∙ taken_finished number old last f) in
    ap (λ (p : Play). is_legal p.agent (Closed number End)) taken ∙ close_legal number old last f

pub returns-clause-watched : goal.returns-clause-watched
returns-clause-watched g c =
    on_ok_weaker c.close_at_end.result
    (λ h first w. h first (c.in_ok-take.ensures.watched first (c.in_ok-finish.ensures.watched first w)))
    c.close_at_end.ensures.watched
