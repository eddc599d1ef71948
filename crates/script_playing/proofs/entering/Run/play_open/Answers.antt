use Rattle.std.proofs.Common.{sym, ap, ◌∙◌, subst}
use Rattle.std.proofs.lemmas.Result.{on_ok_weaker}
use Rattle.agent_model.specs.declared.entry.Entry.TheVariants.{Opened}
use Rattle.agent_model.specs.Playing.{taken_all, with_entry}
use Rattle.script_playing.proofs.LineLaws.{open_line, opening_midway}
use Rattle.agent_model.specs.Played.{Play}
use Rattle.script_playing.specs.Ready.{HaveEnded}
use Rattle.script_playing.proofs.entering.Run.play_open.Goals as goal

pub returns-clause-played : goal.returns-clause-played
returns-clause-played g c =
    let old = c.args.self.now in
    let bind = c.args.bind in
    let number = c.next_number-number.result in
    on_ok_weaker c.take.result
    (λ e. e ∙ (ap (λ p. taken_all number p) c.in_ok-open.ensures.entered
    ∙ (ap (λ n. taken_all n (with_entry old (Opened n bind))) c.next_number-number.ensures
    ∙ sym (open_line old bind c.requires.ready))))
    c.take.ensures.taken

pub take-requires-clause-ended : goal.take-requires-clause-ended
take-requires-clause-ended g c =
    let old = c.args.self.now in
    let bind = c.args.bind in
    subst (λ (p : Play). HaveEnded p.agent.operations)
    (sym (c.in_ok-open.ensures.entered ∙ ap (λ n. with_entry old (Opened n bind)) c.next_number-number.ensures))
    (opening_midway old bind c.requires.ready).ended

pub returns-clause-watched : goal.returns-clause-watched
returns-clause-watched g c =
    on_ok_weaker c.take.result (λ h first w. h first (c.in_ok-open.ensures.watched first w)) c.take.ensures.watched
