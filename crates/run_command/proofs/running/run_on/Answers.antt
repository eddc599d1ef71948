use Rattle.std.proofs.lemmas.Result.{IfOk-weaker}
use Rattle.run_command.specs.RunCauses.{HasPlayCause, HasSchemaCause}
use Rattle.run_command.proofs.PlayLaws.{exit_with, in_err, of_behaviour, of_play}
use Rattle.run_command.proofs.running.run_on.Goals as goal

pub returns-in_err-require_no_behaviour-clause-cause : goal.returns-in_err-require_no_behaviour-clause-cause
returns-in_err-require_no_behaviour-clause-cause g c =
    let e = c.in_err-require_no_behaviour.field-0.0 in
    let exit = c.from_residual-in_err-require_no_behaviour in
    exit_with (HasSchemaCause c.args.schema c.args.script.now) exit.result e exit.ensures.1
    (of_behaviour c.args.schema c.in_ok-objects.objects c.args.script.now e c.in_ok-objects.ensures.opened
    c.in_err-require_no_behaviour.ensures.cause)

pub returns-clause-text : goal.returns-clause-text
returns-clause-text g c =
    IfOk-weaker c.play_on.result _ _
    (λ text played.
    (c.in_ok-objects.objects, c.in_ok-objects.ensures.opened, c.in_ok-require_no_behaviour.ensures.calm, played))
    c.play_on.ensures.text

pub returns-clause-cause : goal.returns-clause-cause
returns-clause-cause g c =
    in_err (HasPlayCause c.args.schema c.in_ok-objects.objects c.args.script.now)
    (HasSchemaCause c.args.schema c.args.script.now) c.play_on.result
    (λ e cause. of_play c.args.schema c.in_ok-objects.objects c.args.script.now e c.in_ok-objects.ensures.opened
    c.in_ok-require_no_behaviour.ensures.calm cause)
    c.play_on.ensures.cause
