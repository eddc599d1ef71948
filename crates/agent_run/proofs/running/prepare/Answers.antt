use Rattle.std.proofs.Common.{map, Some}
use Rattle.std.proofs.Math.Path.{subst}
use Rattle.std.specs.Prelude.{string_bytes}
use Rattle.command_line.specs.WordForms.{Reads}
use Rattle.command_line.specs.WordForms.Command.{Check, Report, Run}
use Rattle.agent_run.specs.Answers.{IsTextOf}
use Rattle.agent_run.specs.Refusing.{HasCause, HasCauseBy, IsTextBy}
use Rattle.agent_run.proofs.Causes.{in_err, in_ok, of_command}
use Rattle.agent_run.proofs.running.prepare.Goals as goal

pub returns-in-Some-Check-clause-text : goal.returns-in-Some-Check-clause-text
returns-in-Some-Check-clause-text g c =
    let files = g.F.Files.files c.args.files.now in
    let words = map string_bytes c.args.words.now in
    let command = Check (map string_bytes c.in-Some-Check.names.now) in
    let are = subst (λ read. Reads words (Some read)) c.in-Some-Check.field-0-is (c.in-Some-Check.ensures {u = tt}) in
    in_ok (λ text. IsTextBy files command text.items) (λ text. IsTextOf files words text.items) c.check.result
    (λ text by. (command, are, by)) c.check.ensures.text

pub returns-in-Some-Check-clause-cause : goal.returns-in-Some-Check-clause-cause
returns-in-Some-Check-clause-cause g c =
    let files = g.F.Files.files c.args.files.now in
    let words = map string_bytes c.args.words.now in
    let before = g.F.Files.faults c.args.files.now in
    let after = g.F.Files.faults c.check.new.files in
    let command = Check (map string_bytes c.in-Some-Check.names.now) in
    let are = subst (λ read. Reads words (Some read)) c.in-Some-Check.field-0-is (c.in-Some-Check.ensures {u = tt}) in
    in_err (HasCauseBy files command before after) (HasCause files words before after) c.check.result
    (λ r cause. of_command files words command before after r are cause) c.check.ensures.cause

pub returns-in-Some-Report-clause-text : goal.returns-in-Some-Report-clause-text
returns-in-Some-Report-clause-text g c =
    let files = g.F.Files.files c.args.files.now in
    let words = map string_bytes c.args.words.now in
    let command = Report (map string_bytes c.in-Some-Report.names.now) in
    let are = subst (λ read. Reads words (Some read)) c.in-Some-Report.field-0-is (c.in-Some-Report.ensures {u = tt}) in
    in_ok (λ text. IsTextBy files command text.items) (λ text. IsTextOf files words text.items) c.report.result
    (λ text by. (command, are, by)) c.report.ensures.text

pub returns-in-Some-Report-clause-cause : goal.returns-in-Some-Report-clause-cause
returns-in-Some-Report-clause-cause g c =
    let files = g.F.Files.files c.args.files.now in
    let words = map string_bytes c.args.words.now in
    let before = g.F.Files.faults c.args.files.now in
    let after = g.F.Files.faults c.report.new.files in
    let command = Report (map string_bytes c.in-Some-Report.names.now) in
    let are = subst (λ read. Reads words (Some read)) c.in-Some-Report.field-0-is (c.in-Some-Report.ensures {u = tt}) in
    in_err (HasCauseBy files command before after) (HasCause files words before after) c.report.result
    (λ r cause. of_command files words command before after r are cause) c.report.ensures.cause

pub returns-in-Some-Run-clause-text : goal.returns-in-Some-Run-clause-text
returns-in-Some-Run-clause-text g c =
    let files = g.F.Files.files c.args.files.now in
    let words = map string_bytes c.args.words.now in
    let command = Run c.in-Some-Run.script.now (map string_bytes c.in-Some-Run.names.now) in
    let are = subst (λ read. Reads words (Some read)) c.in-Some-Run.field-0-is (c.in-Some-Run.ensures {u = tt}) in
    in_ok (λ text. IsTextBy files command text.items) (λ text. IsTextOf files words text.items) c.run.result
    (λ text by. (command, are, by)) c.run.ensures.text

pub returns-in-Some-Run-clause-cause : goal.returns-in-Some-Run-clause-cause
returns-in-Some-Run-clause-cause g c =
    let files = g.F.Files.files c.args.files.now in
    let words = map string_bytes c.args.words.now in
    let before = g.F.Files.faults c.args.files.now in
    let after = g.F.Files.faults c.run.new.files in
    let command = Run c.in-Some-Run.script.now (map string_bytes c.in-Some-Run.names.now) in
    let are = subst (λ read. Reads words (Some read)) c.in-Some-Run.field-0-is (c.in-Some-Run.ensures {u = tt}) in
    in_err (HasCauseBy files command before after) (HasCause files words before after) c.run.result
    (λ r cause. of_command files words command before after r are cause) c.run.ensures.cause
