-- What is printed, and why no text is.
use Rattle.run_command.proofs.CauseLaws.{cause_told}
use Rattle.run_command.proofs.TextLaws.{text_told}
use Rattle.run_command.proofs.running.run_text.Goals as goal

pub returns-clause-text : goal.returns-clause-text
returns-clause-text c = text_told c.args.script.now c.args.documents.now c.in_ok-schema.schema
    c.in_ok-schema.ensures.compiled c.run_on.result c.run_on.ensures.text

pub returns-clause-cause : goal.returns-clause-cause
returns-clause-cause c = cause_told c.args.script.now c.args.documents.now c.in_ok-schema.schema
    c.in_ok-schema.ensures.compiled c.run_on.result c.run_on.ensures.cause
