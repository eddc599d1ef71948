use Rattle.script_lines.proofs.PartLaws.{no_number, unparsed}
use Rattle.script_lines.proofs.line_parts.number_of.Goals as goal

pub returns-else-is_text_of : goal.returns-else-is_text_of
returns-else-is_text_of c =
    no_number c.args.text.now c.in-Ok.number c.parse.result c.is_text_of.result c.in-Ok.is c.parse.ensures.value.0
    c.is_text_of.ensures c.if-is_text_of.false

pub returns-in-Err : goal.returns-in-Err
returns-in-Err c = unparsed c.args.text.now c.parse.result c.in-Err.field-0 c.in-Err.is c.parse.ensures.value.0
