use Rattle.std.proofs.Common.{None, rules}
use Rattle.script_lines.specs.LineParts.{AreOctetsIn, IsNumberIn}
use Rattle.script_lines.proofs.LineLaws.{sent_no_number, sent_no_octets}
use Rattle.script_lines.proofs.line_reading.read_sent.Goals as goal

pub returns-in_default : goal.returns-in_default
returns-in_default c =
    let none' : IsNumberIn c.args.number.now None = search rules in
    sent_no_number c.args.number.now c.args.digits.now c.requires none'

pub returns-in-None : goal.returns-in-None
returns-in-None c =
    let none' : AreOctetsIn c.args.digits.now None = search rules in
    sent_no_octets c.args.number.now c.args.digits.now c.requires none'
