use Rattle.script_lines.proofs.LineLaws.{sent_no_space}
use Rattle.script_lines.proofs.line_reading.read_send.Goals as goal

pub returns-in-None : goal.returns-in-None
returns-in-None c = sent_no_space c.args.words.now c.in-None.ensures.none
