-- By the law that a text is split at a line feed in one way.
use Rattle.script_lines.proofs.ScriptLaws.{first_lines_are_one}
use Rattle.script_lines.proofs.laws.first_lines_are_one.Goals as goal

pub returns : goal.returns
returns c = record { one = first_lines_are_one }
