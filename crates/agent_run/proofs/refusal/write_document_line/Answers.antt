use Rattle.std.proofs.Common.{rules, ◌++◌}
use Rattle.std.specs.Prelude.{codes}
use Rattle.term_model.specs.LineTexts.{line_feed}
use Rattle.agent_run.specs.Refusing.{kind_name, two_numbers}
use Rattle.agent_run.proofs.LineLaws.{two_behind}
use Rattle.agent_run.proofs.refusal.write_document_line.Goals as goal

pub returns : goal.returns
returns c =
    two_behind c.args.into.now.items (two_numbers (codes "bad document ") c.args.document c.args.line)
    (codes " " ++ (kind_name c.args.kind ++ line_feed)) c.write_line.new.into.items c.write_two_numbers.new.into.items
    c.in_ok-write_two_numbers.ensures (search rules)
