-- The lines that were appended are those of the definition.
use Rattle.std.proofs.Common.{rules, ◌≡◌, ◌++◌, OnOk, subst}
use Rattle.set_report.proofs.TextLaws.{bindings_are}
use Rattle.set_report.proofs.reporting.write_bindings.Goals as goal

pub returns : goal.returns
returns c =
    subst
    (λ text. OnOk c.write_lines.result (c.write_lines.new.into.items ≡ c.args.into.now.items ++ text))
    (bindings_are c.args.schema.now c.in_ok-labels.labels c.as_slice.result.now (search rules) (search rules))
    c.write_lines.ensures
