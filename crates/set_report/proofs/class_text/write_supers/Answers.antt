-- The lines that were appended are those of the definition.
use Rattle.std.proofs.Common.{rules, ◌≡◌, ◌++◌, OnOk, subst}
use Rattle.set_report.proofs.TextLaws.{supers_are}
use Rattle.set_report.proofs.class_text.write_supers.Goals as goal

pub returns : goal.returns
returns c =
    subst
    (λ text. OnOk c.write_lines.result (c.write_lines.new.into.items ≡ c.args.into.now.items ++ text))
    (supers_are c.args.schema.now c.args.of_class.now c.args.labels.now.classes
    c.as_slice.result.now c.requires.classes (search rules))
    c.write_lines.ensures
