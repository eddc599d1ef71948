-- The lines that were appended are those of the definition.
use Rattle.std.proofs.Common.{◌≡◌, ◌++◌, ◌∙◌, OnOk, subst}
use Rattle.set_report.proofs.TextLaws.{actions_are}
use Rattle.set_report.proofs.class_text.write_actions.Goals as goal

pub returns : goal.returns
returns c =
    subst
    (λ text. OnOk c.write_lines.result (c.write_lines.new.into.items ≡ c.args.into.now.items ++ text))
    (actions_are c.args.schema.now c.args.of_class.now c.args.labels.now.actions
    c.as_slice.result.now c.requires.names.actions (c.as_slice.ensures.value ∙ c.requires.lists.actions))
    c.write_lines.ensures
