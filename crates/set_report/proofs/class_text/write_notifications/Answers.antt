-- The lines that were appended are those of the definition.
use Rattle.std.proofs.Common.{◌≡◌, ◌++◌, ◌∙◌, OnOk, subst}
use Rattle.set_report.proofs.TextLaws.{notifications_are}
use Rattle.set_report.proofs.class_text.write_notifications.Goals as goal

pub returns : goal.returns
returns c =
    subst
    (λ text. OnOk c.write_lines.result (c.write_lines.new.into.items ≡ c.args.into.now.items ++ text))
    (notifications_are c.args.schema.now c.args.of_class.now c.args.labels.now.notifications
    c.as_slice-ids.result.now c.requires.names.notifications
    (c.as_slice-ids.ensures.value ∙ c.requires.lists.notifications))
    c.write_lines.ensures
