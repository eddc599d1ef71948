-- The lines that were appended are those of the definition.
use Rattle.std.proofs.Common.{◌≡◌, ◌++◌, ◌∙◌, OnOk, subst}
use Rattle.std.proofs.Common.{ap, append_assoc}
use Rattle.std.specs.Prelude.{codes}
use Rattle.set_report.specs.Labels.{label_in}
use Rattle.set_report.specs.ReportLines.{entry_lines, unregistered_lines}
use Rattle.set_report.proofs.TextLaws.{conditional_are}
use Rattle.set_report.proofs.class_text.write_conditional.Goals as goal

pub returns : goal.returns
returns c =
    let labels = c.args.labels.now.packages in
    let unregistered = c.as_slice.result.now in
    let ids = c.as_slice-2.result.now in
    let whole = conditional_are c.args.schema.now c.args.of_class.now labels unregistered ids
    c.requires.names.packages (c.as_slice.ensures.value ∙ c.requires.lists.unregistered)
    (c.as_slice-2.ensures.value ∙ c.requires.lists.packages) in
    let first = c.in_ok-write_unregistered.ensures in
    let lines = entry_lines (codes " conditional ") (label_in labels) ids in
    subst
    (λ text. OnOk c.write_lines.result (c.write_lines.new.into.items ≡ text))
    (ap (λ xs. xs ++ lines) first ∙ append_assoc c.args.into.now.items (unregistered_lines unregistered) lines
    ∙ ap (λ text. c.args.into.now.items ++ text) whole)
    c.write_lines.ensures
