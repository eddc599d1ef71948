-- The lines that were appended are those of the definition.
use Rattle.std.proofs.Common.{◌≡◌, ◌++◌, ◌∙◌, OnOk, subst}
use Rattle.std.proofs.Common.{ap, append_assoc}
use Rattle.set_report.specs.ReportText.{attribute_lines, required_lines}
use Rattle.set_report.proofs.TextLaws.{attributes_are}
use Rattle.set_report.proofs.class_text.write_attribute_part.Goals as goal

pub returns : goal.returns
returns c =
    let ids = c.as_slice-ids.result.now in
    let whole = attributes_are c.args.schema.now c.args.of_class.now ids
    (c.as_slice-ids.ensures.value ∙ c.requires.lists.attributes) in
    let first = c.in_ok-write_attributes.ensures in
    let grouped = append_assoc c.args.into.now.items (attribute_lines c.args.schema.now c.args.of_class.now ids)
    (required_lines c.args.schema.now c.args.of_class.now ids) in
    subst
    (λ text. OnOk c.write_all_required.result (c.write_all_required.new.into.items ≡ text))
    (ap (λ xs. xs ++ required_lines c.args.schema.now c.args.of_class.now ids) first ∙ grouped
    ∙ ap (λ text. c.args.into.now.items ++ text) whole)
    c.write_all_required.ensures
