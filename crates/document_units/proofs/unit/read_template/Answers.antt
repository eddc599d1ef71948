-- The word behind the label tells which template comes.
use Rattle.std.proofs.Common.{sym, ◌∙◌}
use Rattle.document_units.proofs.OneUnit.{class_failed, class_read, exit_unit, member_failed, member_read}
use Rattle.document_units.proofs.unit.read_template.Goals as goal

pub returns-in_err-template : goal.returns-in_err-template
returns-in_err-template c = exit_unit c.from_residual.result c.from_residual.ensures.1
    (class_failed c.requires.no_section c.requires.template (sym c.is_class_at.ensures ∙ c.if-is_class_at.true)
    c.in_err-template.ensures)

pub returns-then-is_class_at : goal.returns-then-is_class_at
returns-then-is_class_at c = class_read c.requires.no_section c.requires.template
    (sym c.is_class_at.ensures ∙ c.if-is_class_at.true) c.in_ok-template.ensures

pub returns-in_err-template-2 : goal.returns-in_err-template-2
returns-in_err-template-2 c = exit_unit c.from_residual-in_err-template-2.result
    c.from_residual-in_err-template-2.ensures.1
    (member_failed c.requires.no_section c.requires.template (sym c.is_class_at.ensures ∙ c.if-is_class_at.false)
    c.in_err-template-2.ensures)

pub returns : goal.returns
returns c = member_read c.requires.no_section c.requires.template
    (sym c.is_class_at.ensures ∙ c.if-is_class_at.false) c.in_ok-template-2.ensures
