-- The first two tokens tell whether a section, a module or a template comes.
use Rattle.std.proofs.Common.{sym, ◌∙◌}
use Rattle.document_units.proofs.OneUnit.{exit_unit, module_failed, module_read, section_failed, section_read}
use Rattle.document_units.proofs.unit.read_unit.Goals as goal

pub returns-in_err-section : goal.returns-in_err-section
returns-in_err-section c = exit_unit c.from_residual.result c.from_residual.ensures.1
    (section_failed (sym c.is_section_at.ensures ∙ c.if-is_section_at.true) c.in_err-section.ensures)

pub returns-then-is_section_at : goal.returns-then-is_section_at
returns-then-is_section_at c =
    section_read (sym c.is_section_at.ensures ∙ c.if-is_section_at.true) c.in_ok-section.ensures

pub returns-in_err-module : goal.returns-in_err-module
returns-in_err-module c = exit_unit c.from_residual-in_err-module.result c.from_residual-in_err-module.ensures.1
    (module_failed (sym c.is_section_at.ensures ∙ c.if-is_section_at.false)
    (sym c.is_no_template_at.ensures ∙ c.if-is_no_template_at.true) c.in_err-module.ensures)

pub returns-then-is_no_template_at : goal.returns-then-is_no_template_at
returns-then-is_no_template_at c = module_read (sym c.is_section_at.ensures ∙ c.if-is_section_at.false)
    (sym c.is_no_template_at.ensures ∙ c.if-is_no_template_at.true) c.in_ok-module.ensures
