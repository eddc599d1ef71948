-- The word behind the label tells a template from a label.
use Rattle.std.proofs.Common.{◌∙◌, sym, refl}
use Rattle.token_grammar.proofs.Exits.{exit_reads}
use Rattle.token_grammar.proofs.References.{spelt_label, spelt_template, fails_label, fails_template}
use Rattle.gdmo_members.specs.Templates.{templates}
use Rattle.gdmo_classes.proofs.references.read_group_reference.Goals as goal

pub returns-in_err-template : goal.returns-in_err-template
returns-in_err-template c =
    exit_reads _ c.from_residual.result c.from_residual.ensures.1
    (fails_template refl (sym c.is_template_at.ensures ∙ c.if-is_template_at.true) c.in_err-template.ensures)

pub returns-then-is_template_at : goal.returns-then-is_template_at
returns-then-is_template_at c =
    spelt_template refl (sym c.is_template_at.ensures ∙ c.if-is_template_at.true) c.in_ok-template.ensures

pub returns-in_err-label : goal.returns-in_err-label
returns-in_err-label c =
    exit_reads _ c.from_residual-in_err-label.result c.from_residual-in_err-label.ensures.1
    (fails_label refl (sym c.is_template_at.ensures ∙ c.if-is_template_at.false) (c.in_err-label.ensures templates))

pub returns : goal.returns
returns c = spelt_label refl (sym c.is_template_at.ensures ∙ c.if-is_template_at.false)
    (c.in_ok-label.ensures templates)
