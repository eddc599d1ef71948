-- A semicolon is passed over, or a unit is added.
use Rattle.std.proofs.Common.{rules, sym, ◌∙◌}
use Rattle.document_units.specs.DocumentForms.IsStep.{added}
use Rattle.document_units.proofs.UnitRows.{exit_next, not_semicolon}
use Rattle.document_units.proofs.reading.read_next.Goals as goal

pub returns-in_err-unit : goal.returns-in_err-unit
returns-in_err-unit c = exit_next c.args.units.now c.args.units.now c.from_residual.result c.from_residual.ensures.1
    (not_semicolon (sym c.is_sign_at.ensures ∙ c.if-is_sign_at.false)) c.in_err-unit.ensures

pub returns : goal.returns
returns c = added c.in_ok-unit.unit (not_semicolon (sym c.is_sign_at.ensures ∙ c.if-is_sign_at.false))
    c.in_ok-unit.ensures (search rules)
