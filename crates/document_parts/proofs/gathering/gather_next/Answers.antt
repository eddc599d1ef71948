-- A semicolon is passed over, or a unit is gathered.
use Rattle.std.proofs.Common.{[], ◌∷◌, refl, sym, ◌∙◌}
use Rattle.document_units.specs.DocumentForms.IsStep.{added}
use Rattle.document_units.proofs.UnitRows.{not_semicolon}
use Rattle.document_parts.proofs.GatheringLaws.{exit_gathered}
use Rattle.document_parts.proofs.gathering.gather_next.Goals as goal

pub returns-in_err-unit : goal.returns-in_err-unit
returns-in_err-unit c = exit_gathered c.args.document c.args.parts.now c.args.parts.now c.from_residual.result
    c.from_residual.ensures.1 (not_semicolon (sym c.is_sign_at.ensures ∙ c.if-is_sign_at.false)) c.in_err-unit.ensures

pub returns : goal.returns
returns c = (
  c.in_ok-unit.unit ∷ [],
  added c.in_ok-unit.unit (not_semicolon (sym c.is_sign_at.ensures ∙ c.if-is_sign_at.false)) c.in_ok-unit.ensures refl,
  c.in_ok-add_unit.ensures,
)
