-- The parts, one after the other.
use Rattle.std.proofs.Common.{sym, ◌∙◌}
use Rattle.asn1_syntax.proofs.module.read_assigned.Goals as goal

pub returns-then-is_sign_at : goal.returns-then-is_sign_at
returns-then-is_sign_at c = c.read_assigned_type.ensures (sym c.is_sign_at.ensures ∙ c.if-is_sign_at.true)

pub returns : goal.returns
returns c = c.read_assigned_value.ensures (sym c.is_sign_at.ensures ∙ c.if-is_sign_at.false)
