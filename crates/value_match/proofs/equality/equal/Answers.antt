use Rattle.std.proofs.Common.{sym, ◌∙◌}
use Rattle.value_match.proofs.SameIs.{are_equal, equal_same}
use Rattle.value_match.proofs.equality.equal.Goals as goal

pub returns-then-rules-clause-matched : goal.returns-then-rules-clause-matched
returns-then-rules-clause-matched c = (
  λ e. are_equal c.args.asserted.now c.args.held.now (sym c.is_same.ensures ∙ e),
  λ e. c.is_same.ensures ∙ equal_same c.args.asserted.now c.args.held.now e,
)
