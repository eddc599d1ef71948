use Rattle.std.proofs.Common.{subst}
use Rattle.value_match.specs.MemberOrder.{TellsOrder}
use Rattle.value_match.proofs.OrderLaws.{before_rises, alike_rises}
use Rattle.value_match.proofs.told.may_precede.Goals as goal

pub returns-in-Before-clause-rises : goal.returns-in-Before-clause-rises
returns-in-Before-clause-rises c xs ys t e = before_rises xs ys (subst (λ r. TellsOrder r xs ys) c.in-Before.is t)

pub returns-in-Alike-clause-rises : goal.returns-in-Alike-clause-rises
returns-in-Alike-clause-rises c xs ys t e = alike_rises xs ys (subst (λ r. TellsOrder r xs ys) c.in-Alike.is t)
