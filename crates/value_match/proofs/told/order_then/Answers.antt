use Rattle.std.proofs.Common.{subst}
use Rattle.value_match.specs.MemberOrder.{TellsOrder}
use Rattle.value_match.proofs.OrderLaws.{tells_first_before, tells_first_after, tells_next}
use Rattle.value_match.proofs.told.order_then.Goals as goal

pub returns-in-Before : goal.returns-in-Before
returns-in-Before c xs ys ns ms first next =
    tells_first_before xs ys ns ms (subst (λ r. TellsOrder r xs ys) c.in-Before.is first)

pub returns-in-Alike : goal.returns-in-Alike
returns-in-Alike c xs ys ns ms first next =
    tells_next c.args.next xs ys ns ms (subst (λ r. TellsOrder r xs ys) c.in-Alike.is first) next

pub returns-in-After : goal.returns-in-After
returns-in-After c xs ys ns ms first next =
    tells_first_after xs ys ns ms (subst (λ r. TellsOrder r xs ys) c.in-After.is first)
