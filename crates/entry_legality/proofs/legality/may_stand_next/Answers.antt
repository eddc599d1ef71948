use Rattle.std.proofs.Common.{ap, sym, ◌∙◌}
use Rattle.agent_model.specs.Step.{is_legal}
use Rattle.entry_legality.proofs.legality.may_stand_next.Goals as goal

-- an entry of this kind is legal where an APDU may arrive of the association, whatever it holds
pub returns-in-Arrived : goal.returns-in-Arrived
returns-in-Arrived c = c.may_arrive.ensures ∙ sym (ap (is_legal c.args.agent.now) c.in-Arrived.is)
