use Rattle.std.proofs.Common.{refl, sym, ap, ◌∙◌}
use Rattle.std.proofs.lemmas.Result.{on_ok_weaker}
use Rattle.agent_model.specs.Placing.{placed, placed_for}
use Rattle.agent_model.proofs.PlacingLaws.{placed_none, placed_one}
use Rattle.agent_steps.specs.States.{sent_to}
use Rattle.agent_steps.proofs.agent.Agent.send.Goals as goal

pub returns-in-Some : goal.returns-in-Some
returns-in-Some g c = record {
  placed = on_ok_weaker c.place.result
      (λ e. e ∙ (ap (λ bytes. placed_for c.args.self.now c.in-Some.number bytes) c.as_slice.ensures
      ∙ (sym (placed_one c.args.self.now c.in-Some.number c.in-Some.bytes)
      ∙ ap (λ s. placed c.args.self.now (sent_to s)) (sym c.in-Some.is)))) c.place.ensures.placed;
  entries = c.place.ensures.entries;
}

pub returns-in-None : goal.returns-in-None
returns-in-None g c = record {
  placed = sym (placed_none c.args.self.now) ∙ ap (λ s. placed c.args.self.now (sent_to s)) (sym c.in-None.is);
  entries = refl;
}
