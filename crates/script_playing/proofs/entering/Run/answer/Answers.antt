use Rattle.std.proofs.Common.{◌≡◌, ◌<◌, Some, true, length, sym, ap, ◌∙◌, rules, arith, subst}
use Rattle.agent_model.specs.declared.entry.Entry.TheVariants.{Granted}
use Rattle.agent_model.specs.Played.{Play}
use Rattle.agent_model.specs.Step.{is_legal}
use Rattle.agent_model.specs.Playing.{with_entry}
use Rattle.agent_model.proofs.StepLaws.{granted_then}
use Rattle.agent_steps.specs.States.{moment_of_grant}
use Rattle.std.proofs.lemmas.Result.{on_ok_weaker}
use Rattle.script_playing.proofs.entering.Run.answer.Goals as goal

pub commit-requires-clause-granted : goal.commit-requires-clause-granted
commit-requires-clause-granted g c =
    let old = c.args.self.now in
    let number = c.count_operations-number.result in
    let count : number ≡ length old.agent.operations = c.count_operations-number.ensures in
    let more : c.args.before < length old.agent.operations = first_of (search rules, omega arith, grind arith) in
    let legal : is_legal old.agent (Granted number old.moment) ≡ true =
    ap (λ n. is_legal old.agent (Granted n old.moment)) count ∙ c.requires.legal more in
    let entered : c.grant.new.self ≡ with_entry old (Granted number old.moment) = c.in_ok-grant.ensures.entered in
    subst (λ (p : Play). moment_of_grant p.agent number ≡ Some p.moment) (sym entered)
    (granted_then old.agent number old.moment legal)

pub returns-clause-watched : goal.returns-clause-watched
returns-clause-watched g c =
    on_ok_weaker c.commit.result (λ h first w. h first (c.in_ok-grant.ensures.watched first w)) c.commit.ensures.watched
