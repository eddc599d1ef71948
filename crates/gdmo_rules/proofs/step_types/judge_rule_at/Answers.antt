-- What the rule at the place names.
use Rattle.std.proofs.Common.{sym, ◌∙◌}
use Rattle.std.proofs.Math.Path.{subst}
use Rattle.std.proofs.lemmas.Option.{same_Some}
use Rattle.gdmo_targets.specs.SectionTables.{IsRuleTargets}
use Rattle.gdmo_targets.specs.StatedRules.{text_term}
use Rattle.gdmo_types.proofs.StepLaws.{got_at}
use Rattle.gdmo_rules.proofs.step_types.judge_rule_at.Goals as goal

pub returns-clause-noted : goal.returns-clause-noted
returns-clause-noted c = λ parts own is are at told.
    let targets = c.args.targets.now in
    let same = same_Some own c.in-Some.own.now (sym at ∙ got_at targets c.args.place c.in-Some.own.now
    c.in-Some.ensures.lookup.3.0 c.in-Some.ensures.lookup.1) in
    c.in_ok-judge_rule.ensures.noted parts is are
    (subst (IsRuleTargets parts c.args.linkage.now.templates.now (text_term c.args.rule.now)) same told)
