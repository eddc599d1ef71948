-- What is noted of all rules is what the sentence says.
use Rattle.std.proofs.Common.{◌∙◌, ap, sym}
use Rattle.gdmo_targets.specs.StatedRules.{rule_terms}
use Rattle.gdmo_targets.proofs.StatedLaws.{twice_noted}
use Rattle.gdmo_targets.proofs.stated_rules.note_stated_twice.Goals as goal

pub returns : goal.returns
returns c = λ parts are apart rules_are each. twice_noted parts c.args.templates.now
    (rule_terms c.as_slice.result.now) c.args.targets.now are apart each
    (ap rule_terms c.as_slice.ensures.value ∙ c.in_ok-rules.ensures ∙ sym rules_are) c.in_ok-note_rules.ensures
