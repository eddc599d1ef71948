use Rattle.std.proofs.Common.{◌≡◌, ◌++◌, map, take}
use Rattle.gdmo_names.specs.PartViews.{rule_term}
use Rattle.gdmo_targets.specs.StatedRules.{rule_terms}
use Rattle.gdmo_rules.proofs.rule_texts.add_rules.Given as goal

abbrev pub invariant-loop-rule : goal.invariant-loop-rule
invariant-loop-rule l = rule_terms l.rules.items ≡ rule_terms l.initial.rules.items
    ++ map (rule_term l.section.document) (take l.rule-index l.section.rules.items)
