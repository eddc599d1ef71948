use Rattle.std.proofs.Common.{◌≡◌, take}
use Rattle.std.specs.Prelude.{flat_map}
use Rattle.gdmo_names.specs.PartViews.{section_rules}
use Rattle.gdmo_targets.specs.StatedRules.{rule_terms}
use Rattle.gdmo_rules.proofs.rule_texts.rules_of.Given as goal

abbrev pub invariant-loop-section : goal.invariant-loop-section
invariant-loop-section l =
    rule_terms l.rules.items ≡ flat_map section_rules (take l.section-index l.sections)
