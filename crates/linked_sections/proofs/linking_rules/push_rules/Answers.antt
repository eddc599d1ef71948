-- A section of rules, or another one.
use Rattle.std.proofs.Common.{[], ap, map, refl, sym}
use Rattle.gdmo_names.specs.PartViews.{rule_term, section_rules}
use Rattle.linked_sections.specs.KnownSections.{AreKnownRules}
use Rattle.linked_sections.specs.LinkedSections.{IsRule}
use Rattle.linked_sections.proofs.PushLaws.{pushes_none, pushes_same}
use Rattle.linked_sections.proofs.linking_rules.push_rules.Goals as goal

pub returns-in_ok-push_all_rules-in-Rules : goal.returns-in_ok-push_all_rules-in-Rules
returns-in_ok-push_all_rules-in-Rules c = λ parts is.
    let own = c.in-Rules.section in
    pushes_same (AreKnownRules parts c.args.linker.now c.args.targets.now) (IsRule parts)
    (map (rule_term own.document) own.rules.items) (section_rules c.args.section.now) c.args.linked.now.items
    c.push_all_rules.new.linked.items (sym (ap section_rules c.in-Rules.is))
    (c.in_ok-push_all_rules-in-Rules.ensures parts is)

pub returns-in-Instances : goal.returns-in-Instances
returns-in-Instances c = λ parts is.
    let known = AreKnownRules parts c.args.linker.now c.args.targets.now in
    pushes_same known (IsRule parts) [] (section_rules c.args.section.now) c.args.linked.now.items c.args.linked.now.items
    (sym (ap section_rules c.in-Instances.is))
    (pushes_none known (IsRule parts) c.args.linked.now.items c.args.linked.now.items refl)
