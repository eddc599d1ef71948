-- The values of rules, and those of instances.
use Rattle.std.proofs.Common.{sym}
use Rattle.std.proofs.Math.Path.{subst}
use Rattle.std.specs.Prelude.{flat_map}
use Rattle.gdmo_names.specs.InStep.{AreEach}
use Rattle.gdmo_names.specs.PartViews.{section_instances, section_rules}
use Rattle.gdmo_targets.specs.SectionTables.{IsInstanceTargets, IsRuleTargets}
use Rattle.gdmo_types.proofs.FieldLaws.{on_ok_by}
use Rattle.begun_values.proofs.SectionLaws.{sections_marked}
use Rattle.begun_values.proofs.values_of_sections.mark_section_values.Goals as goal

pub returns : goal.returns
returns c = on_ok_by c.mark_all_instances.result (λ marked parts link rules instances targets.
    let xs = c.args.linkage.now.templates.now in
    let rs = flat_map section_rules c.args.sections.now in
    let is = flat_map section_instances c.args.sections.now in
    sections_marked parts rs is rules instances
    (c.in_ok-mark_all_rules.ensures parts link
    (subst (λ zs. AreEach (IsRuleTargets parts xs) zs c.as_slice.result.now) rules
    (subst (λ ys. AreEach (IsRuleTargets parts xs) parts.rules ys) (sym c.as_slice.ensures.value) targets.are_rules)))
    (marked parts link
    (subst (λ zs. AreEach (IsInstanceTargets parts xs) zs c.as_slice-2.result.now) instances
    (subst (λ ys. AreEach (IsInstanceTargets parts xs) parts.instances ys) (sym c.as_slice-2.ensures.value)
    targets.are_instances)))) c.mark_all_instances.ensures
