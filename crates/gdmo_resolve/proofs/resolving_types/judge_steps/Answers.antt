-- The graph of classes is known, and the rules judged.
use Rattle.std.proofs.Common.{◌≡◌, subst, sym}
use Rattle.std.specs.Prelude.{flat_map}
use Rattle.asn1_numbers.proofs.TargetLaws.{ok_by}
use Rattle.gdmo_names.specs.InStep.{AreEach}
use Rattle.gdmo_names.specs.PartViews.{section_instances, section_rules}
use Rattle.gdmo_targets.specs.SectionTables.{IsInstanceTargets, IsRuleTargets}
use Rattle.gdmo_resolve.proofs.resolving_types.judge_steps.Goals as goal

pub returns : goal.returns
returns c = ok_by c.judge_rules.result (λ noted ps k are.
    let sections = sym c.as_slice-sections.ensures.value in
    let xs = c.args.known.linkage.now.templates.now in
    let graph = c.in_ok-graph.ensures ps k.is_linkage
    (subst (λ ys. ps.instances ≡ flat_map section_instances ys) sections k.are_instances)
    (subst (AreEach (IsInstanceTargets ps xs) ps.instances) (sym c.as_slice.ensures.value)
    k.are_targets.are_instances) in
    noted ps k.is_linkage k.are_read.apart are graph
    (subst (λ ys. ps.rules ≡ flat_map section_rules ys) sections k.are_rules)
    (subst (AreEach (IsRuleTargets ps xs) ps.rules) (sym c.as_slice-rules.ensures.value) k.are_targets.are_rules))
    c.judge_rules.ensures.noted
