-- The templates, the rules, the instances and the first names.
use Rattle.std.proofs.Common.{List, map, sym}
use Rattle.std.proofs.Math.Path.{subst}
use Rattle.std.specs.declared.alloc.Global.{Global}
use Rattle.std.specs.declared.vec.Vec.{Vec}
use Rattle.gdmo_linking.specs.LinkedTables.{TellFirstNames}
use Rattle.gdmo_names.specs.InStep.{AreAll, AreEach}
use Rattle.gdmo_names.specs.PartTerms.{InstanceTerm, RuleTerm}
use Rattle.gdmo_targets.specs.SectionTables.{IsInstanceTargets, IsRuleTargets}
use Rattle.linked_parts.specs.declared.linked.LinkedFirstName.{LinkedFirstName}
use Rattle.linked_parts.specs.declared.linked.LinkedInstance.{LinkedInstance}
use Rattle.linked_parts.specs.declared.linked.LinkedRule.{LinkedRule}
use Rattle.linked_documents.specs.LinkedParts.{told_name}
use Rattle.linked_sections.specs.KnownSections.{AreKnownInstances, AreKnownRules, IsCompleteInstance, IsCompleteRule}
use Rattle.linked_sections.specs.LinkedSections.{IsInstance, IsRule}
use Rattle.linked_documents.proofs.linking_parts.linked_by.Goals as goal

pub returns : goal.returns
returns c = λ parts is complete sections names.
    let linker = c.args.linker.now in
    let told = sections.are_targets in
    let rules : AreKnownRules parts linker c.as_slice.result.now parts.rules = record {
      complete = complete.rules_complete;
      told = subst (λ ys. AreEach (IsRuleTargets parts linker.linkage.templates.now) parts.rules ys)
          (sym c.as_slice.ensures.value) told.are_rules;
    } in
    let instances : AreKnownInstances parts linker c.as_slice-2.result.now parts.instances = record {
      complete = complete.instances_complete;
      told = subst (λ ys. AreEach (IsInstanceTargets parts linker.linkage.templates.now) parts.instances ys)
          (sym c.as_slice-2.ensures.value) told.are_instances;
    } in
    record {
      tables = c.in_ok-linked.ensures.tables parts is complete.templates_complete names.are_registered;
      rules = subst (λ (v : Vec LinkedRule Global). AreEach (IsRule parts) parts.rules v.items)
          (sym c.in_ok-linked.ensures.rules)
          (subst (λ (xs : List RuleTerm). AreEach (IsRule parts) xs c.in_ok-rules.rules.items) (sym sections.are_rules)
          (c.in_ok-rules.ensures parts is
          (subst (AreKnownRules parts linker c.as_slice.result.now) sections.are_rules rules)));
      instances = subst (λ (v : Vec LinkedInstance Global). AreEach (IsInstance parts) parts.instances v.items)
          (sym c.in_ok-linked.ensures.instances)
          (subst (λ (xs : List InstanceTerm). AreEach (IsInstance parts) xs c.in_ok-instances.instances.items)
          (sym sections.are_instances)
          (c.in_ok-instances.ensures parts is
          (subst (AreKnownInstances parts linker c.as_slice-2.result.now) sections.are_instances instances)));
      first_names = subst (λ (v : Vec LinkedFirstName Global). TellFirstNames parts (map told_name v.items))
          (sym c.in_ok-linked.ensures.first_names) names.are_first_names;
    }
