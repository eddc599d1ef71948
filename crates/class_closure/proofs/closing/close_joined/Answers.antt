-- All that is noted of texts and of classes, step after step.
use Rattle.std.proofs.lemmas.Result.{err_from_is_err_and}
use Rattle.std.proofs.Common.{List, sym}
use Rattle.std.proofs.Math.Path.{subst}
use Rattle.std.specs.Global.{Vec}
use Rattle.term_model.specs.declared.rule.RuleRec.{RuleRec}
use Rattle.linked_types.specs.PartIdentifiers.{AreEach}
use Rattle.class_faults.specs.BadValues.BadValueAt.{of_instance, of_rule}
use Rattle.class_faults.specs.FirstClassFault.ClassFault.{ValueBad}
use Rattle.section_values.specs.SectionRecords.{IsInstance, IsRule}
use Rattle.section_values.specs.declared.instances.InstanceValues.{InstanceValues}
use Rattle.closing_laws.specs.NotedSteps.{AreClassFaults, AreNotedTexts}
use Rattle.class_closure.proofs.MeantLaws.{meanings_known}
use Rattle.class_closure.proofs.UnequalLaws.{none_unequal}
use Rattle.class_closure.proofs.closing.close_joined.Goals as goal

pub returns-in_err-tell_fault-clause-cause : goal.returns-in_err-tell_fault-clause-cause
returns-in_err-tell_fault-clause-cause c =
    let p = err_from_is_err_and c.from_residual-in_err-tell_fault.result c.from_residual-in_err-tell_fault.ensures.1 in
    let linked = c.args.parts.now.linked.now in
    rw (p.1, p.2) (λ ms joined named cyclic.
    let texts : AreNotedTexts ms linked c.instance_values.new.bad.first = record {
      named = c.args.bad.now.first;
      are_named = named;
      ruled = c.rule_records.new.bad.first;
      of_rules = c.in_ok-rules.ensures.noted ms joined.stated.are_parts;
      of_instances = c.in_ok-instances.ensures.noted ms joined.stated.are_parts;
    } in
    let classes : AreClassFaults ms linked c.note_packages.new.faults.first = record {
      cyclic = c.args.faults.now.first;
      are_cyclic = cyclic;
      joined = c.note_classes.new.faults.first;
      of_properties = c.in_ok-note_classes.ensures ms c.args.joined.now.stated.now joined.stated.are_parts
          joined.stated.are_stated joined.properties;
      of_packages = c.in_ok-note_packages.ensures ms joined.stated.are_parts;
    } in
    c.in_err-tell_fault.ensures.cause ms linked texts classes)

pub returns-clause-closed : goal.returns-clause-closed
returns-clause-closed c = λ ms joined named cyclic.
    let linked = c.args.parts.now.linked.now in
    let parts = joined.stated.are_parts in
    let texts : AreNotedTexts ms linked c.instance_values.new.bad.first = record {
      named = c.args.bad.now.first;
      are_named = named;
      ruled = c.rule_records.new.bad.first;
      of_rules = c.in_ok-rules.ensures.noted ms parts;
      of_instances = c.in_ok-instances.ensures.noted ms parts;
    } in
    let classes : AreClassFaults ms linked c.note_packages.new.faults.first = record {
      cyclic = c.args.faults.now.first;
      are_cyclic = cyclic;
      joined = c.note_classes.new.faults.first;
      of_properties = c.in_ok-note_classes.ensures ms c.args.joined.now.stated.now parts joined.stated.are_stated
          joined.properties;
      of_packages = c.in_ok-note_packages.ensures ms parts;
    } in
    let sound = c.in_ok-tell_fault.ensures.faultless ms linked texts classes in
    record {
      faultless = sound;
      records = λ can.
          let means = meanings_known ms c.args.parts.now c.args.joined.now.stated.now joined.stated can in
          record {
            templates = c.in_ok-records_of.ensures.told ms joined can
                (none_unequal ms c.args.parts.now c.args.joined.now joined sound);
            rules_are = subst (λ (xs : List RuleRec). AreEach (IsRule ms linked) linked.rules.items xs)
                (sym c.in_ok-records_of.ensures.rules)
                (c.in_ok-rules.ensures.told ms parts can.rules_registered means.rules_have_syntaxes
                (λ place bad. sound ValueBad place.document place.token (of_rule bad)));
            instances_are = subst (λ (xs : Vec InstanceValues). AreEach (IsInstance ms linked) linked.instances.items
                xs.items)
                (sym c.in_ok-records_of.ensures.instances)
                (c.in_ok-instances.ensures.told ms parts means.instances_have_syntaxes
                (λ place bad. sound ValueBad place.document place.token (of_instance bad)));
          };
    }
