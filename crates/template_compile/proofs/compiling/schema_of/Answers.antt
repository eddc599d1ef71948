-- The schema has the records of the classes that were closed.
use Rattle.std.proofs.Common.{List, refl, sym}
use Rattle.std.proofs.Math.Path.{subst}
use Rattle.linked_types.specs.PartIdentifiers.{AreEach}
use Rattle.section_values.specs.SectionRecords.{IsInstance}
use Rattle.section_values.specs.declared.instances.InstanceValues.{InstanceValues}
use Rattle.template_compile.proofs.compiling.schema_of.Goals as goal

pub returns : goal.returns
returns c = λ ms closed registered. record {
  records = record {
    classes_are = closed.templates.classes_are;
    joined = closed.templates.joined _ refl;
    attributes_are = closed.templates.attributes_are;
    groups_are = closed.templates.groups_are;
    bindings_are = closed.templates.bindings_are;
    actions_are = closed.templates.actions_are;
    notifications_are = closed.templates.notifications_are;
    rules_are = closed.rules_are;
  };
  instances = c.in_ok-instances.ensures ms closed.templates.attributes_are
      (subst (λ (xs : List InstanceValues). AreEach (IsInstance ms c.args.linked.now)
      c.args.linked.now.instances.items xs) (sym c.as_slice.ensures.value) closed.instances_are) registered;
}
