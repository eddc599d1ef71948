use Rattle.gdmo_classes.proofs.SameUses.{group_references_alike, action_references_alike, notification_references_alike}
use Rattle.gdmo_classes.proofs.SameTemplates.{templates_alike, classes_alike, package_templates_alike}
use Rattle.gdmo_classes.proofs.SameTemplates.{name_bindings_alike, class_references_alike, package_references_alike}
use Rattle.gdmo_classes.proofs.class_laws.one_tree.Goals as goal

pub returns : goal.returns
returns c = record {
  template = templates_alike;
  class = classes_alike;
  «package» = package_templates_alike;
  name_binding = name_bindings_alike;
  class_reference = class_references_alike;
  package_reference = package_references_alike;
  group_reference = group_references_alike;
  action_reference = action_references_alike;
  notification_reference = notification_references_alike;
}
