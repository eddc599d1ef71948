-- By the laws of each template.
use Rattle.gdmo_classes.proofs.UseValues.{group_references_agree, action_references_agree}
use Rattle.gdmo_classes.proofs.UseValues.{notification_references_agree, one_properties}
use Rattle.gdmo_classes.proofs.TemplateValues.{one_template, one_class, one_package, one_name_binding}
use Rattle.gdmo_classes.proofs.TemplateValues.{class_references_agree, package_references_agree}
use Rattle.gdmo_classes.proofs.class_laws.one_value.Goals as goal

pub returns : goal.returns
returns c = record {
  template = one_template;
  class = one_class;
  «package» = one_package;
  name_binding = one_name_binding;
  class_reference = class_references_agree;
  package_reference = package_references_agree;
  group_reference = group_references_agree;
  action_reference = action_references_agree;
  notification_reference = notification_references_agree;
  properties = one_properties;
}
