-- The labels of a schema: X.722, section 8.
use Rattle.term_model.specs.declared.schema.Set.{Set}
use Rattle.set_report.specs.declared.labels.SchemaLabels.{SchemaLabels}
use Rattle.set_report.specs.Labels.{HasLabels, action_labels, attribute_labels, class_labels, notification_labels}
use Rattle.set_report.specs.Labels.{package_labels}

-- these maps have the labels of the classes, attributes, actions, notifications and conditional packages
pub record NamesSchema (schema : Set) (labels : SchemaLabels) : Type 0 where
  pub classes : HasLabels labels.classes (class_labels schema.classes)
  pub attributes : HasLabels labels.attributes (attribute_labels schema.attributes)
  pub actions : HasLabels labels.actions (action_labels schema.actions)
  pub notifications : HasLabels labels.notifications (notification_labels schema.notifications)
  pub packages : HasLabels labels.packages (package_labels schema.classes)
