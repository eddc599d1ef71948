-- One template more, in the table of its kind.
use Rattle.std.proofs.Common.{ap}
use Rattle.gdmo_linking.specs.LinkedTables.{of_kind}
use Rattle.gdmo_names.specs.FoundViews.{body_term, found_view}
use Rattle.gdmo_names.specs.PartTerms.{kind_of_body}
use Rattle.gdmo_names.specs.TemplateTerms.TemplateKind.{ClassKind, PackageKind, BindingKind, AttributeKind}
use Rattle.gdmo_names.specs.TemplateTerms.TemplateKind.{GroupKind, ActionKind, NotificationKind}
use Rattle.linked_templates.proofs.TableLaws.{action_added, attribute_added, behaviour_passed, binding_added, class_added}
use Rattle.linked_templates.proofs.TableLaws.{group_added, notification_added, package_added, parameter_passed}
use Rattle.linked_templates.proofs.linking_templates.link_headed.Goals as goal

pub returns-in_ok-push_class-in-Class-clause-tables : goal.returns-in_ok-push_class-in-Class-clause-tables
returns-in_ok-push_class-in-Class-clause-tables c = λ parts before is head so_far.
    class_added parts before (found_view c.args.found.now) c.args.linked.now c.push_class.new.classes
    (ap (λ b. kind_of_body (body_term b)) c.in-Class.is) so_far
    (c.in_ok-push_class-in-Class.ensures parts (of_kind ClassKind before) is (ap body_term c.in-Class.is) head so_far.classes)

pub returns-in_ok-push_package-in-Package-clause-tables : goal.returns-in_ok-push_package-in-Package-clause-tables
returns-in_ok-push_package-in-Package-clause-tables c = λ parts before is head so_far.
    package_added parts before (found_view c.args.found.now) c.args.linked.now c.push_package.new.packages
    (ap (λ b. kind_of_body (body_term b)) c.in-Package.is) so_far
    (c.in_ok-push_package-in-Package.ensures parts (of_kind PackageKind before) is (ap body_term c.in-Package.is) head so_far.packages)

pub returns-in_ok-push_binding-in-Binding-clause-tables : goal.returns-in_ok-push_binding-in-Binding-clause-tables
returns-in_ok-push_binding-in-Binding-clause-tables c = λ parts before is head so_far.
    binding_added parts before (found_view c.args.found.now) c.args.linked.now c.push_binding.new.bindings
    (ap (λ b. kind_of_body (body_term b)) c.in-Binding.is) so_far
    (c.in_ok-push_binding-in-Binding.ensures parts (of_kind BindingKind before) is (ap body_term c.in-Binding.is) head so_far.bindings)

pub returns-in_ok-push_attribute-in-Attribute-clause-tables : goal.returns-in_ok-push_attribute-in-Attribute-clause-tables
returns-in_ok-push_attribute-in-Attribute-clause-tables c = λ parts before is head so_far.
    attribute_added parts before (found_view c.args.found.now) c.args.linked.now c.push_attribute.new.attributes
    (ap (λ b. kind_of_body (body_term b)) c.in-Attribute.is) so_far
    (c.in_ok-push_attribute-in-Attribute.ensures parts (of_kind AttributeKind before) is (ap body_term c.in-Attribute.is) head so_far.attributes)

pub returns-in_ok-push_group-in-Group-clause-tables : goal.returns-in_ok-push_group-in-Group-clause-tables
returns-in_ok-push_group-in-Group-clause-tables c = λ parts before is head so_far.
    group_added parts before (found_view c.args.found.now) c.args.linked.now c.push_group.new.groups
    (ap (λ b. kind_of_body (body_term b)) c.in-Group.is) so_far
    (c.in_ok-push_group-in-Group.ensures parts (of_kind GroupKind before) is (ap body_term c.in-Group.is) head so_far.groups)

pub returns-in_ok-push_action-in-Action-clause-tables : goal.returns-in_ok-push_action-in-Action-clause-tables
returns-in_ok-push_action-in-Action-clause-tables c = λ parts before is head so_far.
    action_added parts before (found_view c.args.found.now) c.args.linked.now c.push_action.new.actions
    (ap (λ b. kind_of_body (body_term b)) c.in-Action.is) so_far
    (c.in_ok-push_action-in-Action.ensures parts (of_kind ActionKind before) is (ap body_term c.in-Action.is) head so_far.actions)

pub returns-in_ok-push_notification-in-Notification-clause-tables : goal.returns-in_ok-push_notification-in-Notification-clause-tables
returns-in_ok-push_notification-in-Notification-clause-tables c = λ parts before is head so_far.
    notification_added parts before (found_view c.args.found.now) c.args.linked.now c.push_notification.new.notifications
    (ap (λ b. kind_of_body (body_term b)) c.in-Notification.is) so_far
    (c.in_ok-push_notification-in-Notification.ensures parts (of_kind NotificationKind before) is (ap body_term c.in-Notification.is) head so_far.notifications)

pub returns-in-Parameter-clause-tables : goal.returns-in-Parameter-clause-tables
returns-in-Parameter-clause-tables c = λ parts before is head so_far.
    parameter_passed parts before (found_view c.args.found.now) c.args.linked.now
    (ap (λ b. kind_of_body (body_term b)) c.in-Parameter.is) so_far

pub returns-in-Behaviour-clause-tables : goal.returns-in-Behaviour-clause-tables
returns-in-Behaviour-clause-tables c = λ parts before is head so_far.
    behaviour_passed parts before (found_view c.args.found.now) c.args.linked.now
    (ap (λ b. kind_of_body (body_term b)) c.in-Behaviour.is) so_far
