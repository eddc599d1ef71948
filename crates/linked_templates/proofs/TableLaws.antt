-- TableLaws: one template more in the tables of linked templates (X.722, section 8; docs/PROFILE.md, section 12).
use Rattle.std.specs.Prelude.{◌≡◌, ◌==◌, List, [], ◌∷◌, ◌++◌, false, refl}
use Rattle.std.specs.declared.alloc.Global.{Global}
use Rattle.std.specs.declared.vec.Vec.{Vec}
use Rattle.std.proofs.Common.{ap, sym, ◌∙◌}
use Rattle.std.proofs.Math.Path.{subst}
use Rattle.linked_parts.specs.declared.linked.Linked.{Linked}
use Rattle.linked_parts.specs.declared.linked.LinkedClass.{LinkedClass}
use Rattle.linked_parts.specs.declared.linked.LinkedPackage.{LinkedPackage}
use Rattle.linked_parts.specs.declared.linked.LinkedBinding.{LinkedBinding}
use Rattle.linked_parts.specs.declared.linked.LinkedAttribute.{LinkedAttribute}
use Rattle.linked_parts.specs.declared.linked.LinkedGroup.{LinkedGroup}
use Rattle.linked_parts.specs.declared.linked.LinkedAction.{LinkedAction}
use Rattle.linked_parts.specs.declared.linked.LinkedNotification.{LinkedNotification}
use Rattle.linked_packages.specs.LinkedPackages.{IsPackageOf}
use Rattle.linked_templates.specs.LinkedMembers.{IsActionOf, IsAttributeOf, IsBindingOf, IsGroupOf, IsNotificationOf}
use Rattle.linked_templates.specs.LinkedTemplates.{IsClassOf}
use Rattle.linked_templates.specs.TemplateTables.{AreLinkedTemplates, IsTemplate}
use Rattle.gdmo_linking.specs.LinkedTables.{kind_number, of_kind}
use Rattle.gdmo_linking.proofs.KindLaws.{kind_less, kind_more, number_same}
use Rattle.gdmo_linking.proofs.StepLaws.{each_push}
use Rattle.gdmo_names.specs.InStep.{AreEach}
use Rattle.gdmo_names.specs.PartTerms.{Placed, PartTerms, kind_of}
use Rattle.gdmo_names.specs.TemplateTerms.{TemplateKind}
use Rattle.gdmo_names.specs.TemplateTerms.TemplateKind.{ClassKind, PackageKind, ParameterKind, BindingKind}
use Rattle.gdmo_names.specs.TemplateTerms.TemplateKind.{AttributeKind, GroupKind, BehaviourKind, ActionKind}
use Rattle.gdmo_names.specs.TemplateTerms.TemplateKind.{NotificationKind}

-- the linked template of each kind that is a template's
abbrev pub of_classes : PartTerms → Placed → LinkedClass → Type 0
of_classes parts x linked = IsTemplate parts (λ y. y.head) (IsClassOf parts) x linked

abbrev pub of_packages : PartTerms → Placed → LinkedPackage → Type 0
of_packages parts x linked = IsTemplate parts (λ y. y.head) (IsPackageOf parts) x linked

abbrev pub of_bindings : PartTerms → Placed → LinkedBinding → Type 0
of_bindings parts x linked = IsTemplate parts (λ y. y.head) (IsBindingOf parts) x linked

abbrev pub of_attributes : PartTerms → Placed → LinkedAttribute → Type 0
of_attributes parts x linked = IsTemplate parts (λ y. y.head) (IsAttributeOf parts) x linked

abbrev pub of_groups : PartTerms → Placed → LinkedGroup → Type 0
of_groups parts x linked = IsTemplate parts (λ y. y.head) (IsGroupOf parts) x linked

abbrev pub of_actions : PartTerms → Placed → LinkedAction → Type 0
of_actions parts x linked = IsTemplate parts (λ y. y.head) (IsActionOf parts) x linked

abbrev pub of_notifications : PartTerms → Placed → LinkedNotification → Type 0
of_notifications parts x linked = IsTemplate parts (λ y. y.head) (IsNotificationOf parts) x linked

pub template_pushed : {L : Type 0} (is : Placed → L → Type 0) (before : List Placed) (x : Placed) (old after : List L)
    (y : L) → AreEach is before old → is x y → after ≡ old ++ y ∷ [] → AreEach is (before ++ x ∷ []) after
template_pushed is before x old after y each one pushed =
    subst (λ ys. AreEach is (before ++ x ∷ []) ys) (sym pushed) (each_push is before old x y each one)

-- ---- the table of the template's kind, and those of others

added : {L : Type 0} (is : Placed → L → Type 0) (kind : TemplateKind) (before : List Placed) (x : Placed) (ys : List L) →
    kind_of x.template ≡ kind → AreEach is (of_kind kind before ++ x ∷ []) ys →
    AreEach is (of_kind kind (before ++ x ∷ [])) ys
added is kind before x ys own each = subst (λ xs. AreEach is xs ys)
    (sym (kind_more kind before x (ap (λ k. kind_number k == kind_number kind) own ∙ number_same (kind_number kind)))) each

kept : {L : Type 0} (is : Placed → L → Type 0) (kind its : TemplateKind) (before : List Placed) (x : Placed)
    (ys : List L) → kind_of x.template ≡ its → (kind_number its == kind_number kind) ≡ false →
    AreEach is (of_kind kind before) ys → AreEach is (of_kind kind (before ++ x ∷ [])) ys
kept is kind its before x ys own other each = subst (λ xs. AreEach is xs ys)
    (sym (kind_less kind before x (ap (λ k. kind_number k == kind_number kind) own ∙ other))) each

pub class_added : (parts : PartTerms) (before : List Placed) (x : Placed) (old : Linked) (ys : Vec LinkedClass Global) →
    kind_of x.template ≡ ClassKind → AreLinkedTemplates parts before old →
    AreEach (of_classes parts) (of_kind ClassKind before ++ x ∷ []) ys.items →
    AreLinkedTemplates parts (before ++ x ∷ []) (record old { classes = ys })
class_added parts before x old ys own so_far each = record {
  classes = added (of_classes parts) ClassKind before x ys.items own each;
  packages = kept (of_packages parts) PackageKind ClassKind before x old.packages.items own refl so_far.packages;
  bindings = kept (of_bindings parts) BindingKind ClassKind before x old.bindings.items own refl so_far.bindings;
  attributes = kept (of_attributes parts) AttributeKind ClassKind before x old.attributes.items own refl so_far.attributes;
  groups = kept (of_groups parts) GroupKind ClassKind before x old.groups.items own refl so_far.groups;
  actions = kept (of_actions parts) ActionKind ClassKind before x old.actions.items own refl so_far.actions;
  notifications = kept (of_notifications parts) NotificationKind ClassKind before x old.notifications.items own refl so_far.notifications;
}

pub package_added : (parts : PartTerms) (before : List Placed) (x : Placed) (old : Linked) (ys : Vec LinkedPackage Global) →
    kind_of x.template ≡ PackageKind → AreLinkedTemplates parts before old →
    AreEach (of_packages parts) (of_kind PackageKind before ++ x ∷ []) ys.items →
    AreLinkedTemplates parts (before ++ x ∷ []) (record old { packages = ys })
package_added parts before x old ys own so_far each = record {
  classes = kept (of_classes parts) ClassKind PackageKind before x old.classes.items own refl so_far.classes;
  packages = added (of_packages parts) PackageKind before x ys.items own each;
  bindings = kept (of_bindings parts) BindingKind PackageKind before x old.bindings.items own refl so_far.bindings;
  attributes = kept (of_attributes parts) AttributeKind PackageKind before x old.attributes.items own refl so_far.attributes;
  groups = kept (of_groups parts) GroupKind PackageKind before x old.groups.items own refl so_far.groups;
  actions = kept (of_actions parts) ActionKind PackageKind before x old.actions.items own refl so_far.actions;
  notifications = kept (of_notifications parts) NotificationKind PackageKind before x old.notifications.items own refl so_far.notifications;
}

pub binding_added : (parts : PartTerms) (before : List Placed) (x : Placed) (old : Linked) (ys : Vec LinkedBinding Global) →
    kind_of x.template ≡ BindingKind → AreLinkedTemplates parts before old →
    AreEach (of_bindings parts) (of_kind BindingKind before ++ x ∷ []) ys.items →
    AreLinkedTemplates parts (before ++ x ∷ []) (record old { bindings = ys })
binding_added parts before x old ys own so_far each = record {
  classes = kept (of_classes parts) ClassKind BindingKind before x old.classes.items own refl so_far.classes;
  packages = kept (of_packages parts) PackageKind BindingKind before x old.packages.items own refl so_far.packages;
  bindings = added (of_bindings parts) BindingKind before x ys.items own each;
  attributes = kept (of_attributes parts) AttributeKind BindingKind before x old.attributes.items own refl so_far.attributes;
  groups = kept (of_groups parts) GroupKind BindingKind before x old.groups.items own refl so_far.groups;
  actions = kept (of_actions parts) ActionKind BindingKind before x old.actions.items own refl so_far.actions;
  notifications = kept (of_notifications parts) NotificationKind BindingKind before x old.notifications.items own refl so_far.notifications;
}

pub attribute_added : (parts : PartTerms) (before : List Placed) (x : Placed) (old : Linked) (ys : Vec LinkedAttribute Global) →
    kind_of x.template ≡ AttributeKind → AreLinkedTemplates parts before old →
    AreEach (of_attributes parts) (of_kind AttributeKind before ++ x ∷ []) ys.items →
    AreLinkedTemplates parts (before ++ x ∷ []) (record old { attributes = ys })
attribute_added parts before x old ys own so_far each = record {
  classes = kept (of_classes parts) ClassKind AttributeKind before x old.classes.items own refl so_far.classes;
  packages = kept (of_packages parts) PackageKind AttributeKind before x old.packages.items own refl so_far.packages;
  bindings = kept (of_bindings parts) BindingKind AttributeKind before x old.bindings.items own refl so_far.bindings;
  attributes = added (of_attributes parts) AttributeKind before x ys.items own each;
  groups = kept (of_groups parts) GroupKind AttributeKind before x old.groups.items own refl so_far.groups;
  actions = kept (of_actions parts) ActionKind AttributeKind before x old.actions.items own refl so_far.actions;
  notifications = kept (of_notifications parts) NotificationKind AttributeKind before x old.notifications.items own refl so_far.notifications;
}

pub group_added : (parts : PartTerms) (before : List Placed) (x : Placed) (old : Linked) (ys : Vec LinkedGroup Global) →
    kind_of x.template ≡ GroupKind → AreLinkedTemplates parts before old →
    AreEach (of_groups parts) (of_kind GroupKind before ++ x ∷ []) ys.items →
    AreLinkedTemplates parts (before ++ x ∷ []) (record old { groups = ys })
group_added parts before x old ys own so_far each = record {
  classes = kept (of_classes parts) ClassKind GroupKind before x old.classes.items own refl so_far.classes;
  packages = kept (of_packages parts) PackageKind GroupKind before x old.packages.items own refl so_far.packages;
  bindings = kept (of_bindings parts) BindingKind GroupKind before x old.bindings.items own refl so_far.bindings;
  attributes = kept (of_attributes parts) AttributeKind GroupKind before x old.attributes.items own refl so_far.attributes;
  groups = added (of_groups parts) GroupKind before x ys.items own each;
  actions = kept (of_actions parts) ActionKind GroupKind before x old.actions.items own refl so_far.actions;
  notifications = kept (of_notifications parts) NotificationKind GroupKind before x old.notifications.items own refl so_far.notifications;
}

pub action_added : (parts : PartTerms) (before : List Placed) (x : Placed) (old : Linked) (ys : Vec LinkedAction Global) →
    kind_of x.template ≡ ActionKind → AreLinkedTemplates parts before old →
    AreEach (of_actions parts) (of_kind ActionKind before ++ x ∷ []) ys.items →
    AreLinkedTemplates parts (before ++ x ∷ []) (record old { actions = ys })
action_added parts before x old ys own so_far each = record {
  classes = kept (of_classes parts) ClassKind ActionKind before x old.classes.items own refl so_far.classes;
  packages = kept (of_packages parts) PackageKind ActionKind before x old.packages.items own refl so_far.packages;
  bindings = kept (of_bindings parts) BindingKind ActionKind before x old.bindings.items own refl so_far.bindings;
  attributes = kept (of_attributes parts) AttributeKind ActionKind before x old.attributes.items own refl so_far.attributes;
  groups = kept (of_groups parts) GroupKind ActionKind before x old.groups.items own refl so_far.groups;
  actions = added (of_actions parts) ActionKind before x ys.items own each;
  notifications = kept (of_notifications parts) NotificationKind ActionKind before x old.notifications.items own refl so_far.notifications;
}

pub notification_added : (parts : PartTerms) (before : List Placed) (x : Placed) (old : Linked) (ys : Vec LinkedNotification Global) →
    kind_of x.template ≡ NotificationKind → AreLinkedTemplates parts before old →
    AreEach (of_notifications parts) (of_kind NotificationKind before ++ x ∷ []) ys.items →
    AreLinkedTemplates parts (before ++ x ∷ []) (record old { notifications = ys })
notification_added parts before x old ys own so_far each = record {
  classes = kept (of_classes parts) ClassKind NotificationKind before x old.classes.items own refl so_far.classes;
  packages = kept (of_packages parts) PackageKind NotificationKind before x old.packages.items own refl so_far.packages;
  bindings = kept (of_bindings parts) BindingKind NotificationKind before x old.bindings.items own refl so_far.bindings;
  attributes = kept (of_attributes parts) AttributeKind NotificationKind before x old.attributes.items own refl so_far.attributes;
  groups = kept (of_groups parts) GroupKind NotificationKind before x old.groups.items own refl so_far.groups;
  actions = kept (of_actions parts) ActionKind NotificationKind before x old.actions.items own refl so_far.actions;
  notifications = added (of_notifications parts) NotificationKind before x ys.items own each;
}

pub parameter_passed : (parts : PartTerms) (before : List Placed) (x : Placed) (old : Linked) →
    kind_of x.template ≡ ParameterKind → AreLinkedTemplates parts before old → AreLinkedTemplates parts (before ++ x ∷ []) old
parameter_passed parts before x old own so_far = record {
  classes = kept (of_classes parts) ClassKind ParameterKind before x old.classes.items own refl so_far.classes;
  packages = kept (of_packages parts) PackageKind ParameterKind before x old.packages.items own refl so_far.packages;
  bindings = kept (of_bindings parts) BindingKind ParameterKind before x old.bindings.items own refl so_far.bindings;
  attributes = kept (of_attributes parts) AttributeKind ParameterKind before x old.attributes.items own refl so_far.attributes;
  groups = kept (of_groups parts) GroupKind ParameterKind before x old.groups.items own refl so_far.groups;
  actions = kept (of_actions parts) ActionKind ParameterKind before x old.actions.items own refl so_far.actions;
  notifications = kept (of_notifications parts) NotificationKind ParameterKind before x old.notifications.items own refl so_far.notifications;
}

pub behaviour_passed : (parts : PartTerms) (before : List Placed) (x : Placed) (old : Linked) →
    kind_of x.template ≡ BehaviourKind → AreLinkedTemplates parts before old → AreLinkedTemplates parts (before ++ x ∷ []) old
behaviour_passed parts before x old own so_far = record {
  classes = kept (of_classes parts) ClassKind BehaviourKind before x old.classes.items own refl so_far.classes;
  packages = kept (of_packages parts) PackageKind BehaviourKind before x old.packages.items own refl so_far.packages;
  bindings = kept (of_bindings parts) BindingKind BehaviourKind before x old.bindings.items own refl so_far.bindings;
  attributes = kept (of_attributes parts) AttributeKind BehaviourKind before x old.attributes.items own refl so_far.attributes;
  groups = kept (of_groups parts) GroupKind BehaviourKind before x old.groups.items own refl so_far.groups;
  actions = kept (of_actions parts) ActionKind BehaviourKind before x old.actions.items own refl so_far.actions;
  notifications = kept (of_notifications parts) NotificationKind BehaviourKind before x old.notifications.items own refl so_far.notifications;
}
