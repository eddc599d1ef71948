-- EmptyLaws: linked parts with no templates (docs/PROFILE.md, section 12).
use Rattle.std.specs.Prelude.{◌≡◌, List, []}
use Rattle.std.proofs.Common.{sym}
use Rattle.std.proofs.Math.Path.{subst}
use Rattle.linked_parts.specs.declared.linked.Linked.{Linked}
use Rattle.linked_templates.specs.TemplateTables.{AreLinkedTemplates}
use Rattle.gdmo_linking.specs.LinkedTables.{of_kind}
use Rattle.gdmo_names.specs.InStep.{AreEach}
use Rattle.gdmo_names.specs.PartTerms.{Placed, PartTerms}
use Rattle.gdmo_names.specs.TemplateTerms.{TemplateKind}

none_of : {L : Type 0} (is : Placed → L → Type 0) (kind : TemplateKind) (ys : List L) → ys ≡ [] →
    AreEach is (of_kind kind []) ys
unfolding of_kind
none_of is kind ys none = subst (λ zs. AreEach is [] zs) (sym none) tt

pub none_linked : (parts : PartTerms) (x : Linked) → x.classes.items ≡ [] → x.packages.items ≡ [] →
    x.bindings.items ≡ [] → x.attributes.items ≡ [] → x.groups.items ≡ [] → x.actions.items ≡ [] →
    x.notifications.items ≡ [] → AreLinkedTemplates parts [] x
none_linked parts x c p b a g i n = record {
  classes = none_of _ _ x.classes.items c;
  packages = none_of _ _ x.packages.items p;
  bindings = none_of _ _ x.bindings.items b;
  attributes = none_of _ _ x.attributes.items a;
  groups = none_of _ _ x.groups.items g;
  actions = none_of _ _ x.actions.items i;
  notifications = none_of _ _ x.notifications.items n;
}
