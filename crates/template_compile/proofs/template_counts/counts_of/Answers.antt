use Rattle.std.proofs.Common.{length, ap, ◌∙◌}
use Rattle.gdmo_names.specs.FoundViews.{found_views}
use Rattle.gdmo_names.specs.TemplateTerms.{TemplateKind}
use Rattle.gdmo_names.specs.TemplateTerms.TemplateKind.{ClassKind, PackageKind, ParameterKind, BindingKind}
use Rattle.gdmo_names.specs.TemplateTerms.TemplateKind.{AttributeKind, GroupKind, BehaviourKind, ActionKind}
use Rattle.gdmo_names.specs.TemplateTerms.TemplateKind.{NotificationKind}
use Rattle.template_compile.specs.Counting.{kind_count, type_count}
use Rattle.template_compile.proofs.template_counts.counts_of.Goals as goal

pub returns : goal.returns
returns c =
    let same = ap found_views c.as_slice-templates.ensures.value ∙ c.in_ok-found.ensures.all in
    let of = λ (kind : TemplateKind). ap (kind_count kind) same in
    λ i. record {
      documents = length c.args.documents.now;
      classes = (c.kind_count.ensures ∙ of ClassKind) i;
      packages = (c.kind_count-2.ensures ∙ of PackageKind) i;
      attributes = (c.kind_count-3.ensures ∙ of AttributeKind) i;
      groups = (c.kind_count-4.ensures ∙ of GroupKind) i;
      bindings = (c.kind_count-5.ensures ∙ of BindingKind) i;
      actions = (c.kind_count-6.ensures ∙ of ActionKind) i;
      notifications = (c.kind_count-7.ensures ∙ of NotificationKind) i;
      parameters = (c.kind_count-8.ensures ∙ of ParameterKind) i;
      behaviours = (c.kind_count-9.ensures ∙ of BehaviourKind) i;
      types = (c.type_count.ensures ∙ ap type_count c.as_slice.ensures.value) i;
    }
