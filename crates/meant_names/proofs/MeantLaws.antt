-- MeantLaws: in linked parts each attribute, and each type that is named, has a syntax, and each value that is named is
-- one, where nothing is wrong with the modules and the classes (X.722, section 8; X.680, section 17; docs/PROFILE.md,
-- sections 11, 12 and 18).
use Rattle.std.proofs.Common.{List, Option}
use Rattle.std.proofs.lemmas.List.Elements.{All-weaker}
use Rattle.std.proofs.lemmas.Option.{IfSome_then}
use Rattle.std.specs.Prelude.{All}
use Rattle.asn1_syntax.specs.declared.module.Module.{Module}
use Rattle.asn1_names.specs.FirstModuleFault.{AreFaultless}
use Rattle.asn1_names.specs.ModuleTerms.{ModuleTerm}
use Rattle.asn1_names.specs.TermViews.{module_terms}
use Rattle.linked_parts.specs.declared.linked.Linked.{Linked}
use Rattle.linked_parts.specs.declared.linked.LinkedAction.{LinkedAction}
use Rattle.linked_parts.specs.declared.linked.LinkedName.{LinkedName}
use Rattle.linked_parts.specs.declared.linked.LinkedNotification.{LinkedNotification}
use Rattle.linked_parts.specs.declared.linked.LinkedPackage.{LinkedPackage}
use Rattle.linked_parts.specs.declared.linked.LinkedUse.{LinkedUse}
use Rattle.class_faults.specs.FirstClassFault.{AreFaultless as AreClassesFaultless}
use Rattle.meant_names.specs.MeantNames.{AreMeant, HasSomeValue, HasSyntax, HaveSyntaxes, IsMeantUse}
use Rattle.meant_names.specs.WantedMeanings.{AreWanted, AreWantedTypes, IsWantedUse, MeansType, MeansValue}
use Rattle.meant_names.proofs.AttributeLaws.{attribute_has}
use Rattle.meant_names.proofs.NamedLaws.{type_has, value_has}
use Rattle.meant_names.proofs.TextLaws.{all_told}

-- what holds of each name
abbrev AllTypes : List ModuleTerm → Linked → Type 0
AllTypes ms linked = (name : LinkedName) → MeansType ms name → HasSyntax ms linked name

abbrev AllValues : List ModuleTerm → Linked → Type 0
AllValues ms linked = (name : LinkedName) → MeansValue ms name → HasSomeValue ms linked name

types_have : (ms : List ModuleTerm) (linked : Linked) → AllTypes ms linked → (information reply : Option LinkedName) →
    AreWantedTypes ms information reply → HaveSyntaxes ms linked information reply
types_have ms linked types information reply wanted = record {
  of_information = IfSome_then information wanted.of_information types;
  of_reply = IfSome_then reply wanted.of_reply types;
}

use_means : (ms : List ModuleTerm) (linked : Linked) → AllTypes ms linked → AllValues ms linked → (stated : LinkedUse) →
    IsWantedUse ms stated → IsMeantUse ms linked stated
use_means ms linked types values stated wanted = record {
  of_default = IfSome_then stated.default_value wanted.of_default values;
  of_initial = IfSome_then stated.initial_value wanted.of_initial values;
  of_permitted = IfSome_then stated.permitted wanted.of_permitted types;
}

all_meant : (ms : List ModuleTerm) (linked : Linked) → AllTypes ms linked → AllValues ms linked →
    AreClassesFaultless ms linked → AreWanted ms linked → AreMeant ms linked
all_meant ms linked types values classes wanted = record {
  of_attributes = attribute_has ms linked classes wanted types;
  of_actions = All-weaker (λ (x : LinkedAction). AreWantedTypes ms x.information x.reply)
      (λ (x : LinkedAction). HaveSyntaxes ms linked x.information x.reply)
      (λ x is. types_have ms linked types x.information x.reply is) linked.actions.items wanted.of_actions;
  of_notifications = All-weaker (λ (x : LinkedNotification). AreWantedTypes ms x.information x.reply)
      (λ (x : LinkedNotification). HaveSyntaxes ms linked x.information x.reply)
      (λ x is. types_have ms linked types x.information x.reply is) linked.notifications.items wanted.of_notifications;
  of_packages = All-weaker (λ (part : LinkedPackage). All (IsWantedUse ms) part.attributes.items)
      (λ (part : LinkedPackage). All (IsMeantUse ms linked) part.attributes.items)
      (λ part are. All-weaker (IsWantedUse ms) (IsMeantUse ms linked) (use_means ms linked types values)
      part.attributes.items are) linked.packages.items wanted.of_packages;
}

pub are_meant : (modules : List Module) (linked : Linked) →
    AreFaultless (module_terms modules) → AreClassesFaultless (module_terms modules) linked →
    AreWanted (module_terms modules) linked → AreMeant (module_terms modules) linked
are_meant modules linked faultless classes wanted =
    let ms = module_terms modules in
    let all = all_told modules in
    all_meant ms linked (type_has ms linked faultless all) (value_has ms linked faultless all classes)
    classes wanted
