-- TemplateLaws: what is linked of a template without a fault of labels means what is wanted (X.722, sections 8.4, 8.7,
-- 8.10 and 8.11).
use Rattle.std.specs.Prelude.{◌++◌, ◌∷◌, [], ℕ, List, All, Option, refl}
use Rattle.std.proofs.Common.{arith}
use Rattle.std.proofs.lemmas.List.Elements.{All-cons, All-nil, Contains-append_left, Contains-append_right}
use Rattle.token_grammar.specs.declared.qualified_name.QualifiedName.{QualifiedName}
use Rattle.gdmo_names.specs.DocumentTemplates.{templates}
use Rattle.gdmo_names.specs.FirstLabelFault.{AreFaultless}
use Rattle.gdmo_names.specs.PartTerms.{PartTerms, module_terms_of}
use Rattle.gdmo_names.specs.TemplateTerms.{BodyTerm, SyntaxTerm, UseTerms}
use Rattle.gdmo_names.specs.TemplateTerms.BodyTerm.{ActionBody, AttributeBody, BehaviourBody, BindingBody, ClassBody}
use Rattle.gdmo_names.specs.TemplateTerms.BodyTerm.{GroupBody, NotificationBody, PackageBody, ParameterBody}
use Rattle.gdmo_names.specs.TemplateTerms.SyntaxTerm.{OfAttribute, OfType}
use Rattle.gdmo_names.specs.TemplateTerms.TemplateKind.{AttributeKind}
use Rattle.gdmo_names.specs.TemplateTerms.UseTerms.{NoUses, Use}
use Rattle.gdmo_names.specs.TypeMeaning.{name_list, stated_values, syntax_types, type_names, use_types, use_values}
use Rattle.gdmo_names.specs.TypeMeaning.{value_names}
use Rattle.linked_parts.specs.declared.linked.Linked.{Linked}
use Rattle.linked_parts.specs.declared.linked.LinkedAction.{LinkedAction}
use Rattle.linked_parts.specs.declared.linked.LinkedAttribute.{LinkedAttribute}
use Rattle.linked_parts.specs.declared.linked.LinkedName.{LinkedName}
use Rattle.linked_parts.specs.declared.linked.LinkedNotification.{LinkedNotification}
use Rattle.linked_parts.specs.declared.linked.LinkedPackage.{LinkedPackage}
use Rattle.linked_parts.specs.declared.linked.LinkedSyntax.{LinkedSyntax}
use Rattle.linked_parts.specs.declared.linked.LinkedSyntax.TheVariants.{OfAttribute as LinkedBase, OfType as LinkedType}
use Rattle.linked_parts.specs.declared.linked.LinkedUse.{LinkedUse}
use Rattle.gdmo_linking.specs.LinkedNames.{IsOptionalName}
use Rattle.linked_packages.specs.LinkedPackages.{AreUses, IsPackageOf}
use Rattle.linked_templates.specs.LinkedMembers.{IsActionOf, IsAttributeOf, IsNotificationOf, IsSyntax}
use Rattle.linked_templates.specs.TemplateTables.{AreLinkedTemplates}
use Rattle.meant_names.specs.WantedMeanings.{AreWantedTypes, IsWantedSyntax, IsWantedUse}
use Rattle.wanted_laws.proofs.SortLaws.{AreTypes, AreValues, means_type, optional_type, stated_value}
use Rattle.wanted_laws.proofs.TableLaws.{linked_there}

module _ (parts : PartTerms) (document : ℕ) (xs ys : List QualifiedName) where
  types_left : AreTypes parts document (xs ++ ys) → AreTypes parts document xs
  types_left names name has = names name (Contains-append_left xs ys name has)

  types_right : AreTypes parts document (xs ++ ys) → AreTypes parts document ys
  types_right names name has = names name (Contains-append_right xs ys name has)

  values_left : AreValues parts document (xs ++ ys) → AreValues parts document xs
  values_left names name has = names name (Contains-append_left xs ys name has)

  values_right : AreValues parts document (xs ++ ys) → AreValues parts document ys
  values_right names name has = names name (Contains-append_right xs ys name has)

module _ (parts : PartTerms) (faultless : AreFaultless parts) (document : ℕ) where
  -- ---- packages

  uses_wanted : (uses : UseTerms) (xs : List LinkedUse) → AreTypes parts document (use_types uses) →
      AreValues parts document (use_values uses) → AreUses parts document uses xs →
      All (IsWantedUse (module_terms_of parts)) xs
  uses_wanted NoUses [] types values are = All-nil (IsWantedUse (module_terms_of parts))
  uses_wanted NoUses (x ∷ xs) types values are = absurd are
  uses_wanted (Use attribute default initial permitted required words parameters rest) [] types values are =
      absurd are
  uses_wanted (Use attribute default initial permitted required words parameters rest) (x ∷ xs) types values are =
      let other_types = name_list required ++ use_types rest in
      let other_values = stated_values initial ++ use_values rest in
      let further = values_right parts document (stated_values default) other_values values in
      All-cons (IsWantedUse (module_terms_of parts)) x xs (record {
        of_default = stated_value parts faultless document default x.default_value
            (values_left parts document (stated_values default) other_values values) are.0.is_default;
        of_initial = stated_value parts faultless document initial x.initial_value
            (values_left parts document (stated_values initial) (use_values rest) further) are.0.is_initial;
        of_permitted = optional_type parts faultless document permitted x.permitted
            (types_left parts document (name_list permitted) other_types types) are.0.is_permitted;
      }) (uses_wanted rest xs (types_right parts document (name_list required) (use_types rest)
      (types_right parts document (name_list permitted) other_types types))
      (values_right parts document (stated_values initial) (use_values rest) further) are.1)

  pub package_wanted : (body : BodyTerm) (x : LinkedPackage) → AreTypes parts document (type_names body) →
      AreValues parts document (value_names body) → IsPackageOf parts document body x →
      All (IsWantedUse (module_terms_of parts)) x.attributes.items
  package_wanted (PackageBody behaviours uses groups actions notifications) x types values is =
      uses_wanted uses x.attributes.items types values is.attributes_are
  package_wanted (ClassBody _ _ _) x types values is = absurd is
  package_wanted (ParameterBody _ _) x types values is = absurd is
  package_wanted (BindingBody _ _ _ _ _ _ _ _) x types values is = absurd is
  package_wanted (AttributeBody _ _ _ _) x types values is = absurd is
  package_wanted (GroupBody _ _) x types values is = absurd is
  package_wanted BehaviourBody x types values is = absurd is
  package_wanted (ActionBody _ _ _ _ _) x types values is = absurd is
  package_wanted (NotificationBody _ _ _ _ _) x types values is = absurd is

  -- ---- actions and notifications

  types_wanted : (information reply : Option QualifiedName) (one other : Option LinkedName) →
      AreTypes parts document (name_list information ++ name_list reply) → IsOptionalName parts information one →
      IsOptionalName parts reply other → AreWantedTypes (module_terms_of parts) one other
  types_wanted information reply one other types is also = record {
    of_information = optional_type parts faultless document information one
        (types_left parts document (name_list information) (name_list reply) types) is;
    of_reply = optional_type parts faultless document reply other
        (types_right parts document (name_list information) (name_list reply) types) also;
  }

  pub action_wanted : (body : BodyTerm) (x : LinkedAction) → AreTypes parts document (type_names body) →
      IsActionOf parts document body x → AreWantedTypes (module_terms_of parts) x.information x.reply
  action_wanted (ActionBody behaviours confirmed parameters information reply) x types is =
      types_wanted information reply x.information x.reply types is.is_information is.is_reply
  action_wanted (ClassBody _ _ _) x types is = absurd is
  action_wanted (PackageBody _ _ _ _ _) x types is = absurd is
  action_wanted (ParameterBody _ _) x types is = absurd is
  action_wanted (BindingBody _ _ _ _ _ _ _ _) x types is = absurd is
  action_wanted (AttributeBody _ _ _ _) x types is = absurd is
  action_wanted (GroupBody _ _) x types is = absurd is
  action_wanted BehaviourBody x types is = absurd is
  action_wanted (NotificationBody _ _ _ _ _) x types is = absurd is

  pub notification_wanted : (body : BodyTerm) (x : LinkedNotification) → AreTypes parts document (type_names body) →
      IsNotificationOf parts document body x → AreWantedTypes (module_terms_of parts) x.information x.reply
  notification_wanted (NotificationBody behaviours parameters information _ reply) x types is =
      types_wanted information reply x.information x.reply types is.is_information is.is_reply
  notification_wanted (ClassBody _ _ _) x types is = absurd is
  notification_wanted (PackageBody _ _ _ _ _) x types is = absurd is
  notification_wanted (ParameterBody _ _) x types is = absurd is
  notification_wanted (BindingBody _ _ _ _ _ _ _ _) x types is = absurd is
  notification_wanted (AttributeBody _ _ _ _) x types is = absurd is
  notification_wanted (GroupBody _ _) x types is = absurd is
  notification_wanted BehaviourBody x types is = absurd is
  notification_wanted (ActionBody _ _ _ _ _) x types is = absurd is

  -- ---- attributes

  module _ (linked : Linked) (tables : AreLinkedTemplates parts (templates parts) linked) where
    syntax_wanted : (syntax : SyntaxTerm) (x : LinkedSyntax) → AreTypes parts document (syntax_types syntax) →
        IsSyntax parts document syntax x → IsWantedSyntax (module_terms_of parts) linked x
    syntax_wanted (OfType name) (LinkedType x) types is =
        means_type parts faultless document name x (types name (0, omega arith, refl)) is
    syntax_wanted (OfType name) (LinkedBase k) types is = absurd is
    syntax_wanted (OfAttribute base) (LinkedType x) types is = absurd is
    syntax_wanted (OfAttribute base) (LinkedBase k) types is =
        let found = linked_there parts (λ y. y.head) (IsAttributeOf parts) AttributeKind linked.attributes.items
        tables.attributes refl is in (found.0, found.1)

    pub attribute_wanted : (body : BodyTerm) (x : LinkedAttribute) → AreTypes parts document (type_names body) →
        IsAttributeOf parts document body x → IsWantedSyntax (module_terms_of parts) linked x.syntax
    attribute_wanted (AttributeBody syntax rules behaviours parameters) x types is =
        syntax_wanted syntax x.syntax types is.0
    attribute_wanted (ClassBody _ _ _) x types is = absurd is
    attribute_wanted (PackageBody _ _ _ _ _) x types is = absurd is
    attribute_wanted (ParameterBody _ _) x types is = absurd is
    attribute_wanted (BindingBody _ _ _ _ _ _ _ _) x types is = absurd is
    attribute_wanted (GroupBody _ _) x types is = absurd is
    attribute_wanted BehaviourBody x types is = absurd is
    attribute_wanted (ActionBody _ _ _ _ _) x types is = absurd is
    attribute_wanted (NotificationBody _ _ _ _ _) x types is = absurd is
