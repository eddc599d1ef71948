-- AlikeMembers: the linked name bindings, attributes, groups, actions and notifications of one set of documents are
-- alike (X.722, sections 8.6 to 8.11; docs/PROFILE.md, sections 12 and 18).
use Rattle.std.specs.Global.{Vec}
use Rattle.std.proofs.Common.{◌≡◌, ℕ, List, [], ◌∷◌, Option, None, Some, refl, sym, ◌∙◌, ap}
use Rattle.token_grammar.specs.declared.token.Token.{Token}
use Rattle.gdmo_names.specs.PartTerms.{Placed, PartTerms, body_of}
use Rattle.gdmo_names.specs.TargetTables.{ArePlacedApart}
use Rattle.gdmo_names.specs.TemplateTerms.{BodyTerm, FieldTerms, LifeTerm, SyntaxTerm}
use Rattle.gdmo_names.specs.TemplateTerms.BodyTerm.{ActionBody, AttributeBody, BehaviourBody, BindingBody, ClassBody}
use Rattle.gdmo_names.specs.TemplateTerms.BodyTerm.{GroupBody, NotificationBody, PackageBody, ParameterBody}
use Rattle.gdmo_names.specs.TemplateTerms.FieldTerms.{Field, NoFields}
use Rattle.gdmo_names.specs.TemplateTerms.LifeTerm.{Life, NoLife}
use Rattle.gdmo_names.specs.TemplateTerms.SyntaxTerm.{OfAttribute, OfType}
use Rattle.linked_parts.specs.declared.linked.LinkedAction.{LinkedAction}
use Rattle.linked_parts.specs.declared.linked.LinkedAttribute.{LinkedAttribute}
use Rattle.linked_parts.specs.declared.linked.LinkedBinding.{LinkedBinding}
use Rattle.linked_parts.specs.declared.linked.LinkedField.{LinkedField}
use Rattle.linked_parts.specs.declared.linked.LinkedGroup.{LinkedGroup}
use Rattle.linked_parts.specs.declared.linked.LinkedNotification.{LinkedNotification}
use Rattle.linked_parts.specs.declared.linked.LinkedSyntax.{LinkedSyntax}
use Rattle.linked_parts.specs.declared.linked.LinkedSyntax.TheVariants.{OfAttribute as LinkedBase, OfType as LinkedType}
use Rattle.linked_templates.specs.LinkedMembers.{AreFields, IsActionOf, IsAttributeOf, IsBindingOf, IsGroupOf, IsLife}
use Rattle.linked_templates.specs.LinkedMembers.{IsNotificationOf, IsSyntax}
use Rattle.linked_templates.specs.TemplateTables.{IsTemplate}
use Rattle.accepted_laws.specs.AlikeParts.{ActionsAlike, AttributesAlike, BindingsAlike, GroupsAlike}
use Rattle.accepted_laws.specs.AlikeParts.{NotificationsAlike, words_of}
use Rattle.accepted_laws.proofs.AlikeTemplates.{heads_alike}
use Rattle.accepted_laws.proofs.LinkLaws.{one_link, one_name, one_optional, one_row}

-- the words behind CREATE or DELETE
lives_equal : (life : LifeTerm) (x y : Option (Vec Token)) → IsLife life x → IsLife life y → words_of x ≡ words_of y
lives_equal NoLife None None one other = refl
lives_equal NoLife None (Some _) one other = absurd other
lives_equal NoLife (Some _) y one other = absurd one
lives_equal (Life _ _) None y one other = absurd one
lives_equal (Life _ _) (Some _) None one other = absurd other
lives_equal (Life _ _) (Some _) (Some _) one other = ap Some (sym one ∙ other)

module _ (parts : PartTerms) (apart : ArePlacedApart parts) where
  -- ---- name bindings

  pub bindings_alike : (x : Placed) (one other : LinkedBinding) →
      IsTemplate parts (λ y. y.head) (IsBindingOf parts) x one →
      IsTemplate parts (λ y. y.head) (IsBindingOf parts) x other → BindingsAlike one other
  bindings_alike x one other is too = by (body_of x.template) is.1 too.1
    where
      by : (body : BodyTerm) → IsBindingOf parts x.document body one → IsBindingOf parts x.document body other →
          BindingsAlike one other
      by (BindingBody _ _ _ _ _ _ create delete) a b = record {
        head = heads_alike parts is.0 too.0;
        subordinate = one_link parts apart a.is_subordinate b.is_subordinate;
        subordinate_subclasses = sym a.subclasses_below ∙ b.subclasses_below;
        superior = one_link parts apart a.is_superior b.is_superior;
        superior_subclasses = sym a.subclasses_above ∙ b.subclasses_above;
        attribute = one_link parts apart a.is_attribute b.is_attribute;
        create = lives_equal create one.create other.create a.is_create b.is_create;
        delete = lives_equal delete one.delete other.delete a.is_delete b.is_delete;
      }
      by (ClassBody _ _ _) a b = absurd a
      by (PackageBody _ _ _ _ _) a b = absurd a
      by (ParameterBody _ _) a b = absurd a
      by (AttributeBody _ _ _ _) a b = absurd a
      by (GroupBody _ _) a b = absurd a
      by BehaviourBody a b = absurd a
      by (ActionBody _ _ _ _ _) a b = absurd a
      by (NotificationBody _ _ _ _ _) a b = absurd a

  -- ---- attributes and groups

  syntaxes_equal : (document : ℕ) (syntax : SyntaxTerm) (x y : LinkedSyntax) → IsSyntax parts document syntax x →
      IsSyntax parts document syntax y → x ≡ y
  syntaxes_equal document (OfType _) (LinkedType x) (LinkedType y) one other = ap LinkedType (one_name one other)
  syntaxes_equal document (OfType _) (LinkedType _) (LinkedBase _) one other = absurd other
  syntaxes_equal document (OfType _) (LinkedBase _) y one other = absurd one
  syntaxes_equal document (OfAttribute _) (LinkedType _) y one other = absurd one
  syntaxes_equal document (OfAttribute _) (LinkedBase _) (LinkedType _) one other = absurd other
  syntaxes_equal document (OfAttribute _) (LinkedBase x) (LinkedBase y) one other =
      ap LinkedBase (one_link parts apart one other)

  pub attributes_alike : (x : Placed) (one other : LinkedAttribute) →
      IsTemplate parts (λ y. y.head) (IsAttributeOf parts) x one →
      IsTemplate parts (λ y. y.head) (IsAttributeOf parts) x other → AttributesAlike one other
  attributes_alike x one other is too = by (body_of x.template) is.1 too.1
    where
      by : (body : BodyTerm) → IsAttributeOf parts x.document body one → IsAttributeOf parts x.document body other →
          AttributesAlike one other
      by (AttributeBody syntax _ _ _) a b = record {
        head = heads_alike parts is.0 too.0;
        syntax = syntaxes_equal x.document syntax one.syntax other.syntax a.0 b.0;
        rules = sym a.1 ∙ b.1;
      }
      by (ClassBody _ _ _) a b = absurd a
      by (PackageBody _ _ _ _ _) a b = absurd a
      by (ParameterBody _ _) a b = absurd a
      by (BindingBody _ _ _ _ _ _ _ _) a b = absurd a
      by (GroupBody _ _) a b = absurd a
      by BehaviourBody a b = absurd a
      by (ActionBody _ _ _ _ _) a b = absurd a
      by (NotificationBody _ _ _ _ _) a b = absurd a

  pub groups_alike : (x : Placed) (one other : LinkedGroup) →
      IsTemplate parts (λ y. y.head) (IsGroupOf parts) x one →
      IsTemplate parts (λ y. y.head) (IsGroupOf parts) x other → GroupsAlike one other
  groups_alike x one other is too = by (body_of x.template) is.1 too.1
    where
      by : (body : BodyTerm) → IsGroupOf parts x.document body one → IsGroupOf parts x.document body other →
          GroupsAlike one other
      by (GroupBody _ _) a b = record {
        head = heads_alike parts is.0 too.0;
        elements = one_row parts apart a.0 b.0;
        fixed = sym a.1 ∙ b.1;
      }
      by (ClassBody _ _ _) a b = absurd a
      by (PackageBody _ _ _ _ _) a b = absurd a
      by (ParameterBody _ _) a b = absurd a
      by (BindingBody _ _ _ _ _ _ _ _) a b = absurd a
      by (AttributeBody _ _ _ _) a b = absurd a
      by BehaviourBody a b = absurd a
      by (ActionBody _ _ _ _ _) a b = absurd a
      by (NotificationBody _ _ _ _ _) a b = absurd a

  -- ---- actions and notifications

  pub actions_alike : (x : Placed) (one other : LinkedAction) →
      IsTemplate parts (λ y. y.head) (IsActionOf parts) x one →
      IsTemplate parts (λ y. y.head) (IsActionOf parts) x other → ActionsAlike one other
  actions_alike x one other is too = by (body_of x.template) is.1 too.1
    where
      by : (body : BodyTerm) → IsActionOf parts x.document body one → IsActionOf parts x.document body other →
          ActionsAlike one other
      by (ActionBody _ _ _ information reply) a b = record {
        head = heads_alike parts is.0 too.0;
        confirmed = sym a.is_confirmed ∙ b.is_confirmed;
        information = one_optional parts information one.information other.information a.is_information
            b.is_information;
        reply = one_optional parts reply one.reply other.reply a.is_reply b.is_reply;
      }
      by (ClassBody _ _ _) a b = absurd a
      by (PackageBody _ _ _ _ _) a b = absurd a
      by (ParameterBody _ _) a b = absurd a
      by (BindingBody _ _ _ _ _ _ _ _) a b = absurd a
      by (AttributeBody _ _ _ _) a b = absurd a
      by (GroupBody _ _) a b = absurd a
      by BehaviourBody a b = absurd a
      by (NotificationBody _ _ _ _ _) a b = absurd a

  -- fields of a notification
  fields_equal : (document : ℕ) (fields : FieldTerms) (xs ys : List LinkedField) → AreFields parts document fields xs →
      AreFields parts document fields ys → xs ≡ ys
  fields_equal document NoFields [] [] one other = refl
  fields_equal document NoFields [] (y ∷ ys) one other = absurd other
  fields_equal document NoFields (x ∷ xs) ys one other = absurd one
  fields_equal document (Field _ _ _) [] ys one other = absurd one
  fields_equal document (Field _ _ _) (x ∷ xs) [] one other = absurd other
  fields_equal document (Field _ _ rest) (x ∷ xs) (y ∷ ys) one other =
      let named = sym one.0 ∙ other.0 in
      let linked = one_link parts apart one.1 other.1 in
      let behind = fields_equal document rest xs ys one.2 other.2 in
      λ i. record { name = named i; attribute = linked i } ∷ behind i

  pub notifications_alike : (x : Placed) (one other : LinkedNotification) →
      IsTemplate parts (λ y. y.head) (IsNotificationOf parts) x one →
      IsTemplate parts (λ y. y.head) (IsNotificationOf parts) x other → NotificationsAlike one other
  notifications_alike x one other is too = by (body_of x.template) is.1 too.1
    where
      by : (body : BodyTerm) → IsNotificationOf parts x.document body one →
          IsNotificationOf parts x.document body other → NotificationsAlike one other
      by (NotificationBody _ _ information fields reply) a b = record {
        head = heads_alike parts is.0 too.0;
        information = one_optional parts information one.information other.information a.is_information
            b.is_information;
        fields = fields_equal x.document fields one.fields.items other.fields.items a.fields_are b.fields_are;
        reply = one_optional parts reply one.reply other.reply a.is_reply b.is_reply;
      }
      by (ClassBody _ _ _) a b = absurd a
      by (PackageBody _ _ _ _ _) a b = absurd a
      by (ParameterBody _ _) a b = absurd a
      by (BindingBody _ _ _ _ _ _ _ _) a b = absurd a
      by (AttributeBody _ _ _ _) a b = absurd a
      by (GroupBody _ _) a b = absurd a
      by BehaviourBody a b = absurd a
      by (ActionBody _ _ _ _ _) a b = absurd a
