-- LinkedMembers: which linked name binding, attribute, group, action or notification is that of which template, field
-- by field (X.722, sections 8.6 to 8.11; docs/PROFILE.md, section 12).
use Rattle.std.specs.Prelude.{◌≡◌, ℕ, List, [], ◌∷◌, Bool, Option, None, Some}
use Rattle.std.specs.declared.alloc.Global.{Global}
use Rattle.std.specs.declared.vec.Vec.{Vec}
use Rattle.token_grammar.specs.declared.qualified_name.QualifiedName.{QualifiedName}
use Rattle.token_grammar.specs.declared.token.Token.{Token}
use Rattle.linked_parts.specs.declared.linked.LinkedAction.{LinkedAction}
use Rattle.linked_parts.specs.declared.linked.LinkedAttribute.{LinkedAttribute}
use Rattle.linked_parts.specs.declared.linked.LinkedBinding.{LinkedBinding}
use Rattle.linked_parts.specs.declared.linked.LinkedField.{LinkedField}
use Rattle.linked_parts.specs.declared.linked.LinkedGroup.{LinkedGroup}
use Rattle.linked_parts.specs.declared.linked.LinkedNotification.{LinkedNotification}
use Rattle.linked_parts.specs.declared.linked.LinkedSyntax.{LinkedSyntax}
use Rattle.linked_parts.specs.declared.linked.LinkedSyntax.TheVariants.{OfType as LinkedType, OfAttribute as LinkedBase}
use Rattle.gdmo_linking.specs.LinkedNames.{IsLinkedName, IsOptionalName}
use Rattle.gdmo_linking.specs.LinkedTables.{Links, AreLinked}
use Rattle.gdmo_names.specs.Mentions.Role.{SubordinateClass, SuperiorClass, NamingAttribute, BaseAttribute}
use Rattle.gdmo_names.specs.Mentions.Role.{GroupElement, FieldAttribute}
use Rattle.gdmo_names.specs.PartTerms.{PartTerms}
use Rattle.gdmo_names.specs.TemplateTerms.{ReferenceTerm, BodyTerm, SyntaxTerm, LifeTerm, FieldTerms}
use Rattle.gdmo_names.specs.TemplateTerms.BodyTerm.{BindingBody, AttributeBody, GroupBody, ActionBody}
use Rattle.gdmo_names.specs.TemplateTerms.BodyTerm.{NotificationBody}
use Rattle.gdmo_names.specs.TemplateTerms.SyntaxTerm.{OfType, OfAttribute}
use Rattle.gdmo_names.specs.TemplateTerms.LifeTerm.{NoLife, Life}
use Rattle.gdmo_names.specs.TemplateTerms.FieldTerms.{NoFields, Field}

-- ---- name bindings

-- CREATE or DELETE: none, or the words behind it
abbrev pub IsLife : LifeTerm → Option (Vec Token Global) → Type 0
IsLife NoLife None = Unit {0}
IsLife (Life words parameters) (Some found) = words ≡ found.items
IsLife _ _ = ⊥

pub record IsBinding (parts : PartTerms) (document : ℕ) (below : ReferenceTerm) (below_all : Bool)
    (above : ReferenceTerm) (above_all : Bool) (attribute : ReferenceTerm) (create delete : LifeTerm)
    (x : LinkedBinding) : Type 0 where
  pub is_subordinate : Links parts document SubordinateClass below x.subordinate
  pub subclasses_below : below_all ≡ x.subordinate_subclasses
  pub is_superior : Links parts document SuperiorClass above x.superior
  pub subclasses_above : above_all ≡ x.superior_subclasses
  pub is_attribute : Links parts document NamingAttribute attribute x.attribute
  pub is_create : IsLife create x.create
  pub is_delete : IsLife delete x.delete

abbrev pub IsBindingOf : PartTerms → ℕ → BodyTerm → LinkedBinding → Type 0
IsBindingOf parts document (BindingBody below below_all above above_all attribute behaviours create delete) x =
    IsBinding parts document below below_all above above_all attribute create delete x
IsBindingOf parts document _ x = ⊥

-- ---- attributes and groups

abbrev pub IsSyntax : PartTerms → ℕ → SyntaxTerm → LinkedSyntax → Type 0
IsSyntax parts document (OfType name) (LinkedType linked) = IsLinkedName parts name linked
IsSyntax parts document (OfAttribute base) (LinkedBase k) = Links parts document BaseAttribute base k
IsSyntax parts document _ _ = ⊥

abbrev pub IsAttributeOf : PartTerms → ℕ → BodyTerm → LinkedAttribute → Type 0
IsAttributeOf parts document (AttributeBody syntax rules behaviours parameters) x =
    IsSyntax parts document syntax x.syntax × (rules ≡ x.rules.items)
IsAttributeOf parts document _ x = ⊥

abbrev pub IsGroupOf : PartTerms → ℕ → BodyTerm → LinkedGroup → Type 0
IsGroupOf parts document (GroupBody elements fixed) x =
    AreLinked parts document GroupElement elements x.elements.items × (fixed ≡ x.fixed)
IsGroupOf parts document _ x = ⊥

-- ---- actions and notifications

pub record IsAction (parts : PartTerms) (confirmed : Bool) (information reply : Option QualifiedName)
    (x : LinkedAction) : Type 0 where
  pub is_confirmed : confirmed ≡ x.confirmed
  pub is_information : IsOptionalName parts information x.information
  pub is_reply : IsOptionalName parts reply x.reply

abbrev pub IsActionOf : PartTerms → ℕ → BodyTerm → LinkedAction → Type 0
IsActionOf parts document (ActionBody behaviours confirmed parameters information reply) x =
    IsAction parts confirmed information reply x
IsActionOf parts document _ x = ⊥

abbrev pub AreFields : PartTerms → ℕ → FieldTerms → List LinkedField → Type 0
AreFields parts document NoFields [] = Unit {0}
AreFields parts document (Field name attribute rest) (x ∷ xs) =
    (name ≡ x.name) × Links parts document FieldAttribute attribute x.attribute × AreFields parts document rest xs
AreFields parts document _ _ = ⊥

pub record IsNotification (parts : PartTerms) (document : ℕ) (information : Option QualifiedName) (fields : FieldTerms)
    (reply : Option QualifiedName) (x : LinkedNotification) : Type 0 where
  pub is_information : IsOptionalName parts information x.information
  pub fields_are : AreFields parts document fields x.fields.items
  pub is_reply : IsOptionalName parts reply x.reply

abbrev pub IsNotificationOf : PartTerms → ℕ → BodyTerm → LinkedNotification → Type 0
IsNotificationOf parts document (NotificationBody behaviours parameters information fs reply) x =
    IsNotification parts document information fs reply x
IsNotificationOf parts document _ x = ⊥
