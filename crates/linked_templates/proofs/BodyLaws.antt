-- BodyLaws: the clauses of templates with the targets of their references (X.722, sections 8.3 to 8.11).
use Rattle.std.specs.Prelude.{◌≡◌, ℕ, List, [], ◌∷◌, ◌++◌, Bool, Option, refl}
use Rattle.std.proofs.Common.{ap, sym, ◌∙◌}
use Rattle.std.proofs.Math.Path.{subst}
use Rattle.token_grammar.specs.declared.qualified_name.QualifiedName.{QualifiedName}
use Rattle.token_grammar.specs.declared.token.Token.{Token}
use Rattle.linked_parts.specs.declared.linked.LinkedClass.{LinkedClass}
use Rattle.gdmo_linking.specs.InRoles.{only}
use Rattle.linked_templates.specs.LinkedTemplates.{IsClassOf}
use Rattle.gdmo_linking.specs.Linkers.{LinksMention}
use Rattle.gdmo_linking.proofs.RoleLaws.{are_linked, at_none, behind, fields_only, in_front, other}
use Rattle.gdmo_linking.proofs.RoleLaws.{other_life, same}
use Rattle.gdmo_names.specs.InStep.{AreEach}
use Rattle.gdmo_names.specs.Mentions.{Role, Mention, mention, mentions, body_mentions}
use Rattle.gdmo_names.specs.Mentions.{life_mentions, field_mentions}
use Rattle.gdmo_names.specs.Mentions.Role.{Superclass, MandatoryPackage, ConditionalPackage}
use Rattle.gdmo_names.specs.Mentions.Role.{SubordinateClass, SuperiorClass, NamingAttribute, BaseAttribute}
use Rattle.gdmo_names.specs.Mentions.Role.{GroupElement, FieldAttribute, OfParameter, OfBehaviour}
use Rattle.gdmo_names.specs.PartTerms.{PartTerms}
use Rattle.gdmo_names.specs.TemplateTerms.{ReferenceTerm, ReferenceTerms, BodyTerm, LifeTerm}
use Rattle.gdmo_names.specs.TemplateTerms.{FieldTerms}
use Rattle.gdmo_names.specs.TemplateTerms.BodyTerm.{ClassBody, BindingBody, AttributeBody, GroupBody}
use Rattle.gdmo_names.specs.TemplateTerms.BodyTerm.{NotificationBody}
use Rattle.gdmo_names.specs.TemplateTerms.SyntaxTerm.{OfAttribute}

-- what is linked in a role, where the clauses are these
pub in_body : (parts : PartTerms) (document : ℕ) (role : Role) (body own : BodyTerm) (xs : List Mention) (ks : List ℕ) →
    body ≡ own → only role (body_mentions own) ≡ xs →
    AreEach (LinksMention parts document) (only role (body_mentions body)) ks →
    AreEach (LinksMention parts document) xs ks
in_body parts document role body own xs ks is named each =
    subst (λ ys. AreEach (LinksMention parts document) ys ks) (ap (λ b. only role (body_mentions b)) is ∙ named) each

-- ---- classes

class_super : (s m c : ReferenceTerms) → only Superclass (body_mentions (ClassBody s m c)) ≡ mentions Superclass s
class_super s m c = in_front Superclass (mentions Superclass s) (mentions MandatoryPackage m ++ mentions ConditionalPackage c)
    (mentions Superclass s) (same Superclass s refl)
    (at_none Superclass (mentions MandatoryPackage m) (mentions ConditionalPackage c)
    (other Superclass MandatoryPackage m refl) (other Superclass ConditionalPackage c refl))

class_mandatory : (s m c : ReferenceTerms) →
    only MandatoryPackage (body_mentions (ClassBody s m c)) ≡ mentions MandatoryPackage m
class_mandatory s m c = behind MandatoryPackage (mentions Superclass s)
    (mentions MandatoryPackage m ++ mentions ConditionalPackage c) (mentions MandatoryPackage m)
    (other MandatoryPackage Superclass s refl)
    (in_front MandatoryPackage (mentions MandatoryPackage m) (mentions ConditionalPackage c)
    (mentions MandatoryPackage m) (same MandatoryPackage m refl) (other MandatoryPackage ConditionalPackage c refl))

class_conditional : (s m c : ReferenceTerms) →
    only ConditionalPackage (body_mentions (ClassBody s m c)) ≡ mentions ConditionalPackage c
class_conditional s m c = behind ConditionalPackage (mentions Superclass s)
    (mentions MandatoryPackage m ++ mentions ConditionalPackage c) (mentions ConditionalPackage c)
    (other ConditionalPackage Superclass s refl)
    (behind ConditionalPackage (mentions MandatoryPackage m) (mentions ConditionalPackage c)
    (mentions ConditionalPackage c) (other ConditionalPackage MandatoryPackage m refl) (same ConditionalPackage c refl))

pub class_linked : (parts : PartTerms) (document : ℕ) (body : BodyTerm) (s m c : ReferenceTerms) (x : LinkedClass) →
    body ≡ ClassBody s m c →
    AreEach (LinksMention parts document) (only Superclass (body_mentions body)) x.superclasses.items →
    AreEach (LinksMention parts document) (only MandatoryPackage (body_mentions body)) x.mandatory.items →
    AreEach (LinksMention parts document) (only ConditionalPackage (body_mentions body)) x.conditional.items →
    IsClassOf parts document body x
class_linked parts document body s m c x is super must may =
    let own = ClassBody s m c in
    subst (λ b. IsClassOf parts document b x) (sym is) (record {
      superclasses_are = are_linked parts document Superclass s x.superclasses.items
          (in_body parts document Superclass body own (mentions Superclass s) x.superclasses.items is
          (class_super s m c) super);
      mandatory_are = are_linked parts document MandatoryPackage m x.mandatory.items
          (in_body parts document MandatoryPackage body own (mentions MandatoryPackage m) x.mandatory.items is
          (class_mandatory s m c) must);
      conditional_are = are_linked parts document ConditionalPackage c x.conditional.items
          (in_body parts document ConditionalPackage body own (mentions ConditionalPackage c) x.conditional.items is
          (class_conditional s m c) may);
    })

-- ---- groups, attributes, notifications

pub attribute_base : (base : ReferenceTerm) (rules : List Token) (behaviours parameters : ReferenceTerms) →
    only BaseAttribute (body_mentions (AttributeBody (OfAttribute base) rules behaviours parameters)) ≡
    mention BaseAttribute base ∷ []
attribute_base base rules behaviours parameters = ap (λ zs. mention BaseAttribute base ∷ zs)
    (at_none BaseAttribute (mentions OfBehaviour behaviours) (mentions OfParameter parameters)
    (other BaseAttribute OfBehaviour behaviours refl) (other BaseAttribute OfParameter parameters refl))

pub group_elements : (elements : ReferenceTerms) (fixed : Bool) →
    only GroupElement (body_mentions (GroupBody elements fixed)) ≡ mentions GroupElement elements
group_elements elements fixed = same GroupElement elements refl

pub notification_fields : (behaviours parameters : ReferenceTerms) (information : Option QualifiedName)
    (fields : FieldTerms) (reply : Option QualifiedName) →
    only FieldAttribute (body_mentions (NotificationBody behaviours parameters information fields reply)) ≡
    field_mentions fields
notification_fields behaviours parameters information fields reply = behind FieldAttribute
    (mentions OfBehaviour behaviours) (mentions OfParameter parameters ++ field_mentions fields) (field_mentions fields)
    (other FieldAttribute OfBehaviour behaviours refl)
    (behind FieldAttribute (mentions OfParameter parameters) (field_mentions fields) (field_mentions fields)
    (other FieldAttribute OfParameter parameters refl) (fields_only fields))

-- ---- name bindings

binding_rest : (role : Role) (behaviours : ReferenceTerms) (create delete : LifeTerm) →
    only role (mentions OfBehaviour behaviours) ≡ [] → only role (life_mentions create) ≡ [] →
    only role (life_mentions delete) ≡ [] →
    only role (mentions OfBehaviour behaviours ++ (life_mentions create ++ life_mentions delete)) ≡ []
binding_rest role behaviours create delete b c d =
    at_none role (mentions OfBehaviour behaviours) (life_mentions create ++ life_mentions delete) b
    (at_none role (life_mentions create) (life_mentions delete) c d)

pub binding_below : (below : ReferenceTerm) (below_all : Bool) (above : ReferenceTerm) (above_all : Bool)
    (attribute : ReferenceTerm) (behaviours : ReferenceTerms) (create delete : LifeTerm) →
    only SubordinateClass (body_mentions (BindingBody below below_all above above_all attribute behaviours create delete))
    ≡ mention SubordinateClass below ∷ []
binding_below below below_all above above_all attribute behaviours create delete =
    ap (λ zs. mention SubordinateClass below ∷ zs) (binding_rest SubordinateClass behaviours create delete
    (other SubordinateClass OfBehaviour behaviours refl) (other_life SubordinateClass create refl)
    (other_life SubordinateClass delete refl))

pub binding_above : (below : ReferenceTerm) (below_all : Bool) (above : ReferenceTerm) (above_all : Bool)
    (attribute : ReferenceTerm) (behaviours : ReferenceTerms) (create delete : LifeTerm) →
    only SuperiorClass (body_mentions (BindingBody below below_all above above_all attribute behaviours create delete))
    ≡ mention SuperiorClass above ∷ []
binding_above below below_all above above_all attribute behaviours create delete =
    ap (λ zs. mention SuperiorClass above ∷ zs) (binding_rest SuperiorClass behaviours create delete
    (other SuperiorClass OfBehaviour behaviours refl) (other_life SuperiorClass create refl)
    (other_life SuperiorClass delete refl))

pub binding_attribute : (below : ReferenceTerm) (below_all : Bool) (above : ReferenceTerm) (above_all : Bool)
    (attribute : ReferenceTerm) (behaviours : ReferenceTerms) (create delete : LifeTerm) →
    only NamingAttribute (body_mentions (BindingBody below below_all above above_all attribute behaviours create delete))
    ≡ mention NamingAttribute attribute ∷ []
binding_attribute below below_all above above_all attribute behaviours create delete =
    ap (λ zs. mention NamingAttribute attribute ∷ zs) (binding_rest NamingAttribute behaviours create delete
    (other NamingAttribute OfBehaviour behaviours refl) (other_life NamingAttribute create refl)
    (other_life NamingAttribute delete refl))
