-- AttributeLaws: an attribute that is of a type that is named has a syntax that is alike that type's, where nothing is
-- wrong with the classes (X.722, section 8.7; X.680, section 25; docs/PROFILE.md, section 12).
use Rattle.std.specs.Prelude.{◌≡◌, ℕ, List, Some, refl, slice_get}
use Rattle.std.proofs.Common.{◌∙◌, ap, sym}
use Rattle.std.proofs.Math.Path.{subst}
use Rattle.std.proofs.lemmas.Option.{get_or_from_slice_get, same_Some, slice_get_within}
use Rattle.token_grammar.specs.declared.qualified_name.QualifiedName.{QualifiedName}
use Rattle.term_values.specs.Syntaxes.{TypeSyntax}
use Rattle.term_model.specs.AlikeSyntaxes.{AreAlike}
use Rattle.asn1_names.specs.ModuleTerms.{ModuleTerm}
use Rattle.asn1_names.specs.NodeCount.{IsNoType}
use Rattle.gdmo_names.specs.AttributeSyntaxes.{AttributeHasType, HasUnknownSyntax, IsOfNamedType, syntax_of}
use Rattle.gdmo_names.specs.AttributeSyntaxes.AttributeHasType.{derived, stated}
use Rattle.gdmo_names.specs.AttributeSyntaxes.HasUnknownSyntax.{derived as unknown_base, missing}
use Rattle.gdmo_names.specs.AttributeSyntaxes.HasUnknownSyntax.{stated as unknown_type}
use Rattle.gdmo_names.specs.FirstLabelFault.{AreFaultless as AreLabelsFaultless}
use Rattle.gdmo_names.specs.LabelMeaning.{Leads}
use Rattle.gdmo_names.specs.Mentions.Role.{BaseAttribute}
use Rattle.gdmo_names.specs.OneType.{AreOneType}
use Rattle.gdmo_names.specs.PartTerms.{Placed, PartTerms, body_of, module_terms_of}
use Rattle.gdmo_names.specs.TemplateTerms.{BodyTerm, ReferenceTerm, SyntaxTerm}
use Rattle.gdmo_names.specs.TemplateTerms.BodyTerm.{ActionBody, AttributeBody, BehaviourBody, BindingBody, ClassBody}
use Rattle.gdmo_names.specs.TemplateTerms.BodyTerm.{GroupBody, NotificationBody, PackageBody, ParameterBody}
use Rattle.gdmo_names.specs.TemplateTerms.SyntaxTerm.{OfAttribute, OfType}
use Rattle.gdmo_names.specs.TemplateTerms.TemplateKind.{AttributeKind}
use Rattle.gdmo_types.proofs.MentionLaws.{base_of}
use Rattle.gdmo_linking.specs.LinkedNames.{IsLinkedName}
use Rattle.gdmo_linking.specs.LinkedTables.{Links, table}
use Rattle.gdmo_linking.proofs.StepLaws.{each_at}
use Rattle.linked_parts.specs.declared.linked.Linked.{Linked}
use Rattle.linked_parts.specs.declared.linked.LinkedAttribute.{LinkedAttribute}
use Rattle.linked_parts.specs.declared.linked.LinkedName.{LinkedName}
use Rattle.linked_parts.specs.declared.linked.LinkedSyntax.{LinkedSyntax}
use Rattle.linked_parts.specs.declared.linked.LinkedSyntax.TheVariants.{OfAttribute as LinkedBase, OfType as LinkedType}
use Rattle.linked_templates.specs.LinkedMembers.{IsAttributeOf, IsSyntax}
use Rattle.linked_templates.specs.TemplateTables.{IsTemplate}
use Rattle.linked_documents.specs.LinkedParts.{AreLinkedParts}
use Rattle.class_faults.specs.AttributeSyntaxes.{AttributeHas}
use Rattle.class_faults.specs.AttributeSyntaxes.AttributeHas.{of_base, of_type}
use Rattle.class_faults.specs.FirstClassFault.{AreFaultless}
use Rattle.class_faults.specs.StatedProperties.{TypeHas}
use Rattle.meant_names.specs.WantedMeanings.{IsWantedSyntax}
use Rattle.wanted_laws.proofs.MeaningLaws.{same_meaning}
use Rattle.wanted_laws.proofs.WantedLaws.{parts_wanted}
use Rattle.alike_laws.proofs.DecidingLaws.{alike_unless}
use Rattle.alike_laws.proofs.TypeLaws.{types_alike}

-- ---- what is linked of the syntax of an attribute

-- the name of its type, as it is linked
abbrev IsLinkedType : PartTerms → QualifiedName → LinkedSyntax → Type 0
IsLinkedType parts name linked = (x : LinkedName) × (linked ≡ LinkedType x) × IsLinkedName parts name x

-- the place of the attribute from which it derives
abbrev IsLinkedBase : PartTerms → ℕ → ReferenceTerm → LinkedSyntax → Type 0
IsLinkedBase parts document reference linked =
    (k : ℕ) × (linked ≡ LinkedBase k) × Links parts document BaseAttribute reference k

module _ (parts : PartTerms) (document : ℕ) where
  type_by : (syntax : SyntaxTerm) (linked : LinkedSyntax) (name : QualifiedName) → syntax ≡ OfType name →
      IsSyntax parts document syntax linked → IsLinkedType parts name linked
  type_by (OfType own) (LinkedType x) name same is = (x, refl, subst (λ n. IsLinkedName parts n x) (inner same) is)
    where
      inner : OfType own ≡ OfType name → own ≡ name
      inner e = cc
  type_by (OfType own) (LinkedBase k) name same is = absurd is
  type_by (OfAttribute base) linked name same is = absurd (cc)

  base_by : (syntax : SyntaxTerm) (linked : LinkedSyntax) (reference : ReferenceTerm) → syntax ≡ OfAttribute reference →
      IsSyntax parts document syntax linked → IsLinkedBase parts document reference linked
  base_by (OfAttribute base) (LinkedBase k) reference same is =
      (k, refl, subst (λ r. Links parts document BaseAttribute r k) (inner same) is)
    where
      inner : OfAttribute base ≡ OfAttribute reference → base ≡ reference
      inner e = cc
  base_by (OfAttribute base) (LinkedType x) reference same is = absurd is
  base_by (OfType own) linked reference same is = absurd (cc)

  -- what is linked is that of the template's clause
  clause_linked : (body : BodyTerm) (x : LinkedAttribute) (syntax : SyntaxTerm) → syntax_of body ≡ Some syntax →
      IsAttributeOf parts document body x → IsSyntax parts document syntax x.syntax
  clause_linked (AttributeBody own rules behaviours parameters) x syntax same is =
      subst (λ s. IsSyntax parts document s x.syntax) (same_Some own syntax same) is.0
  clause_linked (ClassBody _ _ _) x syntax same is = absurd is
  clause_linked (PackageBody _ _ _ _ _) x syntax same is = absurd is
  clause_linked (ParameterBody _ _) x syntax same is = absurd is
  clause_linked (BindingBody _ _ _ _ _ _ _ _) x syntax same is = absurd is
  clause_linked (GroupBody _ _) x syntax same is = absurd is
  clause_linked BehaviourBody x syntax same is = absurd is
  clause_linked (ActionBody _ _ _ _ _) x syntax same is = absurd is
  clause_linked (NotificationBody _ _ _ _ _) x syntax same is = absurd is

-- an attribute stands at this place of its table
abbrev pub IsAttributeAt : PartTerms → Placed → ℕ → Type 0
IsAttributeAt parts attribute k = slice_get (table parts AttributeKind) k ≡ Some attribute

-- one name, or one place, is linked of a syntax
one_name : {one other : LinkedName} {syntax : LinkedSyntax} → syntax ≡ LinkedType one → syntax ≡ LinkedType other →
    one ≡ other
one_name is also = cc

one_base : {one other : ℕ} {syntax : LinkedSyntax} → syntax ≡ LinkedBase one → syntax ≡ LinkedBase other → one ≡ other
one_base is also = cc

name_or_base : {x : LinkedName} {k : ℕ} {syntax : LinkedSyntax} → syntax ≡ LinkedType x → syntax ≡ LinkedBase k → ⊥
name_or_base is also = absurd (cc)

-- ---- what stands at the place of an attribute

-- the linked attribute at a place, with what is linked of its clause
record IsLinkedThere (parts : PartTerms) (linked : Linked) (attribute : Placed) (k : ℕ) : Type 0 where
  x : LinkedAttribute
  at : slice_get linked.attributes.items k ≡ Some x
  is : IsAttributeOf parts attribute.document (body_of attribute.template) x

module _ (parts : PartTerms) (linked : Linked) (are : AreLinkedParts parts linked) where
  linked_at : (attribute : Placed) (k : ℕ) → IsAttributeAt parts attribute k →
      IsLinkedThere parts linked attribute k
  linked_at attribute k at =
      let found = each_at (IsTemplate parts (λ z. z.head) (IsAttributeOf parts)) (table parts AttributeKind)
      linked.attributes.items k attribute are.tables.attributes at in
      record { x = found.0; at = found.1; is = found.2.1 }

  -- the place of the attribute from which it derives, and what stands there
  base_at : (attribute base : Placed) (k : ℕ) (there : IsLinkedThere parts linked attribute k) →
      Leads parts attribute BaseAttribute base → (j : ℕ) × (there.x.syntax ≡ LinkedBase j) × IsAttributeAt parts base j
  base_at attribute base k there leads =
      let own = base_by parts attribute.document (OfAttribute leads.reference) there.x.syntax leads.reference refl
      (clause_linked parts attribute.document (body_of attribute.template) there.x (OfAttribute leads.reference)
      (base_of (body_of attribute.template) leads.reference leads.names) there.is) in (
        own.0,
        own.1,
        subst (λ to. IsAttributeAt parts to own.0)
            (same_Some own.2.to base (sym own.2.means.is_target ∙ leads.means.is_target)) own.2.at,
      )

  -- ---- its syntax

  -- the type at the end of DERIVED FROM, as it is linked: its syntax is the attribute's
  pub named_type : {attribute : Placed} {name : QualifiedName} (k : ℕ) → IsAttributeAt parts attribute k →
      AttributeHasType parts attribute name → (ms : List ModuleTerm) (own : TypeSyntax) →
      AttributeHas ms linked k own → (x : LinkedName) × IsLinkedName parts name x × TypeHas ms linked x own
  named_type {attribute = attribute} {name = name} k at (stated is) ms own has =
      let there = linked_at attribute k at in
      let type = type_by parts attribute.document (OfType name) there.x.syntax name refl
      (clause_linked parts attribute.document (body_of attribute.template) there.x (OfType name) is there.is) in
      (type.0, type.2, by there.x there.at type.0 type.1 has)
    where
      by : (y : LinkedAttribute) → slice_get linked.attributes.items k ≡ Some y → (x : LinkedName) →
          y.syntax ≡ LinkedType x → AttributeHas ms linked k own → TypeHas ms linked x own
      by y stands x is_type (of_type {x = z} {name = other} here other_type filled) =
          subst (λ n. TypeHas ms linked n own)
          (one_name other_type (ap (λ (w : LinkedAttribute). w.syntax) (same_Some z y (sym here ∙ stands)) ∙ is_type))
          filled
      by y stands x is_type (of_base {x = z} here other_base inner) =
          absurd (name_or_base (ap (λ (w : LinkedAttribute). w.syntax) (same_Some z y (sym here ∙ stands)) ∙ is_type)
          other_base)
  named_type {attribute = attribute} {name = name} k at (derived {base = base} leads of) ms own has =
      let there = linked_at attribute k at in
      let below = base_at attribute base k there leads in
      named_type below.0 below.2 of ms own (by there.x there.at below.0 below.1 has)
    where
      by : (y : LinkedAttribute) → slice_get linked.attributes.items k ≡ Some y → (j : ℕ) → y.syntax ≡ LinkedBase j →
          AttributeHas ms linked k own → AttributeHas ms linked j own
      by y stands j is_base (of_type {x = z} here other_type filled) =
          absurd (name_or_base other_type
          (ap (λ (w : LinkedAttribute). w.syntax) (same_Some z y (sym here ∙ stands)) ∙ is_base))
      by y stands j is_base (of_base {x = z} here other_base inner) =
          subst (λ n. AttributeHas ms linked n own)
          (one_base other_base (ap (λ (w : LinkedAttribute). w.syntax) (same_Some z y (sym here ∙ stands)) ∙ is_base))
          inner

  -- nothing on the way to the type is missing
  pub known_syntax : AreLabelsFaultless parts → {attribute : Placed} (k : ℕ) → IsAttributeAt parts attribute k →
      ¬ HasUnknownSyntax parts attribute
  known_syntax faultless {attribute = attribute} k at (unknown_type {name = name} is none) =
      let there = linked_at attribute k at in
      let type = type_by parts attribute.document (OfType name) there.x.syntax name refl
      (clause_linked parts attribute.document (body_of attribute.template) there.x (OfType name) is there.is) in
      let ms = module_terms_of parts in
      let wanted = subst (λ (y : LinkedAttribute). IsWantedSyntax ms linked y.syntax)
      (get_or_from_slice_get linked.attributes.items k there.x there.x there.at)
      ((parts_wanted parts linked are faultless).of_attributes k there.x
      (slice_get_within linked.attributes.items k there.x there.at)) in
      subst (IsWantedSyntax ms linked) type.1 wanted
      (subst IsNoType (sym (same_meaning ms name type.0.meaning type.2.meant)) none)
  known_syntax faultless {attribute = attribute} k at (missing nowhere) =
      let there = linked_at attribute k at in
      let own = base_by parts attribute.document (OfAttribute nowhere.reference) there.x.syntax nowhere.reference refl
      (clause_linked parts attribute.document (body_of attribute.template) there.x (OfAttribute nowhere.reference)
      (base_of (body_of attribute.template) nowhere.reference nowhere.names) there.is) in
      nowhere.lost own.2.to own.2.means
  known_syntax faultless {attribute = attribute} k at (unknown_base {base = base} leads unknown) =
      let below = base_at attribute base k (linked_at attribute k at) leads in
      known_syntax faultless below.0 below.2 unknown

  -- ---- an attribute that is of a type

  turned : {ms : List ModuleTerm} {one other : QualifiedName} → AreOneType ms one other → AreOneType ms other one
  turned same = record {
    syntax = same.syntax;
    has = same.has_too;
    has_too = same.has;
    defaults = λ path. ((same.defaults path).1, (same.defaults path).0);
  }

  module _ (ms : List ModuleTerm) (modules : module_terms_of parts ≡ ms) (faultless : AreFaultless ms linked)
      (attribute : Placed) (k : ℕ) (at : IsAttributeAt parts attribute k) (name : QualifiedName) (x : LinkedName)
      (is : IsLinkedName parts name x) where
    -- the syntax of the type and that of the attribute
    pub attribute_alike : IsOfNamedType parts attribute name → (syntax own : TypeSyntax) →
        TypeHas ms linked x syntax → AttributeHas ms linked k own → AreAlike syntax own
    attribute_alike of syntax own has attribute_has =
        let type = named_type k at of.of_type ms own attribute_has in
        types_alike parts ms modules linked faultless name of.own x type.0 is type.1 (turned of.same) syntax own has
        type.2

    -- so they are where it isn't so that the attribute isn't of the type
    pub attribute_alike_unless : ¬ (¬ IsOfNamedType parts attribute name) → (syntax own : TypeSyntax) →
        TypeHas ms linked x syntax → AttributeHas ms linked k own → AreAlike syntax own
    attribute_alike_unless of syntax own has attribute_has = alike_unless syntax own
        (λ unlike. of (λ is_of. unlike (attribute_alike is_of syntax own has attribute_has)))
