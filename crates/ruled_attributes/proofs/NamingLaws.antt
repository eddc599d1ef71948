-- NamingLaws: where objects of a class of the schema can be named by an attribute, the template of the attribute can
-- name those of the class's template (X.722, section 8.6; docs/PROFILE.md, sections 9 and 12).
use Rattle.std.specs.Prelude.{◌≡◌, ◌∷◌, [], ℕ, List, Bool, true, false, Option, Some, Contains, cond, find, refl}
use Rattle.std.proofs.Common.{◌∙◌, ap, inl, inr, sym}
use Rattle.std.proofs.Math.Path.{subst}
use Rattle.std.proofs.lemmas.Option.{same_Some}
use Rattle.term_model.specs.WholeSet.{CanName, IsRootPart, NamesClass}
use Rattle.term_model.specs.WholeSet.CanName.{AsRoot, ByBinding}
use Rattle.term_model.specs.declared.name.Rdn.{Rdn}
use Rattle.term_model.specs.declared.name_binding.BindRec.{BindRec}
use Rattle.term_model.specs.declared.schema.InstRec.{InstRec}
use Rattle.gdmo_names.specs.ClassMembers.{CanName as CanNameTerm, IsNamedBy, IsOrDerives, last_pair}
use Rattle.gdmo_names.specs.ClassMembers.CanName.{subclass, subordinate}
use Rattle.gdmo_names.specs.ClassMembers.IsNamedBy.{as_root, by_binding}
use Rattle.gdmo_names.specs.DocumentTemplates.{templates}
use Rattle.gdmo_names.specs.InStep.{AreEach as AreTold}
use Rattle.gdmo_names.specs.LabelMeaning.{Leads, Means}
use Rattle.gdmo_names.specs.Mentions.Role.{InstanceClass, NameAttribute, NamingAttribute, SubordinateClass}
use Rattle.gdmo_names.specs.PartTerms.{InstanceTerm, PairTerm, Placed, body_of}
use Rattle.gdmo_names.specs.TemplateTerms.ReferenceTerm.{ByLabel}
use Rattle.gdmo_names.specs.TemplateTerms.TemplateKind.{BindingKind}
use Rattle.gdmo_linking.specs.LinkedTables.{table}
use Rattle.gdmo_linking.proofs.StepLaws.{each_from as term_from}
use Rattle.linked_parts.specs.declared.linked.LinkedBinding.{LinkedBinding}
use Rattle.linked_parts.specs.declared.linked.LinkedInstance.{LinkedInstance}
use Rattle.linked_parts.specs.declared.linked.LinkedPair.{LinkedPair}
use Rattle.linked_templates.specs.LinkedMembers.{IsBindingOf}
use Rattle.linked_templates.specs.TemplateTables.{IsTemplate}
use Rattle.linked_sections.specs.LinkedSections.{IsInstance, IsPair}
use Rattle.linked_types.specs.PartIdentifiers.{AreEach, IsAttributeId, IsClassId}
use Rattle.schema_records.specs.MemberRecords.{IsBinding}
use Rattle.schema_records.proofs.ClassLaws.{at_contains, contains_at, each_from}
use Rattle.registered_laws.proofs.TableLaws.{first_of, later_of, stands_at}
use Rattle.instance_records.specs.InstanceRecords.{AreInstanceRecords, IsInstanceRecord, IsPart, IsStatedName}
use Rattle.instance_records.specs.InstanceRecords.{first_root}
use Rattle.ruled_attributes.proofs.ClassLaws.{AreCompiled, IsAttributeUnder, IsClassUnder, is_or_derives, leads_by}
use Rattle.ruled_attributes.proofs.ClassLaws.{one_attribute, one_class}
use Rattle.ruled_attributes.proofs.NamedLaws.{IsNamedBinding, binding_named}

module _ (m : AreCompiled) (x : Placed) (class : List ℕ) (of_class : IsClassUnder m x class) (a : Placed)
    (attribute : List ℕ) (of_attribute : IsAttributeUnder m a attribute) where
  -- ---- name bindings

  module _ (binding : BindRec) (named : binding.attribute ≡ attribute) where
    -- the template of the name binding
    record IsMadeBinding : Type 0 where
      b : Placed
      stands : Contains (templates m.parts) b
      part : LinkedBinding
      names : IsNamedBinding m.parts b.document (body_of b.template) part
      is : IsBinding m.linked part binding

    binding_made : Contains m.schema.bindings binding → IsMadeBinding
    binding_made known =
        let at = contains_at m.schema.bindings binding known in
        let linked = each_from (IsBinding m.linked) m.linked.bindings.items m.schema.bindings at.0 binding
        m.records.bindings_are at.1 in
        let found = term_from (IsTemplate m.parts (λ y. y.head) (IsBindingOf m.parts)) (table m.parts BindingKind)
        m.linked.bindings.items at.0 linked.0 m.are.tables.bindings linked.1 in
        record {
          b = found.0;
          stands = (stands_at BindingKind (templates m.parts) at.0 found.0 found.1).stands;
          part = linked.0;
          names = binding_named m.parts found.0.document (body_of found.0.template) linked.0 found.2.1;
          is = linked.2;
        }

    module _ (made : IsMadeBinding) where
      naming : Leads m.parts made.b NamingAttribute a
      naming =
          let links = made.names.attribute.links in
          subst (Leads m.parts made.b NamingAttribute)
          (one_attribute m links.to a attribute (record {
            place = made.part.attribute;
            at = links.at;
            is = subst (IsAttributeId m.linked made.part.attribute) named made.is.is_attribute;
          }) of_attribute) (leads_by m.parts NamingAttribute made.b made.part.attribute made.names.attribute)

      abbrev base : Placed
      base = made.names.subordinate.links.to

      base_under : IsClassUnder m base binding.subordinate.class
      base_under = record {
        place = made.part.subordinate;
        at = made.names.subordinate.links.at;
        is = made.is.is_subordinate;
      }

      leads_below : Leads m.parts made.b SubordinateClass base
      leads_below = leads_by m.parts SubordinateClass made.b made.part.subordinate made.names.subordinate

      can_name : NamesClass binding.subordinate m.schema class → CanNameTerm m.parts made.b x
      can_name (inl same) = subordinate (subst (Leads m.parts made.b SubordinateClass)
          (one_class m base x class (subst (IsClassUnder m base) same base_under) of_class) leads_below)
      can_name (inr (all, above)) =
          by (is_or_derives m x base class binding.subordinate.class of_class base_under above)
        where
          by : IsOrDerives m.parts x base → CanNameTerm m.parts made.b x
          by (inl same) = subordinate (subst (Leads m.parts made.b SubordinateClass) (sym same) leads_below)
          by (inr derives) =
              subclass leads_below (made.names.subclasses ∙ made.is.subclasses_below ∙ all) derives

    named_by_binding : Contains m.schema.bindings binding → NamesClass binding.subordinate m.schema class →
        IsNamedBy m.parts x a
    named_by_binding known names =
        let made = binding_made known in by_binding made.stands (can_name made names) (naming made)

  -- ---- the root

  -- the last pair of a name is one of the attribute
  record IsLastNamed (document : ℕ) (last : Option PairTerm) : Type 0 where
    pair : PairTerm
    is_last : last ≡ Some pair
    means : Means m.parts document NameAttribute (ByLabel pair.attribute) a

  pair_means : (document : ℕ) (term : PairTerm) (pair : LinkedPair) →
      IsPair m.parts document NameAttribute term pair → IsAttributeId m.linked pair.attribute attribute →
      Means m.parts document NameAttribute (ByLabel term.attribute) a
  pair_means document term pair told is =
      let links = told.is_attribute in
      subst (Means m.parts document NameAttribute (ByLabel term.attribute))
      (one_attribute m links.to a attribute (record { place = pair.attribute; at = links.at; is = is }) of_attribute)
      links.means

  last_named : (document : ℕ) (terms : List PairTerm) (pairs : List LinkedPair) (name : List Rdn) →
      AreTold (IsPair m.parts document NameAttribute) terms pairs → AreEach (IsPart m.ms m.linked) pairs name →
      IsRootPart name attribute → IsLastNamed document (last_pair terms)
  last_named document [] [] [] told are root = absurd root
  last_named document [] [] (r ∷ name) told are root = absurd are
  last_named document [] (p ∷ pairs) name told are root = absurd told
  last_named document (t ∷ terms) [] name told are root = absurd told
  last_named document (t ∷ terms) (p ∷ pairs) [] told are root = absurd are
  last_named document (t ∷ []) (p ∷ []) (r ∷ []) told are root = record {
    pair = t;
    is_last = refl;
    means = pair_means document t p told.0 (subst (IsAttributeId m.linked p.attribute) root are.0.is_attribute);
  }
  last_named document (t ∷ []) (p ∷ []) (r ∷ s ∷ name) told are root = absurd are.1
  last_named document (t ∷ []) (p ∷ q ∷ pairs) (r ∷ name) told are root = absurd told.1
  last_named document (t ∷ u ∷ terms) (p ∷ []) (r ∷ name) told are root = absurd told.1
  last_named document (t ∷ u ∷ terms) (p ∷ q ∷ pairs) (r ∷ []) told are root = absurd are.1
  last_named document (t ∷ u ∷ terms) (p ∷ q ∷ pairs) (r ∷ s ∷ name) told are root =
      last_named document (u ∷ terms) (q ∷ pairs) (s ∷ name) told.1 are.1 root

  -- what stands first behind ROOT, linked and in the schema
  record IsFirstRoot (parts : List LinkedInstance) (instance : InstRec) : Type 0 where
    part : LinkedInstance
    first : first_root parts ≡ Some part
    listed : Contains parts part
    root : part.is_root ≡ true
    is : IsInstanceRecord m.ms m.linked part instance

  root_linked : (parts : List LinkedInstance) (instances : List InstRec) (instance : InstRec) →
      AreEach (IsInstanceRecord m.ms m.linked) parts instances →
      find (λ (y : InstRec). y.root) instances ≡ Some instance → IsFirstRoot parts instance
  root_linked [] [] instance are first = absurd (cc)
  root_linked [] (y ∷ instances) instance are first = absurd are
  root_linked (p ∷ parts) [] instance are first = absurd are
  root_linked (p ∷ parts) (y ∷ instances) instance are first =
      by p.is_root refl (sym are.0.is_root) first (λ later. root_linked parts instances instance are.1 later)
    where
      by : (b : Bool) → p.is_root ≡ b → y.root ≡ p.is_root →
          cond y.root (Some y) (find (λ (z : InstRec). z.root) instances) ≡ Some instance →
          (find (λ (z : InstRec). z.root) instances ≡ Some instance → IsFirstRoot parts instance) →
          IsFirstRoot (p ∷ parts) instance
      by true is same here later = record {
        part = p;
        first = ap (λ b. cond b (Some p) (first_root parts)) is;
        listed = first_of p parts;
        root = is;
        is = subst (IsInstanceRecord m.ms m.linked p) (same_Some y instance
            (sym (ap (λ b. cond b (Some y) (find (λ (z : InstRec). z.root) instances)) (same ∙ is)) ∙ here)) are.0;
      }
      by false is same here later =
          let found = later (sym (ap (λ b. cond b (Some y) (find (λ (z : InstRec). z.root) instances)) (same ∙ is))
          ∙ here) in record {
            part = found.part;
            first = ap (λ b. cond b (Some p) (first_root parts)) is ∙ found.first;
            listed = later_of p found.part parts found.listed;
            root = found.root;
            is = found.is;
          }

  root_names : (term : InstanceTerm) (part : LinkedInstance) → Contains m.parts.instances term →
      IsInstance m.parts term part → part.is_root ≡ true → IsClassId m.linked part.class class →
      IsLastNamed term.document (last_pair term.name) → IsNamedBy m.parts x a
  root_names term part stands told root is last =
      let links = told.is_class in
      as_root stands (sym told.is_root ∙ root) last.is_last
      (subst (Means m.parts term.document InstanceClass (ByLabel term.class)) (one_class m links.to x class
      (record { place = part.class; at = links.at; is = is }) of_class) links.means) last.means

  named_as_root : AreInstanceRecords m.ms m.linked m.schema.instances m.schema.system → (instance : InstRec) →
      find (λ (y : InstRec). y.root) m.schema.instances ≡ Some instance → instance.class ≡ class →
      IsRootPart m.schema.system attribute → IsNamedBy m.parts x a
  named_as_root records instance first same root =
      let linked = root_linked m.linked.instances.items m.schema.instances instance records.instances_are first in
      let at = contains_at m.linked.instances.items linked.part linked.listed in
      let told = term_from (IsInstance m.parts) m.parts.instances m.linked.instances.items at.0 linked.part
      m.are.instances at.1 in
      let system = subst (λ o. IsStatedName m.ms m.linked o m.schema.system) linked.first records.system_is in
      root_names told.0 linked.part (at_contains m.parts.instances at.0 told.0 told.1) told.2 linked.root
      (subst (IsClassId m.linked linked.part.class) same linked.is.is_class)
      (last_named told.0.document told.0.name linked.part.name.items m.schema.system told.2.name_is system root)

  pub is_named_by : AreInstanceRecords m.ms m.linked m.schema.instances m.schema.system →
      CanName m.schema attribute class → IsNamedBy m.parts x a
  is_named_by records (ByBinding binding known named names) = named_by_binding binding named known names
  is_named_by records (AsRoot instance first same root) = named_as_root records instance first same root
