-- NamedLaws: what stands in a linked class or name binding is what its template names in a role (X.722, sections 8.3
-- and 8.6).
use Rattle.std.specs.Prelude.{◌≡◌, ◌++◌, ℕ, zero, suc, List, Some, Contains, refl, slice_get}
use Rattle.std.proofs.Common.{arith}
use Rattle.std.proofs.Math.Path.{subst}
use Rattle.std.proofs.lemmas.List.Elements.{Contains-append_left}
use Rattle.std.proofs.lemmas.Option.{same_Some}
use Rattle.gdmo_names.specs.ClassMembers.{names_subclasses}
use Rattle.gdmo_names.specs.Mentions.{Mention, Role, body_mentions, mention, mentions}
use Rattle.gdmo_names.specs.Mentions.Role.{ConditionalPackage, MandatoryPackage, NamingAttribute, SubordinateClass}
use Rattle.gdmo_names.specs.Mentions.Role.{Superclass}
use Rattle.gdmo_names.specs.PartTerms.{PartTerms}
use Rattle.gdmo_names.specs.TemplateTerms.{BodyTerm, ReferenceTerm, ReferenceTerms}
use Rattle.gdmo_names.specs.TemplateTerms.BodyTerm.{ActionBody, AttributeBody, BehaviourBody, BindingBody, ClassBody}
use Rattle.gdmo_names.specs.TemplateTerms.BodyTerm.{GroupBody, NotificationBody, PackageBody, ParameterBody}
use Rattle.gdmo_linking.specs.LinkedTables.{AreLinked, Links}
use Rattle.gdmo_linking.specs.LinkedTables.AreLinked.{another, no_more}
use Rattle.linked_parts.specs.declared.linked.LinkedBinding.{LinkedBinding}
use Rattle.linked_parts.specs.declared.linked.LinkedClass.{LinkedClass}
use Rattle.linked_templates.specs.LinkedMembers.{IsBindingOf}
use Rattle.linked_templates.specs.LinkedTemplates.{IsClassOf}
use Rattle.registered_laws.proofs.TableLaws.{first_of, later_of}

module _ (parts : PartTerms) (document : ℕ) where
  -- what is linked by the number is named in the role
  pub record IsNamed (role : Role) (xs : List Mention) (k : ℕ) : Type 0 where
    pub reference : ReferenceTerm
    pub names : Contains xs (mention role reference)
    pub links : Links parts document role reference k

  named_in_row : (role : Role) {references : ReferenceTerms} {ks : List ℕ} (place k : ℕ) →
      AreLinked parts document role references ks → slice_get ks place ≡ Some k →
      IsNamed role (mentions role references) k
  named_in_row role place k no_more at = absurd (cc)
  named_in_row role zero k (another {x = x} {xs = xs} {k = j} one rest) at = record {
    reference = x;
    names = first_of (mention role x) (mentions role xs);
    links = subst (Links parts document role x) (same_Some j k at) one;
  }
  named_in_row role (suc place) k (another {x = x} {xs = xs} one rest) at =
      let found = named_in_row role place k rest at in record {
        reference = found.reference;
        names = later_of (mention role x) (mention role found.reference) (mentions role xs) found.names;
        links = found.links;
      }

  pub superclass_named : (body : BodyTerm) (x : LinkedClass) (place k : ℕ) → IsClassOf parts document body x →
      slice_get x.superclasses.items place ≡ Some k → IsNamed Superclass (body_mentions body) k
  superclass_named (ClassBody superclasses mandatory conditional) x place k is at =
      let found = named_in_row Superclass place k is.superclasses_are at in record {
        reference = found.reference;
        names = Contains-append_left (mentions Superclass superclasses)
            (mentions MandatoryPackage mandatory ++ mentions ConditionalPackage conditional)
            (mention Superclass found.reference) found.names;
        links = found.links;
      }
  superclass_named (PackageBody _ _ _ _ _) x place k is at = absurd is
  superclass_named (ParameterBody _ _) x place k is at = absurd is
  superclass_named (BindingBody _ _ _ _ _ _ _ _) x place k is at = absurd is
  superclass_named (AttributeBody _ _ _ _) x place k is at = absurd is
  superclass_named (GroupBody _ _) x place k is at = absurd is
  superclass_named BehaviourBody x place k is at = absurd is
  superclass_named (ActionBody _ _ _ _ _) x place k is at = absurd is
  superclass_named (NotificationBody _ _ _ _ _) x place k is at = absurd is

  pub record IsNamedBinding (body : BodyTerm) (x : LinkedBinding) : Type 0 where
    pub subordinate : IsNamed SubordinateClass (body_mentions body) x.subordinate
    pub subclasses : names_subclasses body ≡ x.subordinate_subclasses
    pub attribute : IsNamed NamingAttribute (body_mentions body) x.attribute

  pub binding_named : (body : BodyTerm) (x : LinkedBinding) → IsBindingOf parts document body x →
      IsNamedBinding body x
  binding_named (BindingBody below below_all above above_all attribute behaviours create delete) x is = record {
    subordinate = record { reference = below; names = (0, omega arith, refl); links = is.is_subordinate };
    subclasses = is.subclasses_below;
    attribute = record { reference = attribute; names = (2, omega arith, refl); links = is.is_attribute };
  }
  binding_named (ClassBody _ _ _) x is = absurd is
  binding_named (PackageBody _ _ _ _ _) x is = absurd is
  binding_named (ParameterBody _ _) x is = absurd is
  binding_named (AttributeBody _ _ _ _) x is = absurd is
  binding_named (GroupBody _ _) x is = absurd is
  binding_named BehaviourBody x is = absurd is
  binding_named (ActionBody _ _ _ _ _) x is = absurd is
  binding_named (NotificationBody _ _ _ _ _) x is = absurd is
