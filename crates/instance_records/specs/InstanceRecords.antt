-- InstanceRecords: which records of objects, and which name of the system, are those of linked instances: what each
-- names is told by its identifier, a value of a name by its one written encoding (docs/PROFILE.md, sections 9 and 16;
-- X.690, sections 8, 10 and 11).
use Rattle.std.specs.Prelude.{◌≡◌, List, [], Bool, true, false, Option, None, Some, find}
use Rattle.asn1_values_syntax.specs.ValueTrees.{value_tree}
use Rattle.term_values.specs.Syntaxes.{TypeSyntax}
use Rattle.term_values.specs.Typed.{TypedValue}
use Rattle.term_values.specs.Written.{der}
use Rattle.term_model.specs.declared.name.Rdn.{Rdn}
use Rattle.term_model.specs.declared.object.Attribute.{Attribute}
use Rattle.term_model.specs.declared.schema.InstRec.{InstRec}
use Rattle.asn1_names.specs.ModuleTerms.{ModuleTerm}
use Rattle.linked_parts.specs.declared.linked.Linked.{Linked}
use Rattle.linked_parts.specs.declared.linked.LinkedInstance.{LinkedInstance}
use Rattle.linked_parts.specs.declared.linked.LinkedPair.{LinkedPair}
use Rattle.filled_syntaxes.specs.LinkedMeanings.{linked_arcs}
use Rattle.filled_syntaxes.specs.SaidTexts.{DenotesValue}
use Rattle.class_faults.specs.AttributeSyntaxes.{AttributeHas}
use Rattle.linked_types.specs.PartIdentifiers.{AreEach, AreIdentified, IsAttributeId, IsClassId}
use Rattle.section_values.specs.SectionRecords.{IsPairValue}

-- the part of a name that a pair states: the identifier of its attribute, and the octets in which the value that its
-- text denotes in the syntax of the attribute is written
pub record IsPart (ms : List ModuleTerm) (linked : Linked) (pair : LinkedPair) (rdn : Rdn) : Type 0 where
  pub is_attribute : IsAttributeId linked pair.attribute rdn.attribute
  pub syntax : TypeSyntax
  pub has : AttributeHas ms linked pair.attribute syntax
  pub denoted : TypedValue
  pub denotes : DenotesValue (linked_arcs linked) syntax (value_tree pair.value) denoted
  pub is_written : rdn.value ≡ der syntax denoted

-- the attribute that a pair behind WITH states: its identifier, and the value that its text denotes
pub record IsGiven (ms : List ModuleTerm) (linked : Linked) (pair : LinkedPair) (given : Attribute) : Type 0 where
  pub is_attribute : IsAttributeId linked pair.attribute given.id
  pub is_value : IsPairValue ms linked pair given.value

-- the name of an object: what its pairs state, the superior's first; the name of the ROOT is empty, since all others
-- are named below it
abbrev pub IsObjectName : List ModuleTerm → Linked → Bool → List LinkedPair → List Rdn → Type 0
IsObjectName ms linked true pairs name = name ≡ []
IsObjectName ms linked false pairs name = AreEach (IsPart ms linked) pairs name

-- the record of an instance: the values behind WITH and the packages behind PACKAGES in the order in which they stand;
-- the value by which it is named is among its values only where it stands behind WITH too
pub record IsInstanceRecord (ms : List ModuleTerm) (linked : Linked) (part : LinkedInstance) (x : InstRec)
    : Type 0 where
  pub is_root : part.is_root ≡ x.root
  pub is_class : IsClassId linked part.class x.class
  pub is_name : IsObjectName ms linked part.is_root part.name.items x.name
  pub given_are : AreEach (IsGiven ms linked) part.given.items x.given
  pub chosen_are : AreIdentified (λ y. y.head) linked.packages.items part.packages.items x.chosen

-- the first instance that stands behind ROOT
abbrev pub first_root : List LinkedInstance → Option LinkedInstance
first_root instances = find (λ (x : LinkedInstance). x.is_root) instances

-- the name of the system is the one that this instance states; where there is none it is empty
abbrev pub IsStatedName : List ModuleTerm → Linked → Option LinkedInstance → List Rdn → Type 0
IsStatedName ms linked None name = name ≡ []
IsStatedName ms linked (Some part) name = AreEach (IsPart ms linked) part.name.items name

abbrev pub IsSystemName : List ModuleTerm → Linked → List Rdn → Type 0
IsSystemName ms linked name = IsStatedName ms linked (first_root linked.instances.items) name

-- these are the records of all instances, in their order, and this is the name of the system
pub record AreInstanceRecords (ms : List ModuleTerm) (linked : Linked) (instances : List InstRec)
    (system : List Rdn) : Type 0 where
  pub instances_are : AreEach (IsInstanceRecord ms linked) linked.instances.items instances
  pub system_is : IsSystemName ms linked system
