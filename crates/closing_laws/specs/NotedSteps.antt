-- NotedSteps: what is noted while classes are closed, step by step: texts that denote no value, and faults
-- (docs/PROFILE.md, section 18).
use Rattle.std.specs.Prelude.{List, Option, None}
use Rattle.asn1_names.specs.ModuleTerms.{ModuleTerm}
use Rattle.linked_parts.specs.declared.linked.Linked.{Linked}
use Rattle.filled_syntaxes.specs.BadAssignments.{BadOfAssignments}
use Rattle.filled_syntaxes.specs.NotedTexts.{NotesTexts}
use Rattle.filled_syntaxes.specs.declared.bad_texts.TextPlace.{TextPlace}
use Rattle.class_faults.specs.CyclicFaults.{CyclicAttributeFaults, CyclicClassFaults}
use Rattle.class_faults.specs.FaultSets.{FirstText, Notes}
use Rattle.class_faults.specs.declared.first_fault.ClassFault.{ClassFault as NotedFault}
use Rattle.linked_types.specs.NotedDefaults.{BadDefaults, NotesSome}
use Rattle.package_statements.specs.StatedFaults.{StatedFaults}
use Rattle.property_faults.specs.PropertyFaults.{PropertyFaults}
use Rattle.section_values.specs.BadSections.{BadOfInstances, BadOfRules}

-- the texts of assignments, and then some of the DEFAULTs beside the types that templates name
pub record AreNamedTexts (ms : List ModuleTerm) (linked : Linked) (texts : Option TextPlace) : Type 0 where
  pub assigned : Option TextPlace
  pub of_assignments : NotesTexts (BadOfAssignments ms linked) None assigned
  pub typed : Option TextPlace
  pub of_types : NotesSome (BadDefaults ms linked) assigned typed
  pub of_statements : NotesSome (BadDefaults ms linked) typed texts

-- and then those of rules and instances
pub record AreNotedTexts (ms : List ModuleTerm) (linked : Linked) (texts : Option TextPlace) : Type 0 where
  pub named : Option TextPlace
  pub are_named : AreNamedTexts ms linked named
  pub ruled : Option TextPlace
  pub of_rules : NotesTexts (BadOfRules ms linked) named ruled
  pub of_instances : NotesTexts (BadOfInstances ms linked) ruled texts

-- the attributes, and the classes, that derive from themselves
pub record AreCyclicFaults (linked : Linked) (first : Option NotedFault) : Type 0 where
  pub attributes : Option NotedFault
  pub of_attributes : Notes (CyclicAttributeFaults linked.attributes.items) None attributes
  pub of_classes : Notes (CyclicClassFaults linked.classes.items) attributes first

-- and then the other faults of classes, and those of packages
pub record AreClassFaults (ms : List ModuleTerm) (linked : Linked) (first : Option NotedFault) : Type 0 where
  pub cyclic : Option NotedFault
  pub are_cyclic : AreCyclicFaults linked cyclic
  pub joined : Option NotedFault
  pub of_properties : Notes (PropertyFaults ms linked) cyclic joined
  pub of_packages : Notes (StatedFaults ms linked) joined first

-- and then the first of the texts
pub record AreNotedFaults (ms : List ModuleTerm) (linked : Linked) (first : Option NotedFault) : Type 0 where
  pub classes : Option NotedFault
  pub of_classes : AreClassFaults ms linked classes
  pub texts : Option TextPlace
  pub are_texts : AreNotedTexts ms linked texts
  pub of_texts : Notes (FirstText texts) classes first
