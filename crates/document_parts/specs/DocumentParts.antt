-- DocumentParts: the units of documents by their kinds, each with the number of its document, counted from 1 (X.722,
-- section 8.2; docs/PROFILE.md, section 2). Of a template in line the number isn't looked at.
use Rattle.std.specs.Prelude.{◌≡◌, ℕ, List, [], ◌∷◌, ◌++◌, ◌+◌, flat_map}
use Rattle.asn1_syntax.specs.declared.module.Module.{Module}
use Rattle.extra_syntax.specs.declared.section.Section.{Section}
use Rattle.extra_syntax.specs.declared.section.Section.TheVariants.{Rules, Instances}
use Rattle.gdmo_classes.specs.declared.template.ClassTemplate.{ClassTemplate}
use Rattle.gdmo_classes.specs.declared.template.ClassTemplate.TheVariants.{Class, Package, NameBinding}
use Rattle.gdmo_members.specs.declared.member.MemberTemplate.{MemberTemplate}
use Rattle.gdmo_members.specs.declared.member.MemberTemplate.TheVariants.{Attribute, Group, Action, Notification}
use Rattle.gdmo_members.specs.declared.member.MemberTemplate.TheVariants.{Parameter, Behaviour}
use Rattle.document_units.specs.declared.unit.DocumentUnit.{DocumentUnit}
use Rattle.document_units.specs.declared.unit.DocumentUnit.TheVariants.{Class as ClassUnit, Member as MemberUnit}
use Rattle.document_units.specs.declared.unit.DocumentUnit.TheVariants.{Module as ModuleUnit, Section as SectionUnit}
use Rattle.gdmo_names.specs.declared.parsed.Parsed.{Parsed}

-- a unit with the number of its document
abbrev pub numbered_class : ℕ → ClassTemplate → ClassTemplate
numbered_class n (Class x) = Class (record x { document = n })
numbered_class n (Package x) = Package (record x { document = n })
numbered_class n (NameBinding x) = NameBinding (record x { document = n })

abbrev pub numbered_member : ℕ → MemberTemplate → MemberTemplate
numbered_member n (Attribute x) = Attribute (record x { document = n })
numbered_member n (Group x) = Group (record x { document = n })
numbered_member n (Action x) = Action (record x { document = n })
numbered_member n (Notification x) = Notification (record x { document = n })
numbered_member n (Parameter x) = Parameter (record x { document = n })
numbered_member n (Behaviour x) = Behaviour (record x { document = n })

abbrev pub numbered_module : ℕ → Module → Module
numbered_module n x = record x { document = n }

abbrev pub numbered_section : ℕ → Section → Section
numbered_section n (Rules x) = Rules (record x { document = n })
numbered_section n (Instances x) = Instances (record x { document = n })

-- what a unit adds to the list of each kind: itself, numbered, or nothing
abbrev pub modules_in : ℕ → DocumentUnit → List Module
modules_in n (ModuleUnit x) = numbered_module n x ∷ []
modules_in n (ClassUnit x) = []
modules_in n (MemberUnit x) = []
modules_in n (SectionUnit x) = []

abbrev pub classes_in : ℕ → DocumentUnit → List ClassTemplate
classes_in n (ModuleUnit x) = []
classes_in n (ClassUnit x) = numbered_class n x ∷ []
classes_in n (MemberUnit x) = []
classes_in n (SectionUnit x) = []

abbrev pub members_in : ℕ → DocumentUnit → List MemberTemplate
members_in n (ModuleUnit x) = []
members_in n (ClassUnit x) = []
members_in n (MemberUnit x) = numbered_member n x ∷ []
members_in n (SectionUnit x) = []

abbrev pub sections_in : ℕ → DocumentUnit → List Section
sections_in n (ModuleUnit x) = []
sections_in n (ClassUnit x) = []
sections_in n (MemberUnit x) = []
sections_in n (SectionUnit x) = numbered_section n x ∷ []

-- the units of one kind of documents, of which the first has this number
abbrev pub in_documents : {X : Type 0} → (ℕ → DocumentUnit → List X) → ℕ → List (List DocumentUnit) → List X
in_documents kind n [] = []
in_documents kind n (us ∷ documents) = flat_map (kind n) us ++ in_documents kind (n + 1) documents

-- these are the parts of documents with these units
pub record AreParts (documents : List (List DocumentUnit)) (parts : Parsed) : Type 0 where
  pub modules : parts.modules.items ≡ in_documents modules_in 1 documents
  pub classes : parts.classes.items ≡ in_documents classes_in 1 documents
  pub members : parts.members.items ≡ in_documents members_in 1 documents
  pub sections : parts.sections.items ≡ in_documents sections_in 1 documents

-- the units of a document with this number stand behind the parts that were there before
pub record Gathers (n : ℕ) (us : List DocumentUnit) (before after : Parsed) : Type 0 where
  pub modules : after.modules.items ≡ before.modules.items ++ flat_map (modules_in n) us
  pub classes : after.classes.items ≡ before.classes.items ++ flat_map (classes_in n) us
  pub members : after.members.items ≡ before.members.items ++ flat_map (members_in n) us
  pub sections : after.sections.items ≡ before.sections.items ++ flat_map (sections_in n) us
