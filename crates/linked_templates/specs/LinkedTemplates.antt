-- LinkedTemplates: which linked class is that of which template, field by field (X.722, section 8.3; docs/PROFILE.md,
-- section 12).
use Rattle.std.specs.Prelude.{ℕ}
use Rattle.linked_parts.specs.declared.linked.LinkedClass.{LinkedClass}
use Rattle.gdmo_linking.specs.LinkedTables.{AreLinked}
use Rattle.gdmo_names.specs.Mentions.Role.{Superclass, MandatoryPackage, ConditionalPackage}
use Rattle.gdmo_names.specs.PartTerms.{PartTerms}
use Rattle.gdmo_names.specs.TemplateTerms.{ReferenceTerms, BodyTerm}
use Rattle.gdmo_names.specs.TemplateTerms.BodyTerm.{ClassBody}

pub record IsClass (parts : PartTerms) (document : ℕ) (superclasses mandatory conditional : ReferenceTerms)
    (x : LinkedClass) : Type 0 where
  pub superclasses_are : AreLinked parts document Superclass superclasses x.superclasses.items
  pub mandatory_are : AreLinked parts document MandatoryPackage mandatory x.mandatory.items
  pub conditional_are : AreLinked parts document ConditionalPackage conditional x.conditional.items

abbrev pub IsClassOf : PartTerms → ℕ → BodyTerm → LinkedClass → Type 0
IsClassOf parts document (ClassBody superclasses mandatory conditional) x =
    IsClass parts document superclasses mandatory conditional x
IsClassOf parts document _ x = ⊥
