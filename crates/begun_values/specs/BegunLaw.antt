-- BegunLaw: where the first names of identifiers, of modules' values and of sections' values are marked, exactly those
-- are with which some identifier or some value begins (X.680, section 32; docs/PROFILE.md, section 12).
use Rattle.std.specs.Prelude.{◌≡◌, ◌<◌, ◌↔◌, ℕ, List, Some, length}
use Rattle.asn1_names.specs.FirstNames.{found}
use Rattle.gdmo_first_names.specs.DefinedNames.{AreDefined}
use Rattle.gdmo_names.specs.BegunNames.{BeginsOne}
use Rattle.gdmo_names.specs.PartTerms.{PartTerms, module_terms_of}
use Rattle.gdmo_begun_names.specs.declared.begun_names.BegunNames.{BegunNames}
use Rattle.gdmo_begun_names.specs.BegunMarks.{IsMarked, Marks}
use Rattle.gdmo_begun_names.specs.StatedNames.{StatedFirsts}
use Rattle.begun_values.specs.ModuleValues.{ModuleFirsts}
use Rattle.begun_values.specs.SectionValues.{SectionFirsts}

-- from nothing marked, the values of modules, those of sections and identifiers were marked
pub record MarksAll (parts : PartTerms) (before after : BegunNames) : Type 0 where
  pub are_defined : AreDefined parts before.defined.now
  pub none : (number : ℕ) → ¬ IsMarked before number
  pub with_modules : BegunNames
  pub with_sections : BegunNames
  pub marks_modules : Marks (ModuleFirsts (module_terms_of parts)) before with_modules
  pub marks_sections : Marks (SectionFirsts parts) with_modules with_sections
  pub marks_identifiers : Marks (StatedFirsts parts) with_sections after

-- then the assignment by which the first module that defines a name does is marked exactly where something begins with
-- that name
abbrev pub MarksTellBegun : Type 0
MarksTellBegun = (parts : PartTerms) (before after : BegunNames) (name : List ℕ) (number : ℕ) →
    MarksAll parts before after → found before.defined.now name ≡ Some number →
    number < length before.begun.items → IsMarked after number ↔ BeginsOne parts name
