-- NamedValues: the number of the assignment whose value a name means (X.680, sections 13.1 and 16; docs/PROFILE.md,
-- sections 11 and 18).
use Rattle.std.specs.Prelude.{ℕ, List, Option, None, Some}
use Rattle.term_values.specs.Typed.{TypedValue}
use Rattle.asn1_names.specs.CodeMeanings.{IsValueNumber}
use Rattle.asn1_names.specs.ModuleTerms.{ModuleTerm}
use Rattle.asn1_names.specs.declared.name_tables.Meaning.{Meaning}
use Rattle.asn1_names.specs.declared.name_tables.Meaning.TheVariants.{Nothing, Standard, TypeAt, ValueAt}
use Rattle.linked_parts.specs.declared.linked.Linked.{Linked}
use Rattle.linked_parts.specs.declared.linked.LinkedName.{LinkedName}
use Rattle.filled_syntaxes.specs.LinkedMeanings.{linked_meaning}
use Rattle.class_faults.specs.StatedProperties.{HasValue}

-- the number of the assignment, where it assigns a value
abbrev pub number_of : Meaning → Option ℕ
number_of (TypeAt number) = None
number_of (ValueAt number) = Some number
number_of (Standard standard) = None
number_of Nothing = None

-- the assignment with the number gives the name its value; or the name has none
abbrev pub TellsValueNumber : List ModuleTerm → Linked → LinkedName → Option ℕ → Type 0
TellsValueNumber ms linked name None = (value : TypedValue) → ¬ HasValue ms linked name value
TellsValueNumber ms linked name (Some number) = IsValueNumber ms number (linked_meaning ms name.meaning)
