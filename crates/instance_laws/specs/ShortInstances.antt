-- ShortInstances: each value of an instance is written in fewer than 2 ^ 32 octets, which is the most that is read
-- (X.690, section 8.1.3; docs/PROFILE.md, sections 9 and 11).
use Rattle.std.specs.Prelude.{List, All}
use Rattle.asn1_values_syntax.specs.ValueTrees.{value_tree}
use Rattle.term_values.specs.Syntaxes.{TypeSyntax}
use Rattle.term_values.specs.Typed.{TypedValue}
use Rattle.asn1_names.specs.ModuleTerms.{ModuleTerm}
use Rattle.linked_parts.specs.declared.linked.Linked.{Linked}
use Rattle.linked_parts.specs.declared.linked.LinkedInstance.{LinkedInstance}
use Rattle.linked_parts.specs.declared.linked.LinkedPair.{LinkedPair}
use Rattle.filled_syntaxes.specs.LinkedMeanings.{linked_arcs}
use Rattle.filled_syntaxes.specs.SaidTexts.{DenotesValue}
use Rattle.class_faults.specs.AttributeSyntaxes.{AttributeHas}
use Rattle.sound_laws.specs.ShortDefaults.{IsShort}

-- the value that the text of a pair denotes in the syntax of its attribute
abbrev pub IsShortPair : List ModuleTerm → Linked → LinkedPair → Type 0
IsShortPair ms linked pair = (syntax : TypeSyntax) → AttributeHas ms linked pair.attribute syntax →
    (value : TypedValue) → DenotesValue (linked_arcs linked) syntax (value_tree pair.value) value →
    IsShort syntax value

-- that of each pair in the name of an instance, and of each behind WITH
abbrev pub IsShortInstance : List ModuleTerm → Linked → LinkedInstance → Type 0
IsShortInstance ms linked part =
    All (IsShortPair ms linked) part.name.items × All (IsShortPair ms linked) part.given.items

abbrev pub AreShortInstances : List ModuleTerm → Linked → Type 0
AreShortInstances ms linked = All (IsShortInstance ms linked) linked.instances.items
