-- KnownThings: the modules of linked parts, the numbers of their assignments, and the names with which identifiers begin,
-- as they are kept (X.680, sections 13.1 and 32; docs/PROFILE.md, sections 11 and 12).
use Rattle.std.specs.Prelude.{◌≡◌, ◌+◌, ◌<◌, ◌^◌, ℕ, List, Some, option_and_then, slice_get}
use Rattle.asn1_names.specs.declared.name_tables.Meaning.{Meaning as CodeMeaning}
use Rattle.asn1_names.specs.AssignmentNumbers.{numbered_at}
use Rattle.asn1_names.specs.CodeMeanings.{Means}
use Rattle.asn1_names.specs.ModuleTerms.{AssignmentTerm, ModuleTerm}
use Rattle.asn1_names.specs.NameMeaning.{Meaning}
use Rattle.asn1_names.specs.TermViews.{module_terms}
use Rattle.asn1_leaf_values.specs.Arcs.{NamedArcs, where_arcs}
use Rattle.asn1_leaf_values.specs.FirstNames.{arcs_named}
use Rattle.linked_parts.specs.declared.linked.Linked.{Linked}
use Rattle.filled_syntaxes.specs.declared.named_things.NamedThings.{NamedThings}
use Rattle.filled_syntaxes.specs.LinkedMeanings.{linked_arcs}

-- by the number of the first assignment of each module each of its assignments is told
abbrev pub AreFirstNumbers : List ModuleTerm → List ℕ → Type 0
AreFirstNumbers ms numbers = (m i : ℕ) (x : ModuleTerm) (y : AssignmentTerm) → slice_get ms m ≡ Some x →
    slice_get x.assignments i ≡ Some y → (first : ℕ) × (slice_get numbers m ≡ Some first) × (first + i < 2 ^ 64)
    × (numbered_at ms (first + i) ≡ Some (record { in_module = m; place = i; assignment = y }))

-- the arcs of a name, where each has 32 bits
abbrev pub where_known : NamedArcs → NamedArcs
where_known names name = option_and_then where_arcs (names name)

-- what is kept is of these modules and of the first names of these parts
pub record AreNamedThings (ms : List ModuleTerm) (linked : Linked) (things : NamedThings) : Type 0 where
  pub modules : module_terms things.modules.now ≡ ms
  pub types : module_terms things.types.now ≡ ms
  pub numbers : AreFirstNumbers ms things.first_numbers.items
  pub names : (name : List ℕ) → arcs_named things.names name ≡ where_known (linked_arcs linked) name

-- the meaning whose syntax is filled is one of these modules
pub record IsFilling (ms : List ModuleTerm) (linked : Linked) (meant : Meaning) (things : NamedThings)
    (meaning : CodeMeaning) : Type 0 where
  pub known : AreNamedThings ms linked things
  pub means : Means ms meaning meant
