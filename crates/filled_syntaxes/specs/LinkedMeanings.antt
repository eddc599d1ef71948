-- LinkedMeanings: what the names in linked parts mean: types and values by their places in the modules, and first names
-- by their arcs (X.680, sections 13.1 and 32; docs/PROFILE.md, sections 11 and 12).
use Rattle.std.specs.Prelude.{ℕ, List, Bool, Option, None, Some, option_map, slice_get, find}
use Rattle.token_grammar.specs.Form.{Tree}
use Rattle.term_values.specs.Syntaxes.{TypeSyntax}
use Rattle.term_values.specs.Typed.{TypedValue}
use Rattle.asn1_names.specs.ModuleTerms.{AssignmentTerm, ModuleTerm, NumberTerm, TypeTerm}
use Rattle.asn1_names.specs.NameMeaning.{Meaning, assigned_meaning, standard_meaning}
use Rattle.asn1_names.specs.NameMeaning.Meaning.{Nothing, ValueAt}
use Rattle.asn1_names.specs.StandardModule.{standard_type}
use Rattle.asn1_leaf_values.specs.Arcs.{NamedArcs}
use Rattle.asn1_leaf_values.specs.Literals.{same_name}
use Rattle.linked_parts.specs.declared.linked.Linked.{Linked}
use Rattle.linked_parts.specs.declared.linked.LinkedFirstName.{LinkedFirstName}
use Rattle.linked_parts.specs.declared.linked.NamedMeaning.{NamedMeaning}
use Rattle.linked_parts.specs.declared.linked.NamedMeaning.TheVariants.{Assigned, Standard}
use Rattle.filled_syntaxes.specs.FilledSyntaxes.{HasFilled}
use Rattle.filled_syntaxes.specs.SaidTexts.{DenotesNone, DenotesValue}

-- what the assignment at the place i of the module at the place m gives its name
abbrev pub meaning_of_assignment : ℕ → ℕ → Option AssignmentTerm → Meaning
meaning_of_assignment m i None = Nothing
meaning_of_assignment m i (Some x) = assigned_meaning m i x.assigned

abbrev pub meaning_in : ℕ → ℕ → Option ModuleTerm → Meaning
meaning_in m i None = Nothing
meaning_in m i (Some x) = meaning_of_assignment m i (slice_get x.assignments i)

abbrev pub assignment_meaning : List ModuleTerm → ℕ → ℕ → Meaning
assignment_meaning ms m i = meaning_in m i (slice_get ms m)

-- what a name of a type or value means
abbrev pub linked_meaning : List ModuleTerm → NamedMeaning → Meaning
linked_meaning ms (Assigned m i) = assignment_meaning ms m i
linked_meaning ms (Standard name) = standard_meaning (standard_type name.text)

-- the arcs of the names with which identifiers begin
abbrev pub is_first_name : List ℕ → LinkedFirstName → Bool
is_first_name name x = same_name x.name.text name

abbrev pub linked_arcs : Linked → NamedArcs
linked_arcs linked name =
    option_map (λ (x : LinkedFirstName). x.arcs.items) (find (is_first_name name) linked.first_names.items)

-- the value that is assigned: its text is read in the syntax of its own type
pub data AssignsValue (ms : List ModuleTerm) (names : NamedArcs) : Meaning → TypedValue → Type 0 where
  assigned : {m i : ℕ} {of : TypeTerm} {number : Option NumberTerm} {text : Tree} {syntax : TypeSyntax}
      {value : TypedValue} → HasFilled ms names (ValueAt m i of number text) syntax →
      DenotesValue names syntax text value → AssignsValue ms names (ValueAt m i of number text) value

-- the text that is assigned denotes no value of its type; its first token has this place
pub data AssignsNone (ms : List ModuleTerm) (names : NamedArcs) : Meaning → ℕ → Type 0 where
  assigned : {m i : ℕ} {of : TypeTerm} {number : Option NumberTerm} {text : Tree} {syntax : TypeSyntax} {at : ℕ} →
      HasFilled ms names (ValueAt m i of number text) syntax → DenotesNone names syntax text at →
      AssignsNone ms names (ValueAt m i of number text) at
