-- BadAssignments: the texts that modules assign and that denote no value: those of values, and those of DEFAULTs in the
-- types of assignments, used or not (X.680, sections 16, 17.7 and 25; docs/PROFILE.md, sections 11 and 18).
use Rattle.std.specs.Prelude.{◌≡◌, ◌⊎◌, ℕ, List, Some}
use Rattle.token_grammar.specs.Form.{Tree}
use Rattle.term_values.specs.Syntaxes.{TypeSyntax}
use Rattle.asn1_names.specs.DefaultTexts.{part_at}
use Rattle.asn1_names.specs.ModuleTerms.{ModuleTerm}
use Rattle.asn1_names.specs.ResolvedTypes.{HasDefaultText}
use Rattle.linked_parts.specs.declared.linked.Linked.{Linked}
use Rattle.filled_syntaxes.specs.BadDefaults.{IsOfDocument}
use Rattle.filled_syntaxes.specs.FilledSyntaxes.{HasFilled}
use Rattle.filled_syntaxes.specs.LinkedMeanings.{AssignsNone, assignment_meaning, linked_arcs}
use Rattle.filled_syntaxes.specs.NotedTexts.{TextSet}
use Rattle.filled_syntaxes.specs.SaidTexts.{DenotesNone}

-- the text of an assigned value denotes no value of its type
pub record BadAssignedAt (ms : List ModuleTerm) (linked : Linked) (document at : ℕ) : Type 0 where
  pub m : ℕ
  pub i : ℕ
  pub is_of : IsOfDocument ms m document
  pub none : AssignsNone ms (linked_arcs linked) (assignment_meaning ms m i) at

-- the text of a DEFAULT in the type of an assignment denotes no value of its component's syntax
pub record BadDefaultAt (ms : List ModuleTerm) (linked : Linked) (document at : ℕ) : Type 0 where
  pub m : ℕ
  pub i : ℕ
  pub syntax : TypeSyntax
  pub has : HasFilled ms (linked_arcs linked) (assignment_meaning ms m i) syntax
  pub path : List ℕ
  pub component : TypeSyntax
  pub is_part : part_at syntax path ≡ Some component
  pub v : ℕ
  pub text : Tree
  pub stands : HasDefaultText ms (assignment_meaning ms m i) path v text
  pub is_of : IsOfDocument ms v document
  pub none : DenotesNone (linked_arcs linked) component text at

-- the texts of both kinds
abbrev pub BadOfAssignments : List ModuleTerm → Linked → TextSet
BadOfAssignments ms linked place =
    BadAssignedAt ms linked place.document place.token ⊎ BadDefaultAt ms linked place.document place.token
