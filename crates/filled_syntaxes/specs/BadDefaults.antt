-- BadDefaults: the texts of DEFAULT beside a filled syntax that denote no value of the syntax of their component, as
-- sets of texts (X.680, section 25; docs/PROFILE.md, sections 11 and 18).
use Rattle.std.specs.Prelude.{◌≡◌, ◌++◌, ◌∷◌, [], ℕ, zero, suc, List, Bool, false, true, Option, None, Some, is_none}
use Rattle.std.specs.Prelude.{slice_get, if◌then◌else◌}
use Rattle.token_grammar.specs.Form.{Tree}
use Rattle.term_values.specs.Syntaxes.{TypeSyntax, TypeParts}
use Rattle.term_values.specs.Syntaxes.TypeSyntax.{Sequence, SetType, SequenceOf, SetOf, Choice, Tagged}
use Rattle.term_values.specs.Syntaxes.TypeParts.{NoParts, Part}
use Rattle.term_values.specs.Typed.{TypedValue}
use Rattle.term_values.specs.declared.syntax.Part.{Part as PartOfSyntax}
use Rattle.asn1_names.specs.DefaultTexts.{member_at, part_at}
use Rattle.asn1_names.specs.ModuleTerms.{ModuleTerm}
use Rattle.asn1_names.specs.NameMeaning.{Meaning}
use Rattle.asn1_names.specs.ResolvedTypes.{HasDefaultText}
use Rattle.asn1_leaf_values.specs.Arcs.{NamedArcs}
use Rattle.filled_syntaxes.specs.FilledSyntaxes.{HasFilled, IsFilled, IsPresence, texts_beside}
use Rattle.filled_syntaxes.specs.NotedTexts.{TextSet}
use Rattle.filled_syntaxes.specs.SaidTexts.{DenotesNone}

-- the module at a place is of this document
abbrev pub IsOfDocument : List ModuleTerm → ℕ → ℕ → Type 0
IsOfDocument ms m document = (x : ModuleTerm) × (slice_get ms m ≡ Some x) × (x.document ≡ document)

-- the text of DEFAULT at a path, where it denotes no value of this syntax
pub record OwnBad (ms : List ModuleTerm) (names : NamedArcs) (meant : Meaning) (path : List ℕ) (syntax : TypeSyntax)
    (document at : ℕ) : Type 0 where
  pub v : ℕ
  pub text : Tree
  pub stands : HasDefaultText ms meant path v text
  pub is_of : IsOfDocument ms v document
  pub none : DenotesNone names syntax text at

-- those at further paths, where a function tells the syntax at each
pub record BadBehind (ms : List ModuleTerm) (names : NamedArcs) (meant : Meaning) (path : List ℕ)
    (syntax_at : List ℕ → Option TypeSyntax) (document at : ℕ) : Type 0 where
  pub rest : List ℕ
  pub component : TypeSyntax
  pub is_part : syntax_at rest ≡ Some component
  pub bad : OwnBad ms names meant (path ++ rest) component document at

-- the syntax at a path of a syntax, itself among them; of components, by the number of the first one
abbrev pub one_at : TypeSyntax → List ℕ → Option TypeSyntax
one_at syntax [] = Some syntax
one_at syntax (k ∷ path) = part_at syntax (k ∷ path)

abbrev pub among_at : TypeParts → List ℕ → Option TypeSyntax
among_at parts [] = None
among_at parts (k ∷ path) = member_at parts k path

-- the texts within a filled syntax; with its own; and those of components
abbrev pub BadWithin : List ModuleTerm → NamedArcs → Meaning → List ℕ → TypeSyntax → TextSet
BadWithin ms names meant path syntax place =
    BadBehind ms names meant path (part_at syntax) place.document place.token

abbrev pub BadOne : List ModuleTerm → NamedArcs → Meaning → List ℕ → TypeSyntax → TextSet
BadOne ms names meant path syntax place =
    BadBehind ms names meant path (one_at syntax) place.document place.token

abbrev pub BadAmong : List ModuleTerm → NamedArcs → Meaning → List ℕ → TypeParts → TextSet
BadAmong ms names meant path parts place =
    BadBehind ms names meant path (among_at parts) place.document place.token

abbrev pub BadOwn : List ModuleTerm → NamedArcs → Meaning → List ℕ → TypeSyntax → TextSet
BadOwn ms names meant path syntax place = OwnBad ms names meant path syntax place.document place.token

-- the texts of DEFAULT beside the filled syntax of a meaning
abbrev pub BadBeside : List ModuleTerm → NamedArcs → Meaning → TextSet
BadBeside ms names meant place = (syntax : TypeSyntax) × HasFilled ms names meant syntax
    × BadWithin ms names meant [] syntax place

-- whether the component at a path may be left out
abbrev mutual
  pub may_miss_at : TypeSyntax → List ℕ → Bool
  may_miss_at (Tagged tag explicit of) path = may_miss_at of path
  may_miss_at (SequenceOf member sizes) path = may_miss_at member path
  may_miss_at (SetOf member sizes) path = may_miss_at member path
  may_miss_at (Sequence parts) (k ∷ path) = member_may_miss parts k path
  may_miss_at (SetType parts) (k ∷ path) = member_may_miss parts k path
  may_miss_at (Choice parts) (k ∷ path) = member_may_miss parts k path
  may_miss_at syntax path = false

  pub member_may_miss : TypeParts → ℕ → List ℕ → Bool
  member_may_miss NoParts k path = false
  member_may_miss (Part name syntax optional default rest) (suc k) path = member_may_miss rest k path
  member_may_miss (Part name syntax optional default rest) zero [] = optional
  member_may_miss (Part name syntax optional default rest) zero (j ∷ path) = may_miss_at syntax (j ∷ path)

abbrev pub one_may_miss : Bool → TypeSyntax → List ℕ → Bool
one_may_miss optional syntax [] = optional
one_may_miss optional syntax (k ∷ path) = may_miss_at syntax (k ∷ path)

abbrev pub among_may_miss : TypeParts → List ℕ → Bool
among_may_miss parts [] = true
among_may_miss parts (k ∷ path) = member_may_miss parts k path

abbrev pub within_may_miss : TypeSyntax → List ℕ → Bool
within_may_miss syntax [] = true
within_may_miss syntax (k ∷ path) = may_miss_at syntax (k ∷ path)

-- each text of DEFAULT behind a path stands at a component that may be left out
abbrev pub StandWhere : List ModuleTerm → Meaning → List ℕ → (List ℕ → Bool) → Type 0
StandWhere ms meant path may_miss = (rest : List ℕ) (v : ℕ) (text : Tree) →
    HasDefaultText ms meant (path ++ rest) v text → may_miss rest ≡ true

-- the value that is told of the DEFAULT at a path, for a component that may be left out by this
abbrev pub TellsPresence : List ModuleTerm → NamedArcs → Meaning → List ℕ → TypeSyntax → Bool → Option TypedValue →
    Type 0
TellsPresence ms names meant path syntax optional told =
    IsPresence names (texts_beside ms meant path) syntax optional (if is_none told then optional else false) told

-- a component at a path is filled: its name, its syntax, and whether it may be left out
pub record IsFilledPart (ms : List ModuleTerm) (names : NamedArcs) (meant : Meaning) (path : List ℕ)
    (part filled : PartOfSyntax) : Type 0 where
  pub named : filled.name ≡ part.name
  pub inner : IsFilled names (texts_beside ms meant) path part.syntax filled.syntax
  pub presence : IsPresence names (texts_beside ms meant path) filled.syntax part.optional filled.optional filled.default

-- the filled syntax of a meaning, or that it has none
abbrev pub TellsFilled : List ModuleTerm → NamedArcs → Meaning → Option TypeSyntax → Type 0
TellsFilled ms names meant None = (syntax : TypeSyntax) → ¬ HasFilled ms names meant syntax
TellsFilled ms names meant (Some syntax) = HasFilled ms names meant syntax
