-- FilledSyntaxes: the syntax of a type with the values of its DEFAULTs, inner types first: the text of a DEFAULT is read
-- in the syntax of its component, whose own DEFAULTs have their values. A component whose DEFAULT has no value is as
-- OPTIONAL for what stands round it (X.680, section 25; docs/PROFILE.md, section 11).
use Rattle.std.specs.Prelude.{◌≡◌, ◌+◌, ◌++◌, ℕ, List, [], ◌∷◌, Bool, false, Option, None, Some}
use Rattle.token_grammar.specs.Form.{Tree}
use Rattle.term_values.specs.Syntaxes.{TypeSyntax, TypeParts}
use Rattle.term_values.specs.Syntaxes.TypeSyntax.{Sequence, SetType, SequenceOf, SetOf, Choice, Tagged}
use Rattle.term_values.specs.Syntaxes.TypeParts.{NoParts, Part}
use Rattle.term_values.specs.Typed.{TypedValue}
use Rattle.asn1_names.specs.ModuleTerms.{ModuleTerm}
use Rattle.asn1_names.specs.NameMeaning.{Meaning}
use Rattle.asn1_names.specs.ResolvedTypes.{HasDefaultText, HasSyntax}
use Rattle.asn1_leaf_values.specs.Arcs.{NamedArcs}
use Rattle.filled_syntaxes.specs.SaidTexts.{DenotesValue, DenotesNone}

-- which text stands at a path of component numbers
abbrev pub TextsAt : Type 1
TextsAt = List ℕ → Tree → Type 0

-- whether a component may be left out, and what it then holds: by no DEFAULT, by one with a value, and by one without
pub data IsPresence (names : NamedArcs) (Text : Tree → Type 0) (syntax : TypeSyntax) (optional : Bool) :
    Bool → Option TypedValue → Type 0 where
  without : ((tree : Tree) → ¬ Text tree) → IsPresence names Text syntax optional optional None
  with_value : {tree : Tree} {value : TypedValue} → Text tree → DenotesValue names syntax tree value →
      IsPresence names Text syntax optional false (Some value)
  with_none : {tree : Tree} {at : ℕ} → Text tree → DenotesNone names syntax tree at →
      IsPresence names Text syntax optional optional None

abbrev mutual
  -- a syntax at a path, and the same with the values of its DEFAULTs
  pub IsFilled : NamedArcs → TextsAt → List ℕ → TypeSyntax → TypeSyntax → Type 0
  IsFilled names Texts path (Sequence parts) filled =
      (inner : TypeParts) × (filled ≡ Sequence inner) × AreFilled names Texts path 0 parts inner
  IsFilled names Texts path (SetType parts) filled =
      (inner : TypeParts) × (filled ≡ SetType inner) × AreFilled names Texts path 0 parts inner
  IsFilled names Texts path (Choice parts) filled =
      (inner : TypeParts) × (filled ≡ Choice inner) × AreFilled names Texts path 0 parts inner
  IsFilled names Texts path (SequenceOf member sizes) filled =
      (inner : TypeSyntax) × (filled ≡ SequenceOf inner sizes) × IsFilled names Texts path member inner
  IsFilled names Texts path (SetOf member sizes) filled =
      (inner : TypeSyntax) × (filled ≡ SetOf inner sizes) × IsFilled names Texts path member inner
  IsFilled names Texts path (Tagged tag explicit of) filled =
      (inner : TypeSyntax) × (filled ≡ Tagged tag explicit inner) × IsFilled names Texts path of inner
  IsFilled names Texts path plain filled = filled ≡ plain

  -- components, or alternatives, of which the first has the number k
  pub AreFilled : NamedArcs → TextsAt → List ℕ → ℕ → TypeParts → TypeParts → Type 0
  AreFilled names Texts path k NoParts (Part name syntax optional default rest) = ⊥
  AreFilled names Texts path k NoParts NoParts = Unit {0}
  AreFilled names Texts path k (Part name syntax optional default rest) NoParts = ⊥
  AreFilled names Texts path k (Part name syntax optional default rest)
      (Part its_name inner may_be_absent value others) =
      (its_name ≡ name) × IsFilled names Texts (path ++ k ∷ []) syntax inner
      × IsPresence names (Texts (path ++ k ∷ [])) inner optional may_be_absent value
      × AreFilled names Texts path (k + 1) rest others

-- the text of DEFAULT that stands at a path beside the syntax of a meaning, whatever its module
abbrev pub texts_beside : List ModuleTerm → Meaning → TextsAt
texts_beside ms meant path tree = (v : ℕ) × HasDefaultText ms meant path v tree

-- the syntax that a meaning has, with the values of its DEFAULTs
pub record HasFilled (ms : List ModuleTerm) (names : NamedArcs) (meant : Meaning) (syntax : TypeSyntax) : Type 0 where
  pub plain : TypeSyntax
  pub has : HasSyntax ms meant plain
  pub filled : IsFilled names (texts_beside ms meant) [] plain syntax
