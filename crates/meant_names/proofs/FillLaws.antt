-- FillLaws: a syntax has one with the values of its DEFAULTs: a text of DEFAULT stands at a component or none does, and
-- a text denotes a value or none (X.680, section 25; docs/PROFILE.md, section 11).
use Rattle.std.proofs.Common.{◌≡◌, ◌+◌, ◌++◌, ℕ, List, [], ◌∷◌, Bool, false, Option, None, Some, refl}
use Rattle.token_grammar.specs.Form.{Tree}
use Rattle.term_values.specs.Syntaxes.{TypeSyntax, TypeParts}
use Rattle.term_values.specs.Syntaxes.TypeSyntax.{Boolean, Integer, Enumerated, BitString, OctetString, NullType}
use Rattle.term_values.specs.Syntaxes.TypeSyntax.{ObjectIdentifier, TextString, GeneralizedTime, Sequence, SetType}
use Rattle.term_values.specs.Syntaxes.TypeSyntax.{SequenceOf, SetOf, Choice, Tagged, Any, Filter}
use Rattle.term_values.specs.Syntaxes.TypeParts.{NoParts, Part}
use Rattle.term_values.specs.Typed.{TypedValue}
use Rattle.asn1_names.specs.ModuleTerms.{ModuleTerm}
use Rattle.asn1_names.specs.NameMeaning.{Meaning}
use Rattle.asn1_names.specs.ResolvedTypes.{HasSyntax}
use Rattle.asn1_leaf_values.specs.Arcs.{NamedArcs}
use Rattle.asn1_leaf_values.specs.TextValues.{first_place, said}
use Rattle.asn1_values.specs.Filters.{value_named}
use Rattle.denoted_types.specs.DenotedTypes.{NotNone}
use Rattle.filled_syntaxes.specs.FilledSyntaxes.{AreFilled, HasFilled, IsFilled, IsPresence, TextsAt, texts_beside}
use Rattle.filled_syntaxes.specs.FilledSyntaxes.IsPresence.{with_none, with_value, without}
use Rattle.filled_syntaxes.specs.SaidTexts.{TellsValue}
use Rattle.meant_names.proofs.NoneLaws.{either_case, none_by, none_map, one_is}
use Rattle.meant_names.proofs.TextLaws.{AreAllTold, MeaningTold, text_is_told}
use Rattle.meant_names.proofs.TextTrees.{IsTold}

-- ---- a text denotes a value or none

pub text_tells : (names : NamedArcs) (syntax : TypeSyntax) (tree : Tree) → IsTold tree →
    (told : Option TypedValue) × TellsValue names syntax tree told
text_tells names syntax tree (text, same) = by (value_named names syntax (said text)) refl
  where
    by : (found : Option TypedValue) → value_named names syntax (said text) ≡ found →
        (told : Option TypedValue) × TellsValue names syntax tree told
    by None is =
        (None, (first_place text, record { text = text; told = same; denotes = is; begins = refl }))
    by (Some value) is = (Some value, record { text = text; told = same; denotes = is })

-- ---- what a component holds where it is left out

abbrev HasPresence : NamedArcs → (Tree → Type 0) → TypeSyntax → Bool → Bool × Option TypedValue → Type 0
HasPresence names Text syntax optional p = IsPresence names Text syntax optional p.0 p.1

presence_by : (names : NamedArcs) (Text : Tree → Type 0) (syntax : TypeSyntax) (optional : Bool) (tree : Tree) →
    Text tree → (told : Option TypedValue) → TellsValue names syntax tree told →
    NotNone (HasPresence names Text syntax optional)
presence_by names Text syntax optional tree stands None (at, none_is) =
    one_is (HasPresence names Text syntax optional) (optional, None) (with_none stands none_is)
presence_by names Text syntax optional tree stands (Some value) is =
    one_is (HasPresence names Text syntax optional) (false, Some value) (with_value stands is)

presence : (names : NamedArcs) (Text : Tree → Type 0) → ((tree : Tree) → Text tree → IsTold tree) →
    (syntax : TypeSyntax) (optional : Bool) → NotNone (HasPresence names Text syntax optional)
presence names Text told syntax optional =
    either_case (HasPresence names Text syntax optional) ((tree : Tree) × Text tree)
    (λ there. let tells = text_tells names syntax there.0 (told there.0 there.1) in
    presence_by names Text syntax optional there.0 there.1 tells.0 tells.1)
    (λ none_there. one_is (HasPresence names Text syntax optional) (optional, None)
    (without (λ tree stands. none_there (tree, stands))))

-- ---- a syntax with the values of its DEFAULTs

mutual
  syntax_filled : (names : NamedArcs) (T : TextsAt) → ((path : List ℕ) (tree : Tree) → T path tree → IsTold tree) →
      (path : List ℕ) (syntax : TypeSyntax) → NotNone (IsFilled names T path syntax)
  syntax_filled names T told path (Sequence parts) =
      none_map (AreFilled names T path 0 parts) (IsFilled names T path (Sequence parts)) Sequence
      (parts_filled names T told path 0 parts) (λ inner is. (inner, refl, is))
  syntax_filled names T told path (SetType parts) =
      none_map (AreFilled names T path 0 parts) (IsFilled names T path (SetType parts)) SetType
      (parts_filled names T told path 0 parts) (λ inner is. (inner, refl, is))
  syntax_filled names T told path (Choice parts) =
      none_map (AreFilled names T path 0 parts) (IsFilled names T path (Choice parts)) Choice
      (parts_filled names T told path 0 parts) (λ inner is. (inner, refl, is))
  syntax_filled names T told path (SequenceOf member sizes) =
      none_map (IsFilled names T path member) (IsFilled names T path (SequenceOf member sizes))
      (λ inner. SequenceOf inner sizes) (syntax_filled names T told path member) (λ inner is. (inner, refl, is))
  syntax_filled names T told path (SetOf member sizes) =
      none_map (IsFilled names T path member) (IsFilled names T path (SetOf member sizes))
      (λ inner. SetOf inner sizes) (syntax_filled names T told path member) (λ inner is. (inner, refl, is))
  syntax_filled names T told path (Tagged tag explicit of) =
      none_map (IsFilled names T path of) (IsFilled names T path (Tagged tag explicit of)) (Tagged tag explicit)
      (syntax_filled names T told path of) (λ inner is. (inner, refl, is))
  syntax_filled names T told path Boolean = one_is (IsFilled names T path Boolean) Boolean refl
  syntax_filled names T told path (Integer n r) = one_is (IsFilled names T path (Integer n r)) (Integer n r) refl
  syntax_filled names T told path (Enumerated n) = one_is (IsFilled names T path (Enumerated n)) (Enumerated n) refl
  syntax_filled names T told path (BitString n r) = one_is (IsFilled names T path (BitString n r)) (BitString n r) refl
  syntax_filled names T told path (OctetString r) = one_is (IsFilled names T path (OctetString r)) (OctetString r) refl
  syntax_filled names T told path NullType = one_is (IsFilled names T path NullType) NullType refl
  syntax_filled names T told path ObjectIdentifier =
      one_is (IsFilled names T path ObjectIdentifier) ObjectIdentifier refl
  syntax_filled names T told path (TextString c r) =
      one_is (IsFilled names T path (TextString c r)) (TextString c r) refl
  syntax_filled names T told path GeneralizedTime = one_is (IsFilled names T path GeneralizedTime) GeneralizedTime refl
  syntax_filled names T told path Any = one_is (IsFilled names T path Any) Any refl
  syntax_filled names T told path Filter = one_is (IsFilled names T path Filter) Filter refl

  parts_filled : (names : NamedArcs) (T : TextsAt) → ((path : List ℕ) (tree : Tree) → T path tree → IsTold tree) →
      (path : List ℕ) (k : ℕ) (parts : TypeParts) → NotNone (AreFilled names T path k parts)
  parts_filled names T told path k NoParts = one_is (AreFilled names T path k NoParts) NoParts tt
  parts_filled names T told path k (Part name syntax optional default rest) =
      none_by (IsFilled names T (path ++ k ∷ []) syntax)
      (AreFilled names T path k (Part name syntax optional default rest))
      (syntax_filled names T told (path ++ k ∷ []) syntax) (λ inner is.
      none_by (HasPresence names (T (path ++ k ∷ [])) inner optional)
      (AreFilled names T path k (Part name syntax optional default rest))
      (presence names (T (path ++ k ∷ [])) (told (path ++ k ∷ [])) inner optional) (λ p holds.
      none_map (AreFilled names T path (k + 1) rest) (AreFilled names T path k (Part name syntax optional default rest))
      (Part name inner p.0 p.1) (parts_filled names T told path (k + 1) rest)
      (λ others are. (refl, is, holds, are))))

-- the syntax of a meaning
pub has_filled : (ms : List ModuleTerm) (names : NamedArcs) (meant : Meaning) (plain : TypeSyntax) → AreAllTold ms →
    MeaningTold meant → HasSyntax ms meant plain → NotNone (HasFilled ms names meant)
has_filled ms names meant plain all told has =
    none_map (IsFilled names (texts_beside ms meant) [] plain) (HasFilled ms names meant) (λ syntax. syntax)
    (syntax_filled names (texts_beside ms meant) (λ path tree stands. text_is_told all told stands.1) [] plain)
    (λ syntax is. record { plain = plain; has = has; filled = is })
