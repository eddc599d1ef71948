-- SaidTexts: which value of a syntax the text of a value denotes, where the text is told as a tree (X.680, section 17.7).
use Rattle.std.specs.Prelude.{◌≡◌, ℕ, Option, None, Some}
use Rattle.token_grammar.specs.Form.{Tree}
use Rattle.asn1_values_syntax.specs.ValueTrees.{value_tree}
use Rattle.asn1_values_syntax.specs.declared.value.ValueText.{ValueText}
use Rattle.term_values.specs.Syntaxes.{TypeSyntax}
use Rattle.term_values.specs.Typed.{TypedValue}
use Rattle.asn1_leaf_values.specs.Arcs.{NamedArcs}
use Rattle.asn1_values.specs.Filters.{value_named}
use Rattle.asn1_leaf_values.specs.TextValues.{first_place, said}
use Rattle.filled_syntaxes.specs.NotedTexts.{TextSet}

-- the text of a value that is told by this tree denotes this value of a syntax, where modules give names these arcs
pub record DenotesValue (names : NamedArcs) (syntax : TypeSyntax) (tree : Tree) (value : TypedValue) : Type 0 where
  pub text : ValueText
  pub told : value_tree text ≡ tree
  pub denotes : value_named names syntax (said text) ≡ Some value

-- it denotes none, and its first token has this place
pub record DenotesNone (names : NamedArcs) (syntax : TypeSyntax) (tree : Tree) (at : ℕ) : Type 0 where
  pub text : ValueText
  pub told : value_tree text ≡ tree
  pub denotes : value_named names syntax (said text) ≡ None
  pub begins : first_place text ≡ at

-- the value that a text denotes, or that it denotes none
abbrev pub TellsValue : NamedArcs → TypeSyntax → Tree → Option TypedValue → Type 0
TellsValue names syntax tree None = (at : ℕ) × DenotesNone names syntax tree at
TellsValue names syntax tree (Some value) = DenotesValue names syntax tree value

-- a text of a document, where it denotes no value
abbrev pub BadText : NamedArcs → TypeSyntax → Tree → ℕ → TextSet
BadText names syntax tree document place = (document ≡ place.document) × DenotesNone names syntax tree place.token
