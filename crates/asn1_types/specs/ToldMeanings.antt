-- ToldMeanings: what is told of meanings: the place of a module, a syntax, the text of a value, and texts of DEFAULT.
use Rattle.std.specs.Prelude.{◌≡◌, ℕ, List, Option, None, Some}
use Rattle.std.specs.Borrow.{Bor}
use Rattle.term_values.specs.Syntaxes.{TypeSyntax}
use Rattle.token_grammar.specs.Form.{Tree}
use Rattle.asn1_values_syntax.specs.ValueTrees.{value_tree}
use Rattle.asn1_values_syntax.specs.declared.value.ValueText.{ValueText}
use Rattle.asn1_names.specs.AssignmentNumbers.{numbered_at}
use Rattle.asn1_names.specs.CodeMeanings.{IsTypeOf}
use Rattle.asn1_names.specs.DenotedSyntax.{Denotes}
use Rattle.asn1_names.specs.ModuleTerms.{AssignedTerm, ModuleTerm, TypeTerm}
use Rattle.asn1_names.specs.ModuleTerms.AssignedTerm.{AssignsType, AssignsValue}
use Rattle.asn1_names.specs.NameMeaning.{Meaning}
use Rattle.asn1_names.specs.NameMeaning.Meaning.{Nothing, StandardType, TypeAt, ValueAt}
use Rattle.asn1_names.specs.ResolvedTypes.{HasDefaultText, HasSyntax}

-- the place of the module that assigns what is meant
abbrev pub place_meant : Meaning → Option ℕ
place_meant (TypeAt m i of) = Some m
place_meant (ValueAt m i of number text) = Some m
place_meant (StandardType syntax) = None
place_meant Nothing = None

-- the syntax that a meaning has, or that nothing is meant: a type and a value have a syntax
abbrev pub TellsSyntax : List ModuleTerm → Meaning → Option TypeSyntax → Type 0
TellsSyntax ms meant None = meant ≡ Nothing
TellsSyntax ms meant (Some syntax) = HasSyntax ms meant syntax

-- the syntax of the type of the assignment with a number, or that no assignment has it
abbrev pub TellsSyntaxAt : List ModuleTerm → ℕ → Option TypeSyntax → Type 0
TellsSyntaxAt ms number None = numbered_at ms number ≡ None
TellsSyntaxAt ms number (Some syntax) = (m : ℕ) (of : TypeTerm) → IsTypeOf ms number m of → Denotes ms m of syntax

-- the text of the value that is assigned
abbrev pub text_assigned : AssignedTerm → Option Tree
text_assigned (AssignsType of) = None
text_assigned (AssignsValue of number text) = Some text

-- the text of DEFAULT that stands at a path beside the syntax of a meaning, with the place of the module in which it is
-- written, or that none stands there
abbrev pub TellsDefaultText : List ModuleTerm → Meaning → List ℕ → Option (ℕ × Bor ValueText) → Type 0
TellsDefaultText ms meant path None = (v : ℕ) (text : Tree) → ¬ HasDefaultText ms meant path v text
TellsDefaultText ms meant path (Some x) = HasDefaultText ms meant path x.0 (value_tree x.1.now)
