-- ShortDefaults: each value of a DEFAULT is written in fewer than 2 ^ 32 octets, which is the most that is read (X.680,
-- section 25; X.690, section 8.1.3; docs/PROFILE.md, section 11).
use Rattle.std.specs.Prelude.{◌≡◌, ◌<◌, ℕ, List, Some, length}
use Rattle.token_grammar.specs.Form.{Tree}
use Rattle.term_values.specs.Fits.{Fits}
use Rattle.term_values.specs.Soundness.{HasFittingDefaults}
use Rattle.term_values.specs.Syntaxes.{TypeSyntax}
use Rattle.term_values.specs.Typed.{TypedValue}
use Rattle.term_values.specs.Written.{der}
use Rattle.asn1_names.specs.DefaultTexts.{part_at}
use Rattle.asn1_names.specs.ModuleTerms.{ModuleTerm}
use Rattle.asn1_names.specs.NameMeaning.{Meaning}
use Rattle.asn1_names.specs.ResolvedTypes.{HasDefaultText}
use Rattle.asn1_leaf_values.specs.Arcs.{NamedArcs}
use Rattle.asn1_leaf_values.specs.TextValues.{TextValue}
use Rattle.asn1_values.specs.Filters.{value_named}
use Rattle.filled_syntaxes.specs.FilledSyntaxes.{HasFilled}
use Rattle.filled_syntaxes.specs.LinkedMeanings.{assignment_meaning}
use Rattle.filled_syntaxes.specs.SaidTexts.{DenotesValue}

-- a value is written in so few octets of a syntax as are read
abbrev pub IsShort : TypeSyntax → TypedValue → Type 0
IsShort syntax value = length (der syntax value) < 4294967296

-- of each text of DEFAULT beside the filled syntax of a meaning, the value that it denotes in the syntax of its
-- component
abbrev pub HasShortDefaults : List ModuleTerm → NamedArcs → Meaning → Type 0
HasShortDefaults ms names meant = (syntax : TypeSyntax) → HasFilled ms names meant syntax →
    (path : List ℕ) (component : TypeSyntax) → part_at syntax path ≡ Some component →
    (v : ℕ) (text : Tree) → HasDefaultText ms meant path v text →
    (value : TypedValue) → DenotesValue names component text value → IsShort component value

-- in the types of all assignments
abbrev pub AreShortDefaults : List ModuleTerm → NamedArcs → Type 0
AreShortDefaults ms names = (m i : ℕ) → HasShortDefaults ms names (assignment_meaning ms m i)

-- what a text denotes in a syntax fits it, where it is short
abbrev pub ValuesFit : NamedArcs → Type 0
ValuesFit names = (syntax : TypeSyntax) (text : TextValue) (value : TypedValue) →
    value_named names syntax text ≡ Some value → HasFittingDefaults syntax → IsShort syntax value → Fits syntax value
