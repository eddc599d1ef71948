-- What holds of the reading of values and of what trees denote: X.690, section 8. The relation is in Denotes, the
-- reading in Decoding.
use Rattle.std.specs.Prelude.{◌≡◌, ◌↔◌, ℕ, List, true, Some, None}
use Rattle.term_values.specs.Ber.{Spells}
use Rattle.term_values.specs.Decoding.{value_in}
use Rattle.term_values.specs.Denotes.{Denotes}
use Rattle.term_values.specs.Soundness.{has_clear_tags}
use Rattle.term_values.specs.SpellingLaws.{AreOctets}
use Rattle.term_values.specs.Syntaxes.{TypeSyntax}
use Rattle.term_values.specs.Tree.{TreeValue}
use Rattle.term_values.specs.Typed.{TypedValue}
use Rattle.typed_laws.specs.Distinct.{IsDistinct}
use Rattle.typed_laws.specs.TreeOctets.{HasOctets}

-- the value that is read is one that the tree denotes
abbrev pub ReadingDenotes : Type 0
ReadingDenotes = (syntax : TypeSyntax) (tree : TreeValue) (value : TypedValue) → HasOctets tree →
    value_in syntax tree ≡ Some value → Denotes syntax tree value

-- a value is read where the tree denotes one
abbrev pub DenotedIsRead : Type 0
DenotedIsRead = (syntax : TypeSyntax) (tree : TreeValue) (value : TypedValue) → has_clear_tags syntax ≡ true →
    Denotes syntax tree value → (found : TypedValue) × (value_in syntax tree ≡ Some found)

-- and it is that one, where no two members of a SET OF have one encoding, between which their order doesn't tell
abbrev pub ReadingIsExact : Type 0
ReadingIsExact = (syntax : TypeSyntax) (tree : TreeValue) (value : TypedValue) → has_clear_tags syntax ≡ true →
    IsDistinct syntax value → Denotes syntax tree value → value_in syntax tree ≡ Some value

-- none is read exactly where the tree denotes none
abbrev pub NoneIsDenoted : Type 0
NoneIsDenoted = (syntax : TypeSyntax) (tree : TreeValue) → has_clear_tags syntax ≡ true → HasOctets tree →
    (value_in syntax tree ≡ None) ↔ ((value : TypedValue) → ¬ (Denotes syntax tree value))

-- a tree that octets spell has octets
abbrev pub SpeltHasOctets : Type 0
SpeltHasOctets = (depth : ℕ) (bytes : List ℕ) (tree : TreeValue) → AreOctets bytes → Spells depth bytes tree →
    HasOctets tree
