-- What holds of values that are written and read again: X.690, sections 8, 10 and 11.
use Rattle.std.specs.Prelude.{◌≡◌, ℕ, ◌^◌, ◌<◌, ◌≤◌, List, ◌++◌, true, Some, length}
use Rattle.term_values.specs.Ber.{most_depth, Spells}
use Rattle.term_values.specs.BerReading.{tree_at}
use Rattle.term_values.specs.Decoding.{value_in}
use Rattle.term_values.specs.Denotes.{Denotes}
use Rattle.term_values.specs.Der.{written}
use Rattle.term_values.specs.Fits.{Fits}
use Rattle.term_values.specs.Soundness.{has_clear_tags}
use Rattle.term_values.specs.SpellingLaws.{AreOctets}
use Rattle.term_values.specs.Syntaxes.{TypeSyntax}
use Rattle.term_values.specs.Tree.{TreeValue}
use Rattle.term_values.specs.Typed.{TypedValue}
use Rattle.term_values.specs.Writable.{IsWritable}
use Rattle.term_values.specs.Written.{der}
use Rattle.typed_laws.specs.Nesting.{nesting}
use Rattle.typed_laws.specs.SyntaxTags.{has_tags}

-- a value that fits a syntax whose tags are clear and can be written, and that is written in fewer than 2 ^ 32 octets
pub record CanBeWritten (syntax : TypeSyntax) (value : TypedValue) : Type 0 where
  pub clear : has_clear_tags syntax ≡ true
  pub tags : has_tags syntax ≡ true
  pub fits : Fits syntax value
  pub short : length (der syntax value) < 2 ^ 32

-- the octets are those of a tree which can be read, at the depth of its nesting, and from which the value is read
pub record IsReadAgain (syntax : TypeSyntax) (value : TypedValue) (tree : TreeValue) : Type 0 where
  pub writable : IsWritable (nesting tree) tree
  pub whole : der syntax value ≡ written tree
  pub read : value_in syntax tree ≡ Some value

-- what was written is read again as the value
abbrev pub WrittenIsReadAgain : Type 0
WrittenIsReadAgain = (syntax : TypeSyntax) (value : TypedValue) → CanBeWritten syntax value →
    (tree : TreeValue) × IsReadAgain syntax value tree

-- the written octets spell a tree that denotes the value
abbrev pub WrittenDenotes : Type 0
WrittenDenotes = (syntax : TypeSyntax) (value : TypedValue) → CanBeWritten syntax value → AreOctets (der syntax value) →
    (tree : TreeValue) × Spells (nesting tree) (der syntax value) tree × Denotes syntax tree value

-- whatever follows, a reading of the written octets gives the value and leaves what follows. It gives one where at most
-- so many constructed values stand inside one another.
abbrev pub WrittenIsReadBack : Type 0
WrittenIsReadBack = (syntax : TypeSyntax) (value : TypedValue) → CanBeWritten syntax value →
    (tree : TreeValue) × (value_in syntax tree ≡ Some value)
    × ((rest : List ℕ) → nesting tree ≤ most_depth → tree_at most_depth (der syntax value ++ rest) ≡ Some (tree, rest))
    × ((rest others : List ℕ) (found : TreeValue) → AreOctets (der syntax value ++ rest) →
    tree_at most_depth (der syntax value ++ rest) ≡ Some (found, others) → (found ≡ tree) × (others ≡ rest))

-- no two values have one encoding
abbrev pub OneValueWritten : Type 0
OneValueWritten = (syntax : TypeSyntax) (value other : TypedValue) → CanBeWritten syntax value →
    CanBeWritten syntax other → der syntax value ≡ der syntax other → value ≡ other
