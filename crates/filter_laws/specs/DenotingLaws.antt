-- What holds of the identifiers, assertions and filters that are read, and of what trees denote: X.711, section 7.5.
-- The relations are in FilterDenoting and Assertions of term_model, the readings in FilterReading and Assertions.
use Rattle.std.specs.List.{list_all}
use Rattle.std.specs.Prelude.{◌≡◌, ◌↔◌, ℕ, List, Bool, true, Option, None, Some}
use Rattle.term_values.specs.Soundness.{has_clear_tags}
use Rattle.term_values.specs.Syntaxes.{TypeSyntax}
use Rattle.term_values.specs.Tree.{TreeValue}
use Rattle.term_model.specs.declared.request.IdRef.{IdRef}
use Rattle.term_model.specs.declared.schema.AttrRec.{AttrRec}
use Rattle.term_model.specs.Assertions.{IsGiven, IsIdRef, given_of, id_in}
use Rattle.term_model.specs.FilterDenoting.{DenotesFilter}
use Rattle.term_model.specs.FilterReading.{filter_in}
use Rattle.term_model.specs.FilterTrees.{FilterTree}
use Rattle.typed_laws.specs.TreeOctets.{HasOctets}

-- the tags of each attribute's syntax are clear
abbrev pub is_clear : AttrRec → Bool
is_clear of_attribute = has_clear_tags of_attribute.syntax

abbrev pub AreClear : List AttrRec → Type 0
AreClear records = list_all is_clear records ≡ true

abbrev pub IsClear : Option TypeSyntax → Type 0
IsClear None = Unit {0}
IsClear (Some syntax) = has_clear_tags syntax ≡ true

-- the identifier that is read is one that the tree denotes
abbrev pub IdIsDenoted : Type 0
IdIsDenoted = (global local : ℕ) (tree : TreeValue) (id : IdRef) → HasOctets tree →
    id_in global local tree ≡ Some id → IsIdRef global local tree id

-- and one that is denoted is read
abbrev pub DenotedIdIsRead : Type 0
DenotedIdIsRead = (global local : ℕ) (tree : TreeValue) (id : IdRef) → (global ≡ local → ⊥) →
    IsIdRef global local tree id → id_in global local tree ≡ Some id

-- the value of an assertion is one that the tree denotes, and none where it denotes none
abbrev pub GivenIsDenoted : Type 0
GivenIsDenoted = (syntax : Option TypeSyntax) (id : IdRef) (tree : TreeValue) → IsClear syntax → HasOctets tree →
    IsGiven syntax id tree (given_of syntax id tree)

-- the filter that is read is one that the tree denotes
abbrev pub FilterIsDenoted : Type 0
FilterIsDenoted = (records : List AttrRec) (tree : TreeValue) (filter : FilterTree) → AreClear records →
    HasOctets tree → filter_in records tree ≡ Some filter → DenotesFilter records tree filter

-- one is read where one is denoted
abbrev pub DenotedFilterIsRead : Type 0
DenotedFilterIsRead = (records : List AttrRec) (tree : TreeValue) (filter : FilterTree) →
    DenotesFilter records tree filter → (found : FilterTree) × (filter_in records tree ≡ Some found)

-- none is read exactly where none is denoted
abbrev pub NoFilterIsDenoted : Type 0
NoFilterIsDenoted = (records : List AttrRec) (tree : TreeValue) → AreClear records → HasOctets tree →
    (filter_in records tree ≡ None) ↔ ((filter : FilterTree) → ¬ (DenotesFilter records tree filter))
