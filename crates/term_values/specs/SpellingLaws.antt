-- What holds of the spelling, the reading and the writing of trees, and of faults: X.690, sections 8.1.2 to 8.1.5 and
-- 10.1.
use Rattle.std.specs.Prelude.{◌≡◌, ◌↔◌, ℕ, ◌^◌, ◌<◌, List, ◌++◌, All, Some, None, Err, length}
use Rattle.term_values.specs.declared.ber_kind.BerKind.{BerKind}
use Rattle.term_values.specs.Octets.{number, octets, count_unsigned}
use Rattle.term_values.specs.Ber.{most_depth, Spells, IsBer}
use Rattle.term_values.specs.BerReading.{reading, tree_at, tree_in}
use Rattle.term_values.specs.Der.{written}
use Rattle.term_values.specs.FirstFault.{IsFirstFault}
use Rattle.term_values.specs.Tree.{TreeValue}
use Rattle.term_values.specs.Writable.{IsWritable}

-- a list of octets
abbrev pub AreOctets : List ℕ → Type 0
AreOctets bytes = All (λ octet. octet < 256) bytes

-- no spelling begins another, and each spells one tree
abbrev pub OneTree : Type 0
OneTree = (a b x y : List ℕ) (d e : ℕ) (s t : TreeValue) → Spells d a s → Spells e b t → a ++ x ≡ b ++ y →
    (a ≡ b) × (s ≡ t)

-- the octets in front of the rest spell the tree
pub record Spelling (depth : ℕ) (bytes : List ℕ) (tree : TreeValue) (rest : List ℕ) : Type 0 where
  pub front : List ℕ
  pub whole : bytes ≡ front ++ rest
  pub spells : Spells depth front tree

-- what is read from octets, spells
abbrev pub ReadingSpells : Type 0
ReadingSpells = (depth : ℕ) (bytes : List ℕ) (tree : TreeValue) (rest : List ℕ) → AreOctets bytes →
    tree_at depth bytes ≡ Some (tree, rest) → Spelling depth bytes tree rest

-- what spells is read, whatever follows it
abbrev pub SpellingIsRead : Type 0
SpellingIsRead = (depth : ℕ) (front rest : List ℕ) (tree : TreeValue) → Spells depth front tree →
    tree_at depth (front ++ rest) ≡ Some (tree, rest)

-- octets are read as a tree exactly where they spell it
abbrev pub WholeReading : Type 0
WholeReading = (bytes : List ℕ) (tree : TreeValue) → AreOctets bytes → (tree_in bytes ≡ Some tree) ↔ IsBer bytes tree

-- some front of the bytes spells a tree
abbrev pub HasTree : List ℕ → Type 0
HasTree bytes = (tree : TreeValue) × (rest : List ℕ) × Spelling most_depth bytes tree rest

-- bytes of which some front spells a tree have no fault
abbrev pub NoFaultBesideTree : Type 0
NoFaultBesideTree = (bytes : List ℕ) (place : ℕ) (kind : BerKind) → HasTree bytes → ¬ (IsFirstFault bytes place kind)

-- all other bytes have one
abbrev pub SomeFault : Type 0
SomeFault = (bytes : List ℕ) → AreOctets bytes → ¬ (HasTree bytes) → (place : ℕ) × (kind : BerKind)
    × IsFirstFault bytes place kind

-- and no other one
abbrev pub OneFault : Type 0
OneFault =
    (bytes : List ℕ) (p q : ℕ) (k l : BerKind) → IsFirstFault bytes p k → IsFirstFault bytes q l → (p ≡ q) × (k ≡ l)

-- the fault that is found is the first fault
abbrev pub FoundFault : Type 0
FoundFault =
    (bytes : List ℕ) (place : ℕ) (kind : BerKind) → AreOctets bytes
    → (reading most_depth None (length bytes) bytes ≡ Err (place, kind)) ↔ IsFirstFault bytes place kind

-- what is written spells the tree
abbrev pub WrittenSpells : Type 0
WrittenSpells = (depth : ℕ) (tree : TreeValue) → IsWritable depth tree → Spells depth (written tree) tree

-- what is written is read back, whatever follows it
abbrev pub WrittenIsRead : Type 0
WrittenIsRead = (depth : ℕ) (tree : TreeValue) (rest : List ℕ) → IsWritable depth tree →
    tree_at depth (written tree ++ rest) ≡ Some (tree, rest)

-- a number is that of its octets
abbrev pub NumberOfOctets : Type 0
NumberOfOctets = (n : ℕ) → n < 2 ^ 64 → number (octets (count_unsigned n) n) ≡ n

-- octets are those of their number
abbrev pub OctetsOfNumber : Type 0
OctetsOfNumber = (bytes : List ℕ) → AreOctets bytes → octets (length bytes) (number bytes) ≡ bytes
