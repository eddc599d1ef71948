-- A tree that not all octets spell.
use Rattle.std.proofs.Common.{◌≡◌, ℕ, ◌<◌, ◌≤◌, List, [], ◌∷◌, length, drop, length-drop, refl, ap, ◌∙◌, sym, arith}
use Rattle.std.specs.Prelude.{None, Some, option_and_then}
use Rattle.term_values.specs.BerReading.{alone, tree_at}
use Rattle.term_values.specs.KeptTest.{tree_of}
use Rattle.term_values.specs.Tree.{TreeValue}

not_alone : (tree : TreeValue) (rest : List ℕ) → 0 < length rest → None ≡ alone (tree, rest)
not_alone tree [] some = absurd (omega arith)
not_alone tree (octet ∷ rest) some = refl

pub leftover : (bytes : List ℕ) (tree : TreeValue) (size : ℕ)
    → tree_at (length bytes) bytes ≡ Some (tree, drop size bytes) → size ≤ length bytes
    → (size ≡ length bytes → ⊥) → None ≡ tree_of bytes
leftover bytes tree size read within short =
    let some : 0 < length (drop size bytes) = omega (arith, length-drop size bytes, short) in
    not_alone tree (drop size bytes) some ∙ sym (ap (option_and_then alone) read)
