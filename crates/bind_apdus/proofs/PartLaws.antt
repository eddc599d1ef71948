-- A list that is not of one value; a tree that not all octets spell.
use Rattle.std.proofs.Common.{◌≡◌, ℕ, ◌<◌, ◌≤◌, List, [], ◌∷◌, length, drop, length-drop, refl, ap, ◌∙◌, sym, arith}
use Rattle.std.specs.Prelude.{None, Some, option_and_then}
use Rattle.term_values.specs.Ber.{most_depth}
use Rattle.term_values.specs.BerReading.{alone, tree_at, tree_in}
use Rattle.term_values.specs.Tree.{TreeValue, listed}
use Rattle.term_model.specs.Parts.{one}

pub not_one : (xs : List TreeValue) → (length xs ≡ 1 → ⊥) → None ≡ one (listed xs)
not_one [] other = refl
not_one (a ∷ []) other = absurd (other refl)
not_one (a ∷ b ∷ xs) other = refl

not_alone : (tree : TreeValue) (rest : List ℕ) → 0 < length rest → None ≡ alone (tree, rest)
not_alone tree [] some = absurd (omega arith)
not_alone tree (octet ∷ rest) some = refl

pub leftover : (bytes : List ℕ) (tree : TreeValue) (size : ℕ) → tree_at most_depth bytes ≡ Some (tree, drop size bytes)
    → size ≤ length bytes → (size ≡ length bytes → ⊥) →
    None ≡ tree_in bytes
leftover bytes tree size read within short =
    let some : 0 < length (drop size bytes) = omega (arith, length-drop size bytes, short) in
    not_alone tree (drop size bytes) some ∙ sym (ap (option_and_then alone) read)
