-- One value that is all of the octets.
use Rattle.std.proofs.Common.{◌≡◌, ◌≤◌, ◌<◌, ℕ, List, [], ◌∷◌, length, drop, Option, None, Some, refl, ap, sym, ◌∙◌}
use Rattle.std.proofs.Common.{arith, length-drop}
use Rattle.std.proofs.Math.ListN.{drop_of_length-le}
use Rattle.std.specs.Prelude.{◌≢◌}
use Rattle.term_values.specs.BerReading.{tree_at, alone}
use Rattle.term_values.specs.Tree.{TreeValue}
use Rattle.asn1_leaf_values.specs.LeafTexts.{tree_of}

pub tree_whole : (octets : List ℕ) (tree : TreeValue) (size : ℕ)
    → tree_at (length octets) octets ≡ Some (tree, drop size octets) → size ≡ length octets
    → tree_of octets ≡ Some tree
tree_whole octets tree size is whole =
    let none : drop size octets ≡ [] = drop_of_length-le octets (omega arith) in
    rw (is, none) refl

more_behind : (tree : TreeValue) (rest : List ℕ) → 0 < length rest → alone (tree, rest) ≡ None
more_behind tree [] h = absurd (omega arith)
more_behind tree (x ∷ xs) h = refl

pub tree_more : (octets : List ℕ) (tree : TreeValue) (size : ℕ)
    → tree_at (length octets) octets ≡ Some (tree, drop size octets) → size ≤ length octets → size ≢ length octets
    → tree_of octets ≡ None
tree_more octets tree size is within differs =
    let some : 0 < length (drop size octets) = rw (length-drop size octets) (omega arith) in
    rw is (more_behind tree (drop size octets) some)

pub tree_none : (octets : List ℕ) → tree_at (length octets) octets ≡ None → tree_of octets ≡ None
tree_none octets is = rw is refl
