use Rattle.std.proofs.Common.{◌≡◌, ◌<◌, ℕ, true, false, get_or}
use Rattle.term_values.specs.Beginnings.{begins}
use Rattle.term_values.specs.Tree.{TreeValue}
use Rattle.term_values.specs.TreeTags.{tag_of}
use Rattle.ber_values.proofs.decoding.find_part.Given as goal

abbrev pub invariant-loop-k : goal.invariant-loop-k
invariant-loop-k l =
    (j : ℕ) (d : TreeValue) → j < l.k → get_or l.taken j true ≡ false
    → begins l.part.syntax (tag_of (get_or l.rest j d)) ≡ false
