-- The identifiers so far.
use Rattle.std.proofs.Common.{◌≡◌, ℕ, List, take}
use Rattle.std.specs.BTreeSet.{contains}
use Rattle.std.specs.Cmp.Lexicographic.{slice_cmp}
use Rattle.std.specs.Ordering.{nat_cmp}
use Rattle.term_model.specs.PresentPackages.{is_among}
use Rattle.object_modifications.proofs.id_sets.id_set.Given as goal

abbrev pub invariant-loop-id : goal.invariant-loop-id
invariant-loop-id l =
    (q : List ℕ) → contains (slice_cmp nat_cmp) l.ids q ≡ is_among (take l.id-index l.listed) q
