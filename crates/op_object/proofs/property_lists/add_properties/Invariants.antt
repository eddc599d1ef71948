-- What the items so far added.
use Rattle.std.specs.Prelude.{◌≡◌, ◌||◌, ℕ, List, take}
use Rattle.std.specs.BTreeSet.{contains}
use Rattle.std.specs.Cmp.Lexicographic.{slice_cmp}
use Rattle.std.specs.List.{list_any}
use Rattle.std.specs.Ordering.{nat_cmp}
use Rattle.term_model.specs.ObjectOperation.{lets_read}
use Rattle.op_object.proofs.property_lists.add_properties.Given as goal

abbrev pub invariant-loop-property : goal.invariant-loop-property
invariant-loop-property l =
    (q : List ℕ) → contains (slice_cmp nat_cmp) l.ids
    q ≡ (contains (slice_cmp nat_cmp) l.fn.ids q || list_any (lets_read q) (take l.property-index l.properties))
