-- The attributes so far, recounted.
use Rattle.std.proofs.Common.{◌≡◌, map, take}
use Rattle.mib_opening.specs.Counting.{recounted_attribute}
use Rattle.mib_opening.proofs.log_counts.recounted_attributes.Given as goal

abbrev pub invariant-loop-held : goal.invariant-loop-held
invariant-loop-held l = l.items.items ≡ map (recounted_attribute l.schema l.counts) (take l.held-index l.attributes)
