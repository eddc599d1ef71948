-- The values of none of the entries so far are unequal.
use Rattle.std.proofs.Common.{◌≡◌, map, true}
use Rattle.std.specs.Map.Iter.{deref_pair}
use Rattle.property_faults.specs.TableFaults.{is_any_unequal}
use Rattle.property_faults.proofs.EntryLaws.{NoneSuch}
use Rattle.property_faults.proofs.property_faults.is_some_unequal.Given as goal

abbrev pub invariant-loop-joined : goal.invariant-loop-joined
invariant-loop-joined l = NoneSuch (λ q joined. is_any_unequal joined ≡ true) (map deref_pair l.yielded)
