-- What the entries so far say the other table says too.
use Rattle.std.specs.Map.Iter.{deref_pair}
use Rattle.std.proofs.Common.{◌≡◌, ◌++◌, map}
use Rattle.joined_properties.proofs.KeptLaws.{AreEachKept}
use Rattle.joined_properties.proofs.comparing.are_kept.Given as goal

abbrev pub invariant-loop-attribute : goal.invariant-loop-attribute
invariant-loop-attribute l =
    (map deref_pair l.yielded ++ l.attribute-iterator ≡ l.one.entries)
    × AreEachKept l.values.items.now l.other (map deref_pair l.yielded)
