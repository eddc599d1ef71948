use Rattle.std.specs.Map.Iter.{deref_pair}
use Rattle.std.proofs.Common.{◌≡◌, ◌++◌, map}
use Rattle.joined_statements.proofs.JoiningLaws.{AreJoinedBy}
use Rattle.joined_statements.proofs.joined.join_many.Given as goal

abbrev pub invariant-loop-attribute : goal.invariant-loop-attribute
invariant-loop-attribute l =
    (map deref_pair l.yielded ++ l.attribute-iterator ≡ l.others.entries)
    × AreJoinedBy l.values.items.now l.how l.initial.attributes (map deref_pair l.yielded) l.attributes
