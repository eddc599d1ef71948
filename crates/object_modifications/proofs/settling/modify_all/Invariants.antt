-- What the modifications so far made, with those that are left, is the whole.
use Rattle.std.proofs.Common.{◌≡◌, drop}
use Rattle.term_model.specs.Modifications.{modified}
use Rattle.object_modifications.specs.Settling.{made_of}
use Rattle.object_modifications.specs.Trying.{IsMade}
use Rattle.object_modifications.proofs.settling.modify_all.Given as goal

abbrev pub invariant-loop-change : goal.invariant-loop-change
invariant-loop-change l =
    (modified l.schema l.name (made_of l.made) (drop l.change-index l.changes)
    ≡ modified l.schema l.name (made_of l.fn.made) l.changes)
    × IsMade l.schema l.seen l.made.object l.made.size l.made.knowledge.items
