-- The classes so far are joined once more.
use Rattle.std.proofs.Common.{take}
use Rattle.joined_properties.specs.JoiningSteps.{IsPass}
use Rattle.joined_properties.proofs.inheriting.Inheriting.join_in_order.Given as goal

abbrev pub invariant-loop-place : goal.invariant-loop-place
invariant-loop-place l = IsPass l.self.values.items.now l.self.classes.now l.self.stated.now l.initial.known.items
    (take l.place-index l.order) l.known.items l.changed
