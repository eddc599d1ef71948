-- All are joined as often as the loop went round.
use Rattle.joined_properties.specs.JoiningSteps.{ArePasses}
use Rattle.joined_properties.proofs.inheriting.Inheriting.join_again.Given as goal

abbrev pub invariant-loop : goal.invariant-loop
invariant-loop l = ArePasses l.self.values.items.now l.self.classes.now l.self.stated.now l.order l.initial.known.items
    l.known.items
