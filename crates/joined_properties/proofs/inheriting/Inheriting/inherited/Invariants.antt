-- What the superclasses so far have is joined.
use Rattle.std.proofs.Common.{ℕ, None, take}
use Rattle.std.specs.BTreeMap.{get}
use Rattle.std.specs.Ordering.{nat_cmp}
use Rattle.joined_statements.specs.declared.joined.Joining.TheVariants.{Inherited}
use Rattle.joined_properties.specs.StatementChains.{IsChain, said_in}
use Rattle.joined_properties.proofs.inheriting.Inheriting.inherited.Given as goal

abbrev pub invariant-loop-superclass : goal.invariant-loop-superclass
invariant-loop-superclass l = (q : ℕ) → IsChain l.self.values.items.now Inherited (said_in l.known q) None
    (take l.superclass-index l.superclass-items) (get nat_cmp l.inherited q)
