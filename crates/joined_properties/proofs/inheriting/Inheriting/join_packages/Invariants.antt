-- What the packages so far state is joined.
use Rattle.std.proofs.Common.{ℕ, take}
use Rattle.std.specs.BTreeMap.{get}
use Rattle.std.specs.Ordering.{nat_cmp}
use Rattle.joined_statements.specs.declared.joined.Joining.TheVariants.{Beside}
use Rattle.joined_properties.specs.StatementChains.{IsChain, said_by, statements_of}
use Rattle.joined_properties.proofs.inheriting.Inheriting.join_packages.Given as goal

abbrev pub invariant-loop-place : goal.invariant-loop-place
invariant-loop-place l = (q : ℕ) → IsChain l.self.values.items.now Beside (said_by q)
    (get nat_cmp l.initial.own q) (statements_of l.self.stated.now (take l.place-index l.packages))
    (get nat_cmp l.own q)
