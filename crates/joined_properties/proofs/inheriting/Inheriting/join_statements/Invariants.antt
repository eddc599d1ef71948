-- The statements so far are joined.
use Rattle.std.proofs.Common.{ℕ, take}
use Rattle.std.specs.BTreeMap.{get}
use Rattle.std.specs.Ordering.{nat_cmp}
use Rattle.joined_statements.specs.declared.joined.Joining.TheVariants.{Beside}
use Rattle.joined_properties.specs.StatementChains.{IsChain, said_by}
use Rattle.joined_properties.proofs.inheriting.Inheriting.join_statements.Given as goal

abbrev pub invariant-loop-statement : goal.invariant-loop-statement
invariant-loop-statement l = (q : ℕ) → IsChain l.self.values.items.now Beside (said_by q)
    (get nat_cmp l.initial.own q) (take l.statement-index l.statements) (get nat_cmp l.own q)
