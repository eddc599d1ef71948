-- A superclass more, and all of them.
use Rattle.std.proofs.Common.{◌<◌, ◌≤◌, arith, length}
use Rattle.joined_statements.specs.declared.joined.Joining.TheVariants.{Inherited}
use Rattle.joined_properties.specs.StatementChains.{said_in}
use Rattle.joined_properties.proofs.ChainLaws.{chain_all, number_more}
use Rattle.joined_properties.proofs.PutLaws.{empty_chain, same_chain}
use Rattle.joined_properties.proofs.inheriting.Inheriting.inherited.Goals as goal

pub loop-superclass-init : goal.loop-superclass-init
loop-superclass-init c = λ q.
    empty_chain c.args.self.now.values.items.now Inherited (said_in c.args.known.now q) q c.new-inherited.result
    c.new-inherited.ensures.empty

pub loop-superclass-preserved : goal.loop-superclass-preserved
loop-superclass-preserved c = λ q.
    let i = c.loop-superclass.superclass-index in
    let within : i < length c.as_slice-superclass-items.result.now = omega (arith, c.loop-superclass-test.true) in
    number_more c.as_slice-superclass-items.result.now i within (c.loop-superclass.invariant q)
    (c.in_ok-join_superclass.ensures q)

pub returns : goal.returns
returns c = λ q.
    let past : length c.as_slice-superclass-items.result.now ≤ c.loop-superclass.superclass-index =
    omega (arith, c.loop-superclass-test.false) in
    same_chain c.as_slice-superclass-items.result.now c.args.class.now.superclasses.items
    c.as_slice-superclass-items.ensures.value
    (chain_all c.as_slice-superclass-items.result.now c.loop-superclass.superclass-index past
    (c.loop-superclass.invariant q))
