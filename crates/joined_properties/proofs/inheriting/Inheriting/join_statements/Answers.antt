-- A statement more, and all of them.
use Rattle.std.proofs.Common.{◌<◌, ◌≤◌, arith, length}
use Rattle.joined_properties.specs.StatementChains.IsChain.{begin}
use Rattle.joined_properties.proofs.ChainLaws.{chain_all, chain_more, statement_joined}
use Rattle.joined_properties.proofs.inheriting.Inheriting.join_statements.Goals as goal

pub loop-statement-init : goal.loop-statement-init
loop-statement-init c = λ q. begin

pub loop-statement-preserved : goal.loop-statement-preserved
loop-statement-preserved c = λ q.
    let i = c.loop-statement.statement-index in
    let within : i < length c.args.statements.now = omega (arith, c.loop-statement-test.true) in
    chain_more c.args.statements.now i c.statement-item.result within c.statement-item.is
    (c.loop-statement.invariant q)
    (statement_joined c.args.self.now.values.items.now c.loop-statement.own c.join_one.new.attributes
    c.statement-item.result c.in_ok-join_one.ensures q)

pub returns : goal.returns
returns c = λ q.
    let past : length c.args.statements.now ≤ c.loop-statement.statement-index =
    omega (arith, c.loop-statement-test.false) in
    chain_all c.args.statements.now c.loop-statement.statement-index past (c.loop-statement.invariant q)
