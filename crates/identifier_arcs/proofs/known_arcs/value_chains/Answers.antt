-- One more value, and all of them.
use Rattle.std.proofs.Common.{arith}
use Rattle.asn1_names.specs.FirstNames.{found}
use Rattle.asn1_numbers.proofs.EachLaws.{each_none, each_push}
use Rattle.identifier_arcs.specs.KnownArcs.{IsValueChain}
use Rattle.identifier_arcs.proofs.KnownLaws.{chains_told}
use Rattle.identifier_arcs.proofs.known_arcs.value_chains.Goals as goal

pub loop-number-init : goal.loop-number-init
loop-number-init c = λ parts has.
    each_none (IsValueChain parts (found c.args.defined.now)) c.new-chains.result.items c.new-chains.ensures.items

pub loop-number-preserved : goal.loop-number-preserved
loop-number-preserved c = λ parts has.
    each_push (IsValueChain parts (found c.args.defined.now)) c.loop-number.number c.loop-number.chains.items
    c.push.new.self.items c.in_ok-value_chain.field-0 (c.loop-number.invariant parts has)
    (c.in_ok-value_chain.ensures parts has) c.in_ok-push.ensures.items

pub returns : goal.returns
returns c = λ parts has.
    chains_told parts c.args.tables.now (found c.args.defined.now) c.loop-number.number c.loop-number.chains.items has
    (let t = c.loop-number-test.false in let u = c.loop-number.auto.number-end in
    let n = c.count_of-number-end.ensures in omega (arith, t, u, n)) (c.loop-number.invariant parts has)
