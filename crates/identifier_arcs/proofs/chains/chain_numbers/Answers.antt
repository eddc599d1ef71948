-- One element more is told.
use Rattle.std.proofs.Common.{◌≡◌, ◌<◌, ℕ, List, Bool, Option, Some, sym, arith, length, refl, subst}
use Rattle.std.specs.List.{slice_get}
use Rattle.std.proofs.lemmas.Option.{slice_get_read}
use Rattle.link_graphs.specs.Cycles.{IsBehindTargets, MarkCycles}
use Rattle.identifier_arcs.specs.Chains.{IsBegun, chain_lists}
use Rattle.identifier_arcs.proofs.ChainLaws.{all_told, is_begun, one_told}
use Rattle.identifier_arcs.proofs.chains.chain_numbers.Goals as goal

pub loop-place-preserved : goal.loop-place-preserved
loop-place-preserved c =
    let chains = c.args.chains.now in
    let order = c.in_ok-cycles.cycles.order.items in
    let marks = c.in_ok-cycles.cycles.cyclic.items in
    let told = c.loop-place.told.items in
    let row = c.loop-place.lists in
    let after = c.element_list.new.lists in
    let e = c.index-element.result.now in
    let place = c.loop-place.place in
    let answer = c.in_ok-told-2.field-0 in
    let less : place < length order =
    (let t = c.loop-place-test.true in let n = c.len-place-end.ensures in
    omega (arith, c.in_ok-cycles.cycles.order.ok.0))
    in
    let at : slice_get order place ≡ Some e =
    slice_get_read order (length order) place e refl less c.index-element.ensures in
    let behind : IsBehindTargets (chain_lists chains) order =
    subst (λ (lists : List (List ℕ)). IsBehindTargets lists order) c.in_ok-graph.ensures c.in_ok-cycles.ensures.order in
    let cyclic : MarkCycles (chain_lists chains) c.as_slice.result.now =
    subst (λ (xs : List Bool). MarkCycles (chain_lists chains) xs) (sym c.as_slice.ensures.value)
    (subst (λ (lists : List (List ℕ)). MarkCycles lists marks) c.in_ok-graph.ensures c.in_ok-cycles.ensures.cyclic) in
    one_told row after chains order behind place e at told c.loop-place.invariant answer c.element_list.ensures.grows
    (λ x h. c.in_ok-told-2.ensures.is x h cyclic
    (λ acyclic. subst (λ (xs : List (Option ℕ)). IsBegun row chains xs x.begin)
    (sym c.as_slice-in-loop-place.ensures.value)
    (is_begun row after chains order behind place e at told c.loop-place.invariant x h acyclic)))

pub returns : goal.returns
returns c =
    let chains = c.args.chains.now in
    let order = c.in_ok-cycles.cycles.order.items in
    let behind : IsBehindTargets (chain_lists chains) order =
    subst (λ (lists : List (List ℕ)). IsBehindTargets lists order) c.in_ok-graph.ensures c.in_ok-cycles.ensures.order in
    all_told c.loop-place.lists chains order c.loop-place.place c.loop-place.told.items behind
    (let t = c.loop-place-test.false in let n = c.len-place-end.ensures in
    omega (arith, c.in_ok-cycles.cycles.order.ok.0))
    c.loop-place.invariant
