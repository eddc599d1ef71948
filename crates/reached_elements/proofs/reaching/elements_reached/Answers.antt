-- The targets of one more element, and of all of them.
use Rattle.std.proofs.Common.{◌≤◌, arith, length, subst}
use Rattle.link_graphs.specs.Leading.{target_lists}
use Rattle.reached_elements.proofs.ReachLaws.{spread_begins, spread_ends, spread_more, spread_past}
use Rattle.reached_elements.proofs.reaching.elements_reached.Goals as goal

pub loop-place-init : goal.loop-place-init
loop-place-init c = spread_begins (target_lists c.args.graph.now) c.args.from.now c.count-count.result
    c.none-reached.result.marks c.add_all.new.self.marks c.none-reached.result.elements.items
    c.add_all.new.self.elements.items c.count-count.ensures c.none-reached.ensures.marks
    c.none-reached.ensures.elements c.in_ok-add_all.ensures

pub loop-place-preserved : goal.loop-place-preserved
loop-place-preserved c = spread_more (target_lists c.args.graph.now) c.args.from.now
    c.loop-place.reached.marks c.add_targets_at.new.self.marks c.loop-place.reached.elements.items
    c.add_targets_at.new.self.elements.items c.loop-place.place c.loop-place.invariant c.in_ok-add_targets_at.ensures

pub returns-then-place-as_slice : goal.returns-then-place-as_slice
returns-then-place-as_slice c =
    let listed = c.loop-place.reached.elements.items in
    let past : length listed ≤ c.loop-place.place =
    subst (λ xs. length xs ≤ c.loop-place.place) c.as_slice.ensures.value c.if-place-as_slice.true in
    spread_ends (target_lists c.args.graph.now) c.args.from.now c.loop-place.reached.marks listed
    c.loop-place.place past c.loop-place.invariant

pub returns : goal.returns
returns c =
    let lists = target_lists c.args.graph.now in
    let marks = c.loop-place.reached.marks in
    let listed = c.loop-place.reached.elements.items in
    let past = spread_past lists c.args.from.now marks listed c.loop-place.place
    (let n = c.count-count.ensures in let t = c.loop-place-test.false in omega arith) c.loop-place.invariant in
    spread_ends lists c.args.from.now marks listed c.loop-place.place past c.loop-place.invariant
