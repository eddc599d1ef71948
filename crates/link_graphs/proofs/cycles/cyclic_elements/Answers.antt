-- One element more from the end of the order.
use Rattle.std.proofs.Common.{◌≡◌, ◌-◌, ◌+◌, ◌<◌, ℕ, List, arith, subst, Some, length, get_or}
use Rattle.std.specs.List.{slice_get}
use Rattle.std.proofs.lemmas.Option.{slice_get-get_or}
use Rattle.link_graphs.specs.Leading.{target_lists}
use Rattle.link_graphs.proofs.OrderLaws.{IsSwept, swept_closed, one_swept, all_swept}
use Rattle.link_graphs.proofs.cycles.cyclic_elements.Goals as goal

-- what stands before the part that was gone through
stood : (order : List ℕ) (p : ℕ) → p < length order
    → slice_get order (length order - (p + 1)) ≡ Some (get_or order (length order - 1 - p) 0)
stood order p less =
    let same : length order - 1 - p ≡ length order - (p + 1) = omega arith in
    subst (λ n. slice_get order n ≡ Some (get_or order (length order - 1 - p) 0)) same
    (slice_get-get_or order (length order - 1 - p) 0 (omega arith))

one_back : (n p : ℕ) → p < n → n - p ≡ (n - (p + 1)) + 1
one_back n p less = omega arith

pub mark_all-requires-clause-closed : goal.mark_all-requires-clause-closed
mark_all-requires-clause-closed c =
    swept_closed (target_lists c.args.graph.now) (target_lists c.in_ok-turned.turned) c.args.order.now
    (length c.args.order.now - c.loop-passed.passed) c.loop-passed.cyclic.items c.loop-passed.marks.marked.items
    c.loop-passed.invariant.swept

pub index_mut-requires : goal.index_mut-requires
index_mut-requires c =
    let order = c.args.order.now in
    let p = c.loop-passed.passed in
    let less = c.requires.elements (length order - (p + 1)) (get_or order (length order - 1 - p) 0)
    (stood order p c.loop-passed-test.true) in
    let size = c.loop-passed.invariant.swept.size in
    omega (arith, c.loop-passed.cyclic.ok.0)

pub loop-passed-preserved : goal.loop-passed-preserved
loop-passed-preserved c =
    let lists = target_lists c.args.graph.now in
    let turned = target_lists c.in_ok-turned.turned in
    let order = c.args.order.now in
    let p = c.loop-passed.passed in
    let less = c.loop-passed-test.true in
    let after = c.mark_all.new.self.marked.items in
    record {
      swept = one_swept lists turned order c.requires (length order - (p + 1)) (get_or order (length order - 1 - p) 0)
          (stood order p less) c.loop-passed.cyclic.items c.loop-passed.marks.marked.items after c.is_marked.result
          c.in_ok-mark_all.ensures.size c.in_ok-mark_all.ensures.marked c.is_marked.ensures
          (subst (λ n. IsSwept lists turned order n c.loop-passed.cyclic.items c.loop-passed.marks.marked.items)
          (one_back (length order) p less) c.loop-passed.invariant.swept);
      found = c.in_ok-mark_all.ensures.found;
    }

pub returns : goal.returns
returns c =
    let lists = target_lists c.args.graph.now in
    let turned = target_lists c.in_ok-turned.turned in
    let order = c.args.order.now in
    let none : length order - c.loop-passed.passed ≡ 0 = (let t = c.loop-passed-test.false in omega arith) in
    all_swept lists turned order c.loop-passed.cyclic.items c.loop-passed.marks.marked.items c.requires
    c.in_ok-turned.ensures
    (subst (λ n. IsSwept lists turned order n c.loop-passed.cyclic.items c.loop-passed.marks.marked.items) none
    c.loop-passed.invariant.swept)
