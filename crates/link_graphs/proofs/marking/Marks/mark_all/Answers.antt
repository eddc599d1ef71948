-- The marks spread from what was found until nothing is left.
use Rattle.std.proofs.Common.{◌≡◌, ◌∙◌, ap, ◌++◌, [], ℕ, List, rules, subst}
use Rattle.link_graphs.specs.Leading.{target_lists}
use Rattle.link_graphs.specs.Marking.{IsTarget, MarksSome}
use Rattle.link_graphs.proofs.MarkLaws.{IsSpreading, spread_begins, spread_more, spread_ends}
use Rattle.link_graphs.proofs.marking.Marks.mark_all.Goals as goal

pub loop-next-init : goal.loop-next-init
loop-next-init c =
    let lists = target_lists c.args.graph.now in
    let before = c.args.self.now.marked.items in
    let after = c.mark_targets.new.self.marked.items in
    let found = c.mark_targets.new.self.found.items in
    spread_begins lists c.args.element before c.requires.size after found c.requires.closed
    (subst (λ (xs : List ℕ). MarksSome (IsTarget lists c.args.element) before after xs found) c.requires.found
    c.in_ok-mark_targets.ensures)

pub loop-next-preserved : goal.loop-next-preserved
loop-next-preserved c =
    let lists = target_lists c.args.graph.now in
    let before = c.args.self.now.marked.items in
    let marks = c.loop-next.self.marked.items in
    let now = c.mark_targets-in-Some.new.self in
    spread_more lists c.args.element before c.requires.size marks now.marked.items c.pop.new.self.items now.found.items
    c.in-Some.next
    (subst (λ (xs : List ℕ). IsSpreading lists c.args.element before marks xs) c.in-Some.ensures.items
    c.loop-next.invariant) c.in_ok-mark_targets-2.ensures c.requires.closed

pub returns-clause-marked : goal.returns-clause-marked
returns-clause-marked c =
    let lists = target_lists c.args.graph.now in
    let before = c.args.self.now.marked.items in
    let marks = c.loop-next.self.marked.items in
    let nothing : c.pop.new.self.items ≡ [] = search rules in
    let left : c.loop-next.self.found.items ≡ [] =
    c.in_default.ensures.items ∙ ap (λ (zs : List ℕ). zs ++ []) nothing in
    spread_ends lists c.args.element before c.requires.size marks
    (subst (λ (xs : List ℕ). IsSpreading lists c.args.element before marks xs) left c.loop-next.invariant)
