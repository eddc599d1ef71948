-- Each element in turn is reached, and with it all to which it leads.
use Rattle.std.proofs.Common.{◌≡◌, ◌<◌, ◌≤◌, ◌+◌, ◌⊎◌, ℕ, true, false, Bool, List, Some, subst, refl, inl, inr, arith}
use Rattle.std.specs.List.{slice_get}
use Rattle.std.proofs.lemmas.Bool.{cases_lt, false≢true}
use Rattle.std.proofs.lemmas.Option.{slice_get_within}
use Rattle.link_graphs.specs.declared.walking.Visit.{Visit}
use Rattle.link_graphs.specs.Leading.{target_lists}
use Rattle.link_graphs.proofs.PlaceLaws.{stays_marked, is_marked, one_of_both}
use Rattle.link_graphs.proofs.WalkLaws.{all_finished}
use Rattle.link_graphs.proofs.StepLaws.{walk_start}
use Rattle.link_graphs.proofs.walking.finishing_order.Goals as goal
use Rattle.link_graphs.proofs.walking.finishing_order.Goals.{then-is_fresh+in_ok-begin+in_ok-run, else-is_fresh}

abbrev first : ℕ → Visit
first t = record { element = t; looked = 0 }

pub run-requires : goal.run-requires
run-requires c =
    let walk = c.loop-element.walk in
    rw (
      c.in_ok-begin.ensures.visited,
      c.loop-element.invariant.ended,
      c.in_ok-begin.ensures.reached,
      c.in_ok-begin.ensures.same,
    )
    (walk_start (target_lists c.args.graph.now) walk.finished.items (first c.loop-element.element) walk.reached.items
    c.loop-element.element refl refl (c.if-is_fresh.ensures.0 refl) c.loop-element.invariant.walk)

one_more : (reached : List Bool) (n : ℕ) → ((e : ℕ) → e < n → slice_get reached e ≡ Some true)
    → slice_get reached n ≡ Some true → (e : ℕ) → e < n + 1 → slice_get reached e ≡ Some true
one_more reached n below here e less = by (cases_lt e n)
  where
    by : (e < n) ⊎ (n ≤ e) → slice_get reached e ≡ Some true
    by (inl h) = below e h
    by (inr h) = subst (λ x. slice_get reached x ≡ Some true) (let s : n ≡ e = omega arith in s) here

pub loop-element-preserved : goal.loop-element-preserved
loop-element-preserved c =
    elim c.if-is_fresh.branch [
      | then-is_fresh+in_ok-begin+in_ok-run w ↦ rw w.walk-is (record {
        walk = w.in_ok-run.ensures.walk;
        ended = w.in_ok-run.ensures.ended;
        all = one_more w.run.new.self.reached.items c.loop-element.element
            (λ e less. w.in_ok-run.ensures.stays e (rw w.in_ok-begin.ensures.reached
            (stays_marked c.loop-element.walk.reached.items c.loop-element.element e
            (c.loop-element.invariant.all e less))))
            (w.in_ok-run.ensures.stays c.loop-element.element (rw w.in_ok-begin.ensures.reached
            (is_marked c.loop-element.walk.reached.items c.loop-element.element
            (slice_get_within c.loop-element.walk.reached.items c.loop-element.element false
            (w.if-is_fresh.ensures.0 refl)))));
      })
      | else-is_fresh w ↦ rw w.walk-is (record {
        walk = c.loop-element.invariant.walk;
        ended = c.loop-element.invariant.ended;
        all = one_more c.loop-element.walk.reached.items c.loop-element.element c.loop-element.invariant.all
            (one_of_both c.loop-element.walk.reached.items c.loop-element.element
            (let size = c.loop-element.invariant.walk.search.size in let count = c.count-count.ensures in
            let test = c.loop-element-test.true in omega arith)
            (λ h. false≢true (w.if-is_fresh.ensures.1 h)));
      })
    ]

pub returns : goal.returns
returns c =
    all_finished (target_lists c.args.graph.now) c.loop-element.walk.finished.items c.loop-element.walk.reached.items
    c.loop-element.invariant.walk
    (λ e less. c.loop-element.invariant.all e (let count = c.count-count.ensures in
    let test = c.loop-element-test.false in omega arith))
