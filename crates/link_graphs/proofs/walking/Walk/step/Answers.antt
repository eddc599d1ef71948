-- One step of the search.
use Rattle.std.proofs.Common.{◌≡◌, ℕ, List, Bool, ◌+◌, ◌<◌, sym, rules, Some, refl, false, true, arith, length}
use Rattle.std.proofs.Common.{◌++◌, ◌∷◌, [], set}
use Rattle.std.specs.List.{slice_get}
use Rattle.std.proofs.lemmas.Bool.{false≢true}
use Rattle.std.proofs.lemmas.Option.{slice_get_within}
use Rattle.link_graphs.specs.declared.walking.Visit.{Visit}
use Rattle.link_graphs.specs.Leading.{target_lists, targets_of}
use Rattle.link_graphs.specs.Walking.{visit_steps, steps_left}
use Rattle.link_graphs.proofs.PlaceLaws.{stays_marked}
use Rattle.link_graphs.proofs.WalkLaws.{walk_finish}
use Rattle.link_graphs.proofs.StepLaws.{walk_reached, walk_fresh}
use Rattle.link_graphs.proofs.MeasureLaws.{fewer_looked, fewer_begun}
use Rattle.link_graphs.proofs.walking.Walk.step.Goals as goal

abbrev next : Visit → Visit
next v = record { element = v.element; looked = v.looked + 1 }

abbrev first : ℕ → Visit
first t = record { element = t; looked = 0 }

pub returns-in_default-clause-walk : goal.returns-in_default-clause-walk
returns-in_default-clause-walk c =
    rw c.in_ok-push.ensures.items
    (walk_finish (target_lists c.args.graph.now) c.args.self.now.finished.items c.args.self.now.visits.items
    c.args.visit c.args.self.now.reached.items c.requires (sym c.in_default.ensures.target))

pub overflow_add-looked : goal.overflow_add-looked
overflow_add-looked c = let k = c.in-Some.ensures.counts in search rules

pub returns-else-is_fresh-clause-walk : goal.returns-else-is_fresh-clause-walk
returns-else-is_fresh-clause-walk c =
    rw c.in_ok-push-2.ensures.items
    (walk_reached (target_lists c.args.graph.now) c.args.self.now.finished.items c.args.self.now.visits.items
    c.args.visit (next c.args.visit) c.args.self.now.reached.items c.in-Some.target refl refl
    (sym c.in-Some.ensures.target) (λ h. false≢true (c.if-is_fresh.ensures.1 h)) c.requires)

one_less : (lists : List (List ℕ)) (v : Visit) (t : ℕ)
    → slice_get (targets_of lists v.element) v.looked ≡ Some t → visit_steps lists (next v) < visit_steps lists v
one_less lists v t stands =
    let within = slice_get_within (targets_of lists v.element) v.looked t stands in omega arith

pub returns-else-is_fresh-clause-shorter : goal.returns-else-is_fresh-clause-shorter
returns-else-is_fresh-clause-shorter c =
    let lists = target_lists c.args.graph.now in
    rw c.in_ok-push-2.ensures.items
    (fewer_looked lists c.args.self.now.visits.items c.args.visit (next c.args.visit) c.args.self.now.reached.items
    (one_less lists c.args.visit c.in-Some.target (sym c.in-Some.ensures.target)))

pub returns-in_ok-begin-clause-walk : goal.returns-in_ok-begin-clause-walk
returns-in_ok-begin-clause-walk c =
    rw (
      c.in_ok-begin.ensures.visited,
      c.in_ok-push-2.ensures.items,
      c.in_ok-begin.ensures.reached,
      c.in_ok-begin.ensures.same,
    )
    (walk_fresh (target_lists c.args.graph.now) c.args.self.now.finished.items c.args.self.now.visits.items
    c.args.visit (next c.args.visit) (first c.in-Some.target) c.args.self.now.reached.items c.in-Some.target refl refl
    refl refl (sym c.in-Some.ensures.target) (c.if-is_fresh.ensures.0 refl) c.requires)

pub returns-in_ok-begin-clause-stays : goal.returns-in_ok-begin-clause-stays
returns-in_ok-begin-clause-stays c =
    λ e h. rw c.in_ok-begin.ensures.reached (stays_marked c.args.self.now.reached.items c.in-Some.target e h)

two_less : (a b d : ℕ) → a < b → b < d → a < d
two_less a b d h i = omega arith

inside : (lists : List (List ℕ)) (reached : List Bool) (t : ℕ) → length reached ≡ length lists
    → slice_get reached t ≡ Some false → t < length lists
inside lists reached t size fresh = let w = slice_get_within reached t false fresh in omega arith

pub returns-in_ok-begin-clause-shorter : goal.returns-in_ok-begin-clause-shorter
returns-in_ok-begin-clause-shorter c =
    let lists = target_lists c.args.graph.now in
    let below = c.args.self.now.visits.items in
    let v = c.args.visit in
    let t = c.in-Some.target in
    let reached = c.args.self.now.reached.items in
    let fresh = c.if-is_fresh.ensures.0 refl in
    rw (c.in_ok-begin.ensures.visited, c.in_ok-push-2.ensures.items, c.in_ok-begin.ensures.reached)
    (two_less (steps_left lists ((below ++ next v ∷ []) ++ first t ∷ []) (set reached t true))
    (steps_left lists (below ++ next v ∷ []) reached) (steps_left lists (below ++ v ∷ []) reached)
    (fewer_begun lists (below ++ next v ∷ []) (first t) reached t refl refl
    (inside lists reached t c.requires.search.size fresh) fresh)
    (fewer_looked lists below v (next v) reached (one_less lists v t (sym c.in-Some.ensures.target))))
