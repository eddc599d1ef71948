-- RankLaws: where no element of a graph leads to itself, each has a rank, which is greater than those of its targets:
-- how many steps the longest walk from it has.
use Rattle.std.proofs.Common.{◌≡◌, ◌<◌, ◌≤◌, ℕ, zero, suc, List, [], ◌∷◌, Some, cond, length, ltb}
use Rattle.std.proofs.Common.{refl, sym, ap, arith, subst}
use Rattle.std.specs.List.{slice_get}
use Rattle.std.proofs.lemmas.Bool.{cond_both, lt-ltb, ltb-false, ltb-true}
use Rattle.std.proofs.lemmas.Option.{same_Some}
use Rattle.link_graphs.specs.Leading.{LeadsAtOnce, Leads, targets_of}
use Rattle.link_graphs.specs.Marking.{IsListed}
use Rattle.order_laws.proofs.WalkLaws.{Walk, is_short}
use Rattle.order_laws.proofs.WalkLaws.Walk.{ends, goes}

-- ---- the greater of two numbers

abbrev greater : ℕ → ℕ → ℕ
greater one other = cond (ltb one other) other one

is_either : (P : ℕ → Type 0) (one other : ℕ) → P one → P other → P (greater one other)
is_either P one other p q = cond_both (ltb one other) other one P (λ e. q) (λ e. p)

first_within : (one other : ℕ) → one ≤ greater one other
first_within one other =
    cond_both (ltb one other) other one (λ n. one ≤ n) (λ e. omega (arith, ltb-true one other e)) (λ e. omega arith)

second_within : (one other : ℕ) → other ≤ greater one other
second_within one other =
    cond_both (ltb one other) other one (λ n. other ≤ n) (λ e. omega arith) (λ e. omega (arith, ltb-false one other e))

-- ---- the longest walks

-- one step more than the longest walk from one of these targets, by how many steps that from each has
abbrev steps_by : (ℕ → ℕ) → ℕ → List ℕ → ℕ
steps_by steps count [] = 0
steps_by steps count (target ∷ targets) =
    greater (cond (ltb target count) (suc (steps target)) 0) (steps_by steps count targets)

-- how many steps the longest walk from an element has, of those that have no more than so many
abbrev steps_from : List (List ℕ) → ℕ → ℕ → ℕ
steps_from lists zero element = 0
steps_from lists (suc most) element = steps_by (steps_from lists most) (length lists) (targets_of lists element)

-- there is a walk of so many steps from an element
record HasWalk (lists : List (List ℕ)) (element steps : ℕ) : Type 0 where
  further : List ℕ
  walk : Walk lists element further
  size : length further ≡ steps

no_step : (lists : List (List ℕ)) (element : ℕ) → HasWalk lists element 0
no_step lists element = record { further = []; walk = ends; size = refl }

-- there is a walk as long as the longest one
longest_by : (lists : List (List ℕ)) (steps : ℕ → ℕ) → ((target : ℕ) → HasWalk lists target (steps target)) →
    (element : ℕ) (targets : List ℕ) → ((target : ℕ) → IsListed targets target →
    IsListed (targets_of lists element) target) → HasWalk lists element (steps_by steps (length lists) targets)
longest_by lists steps has element [] among = no_step lists element
longest_by lists steps has element (target ∷ targets) among =
    is_either (HasWalk lists element) (cond (ltb target (length lists)) (suc (steps target)) 0)
    (steps_by steps (length lists) targets)
    (cond_both (ltb target (length lists)) (suc (steps target)) 0 (HasWalk lists element)
    (λ e. by_target (ltb-true target (length lists) e)) (λ e. no_step lists element))
    (longest_by lists steps has element targets (λ other there. among other (suc there.0, there.1)))
  where
    by_target : target < length lists → HasWalk lists element (suc (steps target))
    by_target within =
        let there = among target (0, refl) in
        let longest = has target in
        record {
          further = target ∷ longest.further;
          walk = goes (record { place = there.0; stands = there.1; within = within }) longest.walk;
          size = ap suc longest.size;
        }

longest : (lists : List (List ℕ)) (most element : ℕ) → HasWalk lists element (steps_from lists most element)
longest lists zero element = no_step lists element
longest lists (suc most) element =
    longest_by lists (steps_from lists most) (longest lists most) element (targets_of lists element)
    (λ target there. there)

-- no walk is longer
step_within : (steps : ℕ → ℕ) (count : ℕ) (targets : List ℕ) (place target : ℕ) →
    slice_get targets place ≡ Some target → target < count → suc (steps target) ≤ steps_by steps count targets
step_within steps count [] place target at within = absurd (cc)
step_within steps count (first ∷ targets) zero target at within =
    let same : first ≡ target = same_Some first target at in
    let own : cond (ltb target count) (suc (steps target)) 0 ≡ suc (steps target) =
    ap (λ b. cond b (suc (steps target)) 0) (lt-ltb target count within) in
    subst (λ n. suc (steps target) ≤ greater (cond (ltb n count) (suc (steps n)) 0) (steps_by steps count targets))
    (sym same)
    (subst (λ n. n ≤ greater (cond (ltb target count) (suc (steps target)) 0) (steps_by steps count targets)) own
    (first_within (cond (ltb target count) (suc (steps target)) 0) (steps_by steps count targets)))
step_within steps count (first ∷ targets) (suc place) target at within =
    let behind = step_within steps count targets place target at within in
    let greatest = second_within (cond (ltb first count) (suc (steps first)) 0) (steps_by steps count targets) in
    omega (arith, behind, greatest)

none_longer : (lists : List (List ℕ)) (most element : ℕ) (further : List ℕ) → Walk lists element further →
    length further ≤ most → length further ≤ steps_from lists most element
none_longer lists most element _ ends few = omega arith
none_longer lists zero element _ (goes one walk) few = absurd (omega arith)
none_longer lists (suc most) element _ (goes {target = target} {further = further} one walk) few =
    let behind = none_longer lists most target further walk (omega arith) in
    let more = step_within (steps_from lists most) (length lists) (targets_of lists element) one.place target
    one.stands one.within in
    omega (arith, behind, more)

-- ---- the ranks

abbrev pub rank : List (List ℕ) → ℕ → ℕ
rank lists = steps_from lists (length lists)

module _ (lists : List (List ℕ)) (acyclic : (element : ℕ) → ¬ Leads lists element element) where
  pub is_below : (element : ℕ) → element < length lists → rank lists element < length lists
  is_below element within =
      let walk = longest lists (length lists) element in
      subst (λ n. n < length lists) walk.size (is_short lists acyclic walk.walk within)

  pub is_behind : (element target : ℕ) → LeadsAtOnce lists element target → rank lists target < rank lists element
  is_behind element target one =
      let walk = longest lists (length lists) target in
      let few = is_short lists acyclic walk.walk one.within in
      let more = none_longer lists (length lists) element (target ∷ walk.further) (goes one walk.walk)
      (omega (arith, few)) in
      subst (λ n. n < rank lists element) walk.size (omega (arith, more))
