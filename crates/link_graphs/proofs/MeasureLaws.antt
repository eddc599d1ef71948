-- How many steps of a search in depth are left.
use Rattle.std.proofs.Common.{◌≡◌, ℕ, suc, zero, ◌+◌, ◌<◌, List, [], ◌∷◌, ◌++◌, Bool, true, false, Some}
use Rattle.std.proofs.Common.{length, set, ap, arith}
use Rattle.std.specs.List.{slice_get}
use Rattle.std.proofs.lemmas.List.Sums.{sum_by_push}
use Rattle.link_graphs.specs.declared.walking.Visit.{Visit}
use Rattle.link_graphs.specs.Leading.{targets_of}
use Rattle.link_graphs.specs.Walking.{unreached_steps, visit_steps, steps_left}

pub one_reached : (lists : List (List ℕ)) (reached : List Bool) (t : ℕ) → t < length lists
    → slice_get reached t ≡ Some false
    → unreached_steps lists (set reached t true) + suc (suc (length (targets_of lists t)))
    ≡ unreached_steps lists reached
one_reached [] reached t within fresh = absurd (omega arith)
one_reached (targets ∷ lists) [] t within fresh = absurd (cc)
one_reached (targets ∷ lists) (true ∷ reached) zero within fresh = absurd (cc)
one_reached (targets ∷ lists) (false ∷ reached) zero within fresh = omega arith
one_reached (targets ∷ lists) (true ∷ reached) (suc t) within fresh =
    one_reached lists reached t (omega arith) fresh
one_reached (targets ∷ lists) (false ∷ reached) (suc t) within fresh =
    let r = one_reached lists reached t (omega arith) fresh in omega arith

pub fewer_finished : (lists : List (List ℕ)) (below : List Visit) (v : Visit) (reached : List Bool)
    → steps_left lists below reached < steps_left lists (below ++ v ∷ []) reached
fewer_finished lists below v reached = omega (arith, sum_by_push (visit_steps lists) below v)

pub fewer_looked : (lists : List (List ℕ)) (below : List Visit) (v z : Visit) (reached : List Bool)
    → visit_steps lists z < visit_steps lists v
    → steps_left lists (below ++ z ∷ []) reached < steps_left lists (below ++ v ∷ []) reached
fewer_looked lists below v z reached less =
    omega (arith, sum_by_push (visit_steps lists) below v, sum_by_push (visit_steps lists) below z)

pub fewer_begun : (lists : List (List ℕ)) (visits : List Visit) (z : Visit) (reached : List Bool) (t : ℕ)
    → z.element ≡ t → z.looked ≡ 0 → t < length lists → slice_get reached t ≡ Some false
    → steps_left lists (visits ++ z ∷ []) (set reached t true) < steps_left lists visits reached
fewer_begun lists visits z reached t is start within fresh =
    let a = sum_by_push (visit_steps lists) visits z in
    let b = one_reached lists reached t within fresh in
    let c : length (targets_of lists z.element) ≡ length (targets_of lists t) =
    (let P : ℕ → ℕ = λ e. length (targets_of lists e) in ap P is) in
    omega arith
