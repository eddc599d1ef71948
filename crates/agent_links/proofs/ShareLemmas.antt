-- Lemmas on shares and parts: their lengths, and that together they are the front of the list.
use Rattle.std.proofs.Common.{◌≡◌, ℕ, zero, suc, ◌+◌, ◌*◌, ◌/◌, ◌%◌, ◌<◌, ◌≤◌, List, [], ◌∷◌, ◌++◌, map, drop, length}
use Rattle.std.proofs.Common.{get_or, nat_lt, refl, ap, sym, ◌∙◌, arith, append_assoc, append-nil, length-append}
use Rattle.std.proofs.Common.{get_or-drop}
use Rattle.std.proofs.lemmas.Bool.{cond_both, ltb-true, ltb-false}
use Rattle.std.proofs.lemmas.Nat.{div-add-mod'}
use Rattle.std.proofs.lemmas.List.{map-append}
use Rattle.std.proofs.Math.Nat.{suc-mul, mul_comm, mod-lt}
use Rattle.std.proofs.Math.ListN.{get_or-map}
use Rattle.agent_links.specs.Shares.{share, shared, first_shares, part, first_parts, parts}
use Rattle.agent_links.specs.Sessions.{Session, silent}
use Rattle.agent_links.specs.ShareLaws.{joined}

-- how many sessions the first workers have: while one more is over for each, and behind these
pub shared_at : (sessions workers count : ℕ) →
    (count ≤ sessions % workers → shared sessions workers count ≡ count * (sessions / workers) + count)
    × (sessions % workers ≤ count →
    shared sessions workers count ≡ count * (sessions / workers) + sessions % workers)
shared_at sessions workers zero = (λ _. omega arith, λ over. omega (arith, over))
shared_at sessions workers (suc count) =
    cond_both (nat_lt count (sessions % workers)) 1 0
    (λ more. (suc count ≤ sessions % workers →
    shared sessions workers count + (sessions / workers + more) ≡ suc count * (sessions / workers) + suc count)
    × (sessions % workers ≤ suc count →
    shared sessions workers count + (sessions / workers + more)
    ≡ suc count * (sessions / workers) + sessions % workers))
    (λ less. (
      (λ within. omega (
        arith,
        (shared_at sessions workers count).0 (omega (arith, ltb-true count (sessions % workers) less)),
        suc-mul count (sessions / workers),
      )),
      (λ over. omega (
        arith,
        (shared_at sessions workers count).0 (omega (arith, ltb-true count (sessions % workers) less)),
        suc-mul count (sessions / workers),
        ltb-true count (sessions % workers) less,
      )),
    ))
    (λ most. (
      (λ within. absurd (omega (arith, ltb-false count (sessions % workers) most))),
      (λ over. omega (
        arith,
        (shared_at sessions workers count).1 (ltb-false count (sessions % workers) most),
        suc-mul count (sessions / workers),
      )),
    ))

-- the shares of all workers together are as many as the sessions
pub shares_add_up : (sessions workers : ℕ) → 0 < workers → shared sessions workers workers ≡ sessions
shares_add_up sessions workers some =
    omega (
      arith,
      (shared_at sessions workers workers).1 (omega (arith, mod-lt sessions some)),
      div-add-mod' sessions workers,
      mul_comm workers (sessions / workers),
    )

-- a part is as long as it is to be
pub length_part : {X : Type 0} (past : X) (list : List X) (from count : ℕ) → length (part past list from count) ≡ count
length_part past list from zero = refl
length_part past list from (suc count) =
    omega (
      arith,
      length-append (part past list from count) (get_or list (from + count) past ∷ []),
      length_part past list from count,
    )

-- the lengths of parts are the shares
pub lengths_of_parts : {X : Type 0} (past : X) (list : List X) (sessions workers count : ℕ) →
    map length (first_parts past list sessions workers count) ≡ first_shares sessions workers count
lengths_of_parts past list sessions workers zero = refl
lengths_of_parts past list sessions workers (suc count) =
    let one = part past list (shared sessions workers count) (share sessions workers count) in
    map-append length (first_parts past list sessions workers count) (one ∷ [])
    ∙ ap (λ (lengths : List ℕ). lengths ++ length one ∷ []) (lengths_of_parts past list sessions workers count)
    ∙ ap (λ (n : ℕ). first_shares sessions workers count ++ n ∷ [])
    (length_part past list (shared sessions workers count) (share sessions workers count))

-- a part of what is left of a list is a part of the list
pub part_drop : {X : Type 0} (past : X) (list : List X) (from count : ℕ) →
    part past (drop from list) 0 count ≡ part past list from count
part_drop past list from zero = refl
part_drop {X} past list from (suc count) =
    let place : from + (0 + count) ≡ from + count = omega arith in
    ap (λ (xs : List X). xs ++ get_or (drop from list) (0 + count) past ∷ []) (part_drop past list from count)
    ∙ ap (λ (x : X). part past list from count ++ x ∷ [])
    (get_or-drop from list (0 + count) past ∙ ap (λ (i : ℕ). get_or list i past) place)

-- a function of each element, of parts
pub part_map : {X Y : Type 0} (f : X → Y) (past : X) (list : List X) (from count : ℕ) →
    map f (part past list from count) ≡ part (f past) (map f list) from count
part_map f past list from zero = refl
part_map {X} {Y} f past list from (suc count) =
    map-append f (part past list from count) (get_or list (from + count) past ∷ [])
    ∙ ap (λ (ys : List Y). ys ++ f (get_or list (from + count) past) ∷ []) (part_map f past list from count)
    ∙ ap (λ (y : Y). part (f past) (map f list) from count ++ y ∷ []) (sym (get_or-map f list (from + count) past))

pub parts_map : {X Y : Type 0} (f : X → Y) (past : X) (list : List X) (sessions workers count : ℕ) →
    map (map f) (first_parts past list sessions workers count)
    ≡ first_parts (f past) (map f list) sessions workers count
parts_map f past list sessions workers zero = refl
parts_map {X} {Y} f past list sessions workers (suc count) =
    let one = part past list (shared sessions workers count) (share sessions workers count) in
    map-append (map f) (first_parts past list sessions workers count) (one ∷ [])
    ∙ ap (λ (ys : List (List Y)). ys ++ map f one ∷ []) (parts_map f past list sessions workers count)
    ∙ ap (λ (y : List Y). first_parts (f past) (map f list) sessions workers count ++ y ∷ [])
    (part_map f past list (shared sessions workers count) (share sessions workers count))

-- lists in a row, with one more behind them
joined_last : {X : Type 0} (lists : List (List X)) (last : List X) → joined (lists ++ last ∷ []) ≡ joined lists ++ last
joined_last [] last = append-nil last
joined_last {X} (list ∷ lists) last =
    ap (λ (rest : List X). list ++ rest) (joined_last lists last) ∙ sym (append_assoc list (joined lists) last)

-- two parts, one behind the other
part_more : {X : Type 0} (past : X) (list : List X) (first more : ℕ) →
    part past list 0 first ++ part past list first more ≡ part past list 0 (first + more)
part_more past list first zero =
    let same : first ≡ first + 0 = omega arith in
    append-nil (part past list 0 first) ∙ ap (λ (n : ℕ). part past list 0 n) same
part_more {X} past list first (suc more) =
    let place : first + more ≡ 0 + (first + more) = omega arith in
    let count : suc (first + more) ≡ first + suc more = omega arith in
    sym (append_assoc (part past list 0 first) (part past list first more) (get_or list (first + more) past ∷ []))
    ∙ ap (λ (xs : List X). xs ++ get_or list (first + more) past ∷ []) (part_more past list first more)
    ∙ ap (λ (i : ℕ). part past list 0 (first + more) ++ get_or list i past ∷ []) place
    ∙ ap (λ (n : ℕ). part past list 0 n) count

-- the first parts in a row are the front of the list
joined_parts : {X : Type 0} (past : X) (list : List X) (sessions workers count : ℕ) →
    joined (first_parts past list sessions workers count) ≡ part past list 0 (shared sessions workers count)
joined_parts past list sessions workers zero = refl
joined_parts {X} past list sessions workers (suc count) =
    let one = part past list (shared sessions workers count) (share sessions workers count) in
    joined_last (first_parts past list sessions workers count) one
    ∙ ap (λ (xs : List X). xs ++ one) (joined_parts past list sessions workers count)
    ∙ part_more past list (shared sessions workers count) (share sessions workers count)

pub parts_joined : (list : List Session) (sessions workers : ℕ) → 0 < workers →
    joined (parts silent list sessions workers) ≡ part silent list 0 sessions
parts_joined list sessions workers some =
    joined_parts silent list sessions workers workers
    ∙ ap (λ (n : ℕ). part silent list 0 n) (shares_add_up sessions workers some)
