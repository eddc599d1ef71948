-- The order of arcs, place by place.
use Rattle.std.proofs.Common.{◌≡◌, ◌<◌, ◌≤◌, ◌+◌, ℕ, List, ◌∷◌, drop, length, get_or, map, sym, ap, ◌∙◌, subst}
use Rattle.std.proofs.lemmas.List.{drop_more, drop_all}
use Rattle.value_match.specs.LeafKeys.{arc_place}
use Rattle.value_match.specs.MemberOrder.{StandsBefore, TellsOrder}
use Rattle.value_match.specs.declared.told.MemberOrder.{MemberOrder}
use Rattle.value_match.proofs.OrderLaws.{before_first, tells_behind, tells_lists}

pub places_front : (i : ℕ) (xs : List ℕ) → i < length xs
    → map arc_place (drop i xs) ≡ arc_place (get_or xs i 0) ∷ map arc_place (drop (i + 1) xs)
places_front i xs within = ap (map arc_place) (drop_more xs i 0 within)

pub places_before : (i : ℕ) (xs ys : List ℕ) (p q : ℕ) → i < length xs → i < length ys
    → p ≡ arc_place (get_or xs i 0) → q ≡ arc_place (get_or ys i 0) → p < q
    → StandsBefore (map arc_place (drop i xs)) (map arc_place (drop i ys))
places_before i xs ys p q h k e f less =
    let us = map arc_place (drop (i + 1) xs) in
    let vs = map arc_place (drop (i + 1) ys) in
    subst (λ zs. StandsBefore zs (map arc_place (drop i ys))) (ap (λ n. n ∷ us) e ∙ sym (places_front i xs h))
    (subst (λ zs. StandsBefore (p ∷ us) zs) (ap (λ n. n ∷ vs) f ∙ sym (places_front i ys k))
    (before_first p q us vs less))

pub places_same : (told : MemberOrder) (i : ℕ) (xs ys : List ℕ) (p q : ℕ) → i < length xs → i < length ys
    → p ≡ arc_place (get_or xs i 0) → q ≡ arc_place (get_or ys i 0) → p ≡ q
    → TellsOrder told (map arc_place (drop (i + 1) xs)) (map arc_place (drop (i + 1) ys))
    → TellsOrder told (map arc_place (drop i xs)) (map arc_place (drop i ys))
places_same told i xs ys p q h k e f same t =
    let us = map arc_place (drop (i + 1) xs) in
    let vs = map arc_place (drop (i + 1) ys) in
    tells_lists told (p ∷ us) (map arc_place (drop i xs)) (q ∷ vs) (map arc_place (drop i ys))
    (ap (λ n. n ∷ us) e ∙ sym (places_front i xs h)) (ap (λ n. n ∷ vs) f ∙ sym (places_front i ys k))
    (tells_behind told p q us vs same t)

pub places_end : (i : ℕ) (xs ys : List ℕ) → length xs ≤ i → length ys ≤ i
    → map arc_place (drop i xs) ≡ map arc_place (drop i ys)
places_end i xs ys h k = ap (map arc_place) (drop_all i xs h ∙ sym (drop_all i ys k))
