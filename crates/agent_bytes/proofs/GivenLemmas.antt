-- What a source in memory gives, and what it has left.
use Rattle.std.proofs.Common.{◌≡◌, ℕ, ◌+◌, ◌-◌, ◌≤◌, List, ◌++◌, length, take, drop, refl, ap, ◌∙◌, subst}
use Rattle.std.proofs.Common.{take-append-drop}
use Rattle.std.proofs.lemmas.List.{take_rest, take_at, length-take-le, drop-drop}

-- `part` is the first `count` bytes behind `at`: in front of any slice, and then the rest
pub front_and_rest : (bytes into part : List ℕ) (at count : ℕ) →
    count ≤ length (take (length bytes - at) (drop at bytes)) →
    part ≡ take count (take (length bytes - at) (drop at bytes)) →
    drop at bytes ≡ take count (part ++ drop count into) ++ drop (at + count) bytes
front_and_rest bytes into part at count within is =
    let left : List ℕ = drop at bytes in
    let rest : take (length bytes - at) left ≡ left = take_rest bytes at in
    let part_is : part ≡ take count left = is ∙ ap (λ l. take count l) rest in
    let short : count ≤ length left = subst (λ (l : List ℕ). count ≤ length l) rest within in
    let long : length part ≡ count = ap length part_is ∙ length-take-le count left short in
    rw (
      take_at part (drop count into) count long,
      part_is,
      ← drop-drop count at bytes,
      take-append-drop count left,
    ) refl

-- the same, for bytes that were seen through a reference
pub seen_front_and_rest : (seen bytes into part : List ℕ) (at count : ℕ) → seen ≡ bytes →
    count ≤ length (take (length seen - at) (drop at seen)) →
    part ≡ take count (take (length seen - at) (drop at seen)) →
    drop at bytes ≡ take count (part ++ drop count into) ++ drop (at + count) bytes
seen_front_and_rest seen bytes into part at count same within is =
    subst (λ (b : List ℕ). drop at b ≡ take count (part ++ drop count into) ++ drop (at + count) b) same
    (front_and_rest seen into part at count within is)
