-- TakenLaws: the numbers of a list are taken from its end.
use Rattle.std.proofs.Common.{◌≡◌, ◌<◌, ◌≤◌, ◌++◌, ◌∷◌, [], ◌+◌, ◌∙◌, ℕ, List, MatchOption, Option, Some, append_assoc, arith, ap, length, length-append, refl, reverse, sym}
use Rattle.std.proofs.lemmas.List.{length-reverse, reverse-append}
use Rattle.key_numbers.specs.NumberedLists.{IsList, Row}

-- what is left of the list, and what was taken
abbrev pub IsTaken : Row → ℕ → ℕ → List ℕ → ℕ → Type 0
IsTaken row list at items step = (xs : List ℕ) → IsList row list xs →
    (ys : List ℕ) × IsList row at ys × (xs ≡ ys ++ reverse items) × (length items ≡ step)

empty_append : (xs : List ℕ) → xs ≡ xs ++ []
empty_append [] = refl
empty_append (x ∷ xs) = ap (λ ys. x ∷ ys) (empty_append xs)

pub taken_first : (row : Row) (list : ℕ) → IsTaken row list list [] 0
taken_first row list = λ xs is. (xs, is, empty_append xs, refl)

-- a list is empty, or has a last number
abbrev pub Parts : Row → Option (ℕ × ℕ) → List ℕ → Type 0
Parts row parted xs =
    MatchOption parted (xs ≡ []) (λ x. (ys : List ℕ) × IsList row x.0 ys × (xs ≡ ys ++ x.1 ∷ []))

pub taken_more : (row : Row) (list at before last : ℕ) (items : List ℕ) (step : ℕ) → IsTaken row list at items step →
    ((xs : List ℕ) → IsList row at xs → Parts row (Some (before, last)) xs) →
    IsTaken row list before (items ++ last ∷ []) (step + 1)
taken_more row list at before last items step so_far parts = λ xs is.
    let taken = so_far xs is in
    let part = parts taken.0 taken.1 in
    let turned : reverse (items ++ last ∷ []) ≡ last ∷ reverse items = reverse-append items (last ∷ []) in
    let size : length (items ++ last ∷ []) ≡ length items + 1 = length-append items (last ∷ []) in (
      part.0,
      part.1,
      taken.2 ∙ (ap (λ zs. zs ++ reverse items) part.2 ∙
          (append_assoc part.0 (last ∷ []) (reverse items) ∙ ap (λ zs. part.0 ++ zs) (sym turned))),
      size ∙ ap (λ n. n + 1) taken.3,
    )

pub taken_all : (row : Row) (list at most step : ℕ) (items turned : List ℕ) → step ≤ most →
    turned ≡ reverse items → IsTaken row list at items step → ((xs : List ℕ) → IsList row at xs → xs ≡ []) →
    (xs : List ℕ) → IsList row list xs → (turned ≡ xs) × (length xs ≤ most)
taken_all row list at most step items turned within is so_far ended xs given =
    let taken = so_far xs given in
    let none = ended taken.0 taken.1 in
    let whole : xs ≡ reverse items = taken.2 ∙ ap (λ zs. zs ++ reverse items) none in
    let size : length xs ≡ step = ap length whole ∙ length-reverse items ∙ taken.3 in
    (is ∙ sym whole, omega (arith, size, within))

pub taken_many : (row : Row) (list at before last most : ℕ) (items : List ℕ) → IsTaken row list at items most →
    ((xs : List ℕ) → IsList row at xs → Parts row (Some (before, last)) xs) →
    (xs : List ℕ) → IsList row list xs → most < length xs
taken_many row list at before last most items so_far parts xs given =
    let taken = so_far xs given in
    let part = parts taken.0 taken.1 in
    let whole : length xs ≡ length taken.0 + length items =
    ap length taken.2 ∙ length-append taken.0 (reverse items) ∙ ap (λ n. length taken.0 + n) (length-reverse items) in
    let one : length taken.0 ≡ length part.0 + 1 = ap length part.2 ∙ length-append part.0 (last ∷ []) in
    let size = taken.3 in
    omega (arith, whole, one, size)
