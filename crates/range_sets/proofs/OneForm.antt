-- OneForm: bounds in their one form that allow the same numbers are the same (X.680, sections 49 to 51).
use Rattle.std.proofs.Common.{◌≡◌, ℤ, pos, ◌≤ℤ◌, ◌<ℤ◌, ◌+ℤ◌, true, [], ◌∷◌, refl, sym, ap, ◌∙◌}
use Rattle.std.proofs.Common.{inl, inr, subst, arith}
use Rattle.std.proofs.lemmas.Int.{ints, by_lt_z}
use Rattle.term_values.specs.Bounded.{allowed, one_allows}
use Rattle.term_values.specs.Syntaxes.{Bounds}
use Rattle.range_sets.specs.RangeSets.{IsRising, IsStated, Leaves}
use Rattle.range_sets.specs.RangeSteps.{Held, Rises}
use Rattle.range_sets.proofs.HeldLaws.{allowed_held, held_allowed}
use Rattle.range_sets.proofs.RisingLaws.{told_rise}
use Rattle.range_sets.proofs.CommonLaws.{beyond}

-- the first pair begins no later than a number that is held
begins_by : (x : ℤ × ℤ) (xs : Bounds) (n : ℤ) → Rises (x ∷ xs) → Held (x ∷ xs) n → x.0 ≤ℤ n
begins_by x xs n rises (inl own) = own.0
begins_by x xs n rises (inr others) =
    let past : (x.1 +ℤ pos 1) <ℤ n = beyond x.1 n xs rises.1 rises.2 others in
    let own : x.0 ≤ℤ x.1 = rises.0 in
    omega (arith, ints)

first_held : (x : ℤ × ℤ) (xs : Bounds) → Rises (x ∷ xs) → Held (x ∷ xs) x.0
first_held x xs rises = inl (omega (arith, ints), rises.0)

-- the number next to the first pair's last isn't held
not_next : (x : ℤ × ℤ) (xs : Bounds) → Rises (x ∷ xs) → Held (x ∷ xs) (x.1 +ℤ pos 1) → ⊥
not_next x xs rises (inl own) = let high : (x.1 +ℤ pos 1) ≤ℤ x.1 = own.1 in absurd (omega (arith, ints))
not_next x xs rises (inr others) =
    let past : (x.1 +ℤ pos 1) <ℤ (x.1 +ℤ pos 1) = beyond x.1 (x.1 +ℤ pos 1) xs rises.1 rises.2 others in
    absurd (omega (arith, ints))

ends_by : (x y : ℤ × ℤ) (xs ys : Bounds) → Rises (x ∷ xs) → Rises (y ∷ ys) → x.0 ≡ y.0 →
    ((n : ℤ) → Held (y ∷ ys) n → Held (x ∷ xs) n) → y.1 ≤ℤ x.1
ends_by x y xs ys h k same back =
    by_lt_z x.1 y.1
    (λ below.
    let own : x.0 ≤ℤ x.1 = h.0 in
    absurd (not_next x xs h (back (x.1 +ℤ pos 1) (inl (omega (arith, ints, same), omega (arith, ints))))))
    (λ order. order)

rest_held : (x : ℤ × ℤ) (xs ys : Bounds) → Rises (x ∷ xs) → ((n : ℤ) → Held (x ∷ xs) n → Held (x ∷ ys) n) → (n : ℤ) →
    Held xs n → Held ys n
rest_held x xs ys h there n held =
    elim (there n (inr held)) [
      | inl own ↦
          (let past : (x.1 +ℤ pos 1) <ℤ n = beyond x.1 n xs h.1 h.2 held in
          let high : n ≤ℤ x.1 = own.1 in
          absurd (omega (arith, ints)))
      | inr others ↦ others
    ]

pub one_list : (xs ys : Bounds) → Rises xs → Rises ys → ((n : ℤ) → Held xs n → Held ys n) →
    ((n : ℤ) → Held ys n → Held xs n) → xs ≡ ys
one_list [] [] h k there back = refl
one_list [] (y ∷ ys) h k there back = absurd (back y.0 (first_held y ys k))
one_list (x ∷ xs) [] h k there back = absurd (there x.0 (first_held x xs h))
one_list (x ∷ xs) (y ∷ ys) h k there back =
    let low = begins_by y ys x.0 k (there x.0 (first_held x xs h)) in
    let high = begins_by x xs y.0 h (back y.0 (first_held y ys k)) in
    let least : x.0 ≡ y.0 = omega (arith, ints, low, high) in
    let at_most = ends_by x y xs ys h k least back in
    let at_least = ends_by y x ys xs k h (sym least) there in
    let greatest : x.1 ≡ y.1 = omega (arith, ints, at_most, at_least) in
    let one : x ≡ y = λ i. (least i, greatest i) in
    let there_on = subst (λ (z : ℤ × ℤ). (n : ℤ) → Held (x ∷ xs) n → Held (z ∷ ys) n) (sym one) there in
    let back_on = subst (λ (z : ℤ × ℤ). (n : ℤ) → Held (z ∷ ys) n → Held (x ∷ xs) n) (sym one) back in
    let behind = subst (λ (z : ℤ × ℤ). Rises (z ∷ ys)) (sym one) k in
    λ i. one i ∷ one_list xs ys h.2 k.2 (rest_held x xs ys h there_on) (rest_held x ys xs behind back_on) i

-- ---- stated bounds

some_allows : (xs : Bounds) (n : ℤ) → IsRising xs → allowed xs n ≡ one_allows xs n
some_allows [] n h = elim h [ ]
some_allows (x ∷ xs) n h = refl

none_allowed : (n : ℤ) → allowed ((pos 1, pos 0) ∷ []) n ≡ true → ⊥
none_allowed n h =
    elim (allowed_held n ((pos 1, pos 0) ∷ []) h) [
      | inl own ↦
          (let low : pos 1 ≤ℤ n = own.0 in
          let high : n ≤ℤ pos 0 = own.1 in
          absurd (omega (arith, ints)))
      | inr no_more ↦ no_more
    ]

some_number : (xs : Bounds) → IsRising xs → (n : ℤ) × (allowed xs n ≡ true)
some_number [] h = elim h [ ]
some_number (x ∷ xs) h = (x.0, held_allowed x.0 (x ∷ xs) (first_held x xs (told_rise (x ∷ xs) (inl h))))

pub one_form : (xs ys : Bounds) → IsStated xs → IsStated ys → ((n : ℤ) → allowed xs n ≡ allowed ys n) → xs ≡ ys
one_form xs ys (inl h) (inl k) same = one_list xs ys (told_rise xs (inl h)) (told_rise ys (inl k))
    (λ n held. allowed_held n ys
    (sym (some_allows ys n k) ∙ sym (same n) ∙ some_allows xs n h ∙ held_allowed n xs held))
    (λ n held. allowed_held n xs
    (sym (some_allows xs n h) ∙ same n ∙ some_allows ys n k ∙ held_allowed n ys held))
one_form xs ys (inl h) (inr k) same =
    let some = some_number xs h in
    absurd (none_allowed some.0 (sym (ap (λ zs. allowed zs some.0) k) ∙ sym (same some.0) ∙ some.1))
one_form xs ys (inr h) (inl k) same =
    let some = some_number ys k in
    absurd (none_allowed some.0 (sym (ap (λ zs. allowed zs some.0) h) ∙ same some.0 ∙ some.1))
one_form xs ys (inr h) (inr k) same = h ∙ sym k

pub one_rest : (before ranges after other : Bounds) → Leaves before ranges after → Leaves before ranges other →
    after ≡ other
one_rest before ranges after other h k =
    one_form after other h.stated k.stated (λ n. h.same n ∙ sym (k.same n))
