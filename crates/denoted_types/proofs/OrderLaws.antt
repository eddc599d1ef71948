-- OrderLaws: rising pairs hold what some pairs hold: each range is put among those that rise (X.680, section 50).
use Rattle.std.proofs.Common.{ℤ, pos, ◌≤ℤ◌, ◌<ℤ◌, ◌+ℤ◌, [], ◌∷◌, ◌⊎◌, inl, inr, ⊎_elim, arith}
use Rattle.std.proofs.lemmas.Int.{ints, clamps, by_lt_z}
use Rattle.std.specs.Int.{int_max, int_min}
use Rattle.term_values.specs.Syntaxes.{Bounds}
use Rattle.range_sets.specs.RangeSteps.{Held, BeginsPast, Rises}

-- ---- a range is put into rising pairs

record Puts (low high : ℤ) (xs after : Bounds) : Type 0 where
  rises : Rises after
  past : (m : ℤ) → (m +ℤ pos 1) <ℤ low → BeginsPast m xs → BeginsPast m after
  there : (n : ℤ) → Held after n → ((low ≤ℤ n) × (n ≤ℤ high)) ⊎ Held xs n
  back : (n : ℤ) → ((low ≤ℤ n) × (n ≤ℤ high)) ⊎ Held xs n → Held after n

puts_last : (low high : ℤ) → low ≤ℤ high → Puts low high [] ((low, high) ∷ [])
puts_last low high some = record {
  rises = (some, tt, tt);
  past = λ m before past. before;
  there = λ n h. h;
  back = λ n h. h;
}

puts_before : (low high : ℤ) (x : ℤ × ℤ) (xs : Bounds) → low ≤ℤ high → Rises (x ∷ xs) → (high +ℤ pos 1) <ℤ x.0 →
    Puts low high (x ∷ xs) ((low, high) ∷ x ∷ xs)
puts_before low high x xs some rises apart = record {
  rises = (some, apart, rises);
  past = λ m before past. before;
  there = λ n h. h;
  back = λ n h. h;
}

puts_behind : (low high : ℤ) (x : ℤ × ℤ) (xs after : Bounds) → Rises (x ∷ xs) → (x.1 +ℤ pos 1) <ℤ low →
    Puts low high xs after → Puts low high (x ∷ xs) (x ∷ after)
puts_behind low high x xs after rises apart put = record {
  rises = (rises.0, put.past x.1 apart rises.1, put.rises);
  past = λ m before past. past;
  there = λ n h. ⊎_elim (λ own. inr (inl own))
      (λ others. ⊎_elim (λ here. inl here) (λ old. inr (inr old)) (put.there n others)) h;
  back = λ n h. ⊎_elim (λ here. inr (put.back n (inl here)))
      (λ old. ⊎_elim (λ own. inl own) (λ others. inr (put.back n (inr others))) old) h;
}

past_both : (m low least : ℤ) → (m +ℤ pos 1) <ℤ low → (m +ℤ pos 1) <ℤ least → (m +ℤ pos 1) <ℤ int_min low least
past_both m low least h k = omega (arith, ints, clamps)

begins_rest : (m : ℤ) (x : ℤ × ℤ) (xs : Bounds) → Rises (x ∷ xs) → (m +ℤ pos 1) <ℤ x.0 → BeginsPast m xs
begins_rest m x [] rises h = tt
begins_rest m x (y ∷ ys) rises h =
    let own : x.0 ≤ℤ x.1 = rises.0 in
    let next : (x.1 +ℤ pos 1) <ℤ y.0 = rises.1 in
    omega (arith, ints)

wider_or : (low high least most n : ℤ) → low ≤ℤ high → least ≤ℤ most → least ≤ℤ (high +ℤ pos 1) →
    low ≤ℤ (most +ℤ pos 1) → int_min low least ≤ℤ n → n ≤ℤ int_max high most →
    ((low ≤ℤ n) × (n ≤ℤ high)) ⊎ ((least ≤ℤ n) × (n ≤ℤ most))
wider_or low high least most n some other touches touched above below =
    by_lt_z n low
    (λ front. by_lt_z most n (λ over. absurd (omega (arith, ints, clamps)))
    (λ under. inr (omega (arith, ints, clamps), under)))
    (λ from. by_lt_z high n
    (λ over. inr (by_lt_z n least (λ lower. absurd (omega (arith, ints))) (λ own. own), omega (arith, ints, clamps)))
    (λ within. inl (from, within)))

puts_touching : (low high : ℤ) (x : ℤ × ℤ) (xs after : Bounds) → low ≤ℤ high → Rises (x ∷ xs) →
    x.0 ≤ℤ (high +ℤ pos 1) → low ≤ℤ (x.1 +ℤ pos 1) → Puts (int_min low x.0) (int_max high x.1) xs after →
    Puts low high (x ∷ xs) after
puts_touching low high x xs after some rises touches touched put = record {
  rises = put.rises;
  past = λ m before past. put.past m (past_both m low x.0 before past) (begins_rest m x xs rises past);
  there = λ n h. ⊎_elim
      (λ wide. ⊎_elim (λ here. inl here) (λ own. inr (inl own))
      (wider_or low high x.0 x.1 n some rises.0 touches touched wide.0 wide.1))
      (λ others. inr (inr others)) (put.there n h);
  back = λ n h. ⊎_elim
      (λ here. let least = here.0 in let most = here.1 in
      put.back n (inl (omega (arith, ints, clamps, least), omega (arith, ints, clamps, most))))
      (λ old. ⊎_elim
      (λ own. let least = own.0 in let most = own.1 in
      put.back n (inl (omega (arith, ints, clamps, least), omega (arith, ints, clamps, most))))
      (λ others. put.back n (inr others)) old) h;
}

still_some : (low high least most : ℤ) → low ≤ℤ high → int_min low least ≤ℤ int_max high most
still_some low high least most some = omega (arith, ints, clamps)

put : (xs : Bounds) (low high : ℤ) → low ≤ℤ high → Rises xs → (after : Bounds) × Puts low high xs after
put [] low high some rises = ((low, high) ∷ [], puts_last low high some)
put (x ∷ xs) low high some rises =
    by_lt_z (high +ℤ pos 1) x.0
    (λ apart. ((low, high) ∷ x ∷ xs, puts_before low high x xs some rises apart))
    (λ touches. by_lt_z (x.1 +ℤ pos 1) low
    (λ behind.
    let rest = put xs low high some rises.2 in
    (x ∷ rest.0, puts_behind low high x xs rest.0 rises behind rest.1))
    (λ touched.
    let rest = put xs (int_min low x.0) (int_max high x.1) (still_some low high x.0 x.1 some) rises.2 in
    (rest.0, puts_touching low high x xs rest.0 some rises touches touched rest.1)))

-- ---- rising pairs that hold what some pairs hold

pub record Orders (pairs after : Bounds) : Type 0 where
  pub rises : Rises after
  pub there : (n : ℤ) → Held after n → Held pairs n
  pub back : (n : ℤ) → Held pairs n → Held after n

orders_none : (x : ℤ × ℤ) (xs after : Bounds) → x.1 <ℤ x.0 → Orders xs after → Orders (x ∷ xs) after
orders_none x xs after empty rest = record {
  rises = rest.rises;
  there = λ n h. inr (rest.there n h);
  back = λ n h. ⊎_elim (λ own. let low = own.0 in let high = own.1 in absurd (omega (arith, ints, low, high)))
      (λ others. rest.back n others) h;
}

orders_more : (x : ℤ × ℤ) (xs before after : Bounds) → Orders xs before → Puts x.0 x.1 before after →
    Orders (x ∷ xs) after
orders_more x xs before after rest put = record {
  rises = put.rises;
  there = λ n h. ⊎_elim (λ own. inl own) (λ others. inr (rest.there n others)) (put.there n h);
  back = λ n h. put.back n (⊎_elim (λ own. inl own) (λ others. inr (rest.back n others)) h);
}

pub in_order : (xs : Bounds) → (after : Bounds) × Orders xs after
in_order [] = ([], record { rises = tt; there = λ n h. h; back = λ n h. h })
in_order (x ∷ xs) =
    let rest = in_order xs in
    by_lt_z x.1 x.0 (λ empty. (rest.0, orders_none x xs rest.0 empty rest.1))
    (λ some.
    let more = put rest.0 x.0 x.1 some rest.1.rises in
    (more.0, orders_more x xs rest.0 more.0 rest.1 more.1))
