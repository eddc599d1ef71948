-- RisingLaws: rising pairs, and a range that is added behind them (X.680, section 50).
use Rattle.std.proofs.Common.{◌≡◌, ℕ, ℤ, pos, ◌≤◌, ◌<◌, ◌≤ℤ◌, ◌<ℤ◌, ◌+ℤ◌, false, Ordering, true≢false, [], ◌∷◌, ◌++◌, length}
use Rattle.std.proofs.Common.{IsSorted, get_or, refl, sym, ap, ◌∙◌, ◌⊎◌, inl, inr, arith, ◌+◌, subst, take}
use Rattle.std.proofs.lemmas.List.{get_or_default, take_more}
use Rattle.std.proofs.lemmas.Cmp.{int_cmp_total, on_total, then_total, int_ranked, by_ranked}
use Rattle.std.proofs.lemmas.Int.{ints, clamps, by_lt_z}
use Rattle.std.proofs.lemmas.List.Sorted.{ranks_by, sorted_far}
use Rattle.std.specs.Int.{int_max}
use Rattle.std.specs.Ordering.{int_cmp, is_lt, ordering_then}
use Rattle.term_values.specs.Bounded.{one_allows}
use Rattle.term_values.specs.Syntaxes.{Bounds}
use Rattle.range_sets.specs.RangeSets.{IsRising, AreRising}
use Rattle.range_sets.specs.RangeSets.IsRising.{last, more}
use Rattle.range_sets.specs.RangeSteps.{Held, BeginsPast, Rises, BeginBy, Joins, IsInOrder}
use Rattle.range_sets.proofs.HeldLaws.{allowed_held, held_allowed, held_front, held_behind, held_parts, same_held}

-- ---- the two forms of rising

some_rise : (x : ℤ × ℤ) (xs : Bounds) → Rises (x ∷ xs) → IsRising (x ∷ xs)
some_rise x [] h = last h.0
some_rise x (y ∷ ys) h = more h.0 h.1 (some_rise y ys h.2)

pub rise_told : (xs : Bounds) → Rises xs → AreRising xs
rise_told [] h = inr refl
rise_told (x ∷ xs) h = inl (some_rise x xs h)

rising_rises : (xs : Bounds) → IsRising xs → Rises xs
rising_rises [] h = elim h [ ]
rising_rises (x ∷ []) (last held) = (held, tt, tt)
rising_rises (x ∷ y ∷ ys) (more held apart rest) = (held, apart, rising_rises (y ∷ ys) rest)

pub told_rise : (xs : Bounds) → AreRising xs → Rises xs
told_rise xs (inl h) = rising_rises xs h
told_rise [] (inr h) = tt
told_rise (x ∷ xs) (inr h) = absurd (cc)

-- ---- all pairs end before the number next to this one

abbrev pub EndBefore : ℤ → Bounds → Type 0
EndBefore n [] = Unit {0}
EndBefore n (pair ∷ pairs) = ((pair.1 +ℤ pos 1) <ℤ n) × EndBefore n pairs

begins_past_front : (n : ℤ) (xs : Bounds) (q : ℤ × ℤ) → BeginsPast n xs → (n +ℤ pos 1) <ℤ q.0 →
    BeginsPast n (xs ++ q ∷ [])
begins_past_front n [] q h k = k
begins_past_front n (x ∷ xs) q h k = h

pub put_behind : (xs : Bounds) (q : ℤ × ℤ) → Rises xs → EndBefore q.0 xs → q.0 ≤ℤ q.1 → Rises (xs ++ q ∷ [])
put_behind [] q h k some = (some, tt, tt)
put_behind (x ∷ xs) q h k some = (h.0, begins_past_front x.1 xs q h.1 k.0, put_behind xs q h.2 k.1 some)

before_last : (m n : ℤ) (xs : Bounds) (p : ℤ × ℤ) → BeginsPast m (xs ++ p ∷ []) → Rises (xs ++ p ∷ []) →
    (p.1 +ℤ pos 1) <ℤ n
    → (m +ℤ pos 1) <ℤ n
before_last m n [] p past rises h = let own : p.0 ≤ℤ p.1 = rises.0 in omega (arith, ints)
before_last m n (x ∷ xs) p past rises h =
    let further : (x.1 +ℤ pos 1) <ℤ n = before_last x.1 n xs p rises.1 rises.2 h in
    let own : x.0 ≤ℤ x.1 = rises.0 in
    omega (arith, ints)

pub end_before : (xs : Bounds) (p : ℤ × ℤ) (n : ℤ) → Rises (xs ++ p ∷ []) → (p.1 +ℤ pos 1) <ℤ n →
    EndBefore n (xs ++ p ∷ [])
end_before [] p n rises h = (h, tt)
end_before (x ∷ xs) p n rises h = (before_last x.1 n xs p rises.1 rises.2 h, end_before xs p n rises.2 h)

-- ---- the last pair grows

past_wider : (n : ℤ) (xs : Bounds) (b l g : ℤ) → BeginsPast n (xs ++ (b, l) ∷ []) → BeginsPast n (xs ++ (b, g) ∷ [])
past_wider n [] b l g h = h
past_wider n (x ∷ xs) b l g h = h

pub rises_wider : (xs : Bounds) (b l g : ℤ) → Rises (xs ++ (b, l) ∷ []) → l ≤ℤ g → Rises (xs ++ (b, g) ∷ [])
rises_wider [] b l g h k = let own : b ≤ℤ l = h.0 in (omega (arith, ints), tt, tt)
rises_wider (x ∷ xs) b l g h k = (h.0, past_wider x.1 xs b l g h.1, rises_wider xs b l g h.2 k)

pub begin_wider : (n : ℤ) (xs : Bounds) (b l g : ℤ) → BeginBy n (xs ++ (b, l) ∷ []) → BeginBy n (xs ++ (b, g) ∷ [])
begin_wider n [] b l g h = h
begin_wider n (x ∷ xs) b l g h = (h.0, begin_wider n xs b l g h.1)

pub begin_also : (n : ℤ) (xs : Bounds) (q : ℤ × ℤ) → BeginBy n xs → q.0 ≤ℤ n → BeginBy n (xs ++ q ∷ [])
begin_also n [] q h k = (k, tt)
begin_also n (x ∷ xs) q h k = (h.0, begin_also n xs q h.1 k)

last_rises : (xs : Bounds) (p : ℤ × ℤ) → Rises (xs ++ p ∷ []) → p.0 ≤ℤ p.1
last_rises [] p h = h.0
last_rises (x ∷ xs) p h = last_rises xs p h.2

last_begins : (n : ℤ) (xs : Bounds) (p : ℤ × ℤ) → BeginBy n (xs ++ p ∷ []) → p.0 ≤ℤ n
last_begins n [] p h = h.0
last_begins n (x ∷ xs) p h = last_begins n xs p h.1

-- ---- a range is added

pub joins_none : (xs : Bounds) (pair : ℤ × ℤ) → pair.1 <ℤ pair.0 → Joins xs pair xs
joins_none xs pair h = record {
  rises = λ r. r;
  begin = λ n k b. b;
  held = λ r b n k. inl k;
  kept = λ r b n k. elim k [
    | inl own ↦ own
    | inr other ↦ elim other [
      | inl within ↦ absurd (omega (arith, ints, within.0, within.1))
      | inr no_more ↦ absurd no_more
    ]
  ];
}

pub joins_apart : (xs : Bounds) (p pair : ℤ × ℤ) → (p.1 +ℤ pos 1) <ℤ pair.0 → pair.0 ≤ℤ pair.1 →
    Joins (xs ++ p ∷ []) pair ((xs ++ p ∷ []) ++ pair ∷ [])
joins_apart xs p pair apart some = record {
  rises = λ r. put_behind (xs ++ p ∷ []) pair r (end_before xs p pair.0 r apart) some;
  begin = λ n k b. begin_also n (xs ++ p ∷ []) pair b k;
  held = λ r b n k. held_parts n (xs ++ p ∷ []) (pair ∷ []) k;
  kept = λ r b n k. elim k [
    | inl own ↦ held_front n (xs ++ p ∷ []) (pair ∷ []) own
    | inr other ↦ held_behind n (xs ++ p ∷ []) (pair ∷ []) other
  ];
}

pub joins_first : (pair : ℤ × ℤ) → pair.0 ≤ℤ pair.1 → Joins [] pair (pair ∷ [])
joins_first pair some = record {
  rises = λ r. (some, tt, tt);
  begin = λ n k b. (k, tt);
  held = λ r b n k. inr k;
  kept = λ r b n k. elim k [ inl own ↦ absurd own | inr other ↦ other ];
}

at_most_wider : (l g n : ℤ) → n ≤ℤ l → n ≤ℤ int_max l g
at_most_wider l g n h = omega (arith, ints, clamps)

at_most_other : (l g n : ℤ) → n ≤ℤ g → n ≤ℤ int_max l g
at_most_other l g n h = omega (arith, ints, clamps)

from_begin : (b least n : ℤ) → b ≤ℤ least → least ≤ℤ n → b ≤ℤ n
from_begin b least n h k = omega (arith, ints)

wider_held : (b l least g : ℤ) (n : ℤ) → b ≤ℤ least → least ≤ℤ (l +ℤ pos 1) → b ≤ℤ n → n ≤ℤ int_max l g →
    Held ((b, l) ∷ []) n ⊎ Held ((least, g) ∷ []) n
wider_held b l least g n begins touches low high =
    by_lt_z l n (λ above. inr (inl (omega (arith, ints), omega (arith, ints, clamps))))
    (λ below. inl (inl (low, below)))

held_touching : (xs : Bounds) (b l : ℤ) (pair : ℤ × ℤ) → pair.0 ≤ℤ (l +ℤ pos 1) → Rises (xs ++ (b, l) ∷ []) →
    BeginBy pair.0 (xs ++ (b, l) ∷ []) → (n : ℤ) → Held (xs ++ (b, int_max l pair.1) ∷ []) n →
    Held (xs ++ (b, l) ∷ []) n ⊎ Held (pair ∷ []) n
held_touching xs b l pair touches r h n k =
    elim (held_parts n xs ((b, int_max l pair.1) ∷ []) k) [
      | inl front ↦ inl (held_front n xs ((b, l) ∷ []) front)
      | inr own ↦ elim own [
        | inl within ↦
            elim (wider_held b l pair.0 pair.1 n (last_begins pair.0 xs (b, l) h) touches within.0 within.1) [
              | inl before ↦ inl (held_behind n xs ((b, l) ∷ []) before)
              | inr added ↦ inr added
            ]
        | inr no_more ↦ absurd no_more
      ]
    ]

kept_touching : (xs : Bounds) (b l : ℤ) (pair : ℤ × ℤ) → Rises (xs ++ (b, l) ∷ []) →
    BeginBy pair.0 (xs ++ (b, l) ∷ []) → (n : ℤ) → Held (xs ++ (b, l) ∷ []) n ⊎ Held (pair ∷ []) n →
    Held (xs ++ (b, int_max l pair.1) ∷ []) n
kept_touching xs b l pair r h n (inl before) =
    elim (held_parts n xs ((b, l) ∷ []) before) [
      | inl front ↦ held_front n xs ((b, int_max l pair.1) ∷ []) front
      | inr own ↦ elim own [
        | inl within ↦ held_behind n xs ((b, int_max l pair.1) ∷ []) (inl (within.0, at_most_wider l pair.1 n within.1))
        | inr no_more ↦ absurd no_more
      ]
    ]
kept_touching xs b l pair r h n (inr added) =
    elim added [
      | inl within ↦
          held_behind n xs ((b, int_max l pair.1) ∷ []) (inl (
            from_begin b pair.0 n (last_begins pair.0 xs (b, l) h) within.0,
            at_most_other l pair.1 n within.1,
          ))
      | inr no_more ↦ absurd no_more
    ]

pub joins_touching : (xs : Bounds) (b l : ℤ) (pair : ℤ × ℤ) → pair.0 ≤ℤ (l +ℤ pos 1) → pair.0 ≤ℤ pair.1 →
    Joins (xs ++ (b, l) ∷ []) pair (xs ++ (b, int_max l pair.1) ∷ [])
joins_touching xs b l pair touches some = record {
  rises = λ r. rises_wider xs b l (int_max l pair.1) r (omega (arith, ints, clamps));
  begin = λ n k h. begin_wider n xs b l (int_max l pair.1) h;
  held = λ r h n k. held_touching xs b l pair touches r h n k;
  kept = λ r h n k. kept_touching xs b l pair r h n k;
}

-- ---- pairs by their first numbers

first_no_later : (x y : ℤ × ℤ) (o : Ordering) → o ≡ int_cmp y.0 x.0 →
    is_lt (ordering_then o (int_cmp y.1 x.1)) ≡ false →
    x.0 ≤ℤ y.0
first_no_later x y o e h =
    by_ranked (y.0 <ℤ x.0) (y.0 ≡ x.0) (x.0 <ℤ y.0) o (int_ranked y.0 x.0 o e)
    (λ is less. absurd (true≢false (ap (λ t. is_lt (ordering_then t (int_cmp y.1 x.1))) (sym is) ∙ h)))
    (λ is same. omega (arith, ints, same)) (λ is more. omega (arith, ints, more))

pub sorted_in_order : (xs : Bounds) → IsSorted (λ x y. ordering_then (int_cmp x.0 y.0) (int_cmp x.1 y.1)) xs →
    IsInOrder xs
sorted_in_order xs h i j other k within =
    first_no_later (get_or xs i other) (get_or xs j other) (int_cmp (get_or xs j other).0 (get_or xs i other).0) refl
    (sorted_far (λ x y. is_lt (ordering_then (int_cmp x.0 y.0) (int_cmp x.1 y.1)))
    (ranks_by (then_total (on_total (λ (x : ℤ × ℤ). x.0) int_cmp_total) (on_total (λ (x : ℤ × ℤ). x.1) int_cmp_total))
    (λ x. x)) xs h i j other k within)

-- ---- one more of the pairs in order is joined

pub record Joined (xs : Bounds) (index : ℕ) (joined : Bounds) : Type 0 where
  pub rises : Rises joined
  pub begin : (k : ℕ) (other : ℤ × ℤ) → index ≤ k → k < length xs → BeginBy (get_or xs k other).0 joined
  pub same : (n : ℤ) → one_allows joined n ≡ one_allows (take index xs) n

also_held : (n : ℤ) (xs ys : Bounds) → one_allows xs n ≡ one_allows ys n → Held xs n → Held ys n
also_held n xs ys same h = allowed_held n ys (sym same ∙ held_allowed n xs h)

to_list : (n : ℤ) (xs ys zs : Bounds) → one_allows xs n ≡ one_allows ys n → Held xs n ⊎ Held zs n → Held (ys ++ zs) n
to_list n xs ys zs same (inl before) = held_front n ys zs (also_held n xs ys same before)
to_list n xs ys zs same (inr added) = held_behind n ys zs added

from_list : (n : ℤ) (xs ys zs : Bounds) → one_allows xs n ≡ one_allows ys n → Held ys n ⊎ Held zs n →
    Held xs n ⊎ Held zs n
from_list n xs ys zs same (inl before) = inl (also_held n ys xs (sym same) before)
from_list n xs ys zs same (inr added) = inr added

pub joined_none : (xs : Bounds) → Joined xs 0 []
joined_none xs = record { rises = tt; begin = λ k other above below. tt; same = λ n. refl }

pub joined_more : (xs joined new : Bounds) (i : ℕ) (d : ℤ × ℤ) → IsInOrder xs → i < length xs →
    Joins joined (get_or xs i d) new → Joined xs i joined → Joined xs (i + 1) new
joined_more xs joined new i d order within joins before = record {
  rises = joins.rises before.rises;
  begin = λ k other above below.
      joins.begin (get_or xs k other).0
      (subst (λ (z : ℤ × ℤ). z.0 ≤ℤ (get_or xs k other).0) (get_or_default xs i other d within)
      (order i k other (omega arith) below))
      (before.begin k other (omega arith) below);
  same = λ n.
      let own = before.begin i d (omega arith) within in
      let x = get_or xs i d in
      same_held n new (take i xs ++ x ∷ [])
      (λ h. to_list n joined (take i xs) (x ∷ []) (before.same n) (joins.held before.rises own n h))
      (λ h. joins.kept before.rises own n
      (from_list n joined (take i xs) (x ∷ []) (before.same n) (held_parts n (take i xs) (x ∷ []) h)))
      ∙ ap (λ zs. one_allows zs n) (sym (take_more xs i d within));
}

-- ---- the same by equations of lists

pub joins_apart_is : (old front new : Bounds) (p pair : ℤ × ℤ) → old ≡ front ++ p ∷ [] →
    new ≡ (front ++ p ∷ []) ++ pair ∷ [] → (p.1 +ℤ pos 1) <ℤ pair.0 → pair.0 ≤ℤ pair.1 → Joins old pair new
joins_apart_is old front new p pair was is apart some =
    subst (λ zs. Joins zs pair new) (sym was)
    (subst (λ zs. Joins (front ++ p ∷ []) pair zs) (sym is) (joins_apart front p pair apart some))

pub joins_touching_is : (old front new : Bounds) (b l g : ℤ) (pair : ℤ × ℤ) → old ≡ front ++ (b, l) ∷ [] →
    new ≡ front ++ (b, g) ∷ [] → g ≡ int_max l pair.1 → pair.0 ≤ℤ (l +ℤ pos 1) → pair.0 ≤ℤ pair.1 → Joins old pair new
joins_touching_is old front new b l g pair was is greatest touches some =
    subst (λ zs. Joins zs pair new) (sym was)
    (subst (λ zs. Joins (front ++ (b, l) ∷ []) pair zs) (sym (is ∙ ap (λ z. front ++ (b, z) ∷ []) greatest))
    (joins_touching front b l pair touches some))
