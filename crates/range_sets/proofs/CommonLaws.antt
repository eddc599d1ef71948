-- CommonLaws: what two lists of rising pairs both hold, found by going along both (X.680, section 50).
use Rattle.std.proofs.Common.{◌≡◌, ℕ, ℤ, pos, ◌≤◌, ◌<◌, ◌≤ℤ◌, ◌<ℤ◌, ◌+ℤ◌, Bool, true, false, ◌&&◌, [], ◌∷◌, ◌++◌, length}
use Rattle.std.proofs.Common.{refl, sym, subst, ◌⊎◌, inl, inr, arith, append-nil, ◌+◌, get_or, drop}
use Rattle.std.proofs.lemmas.List.{drop_all, drop_more}
use Rattle.std.proofs.lemmas.Int.{ints, clamps}
use Rattle.std.specs.Int.{int_max, int_min}
use Rattle.std.specs.Prelude.{int_le, cond}
use Rattle.term_values.specs.Syntaxes.{Bounds}
use Rattle.range_sets.specs.RangeSteps.{Held, BeginsPast, Rises, common_pair}
use Rattle.range_sets.proofs.HeldLaws.{held_front, held_behind, held_parts, true_le, same_tests}
use Rattle.range_sets.proofs.HeldLaws.{allowed_held, held_allowed, both_hold, hold_both}
use Rattle.term_values.specs.Bounded.{one_allows}
use Rattle.range_sets.proofs.RisingLaws.{EndBefore, put_behind}

-- ---- what is behind a pair begins past it

pub beyond : (m n : ℤ) (xs : Bounds) → BeginsPast m xs → Rises xs → Held xs n → (m +ℤ pos 1) <ℤ n
beyond m n [] past rises h = absurd h
beyond m n (x ∷ xs) past rises (inl own) = let low : x.0 ≤ℤ n = own.0 in omega (arith, ints)
beyond m n (x ∷ xs) past rises (inr others) =
    let further : (x.1 +ℤ pos 1) <ℤ n = beyond x.1 n xs rises.1 rises.2 others in
    let own : x.0 ≤ℤ x.1 = rises.0 in
    omega (arith, ints)

-- ---- what two pairs both hold

within_common : (x y : ℤ × ℤ) (n : ℤ) → x.0 ≤ℤ n → n ≤ℤ x.1 → y.0 ≤ℤ n → n ≤ℤ y.1 →
    (int_max x.0 y.0 ≤ℤ n) × (n ≤ℤ int_min x.1 y.1)
within_common x y n a b c d = (omega (arith, ints, clamps), omega (arith, ints, clamps))

some_common : (x y : ℤ × ℤ) (n : ℤ) → int_max x.0 y.0 ≤ℤ n → n ≤ℤ int_min x.1 y.1 →
    int_le (int_max x.0 y.0) (int_min x.1 y.1) ≡ true
some_common x y n h k = let some : int_max x.0 y.0 ≤ℤ int_min x.1 y.1 = omega (arith, ints) in grind (arith, ints)

pub both_common : (x y : ℤ × ℤ) (n : ℤ) → x.0 ≤ℤ n → n ≤ℤ x.1 → y.0 ≤ℤ n → n ≤ℤ y.1 → Held (common_pair x y) n
both_common x y n a b c d =
    let within = within_common x y n a b c d in
    let P : Bool → Type 0 = λ t. Held (cond t ((int_max x.0 y.0, int_min x.1 y.1) ∷ []) []) n in
    subst P (sym (some_common x y n within.0 within.1)) (inl within)

common_within : (x y : ℤ × ℤ) (n : ℤ) → int_max x.0 y.0 ≤ℤ n → n ≤ℤ int_min x.1 y.1 →
    ((x.0 ≤ℤ n) × (n ≤ℤ x.1)) × ((y.0 ≤ℤ n) × (n ≤ℤ y.1))
common_within x y n h k = (
  (omega (arith, ints, clamps), omega (arith, ints, clamps)),
  (omega (arith, ints, clamps), omega (arith, ints, clamps)),
)

from_test : (x y : ℤ × ℤ) (n : ℤ) (t : Bool) → Held (cond t ((int_max x.0 y.0, int_min x.1 y.1) ∷ []) []) n →
    ((x.0 ≤ℤ n) × (n ≤ℤ x.1)) × ((y.0 ≤ℤ n) × (n ≤ℤ y.1))
from_test x y n true (inl within) = common_within x y n within.0 within.1
from_test x y n true (inr no_more) = absurd no_more
from_test x y n false h = absurd h

pub common_both : (x y : ℤ × ℤ) (n : ℤ) → Held (common_pair x y) n →
    ((x.0 ≤ℤ n) × (n ≤ℤ x.1)) × ((y.0 ≤ℤ n) × (n ≤ℤ y.1))
common_both x y n = from_test x y n (int_le (int_max x.0 y.0) (int_min x.1 y.1))

-- ---- how far both lists are gone through: what both hold is held already, or by what is left of each

pub record Gone (xs ys both front behind : Bounds) : Type 0 where
  pub rises : Rises both
  pub front_rises : Rises front
  pub behind_rises : Rises behind
  pub ahead : (n : ℤ) → Held front n → Held behind n → EndBefore n both
  pub there : (n : ℤ) → Held xs n → Held ys n → Held both n ⊎ (Held front n × Held behind n)
  pub held : (n : ℤ) → Held both n → Held xs n × Held ys n
  pub left : (n : ℤ) → Held front n → Held xs n
  pub right : (n : ℤ) → Held behind n → Held ys n

pub gone_none : (xs ys : Bounds) → Rises xs → Rises ys → Gone xs ys [] xs ys
gone_none xs ys h k = record {
  rises = tt;
  front_rises = h;
  behind_rises = k;
  ahead = λ n a b. tt;
  there = λ n a b. inr (a, b);
  held = λ n a. absurd a;
  left = λ n a. a;
  right = λ n a. a;
}

-- ---- what both hold of one pair and of another is put behind

abbrev greatest_least : ℤ × ℤ → ℤ × ℤ → ℤ
greatest_least x y = int_max x.0 y.0

abbrev least_greatest : ℤ × ℤ → ℤ × ℤ → ℤ
least_greatest x y = int_min x.1 y.1

at_least : (x y : ℤ × ℤ) → greatest_least x y ≤ℤ least_greatest x y →
    ((x.0 ≤ℤ greatest_least x y) × (greatest_least x y ≤ℤ x.1))
    × ((y.0 ≤ℤ greatest_least x y) × (greatest_least x y ≤ℤ y.1))
at_least x y h = (
  (omega (arith, ints, clamps), omega (arith, ints, clamps)),
  (omega (arith, ints, clamps), omega (arith, ints, clamps)),
)

put_test : (both : Bounds) (x y : ℤ × ℤ) → Rises both →
    ((n : ℤ) → (x.0 ≤ℤ n) × (n ≤ℤ x.1) → (y.0 ≤ℤ n) × (n ≤ℤ y.1) → EndBefore n both) → (t : Bool) →
    int_le (greatest_least x y) (least_greatest x y) ≡ t →
    Rises (both ++ cond t ((greatest_least x y, least_greatest x y) ∷ []) [])
put_test both x y rises ahead true is =
    let some = true_le (greatest_least x y) (least_greatest x y) is in
    let within = at_least x y some in
    put_behind both (greatest_least x y, least_greatest x y) rises (ahead (greatest_least x y) within.0 within.1) some
put_test both x y rises ahead false is = subst Rises (sym (append-nil both)) rises

put_common : (both : Bounds) (x y : ℤ × ℤ) → Rises both →
    ((n : ℤ) → (x.0 ≤ℤ n) × (n ≤ℤ x.1) → (y.0 ≤ℤ n) × (n ≤ℤ y.1) → EndBefore n both) → Rises (both ++ common_pair x y)
put_common both x y rises ahead =
    put_test both x y rises ahead (int_le (greatest_least x y) (least_greatest x y)) refl

end_also : (n : ℤ) (xs : Bounds) (p : ℤ × ℤ) → EndBefore n xs → (p.1 +ℤ pos 1) <ℤ n → EndBefore n (xs ++ p ∷ [])
end_also n [] p h k = (k, tt)
end_also n (x ∷ xs) p h k = (h.0, end_also n xs p h.1 k)

end_test : (n : ℤ) (both : Bounds) (p : ℤ × ℤ) (t : Bool) → EndBefore n both → (p.1 +ℤ pos 1) <ℤ n →
    EndBefore n (both ++ cond t (p ∷ []) [])
end_test n both p true h k = end_also n both p h k
end_test n both p false h k = subst (EndBefore n) (sym (append-nil both)) h

least_left : (x y : ℤ × ℤ) (n : ℤ) → (x.1 +ℤ pos 1) <ℤ n → (least_greatest x y +ℤ pos 1) <ℤ n
least_left x y n h = omega (arith, ints, clamps)

least_right : (x y : ℤ × ℤ) (n : ℤ) → (y.1 +ℤ pos 1) <ℤ n → (least_greatest x y +ℤ pos 1) <ℤ n
least_right x y n h = omega (arith, ints, clamps)

end_common : (n : ℤ) (both : Bounds) (x y : ℤ × ℤ) → EndBefore n both → (least_greatest x y +ℤ pos 1) <ℤ n →
    EndBefore n (both ++ common_pair x y)
end_common n both x y =
    end_test n both (greatest_least x y, least_greatest x y) (int_le (greatest_least x y) (least_greatest x y))

-- ---- the next pair of one list

held_also : (xs ys both front behind : Bounds) (x y : ℤ × ℤ) → Gone xs ys both (x ∷ front) (y ∷ behind) → (n : ℤ) →
    Held (both ++ common_pair x y) n → Held xs n × Held ys n
held_also xs ys both front behind x y g n h =
    elim (held_parts n both (common_pair x y) h) [
      | inl before ↦ g.held n before
      | inr added ↦ (let within = common_both x y n added in (g.left n (inl within.0), g.right n (inl within.1)))
    ]

not_past : (a b n : ℤ) → a ≤ℤ b → n ≤ℤ a → (b +ℤ pos 1) <ℤ n → ⊥
not_past a b n h k past = absurd (omega (arith, ints))

there_left : (both front behind : Bounds) (x y : ℤ × ℤ) → Rises (y ∷ behind) → x.1 ≤ℤ y.1 → (n : ℤ) →
    Held (x ∷ front) n → Held (y ∷ behind) n →
    Held (both ++ common_pair x y) n ⊎ (Held front n × Held (y ∷ behind) n)
there_left both front behind x y rises order n (inr further) other = inr (further, other)
there_left both front behind x y rises order n (inl own) (inl other) =
    inl (held_behind n both (common_pair x y) (both_common x y n own.0 own.1 other.0 other.1))
there_left both front behind x y rises order n (inl own) (inr others) =
    absurd (not_past x.1 y.1 n order own.1 (beyond y.1 n behind rises.1 rises.2 others))

there_right : (both front behind : Bounds) (x y : ℤ × ℤ) → Rises (x ∷ front) → y.1 ≤ℤ x.1 → (n : ℤ) →
    Held (x ∷ front) n → Held (y ∷ behind) n →
    Held (both ++ common_pair x y) n ⊎ (Held (x ∷ front) n × Held behind n)
there_right both front behind x y rises order n own (inr further) = inr (own, further)
there_right both front behind x y rises order n (inl own) (inl other) =
    inl (held_behind n both (common_pair x y) (both_common x y n own.0 own.1 other.0 other.1))
there_right both front behind x y rises order n (inr others) (inl other) =
    absurd (not_past y.1 x.1 n order other.1 (beyond x.1 n front rises.1 rises.2 others))

either_way : (A B C : Type 0) → A ⊎ B → (A → C) → (B → C) → C
either_way A B C (inl a) f g = f a
either_way A B C (inr b) f g = g b

pub next_left : (xs ys both front behind : Bounds) (x y : ℤ × ℤ) → x.1 ≤ℤ y.1 →
    Gone xs ys both (x ∷ front) (y ∷ behind) → Gone xs ys (both ++ common_pair x y) front (y ∷ behind)
next_left xs ys both front behind x y order g = record {
  rises = put_common both x y g.rises (λ n a b. g.ahead n (inl a) (inl b));
  front_rises = g.front_rises.2;
  behind_rises = g.behind_rises;
  ahead = λ n a b. end_common n both x y (g.ahead n (inr a) b)
      (least_left x y n (beyond x.1 n front g.front_rises.1 g.front_rises.2 a));
  there = λ n a b. either_way (Held both n) (Held (x ∷ front) n × Held (y ∷ behind) n)
      (Held (both ++ common_pair x y) n ⊎ (Held front n × Held (y ∷ behind) n)) (g.there n a b)
      (λ before. inl (held_front n both (common_pair x y) before))
      (λ left. there_left both front behind x y g.behind_rises order n left.0 left.1);
  held = held_also xs ys both front behind x y g;
  left = λ n a. g.left n (inr a);
  right = g.right;
}

pub next_right : (xs ys both front behind : Bounds) (x y : ℤ × ℤ) → y.1 ≤ℤ x.1 →
    Gone xs ys both (x ∷ front) (y ∷ behind) → Gone xs ys (both ++ common_pair x y) (x ∷ front) behind
next_right xs ys both front behind x y order g = record {
  rises = put_common both x y g.rises (λ n a b. g.ahead n (inl a) (inl b));
  front_rises = g.front_rises;
  behind_rises = g.behind_rises.2;
  ahead = λ n a b. end_common n both x y (g.ahead n a (inr b))
      (least_right x y n (beyond y.1 n behind g.behind_rises.1 g.behind_rises.2 b));
  there = λ n a b. either_way (Held both n) (Held (x ∷ front) n × Held (y ∷ behind) n)
      (Held (both ++ common_pair x y) n ⊎ (Held (x ∷ front) n × Held behind n)) (g.there n a b)
      (λ before. inl (held_front n both (common_pair x y) before))
      (λ left. there_right both front behind x y g.front_rises order n left.0 left.1);
  held = held_also xs ys both front behind x y g;
  left = g.left;
  right = λ n a. g.right n (inr a);
}

-- ---- where one list is at its end

pub gone_front : (xs ys both behind : Bounds) → Gone xs ys both [] behind → (n : ℤ) →
    one_allows both n ≡ (one_allows xs n && one_allows ys n)
gone_front xs ys both behind g n = same_tests (one_allows both n) (one_allows xs n && one_allows ys n)
    (λ h. let parts = g.held n (allowed_held n both h) in both_hold n xs ys parts.0 parts.1)
    (λ h.
    let parts = hold_both n xs ys h in
    either_way (Held both n) (⊥ × Held behind n) (one_allows both n ≡ true) (g.there n parts.0 parts.1)
    (held_allowed n both) (λ left. absurd left.0))

pub gone_behind : (xs ys both front : Bounds) → Gone xs ys both front [] → (n : ℤ) →
    one_allows both n ≡ (one_allows xs n && one_allows ys n)
gone_behind xs ys both front g n = same_tests (one_allows both n) (one_allows xs n && one_allows ys n)
    (λ h. let parts = g.held n (allowed_held n both h) in both_hold n xs ys parts.0 parts.1)
    (λ h.
    let parts = hold_both n xs ys h in
    either_way (Held both n) (Held front n × ⊥) (one_allows both n ≡ true) (g.there n parts.0 parts.1)
    (held_allowed n both) (λ left. absurd left.1))

-- ---- the same by places

pub next_left_at : (xs ys both new : Bounds) (i j : ℕ) (d : ℤ × ℤ) → i < length xs → j < length ys →
    new ≡ both ++ common_pair (get_or xs i d) (get_or ys j d) → (get_or xs i d).1 ≤ℤ (get_or ys j d).1 →
    Gone xs ys both (drop i xs) (drop j ys) → Gone xs ys new (drop (i + 1) xs) (drop j ys)
next_left_at xs ys both new i j d within beside is order g =
    let x = get_or xs i d in
    let y = get_or ys j d in
    let front = drop_more xs i d within in
    let behind = drop_more ys j d beside in
    let split = subst (λ zs. Gone xs ys both (drop i xs) zs) behind g in
    let both_split = subst (λ zs. Gone xs ys both zs (y ∷ drop (j + 1) ys)) front split in
    let next = next_left xs ys both (drop (i + 1) xs) (drop (j + 1) ys) x y order both_split in
    let back = subst (λ zs. Gone xs ys (both ++ common_pair x y) (drop (i + 1) xs) zs) (sym behind) next in
    subst (λ zs. Gone xs ys zs (drop (i + 1) xs) (drop j ys)) (sym is) back

pub next_right_at : (xs ys both new : Bounds) (i j : ℕ) (d : ℤ × ℤ) → i < length xs → j < length ys →
    new ≡ both ++ common_pair (get_or xs i d) (get_or ys j d) → (get_or ys j d).1 ≤ℤ (get_or xs i d).1 →
    Gone xs ys both (drop i xs) (drop j ys) → Gone xs ys new (drop i xs) (drop (j + 1) ys)
next_right_at xs ys both new i j d within beside is order g =
    let x = get_or xs i d in
    let y = get_or ys j d in
    let front = drop_more xs i d within in
    let behind = drop_more ys j d beside in
    let split = subst (λ zs. Gone xs ys both (drop i xs) zs) behind g in
    let both_split = subst (λ zs. Gone xs ys both zs (y ∷ drop (j + 1) ys)) front split in
    let next = next_right xs ys both (drop (i + 1) xs) (drop (j + 1) ys) x y order both_split in
    let back = subst (λ zs. Gone xs ys (both ++ common_pair x y) zs (drop (j + 1) ys)) (sym front) next in
    subst (λ zs. Gone xs ys zs (drop i xs) (drop (j + 1) ys)) (sym is) back

-- ---- where one list is at its end

pub record Ends (xs ys both : Bounds) : Type 0 where
  pub rises : Rises both
  pub same : (n : ℤ) → one_allows both n ≡ (one_allows xs n && one_allows ys n)

pub ends_front : (xs ys both : Bounds) (i j : ℕ) → length xs ≤ i → Gone xs ys both (drop i xs) (drop j ys) →
    Ends xs ys both
ends_front xs ys both i j far g =
    let none = subst (λ zs. Gone xs ys both zs (drop j ys)) (drop_all i xs far) g in
    record { rises = g.rises; same = gone_front xs ys both (drop j ys) none }

pub ends_behind : (xs ys both : Bounds) (i j : ℕ) → length ys ≤ j → Gone xs ys both (drop i xs) (drop j ys) →
    Ends xs ys both
ends_behind xs ys both i j far g =
    let none = subst (λ zs. Gone xs ys both (drop i xs) zs) (drop_all j ys far) g in
    record { rises = g.rises; same = gone_behind xs ys both (drop i xs) none }
