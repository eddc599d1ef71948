-- Laws of the order of members, and of lists in that order.
use Rattle.std.proofs.Common.{◌≡◌, ◌<◌, ◌≤◌, ℕ, zero, suc, true, false, not, List, [], ◌∷◌, ◌++◌, length, take, drop}
use Rattle.std.proofs.Common.{Ordering, Less, Equal, Greater, nat_cmp, is_gt, refl, sym, ap, ◌∙◌, subst, inl, inr}
use Rattle.std.proofs.Common.{⊎_elim, true≢false, arith, append_assoc}
use Rattle.std.specs.Cmp.{nat_cmp_is, ranks}
use Rattle.std.specs.Cmp.Lexicographic.{slice_cmp}
use Rattle.std.specs.FinMap.{nat_cmp-IsAntisymmetric, slice_cmp-IsAntisymmetric}
use Rattle.std.specs.Ordering.{ordering_then, ordering_reverse, MatchOrdering}
use Rattle.std.proofs.lemmas.Cmp.{nat_list_cmp_total}
use Rattle.std.proofs.lemmas.List.{take-append-drop}
use Rattle.std.proofs.lemmas.Bool.{false_from_ne_true}
use Rattle.term_values.specs.Rearranged.{may_precede}
use Rattle.term_values.specs.Typed.{TypedValue, listed}
use Rattle.term_values.proofs.RisingLaws.{may_precede_itself, may_precede_back, may_precede_through}
use Rattle.term_values.specs.Matching.{Have}
use Rattle.value_match.specs.MemberOrder.{StandsBefore, TellsOrder}
use Rattle.value_match.specs.RisingMembers.{AreRising, AllBefore, FrontBefore}
use Rattle.value_match.specs.declared.told.MemberOrder.{MemberOrder}
use Rattle.value_match.specs.declared.told.MemberOrder.TheVariants.{Before, Alike, After, Untold}
use Rattle.value_match.proofs.MemberLaws.{have_either}

-- ---- the relation that is told

pub before_one : (n m : ℕ) → n < m → StandsBefore (n ∷ []) (m ∷ [])
before_one n m less = ([], n, m, [], [], refl, refl, less)

pub before_first : (n m : ℕ) (xs ys : List ℕ) → n < m → StandsBefore (n ∷ xs) (m ∷ ys)
before_first n m xs ys less = ([], n, m, xs, ys, refl, refl, less)

before_behind : (common xs ys : List ℕ) → StandsBefore xs ys → StandsBefore (common ++ xs) (common ++ ys)
before_behind common xs ys b =
    let shared = b.0 in
    let n = b.1 in
    let m = b.2 in
    let ns = b.3 in
    let ms = b.4 in (
      common ++ shared,
      n,
      m,
      ns,
      ms,
      ap (λ zs. common ++ zs) b.5 ∙ sym (append_assoc common shared (n ∷ ns)),
      ap (λ zs. common ++ zs) b.6 ∙ sym (append_assoc common shared (m ∷ ms)),
      b.7,
    )

before_with : (xs ys us vs : List ℕ) → StandsBefore xs ys → StandsBefore (xs ++ us) (ys ++ vs)
before_with xs ys us vs b =
    let shared = b.0 in
    let n = b.1 in
    let m = b.2 in
    let ns = b.3 in
    let ms = b.4 in (
      shared,
      n,
      m,
      ns ++ us,
      ms ++ vs,
      ap (λ zs. zs ++ us) b.5 ∙ append_assoc shared (n ∷ ns) us,
      ap (λ zs. zs ++ vs) b.6 ∙ append_assoc shared (m ∷ ms) vs,
      b.7,
    )

-- the first parts stand in an order, and so do the lists
pub tells_first_before : (xs ys us vs : List ℕ) → TellsOrder Before xs ys → TellsOrder Before (xs ++ us) (ys ++ vs)
tells_first_before xs ys us vs b = before_with xs ys us vs b

pub tells_first_after : (xs ys us vs : List ℕ) → TellsOrder After xs ys → TellsOrder After (xs ++ us) (ys ++ vs)
tells_first_after xs ys us vs b = before_with ys xs vs us b

-- the first parts are the same, and the others stand in an order
pub tells_next : (told : MemberOrder) (xs ys us vs : List ℕ) → xs ≡ ys → TellsOrder told us vs
    → TellsOrder told (xs ++ us) (ys ++ vs)
tells_next told xs ys us vs e t =
    subst (λ zs. TellsOrder told (xs ++ us) (zs ++ vs)) e (behind told t)
  where
    behind : (told : MemberOrder) → TellsOrder told us vs → TellsOrder told (xs ++ us) (xs ++ vs)
    behind Before b = before_behind xs us vs b
    behind Alike same = ap (λ zs. xs ++ zs) same
    behind After b = before_behind xs vs us b
    behind Untold t = tt

-- one number more in front of both
pub tells_behind : (told : MemberOrder) (n m : ℕ) (us vs : List ℕ) → n ≡ m → TellsOrder told us vs
    → TellsOrder told (n ∷ us) (m ∷ vs)
tells_behind told n m us vs e t = tells_next told (n ∷ []) (m ∷ []) us vs (ap (λ k. k ∷ []) e) t

-- the same of equal numbers, and of equal lists
pub tells_as : (told : MemberOrder) (n k m l : ℕ) → n ≡ k → m ≡ l → TellsOrder told (n ∷ []) (m ∷ [])
    → TellsOrder told (k ∷ []) (l ∷ [])
tells_as told n k m l e f t =
    subst (λ i. TellsOrder told (i ∷ []) (l ∷ [])) e (subst (λ i. TellsOrder told (n ∷ []) (i ∷ [])) f t)

pub tells_lists : (told : MemberOrder) (xs us ys vs : List ℕ) → xs ≡ us → ys ≡ vs → TellsOrder told xs ys
    → TellsOrder told us vs
tells_lists told xs us ys vs e f t =
    subst (λ zs. TellsOrder told zs vs) e (subst (λ zs. TellsOrder told xs zs) f t)

-- of equally long lists
ranked : (x y : ℕ) (xs ys : List ℕ) (r : Ordering) → MatchOrdering r (x < y) (x ≡ y) (y < x)
    → ordering_then r (slice_cmp nat_cmp xs ys) ≡ Less → (slice_cmp nat_cmp xs ys ≡ Less → StandsBefore xs ys)
    → StandsBefore (x ∷ xs) (y ∷ ys)
ranked x y xs ys Less less e next = before_first x y xs ys less
ranked x y xs ys Equal same e next =
    subst (λ z. StandsBefore (x ∷ xs) (z ∷ ys)) same (before_behind (x ∷ []) xs ys (next e))
ranked x y xs ys Greater more e next = absurd (cc)

pub less_before : (xs ys : List ℕ) → length xs ≡ length ys → slice_cmp nat_cmp xs ys ≡ Less → StandsBefore xs ys
less_before [] [] long e = absurd (cc)
less_before [] (y ∷ ys) long e = absurd (omega arith)
less_before (x ∷ xs) [] long e = absurd (omega arith)
less_before (x ∷ xs) (y ∷ ys) long e =
    ranked x y xs ys (nat_cmp x y) (ranks x y) e (less_before xs ys (omega arith))

pub greater_after : (xs ys : List ℕ) → length xs ≡ length ys → slice_cmp nat_cmp xs ys ≡ Greater → StandsBefore ys xs
greater_after xs ys long e =
    less_before ys xs (sym long) (nat_list_cmp_total.antisymm ys xs ∙ ap ordering_reverse e)

pub before_fronts : (n : ℕ) (xs ys : List ℕ) → StandsBefore (take n xs) (take n ys) → StandsBefore xs ys
before_fronts n xs ys b =
    subst (λ zs. StandsBefore zs ys) (take-append-drop n xs) (subst (λ zs. StandsBefore (take n xs ++ drop n xs) zs)
    (take-append-drop n ys) (before_with (take n xs) (take n ys) (drop n xs) (drop n ys) b))

pub equal_same : (xs ys : List ℕ) → slice_cmp nat_cmp xs ys ≡ Equal → xs ≡ ys
equal_same xs ys e = slice_cmp-IsAntisymmetric nat_cmp-IsAntisymmetric xs ys e

-- ---- the order of the kit

falls : (common ns ms : List ℕ) (n m : ℕ) → n < m
    → slice_cmp nat_cmp (common ++ (m ∷ ms)) (common ++ (n ∷ ns)) ≡ Greater
falls [] ns ms n m less = ap (λ r. ordering_then r (slice_cmp nat_cmp ms ns)) (sym (nat_cmp_is m n Greater less))
falls (x ∷ xs) ns ms n m less =
    ap (λ r. ordering_then r (slice_cmp nat_cmp (xs ++ (m ∷ ms)) (xs ++ (n ∷ ns)))) (sym (nat_cmp_is x x
    Equal refl))
    ∙ falls xs ns ms n m less

pub before_is : (xs ys : List ℕ) → StandsBefore xs ys → may_precede ys xs ≡ false
before_is xs ys b =
    let fall : slice_cmp nat_cmp ys xs ≡ Greater = ap (λ zs. slice_cmp nat_cmp zs xs) b.6
    ∙ ap (slice_cmp nat_cmp (b.0 ++ (b.2 ∷ b.4))) b.5
    ∙ falls b.0 b.3 b.4 b.1 b.2 b.7 in
    ap (λ r. not (is_gt r)) fall

pub before_rises : (xs ys : List ℕ) → StandsBefore xs ys → may_precede xs ys ≡ true
before_rises xs ys b = may_precede_back ys xs (before_is xs ys b)

pub alike_rises : (xs ys : List ℕ) → xs ≡ ys → may_precede xs ys ≡ true
alike_rises xs ys e = subst (λ zs. may_precede xs zs ≡ true) e (may_precede_itself xs)

-- x stands before y, which may stand before z
before_then : (x y z : List ℕ) → may_precede y x ≡ false → may_precede y z ≡ true → may_precede z x ≡ false
before_then x y z b h =
    false_from_ne_true (may_precede z x) (λ e. true≢false (sym (may_precede_through y z x h e) ∙ b))

-- x may stand before y, and z stands before x
then_before : (x y z : List ℕ) → may_precede x y ≡ true → may_precede x z ≡ false → may_precede y z ≡ false
then_before x y z h b =
    false_from_ne_true (may_precede y z) (λ e. true≢false (sym (may_precede_through x y z h e) ∙ b))

-- ---- lists in rising order

module _ (key : TypedValue → List ℕ) where
  pub rising_short : (xs : List TypedValue) → length xs ≤ 1 → AreRising key xs
  rising_short [] h = tt
  rising_short (x ∷ []) h = tt
  rising_short (x ∷ (y ∷ ys)) h = absurd (omega arith)

  pub rising_rest : (x : TypedValue) (xs : List TypedValue) → AreRising key (x ∷ xs) → AreRising key xs
  rising_rest x [] h = tt
  rising_rest x (y ∷ ys) h = h.1

  pub rising_drop : (i : ℕ) (xs : List TypedValue) → AreRising key xs → AreRising key (drop i xs)
  rising_drop zero xs h = h
  rising_drop (suc i) [] h = h
  rising_drop (suc i) (x ∷ xs) h = rising_drop i xs (rising_rest x xs h)

  pub rising_next : (x y : TypedValue) (xs rest : List TypedValue) → xs ≡ y ∷ rest
      → may_precede (key x) (key y) ≡ true → AreRising key xs → AreRising key (x ∷ xs)
  rising_next x y xs rest e h up =
      subst (λ zs. AreRising key (x ∷ zs)) (sym e) (h, subst (λ zs. AreRising key zs) e up)

  not_itself : (x v : TypedValue) → may_precede (key v) (key x) ≡ false → ¬ (x ≡ v)
  not_itself x v b e =
      true≢false (sym (may_precede_itself (key v)) ∙ ap (λ z. may_precede (key v) (key z)) (sym e) ∙ b)

  -- none of those that stand before a value is the value
  pub none_before : (xs : List TypedValue) (v : TypedValue) → AllBefore key xs (key v) → ¬ Have (listed xs) v
  none_before [] v all h = h
  none_before (x ∷ xs) v all (inl e) = not_itself x v all.0 e
  none_before (x ∷ xs) v all (inr h) = none_before xs v all.1 h

  pub all_before_more : (xs : List TypedValue) (k l : List ℕ) → may_precede k l ≡ true → AllBefore key xs k
      → AllBefore key xs l
  all_before_more [] k l h all = tt
  all_before_more (x ∷ xs) k l h all = (before_then (key x) k l all.0 h, all_before_more xs k l h all.1)

  pub all_before_last : (xs : List TypedValue) (x : TypedValue) (k : List ℕ) → AllBefore key xs k
      → may_precede k (key x) ≡ false → AllBefore key (xs ++ x ∷ []) k
  all_before_last [] x k all b = (b, tt)
  all_before_last (y ∷ ys) x k all b = (all.0, all_before_last ys x k all.1 b)

  -- in rising order none behind one that stands behind a value is the value
  pub none_behind : (x : TypedValue) (xs : List TypedValue) (v : TypedValue) → AreRising key (x ∷ xs)
      → may_precede (key x) (key v) ≡ false → ¬ Have (listed (x ∷ xs)) v
  none_behind x xs v up b (inl e) =
      true≢false (sym (alike_rises (key x) (key v) (ap key e)) ∙ b)
  none_behind x [] v up b (inr h) = h
  none_behind x (y ∷ ys) v up b (inr h) = none_behind y ys v up.1 (then_before (key x) (key y) (key v) up.0 b) h

  -- the value is no member where those in front stand before it, and the next one stands behind it or there is none
  pub passed_none : (at : ℕ) (xs rest : List TypedValue) (x v : TypedValue) → AreRising key xs
      → AllBefore key (take at xs) (key v) → drop at xs ≡ x ∷ rest → may_precede (key x) (key v) ≡ false
      → ¬ Have (listed xs) v
  passed_none at xs rest x v up all e b h =
      ⊎_elim (none_before (take at xs) v all)
      (λ behind. none_behind x rest v (subst (λ zs. AreRising key zs) e (rising_drop at xs up)) b
      (subst (λ zs. Have (listed zs) v) e behind)) (have_either at xs v h)

  pub passed_all : (xs : List TypedValue) (v : TypedValue) → AllBefore key xs (key v) → ¬ Have (listed xs) v
  passed_all xs v all = none_before xs v all

  -- the members in front stand before the next value too
  pub front_on : (members : List TypedValue) (count : ℕ) (x : TypedValue) (xs rest : List TypedValue)
      → xs ≡ x ∷ rest → AreRising key xs → AllBefore key (take count members) (key x)
      → FrontBefore key members count rest
  front_on members count x xs [] e up all = tt
  front_on members count x xs (y ∷ ys) e up all =
      all_before_more (take count members) (key x) (key y) (subst (λ zs. AreRising key zs) e up).0 all

  pub front_here : (members : List TypedValue) (count : ℕ) (x : TypedValue) (xs rest : List TypedValue)
      → xs ≡ x ∷ rest → FrontBefore key members count xs → AllBefore key (take count members) (key x)
  front_here members count x xs rest e front = subst (λ zs. FrontBefore key members count zs) e front

  pub front_none : (members xs : List TypedValue) → FrontBefore key members 0 xs
  front_none members [] = tt
  front_none members (x ∷ xs) = tt
