-- ReachLaws: elements that are added to those that were reached, and all that are reached in the end.
use Rattle.std.proofs.Common.{◌≡◌, ◌<◌, ◌≤◌, ◌+◌, ◌⊎◌, ℕ, suc, zero, List, [], ◌∷◌, ◌++◌, Bool, true, false, None}
use Rattle.std.proofs.Common.{Some, Vec, Global, ap, arith, inl, inr, length, length-set, refl, replicate, set, subst}
use Rattle.std.proofs.Common.{sym, ◌∙◌}
use Rattle.std.specs.Prelude.{map}
use Rattle.std.specs.List.{slice_get}
use Rattle.std.proofs.lemmas.Bool.{cases_lt}
use Rattle.std.proofs.lemmas.List.{length-replicate, length_push}
use Rattle.std.proofs.lemmas.Option.{same_Some, slice_get_within}
use Rattle.link_graphs.specs.Leading.{LeadsAtOnce, targets_of}
use Rattle.link_graphs.specs.Marking.{IsIt, IsListed, IsMarked, IsTarget, unmarked}
use Rattle.link_graphs.proofs.PlaceLaws.{get_before, get_last, get_push, IsPushed, is_marked, none_marked}
use Rattle.link_graphs.proofs.PlaceLaws.{nothing_there, same_there, stays_marked, was_marked}
use Rattle.reached_elements.specs.Reaching.{AddsSome, AreReached, AreTargets, IsReached, IsSomeTarget}
use Rattle.reached_elements.specs.Reaching.{IsTargetAt, IsTargetOf}
use Rattle.reached_elements.specs.Reaching.IsReached.{begun, onward}

-- ---- nothing is added, or one element

pub adds_none : (IsSome : ℕ → Type 0) (marks : List Bool) (listed : List ℕ) →
    ((e : ℕ) → IsSome e → e < length marks → IsMarked marks e) → AddsSome IsSome marks marks listed listed
adds_none IsSome marks listed all = record {
  size = refl;
  stays = λ e h. h;
  added = all;
  only = λ e h. inl h;
  kept = λ k e h. h;
  listed_new = λ k e h. inl h;
  listed_too = λ so e h. so e h;
  marked_too = λ so e h. so e h;
  count = refl;
}

one_less : (marks : List Bool) (e : ℕ) → slice_get marks e ≡ Some false →
    unmarked (set marks e true) + 1 ≡ unmarked marks
one_less [] e h = absurd (cc)
one_less (true ∷ marks) zero h = absurd (cc)
one_less (false ∷ marks) zero h = omega arith
one_less (true ∷ marks) (suc e) h = one_less marks e h
one_less (false ∷ marks) (suc e) h = let r = one_less marks e h in omega arith

pub adds_one : (marks : List Bool) (listed : List ℕ) (element : ℕ) → slice_get marks element ≡ Some false →
    AddsSome (IsIt element) marks (set marks element true) listed (listed ++ element ∷ [])
adds_one marks listed element fresh = record {
  size = length-set marks element true;
  stays = λ e h. stays_marked marks element e h;
  added = λ e is less. subst (IsMarked (set marks element true)) (sym is) here;
  only = λ e h. was_marked marks element e h;
  kept = λ k e h. get_before listed (element ∷ []) k e h;
  listed_new = λ k e h. pushed e k (get_push listed element k e h);
  listed_too = λ so e h. in_list so e (was_marked marks element e h);
  marked_too = λ so e h. in_marks so e h.0 (get_push listed element h.0 e h.1);
  count = let l = length_push listed element in let m = one_less marks element fresh in omega arith;
}
  where
    here : IsMarked (set marks element true) element
    here = is_marked marks element (slice_get_within marks element false fresh)

    pushed : (e k : ℕ) → IsPushed listed element k e → (slice_get listed k ≡ Some e) ⊎ IsIt element e
    pushed e k (inl h) = inl h
    pushed e k (inr h) = inr (sym h.1)

    in_list : ((e : ℕ) → IsMarked marks e → IsListed listed e) → (e : ℕ) → IsMarked marks e ⊎ (e ≡ element) →
        IsListed (listed ++ element ∷ []) e
    in_list so e (inl h) = let k = so e h in (k.0, get_before listed (element ∷ []) k.0 e k.1)
    in_list so e (inr h) = (
      length listed,
      subst (λ x. slice_get (listed ++ element ∷ []) (length listed) ≡ Some x) (sym h)
          (get_last listed element),
    )

    in_marks : ((e : ℕ) → IsListed listed e → IsMarked marks e) → (e k : ℕ) → IsPushed listed element k e →
        IsMarked (set marks element true) e
    in_marks so e k (inl h) = stays_marked marks element e (so e (k, h))
    in_marks so e k (inr h) = subst (IsMarked (set marks element true)) h.1 here

-- ---- one after the other

pub adds_both : {P Q R : ℕ → Type 0} {a b c : List Bool} {xs ys zs : List ℕ} → ((e : ℕ) → R e → P e ⊎ Q e) →
    ((e : ℕ) → P e → R e) → ((e : ℕ) → Q e → R e) → AddsSome P a b xs ys → AddsSome Q b c ys zs →
    AddsSome R a c xs zs
adds_both {P} {Q} {R} {a} {b} {c} {xs} {ys} {zs} all one two m n = record {
  size = n.size ∙ m.size;
  stays = λ e h. n.stays e (m.stays e h);
  added = λ e is less. added e (all e is) less;
  only = λ e h. only e (n.only e h);
  kept = λ k e h. n.kept k e (m.kept k e h);
  listed_new = λ k e h. new k e (n.listed_new k e h);
  listed_too = λ so. n.listed_too (m.listed_too so);
  marked_too = λ so. n.marked_too (m.marked_too so);
  count = n.count ∙ m.count;
}
  where
    added : (e : ℕ) → P e ⊎ Q e → e < length a → IsMarked c e
    added e (inl p) less = n.stays e (m.added e p less)
    added e (inr q) less = n.added e q (let s = m.size in omega arith)

    before : (e : ℕ) → IsMarked a e ⊎ P e → IsMarked a e ⊎ R e
    before e (inl h) = inl h
    before e (inr p) = inr (one e p)

    only : (e : ℕ) → IsMarked b e ⊎ Q e → IsMarked a e ⊎ R e
    only e (inl h) = before e (m.only e h)
    only e (inr q) = inr (two e q)

    newer : (k e : ℕ) → (slice_get xs k ≡ Some e) ⊎ P e → (slice_get xs k ≡ Some e) ⊎ R e
    newer k e (inl h) = inl h
    newer k e (inr p) = inr (one e p)

    new : (k e : ℕ) → (slice_get ys k ≡ Some e) ⊎ Q e → (slice_get xs k ≡ Some e) ⊎ R e
    new k e (inl h) = newer k e (m.listed_new k e h)
    new k e (inr q) = inr (two e q)

pub adds_by : {P R : ℕ → Type 0} {a b : List Bool} {xs ys : List ℕ} → ((e : ℕ) → P e → R e) →
    ((e : ℕ) → R e → P e) → AddsSome P a b xs ys → AddsSome R a b xs ys
adds_by {P} {R} {a} {b} {xs} {ys} there back m = record {
  size = m.size;
  stays = m.stays;
  added = λ e is less. m.added e (back e is) less;
  only = λ e h. only e (m.only e h);
  kept = m.kept;
  listed_new = λ k e h. new k e (m.listed_new k e h);
  listed_too = m.listed_too;
  marked_too = m.marked_too;
  count = m.count;
}
  where
    only : (e : ℕ) → IsMarked a e ⊎ P e → IsMarked a e ⊎ R e
    only e (inl h) = inl h
    only e (inr p) = inr (there e p)

    new : (k e : ℕ) → (slice_get xs k ≡ Some e) ⊎ P e → (slice_get xs k ≡ Some e) ⊎ R e
    new k e (inl h) = inl h
    new k e (inr p) = inr (there e p)

-- ---- the elements of a list

abbrev pub ListedBefore : List ℕ → ℕ → ℕ → Type 0
ListedBefore xs k e = (j : ℕ) × (j < k) × (slice_get xs j ≡ Some e)

pub listed_none : (xs : List ℕ) (marks : List Bool) (listed : List ℕ) →
    AddsSome (ListedBefore xs 0) marks marks listed listed
listed_none xs marks listed =
    adds_none (ListedBefore xs 0) marks listed (λ e h less. absurd (let l = h.1 in omega arith))

before_or_it : (xs : List ℕ) (k x : ℕ) → slice_get xs k ≡ Some x → (e : ℕ) → ListedBefore xs (k + 1) e →
    ListedBefore xs k e ⊎ (e ≡ x)
before_or_it xs k x at e h = by (cases_lt h.0 k)
  where
    by : (h.0 < k) ⊎ (k ≤ h.0) → ListedBefore xs k e ⊎ (e ≡ x)
    by (inl i) = inl (h.0, i, h.2)
    by (inr i) =
        let same : h.0 ≡ k = (let l = h.1 in omega arith) in
        inr (same_there xs k e x (subst (λ j. slice_get xs j ≡ Some e) same h.2) at)

still_before : (xs : List ℕ) (k e : ℕ) → ListedBefore xs k e → ListedBefore xs (k + 1) e
still_before xs k e h = (h.0, (let l = h.1 in omega arith), h.2)

it_before : (xs : List ℕ) (k x : ℕ) → slice_get xs k ≡ Some x → (e : ℕ) → e ≡ x → ListedBefore xs (k + 1) e
it_before xs k x at e is = (k, omega arith, subst (λ y. slice_get xs k ≡ Some y) (sym is) at)

all_before : (xs : List ℕ) (k : ℕ) → length xs ≤ k → (e : ℕ) → IsListed xs e → ListedBefore xs k e
all_before xs k past e h = (h.0, (let l = slice_get_within xs h.0 e h.1 in omega arith), h.1)

pub listed_step : {a b c : List Bool} {ys zs ws : List ℕ} (xs : List ℕ) (k x : ℕ) → slice_get xs k ≡ Some x →
    AddsSome (ListedBefore xs k) a b ys zs → AddsSome (IsIt x) b c zs ws →
    AddsSome (ListedBefore xs (k + 1)) a c ys ws
listed_step xs k x at m n =
    adds_both (before_or_it xs k x at) (still_before xs k) (it_before xs k x at) m n

pub listed_end : {a b : List Bool} {ys zs : List ℕ} (xs : List ℕ) (k : ℕ) → length xs ≤ k →
    AddsSome (ListedBefore xs k) a b ys zs → AddsSome (IsListed xs) a b ys zs
listed_end xs k past m = adds_by (λ e h. (h.0, h.2)) (all_before xs k past) m

-- ---- the targets of the elements of a list

abbrev pub TargetBefore : List (List ℕ) → List ℕ → ℕ → ℕ → Type 0
TargetBefore lists xs k t = (e : ℕ) × ListedBefore xs k e × IsTarget lists e t

pub targets_none : (lists : List (List ℕ)) (xs : List ℕ) (marks : List Bool) (listed : List ℕ) →
    AddsSome (TargetBefore lists xs 0) marks marks listed listed
targets_none lists xs marks listed =
    adds_none (TargetBefore lists xs 0) marks listed (λ t h less. absurd (let l = h.1.1 in omega arith))

pub targets_step : {a b c : List Bool} {ys zs ws : List ℕ} (lists : List (List ℕ)) (xs : List ℕ) (k x : ℕ) →
    slice_get xs k ≡ Some x → AddsSome (TargetBefore lists xs k) a b ys zs →
    AddsSome (IsTarget lists x) b c zs ws → AddsSome (TargetBefore lists xs (k + 1)) a c ys ws
targets_step lists xs k x at m n = adds_both
    (λ t h. parted h.0 t (before_or_it xs k x at h.0 h.1) h.2)
    (λ t h. (h.0, still_before xs k h.0 h.1, h.2))
    (λ t h. (x, it_before xs k x at x refl, h)) m n
  where
    parted : (e t : ℕ) → ListedBefore xs k e ⊎ (e ≡ x) → IsTarget lists e t →
        TargetBefore lists xs k t ⊎ IsTarget lists x t
    parted e t (inl h) has = inl (e, h, has)
    parted e t (inr h) has = inr (subst (λ y. IsTarget lists y t) h has)

pub targets_end : {a b : List Bool} {ys zs : List ℕ} (lists : List (List ℕ)) (xs : List ℕ) (k : ℕ) →
    length xs ≤ k → AddsSome (TargetBefore lists xs k) a b ys zs → AddsSome (IsTargetOf lists xs) a b ys zs
targets_end lists xs k past m = adds_by
    (λ t h. (h.0, (h.1.0, h.1.2), h.2))
    (λ t h. (h.0, all_before xs k past h.0 h.1, h.2)) m

-- ---- the targets of one element

abbrev pub items : Vec ℕ Global → List ℕ
items v = v.items

pub row_there : (rows : List (Vec ℕ Global)) (e : ℕ) (v : Vec ℕ Global) → slice_get rows e ≡ Some v →
    targets_of (map items rows) e ≡ v.items
row_there [] e v at = absurd (cc)
row_there (x ∷ xs) zero v at = ap items (same_Some x v at)
row_there (x ∷ xs) (suc e) v at = row_there xs e v at

pub row_past : (rows : List (Vec ℕ Global)) (e : ℕ) → length rows ≤ e → targets_of (map items rows) e ≡ []
row_past [] e past = refl
row_past (x ∷ xs) zero past = absurd (omega arith)
row_past (x ∷ xs) (suc e) past = row_past xs e (omega arith)

-- that of an element at a place
pub at_place : {a b : List Bool} {ys zs : List ℕ} (lists : List (List ℕ)) (xs : List ℕ) (place e : ℕ) →
    slice_get xs place ≡ Some e → AddsSome (IsTarget lists e) a b ys zs →
    AddsSome (IsTargetAt lists xs place) a b ys zs
at_place lists xs place e at m = adds_by
    (λ t h. (e, at, h))
    (λ t h. subst (λ y. IsTarget lists y t) (same_there xs place h.0 e h.1 at) h.2) m

pub at_no_place : (lists : List (List ℕ)) (xs : List ℕ) (place : ℕ) (marks : List Bool) (listed : List ℕ) →
    slice_get xs place ≡ None → AddsSome (IsTargetAt lists xs place) marks marks listed listed
at_no_place lists xs place marks listed none =
    adds_none (IsTargetAt lists xs place) marks listed (λ t h less. nowhere h.0 (sym none ∙ h.1))
  where
    nowhere : {P : Type 0} (e : ℕ) → None ≡ Some e → P
    nowhere e h = absurd (cc)

-- ---- all that are reached

-- in the midst: the targets of the elements before a place were added
pub record IsSpread (lists : List (List ℕ)) (from : List ℕ) (marks : List Bool) (listed : List ℕ) (place : ℕ)
    : Type 0 where
  pub size : length marks ≡ length lists
  pub count : length listed + unmarked marks ≡ length lists
  pub listed_too : (e : ℕ) → IsMarked marks e → IsListed listed e
  pub marked_too : (e : ℕ) → IsListed listed e → IsMarked marks e
  pub sound : (e : ℕ) → IsMarked marks e → IsReached lists from e
  pub first : (e : ℕ) → IsListed from e → e < length lists → IsMarked marks e
  pub closed : (k e t : ℕ) → k < place → slice_get listed k ≡ Some e → LeadsAtOnce lists e t → IsMarked marks t

none_unmarked : (n : ℕ) → unmarked (replicate n false) ≡ n
none_unmarked zero = refl
none_unmarked (suc n) = ap suc (none_unmarked n)

pub spread_begins : (lists : List (List ℕ)) (from : List ℕ) (n : ℕ) (before marks : List Bool) (xs listed : List ℕ) →
    n ≡ length lists → before ≡ replicate n false → xs ≡ [] → AddsSome (IsListed from) before marks xs listed →
    IsSpread lists from marks listed 0
spread_begins lists from n before marks xs listed is_count is_before is_none m =
    let size : length marks ≡ length lists =
    m.size ∙ ap length is_before ∙ length-replicate n false ∙ is_count in record {
      size = size;
      count = m.count ∙ ap (λ ys. length ys + unmarked before) is_none ∙ none_yet;
      listed_too = m.listed_too (λ e h. unmarked_yet e h);
      marked_too = m.marked_too (λ e h. nothing_there h.0 e (subst (λ ys. slice_get ys h.0 ≡ Some e) is_none h.1));
      sound = λ e h. sound e (m.only e h) (let w = slice_get_within marks e true h in omega arith);
      first = λ e h less. m.added e h (let s = m.size in omega arith);
      closed = λ k e t less. absurd (omega arith);
    }
  where
    none_yet : 0 + unmarked before ≡ length lists
    none_yet =
        let e : unmarked before ≡ length lists = ap unmarked is_before ∙ none_unmarked n ∙ is_count in omega arith

    unmarked_yet : {P : Type 0} (e : ℕ) → IsMarked before e → P
    unmarked_yet e h = none_marked n e (subst (λ ys. IsMarked ys e) is_before h)

    sound : (e : ℕ) → IsMarked before e ⊎ IsListed from e → e < length lists → IsReached lists from e
    sound e (inl h) less = unmarked_yet e h
    sound e (inr h) less = begun h less

pub spread_more : (lists : List (List ℕ)) (from : List ℕ) (marks after : List Bool) (listed then_listed : List ℕ)
    (place : ℕ) → IsSpread lists from marks listed place →
    AddsSome (IsTargetAt lists listed place) marks after listed then_listed →
    IsSpread lists from after then_listed (place + 1)
spread_more lists from marks after listed then_listed place w m = record {
  size = m.size ∙ w.size;
  count = m.count ∙ w.count;
  listed_too = m.listed_too w.listed_too;
  marked_too = m.marked_too w.marked_too;
  sound = λ e h. sound e (m.only e h)
      (let l = slice_get_within after e true h in let s = m.size in let z = w.size in omega arith);
  first = λ e h less. m.stays e (w.first e h less);
  closed = λ k e t less at one. closed k e t (stood k e less at (m.listed_new k e at)) one (cases_lt k place) less;
}
  where
    sound : (e : ℕ) → IsMarked marks e ⊎ IsTargetAt lists listed place e → e < length lists → IsReached lists from e
    sound e (inl h) less = w.sound e h
    sound e (inr h) less =
        onward (w.sound h.0 (w.marked_too h.0 (place, h.1))) (record { place = h.2.0; stands = h.2.1; within = less })

    there : (j : ℕ) (xs : List ℕ) → j < length xs → (x : ℕ) × (slice_get xs j ≡ Some x)
    there j [] l = absurd (omega arith)
    there zero (x ∷ xs) l = (x, refl)
    there (suc j) (x ∷ xs) l = there j xs (omega arith)

    -- what stands up to the place stood there before
    stood : (k e : ℕ) → k < place + 1 → slice_get then_listed k ≡ Some e →
        (slice_get listed k ≡ Some e) ⊎ IsTargetAt lists listed place e → slice_get listed k ≡ Some e
    stood k e less at (inl h) = h
    stood k e less at (inr h) =
        let one = there k listed (let l = slice_get_within listed place h.0 h.1 in omega arith) in
        subst (λ x. slice_get listed k ≡ Some x) (same_there then_listed k one.0 e (m.kept k one.0 one.1) at) one.1

    closed : (k e t : ℕ) → slice_get listed k ≡ Some e → LeadsAtOnce lists e t → (k < place) ⊎ (place ≤ k) →
        k < place + 1 → IsMarked after t
    closed k e t at one (inl h) less = m.stays t (w.closed k e t h at one)
    closed k e t at one (inr h) less =
        let same : k ≡ place = omega arith in
        m.added t (e, subst (λ j. slice_get listed j ≡ Some e) same at, (one.place, one.stands))
        (let l = one.within in let s = w.size in omega arith)

pub spread_ends : (lists : List (List ℕ)) (from : List ℕ) (marks : List Bool) (listed : List ℕ) (place : ℕ) →
    length listed ≤ place → IsSpread lists from marks listed place → AreReached lists from marks listed
spread_ends lists from marks listed place past w = record {
  size = w.size;
  marked = λ e. (w.sound e, marked e);
  listed_too = λ e. ((λ h. w.sound e (w.marked_too e h)), (λ r. w.listed_too e (marked e r)));
}
  where
    marked : (e : ℕ) → IsReached lists from e → IsMarked marks e
    marked e (begun h less) = w.first e h less
    marked e (onward {element = b} r one) =
        let there = w.listed_too b (marked b r) in
        w.closed there.0 b e (let l = slice_get_within listed there.0 b there.1 in omega arith) there.1 one

-- no more are listed than there are
pub spread_past : (lists : List (List ℕ)) (from : List ℕ) (marks : List Bool) (listed : List ℕ) (place : ℕ) →
    length lists ≤ place → IsSpread lists from marks listed place → length listed ≤ place
spread_past lists from marks listed place past w = let c = w.count in omega arith

-- ---- the targets of some elements

pub targets_told : (lists : List (List ℕ)) (elements : List ℕ) (n : ℕ) (before marks : List Bool) (xs listed : List ℕ) →
    n ≡ length lists → before ≡ replicate n false → xs ≡ [] →
    AddsSome (IsTargetOf lists elements) before marks xs listed → AreTargets lists elements marks listed
targets_told lists elements n before marks xs listed is_count is_before is_none m = record {
  size = size;
  marked = λ t. (sound t, marked t);
  listed_too = λ t. (
    (λ h. sound t (m.marked_too (λ e i. empty e i) t h)),
    (λ h. m.listed_too (λ e i. unmarked_yet e i) t (marked t h)),
  );
}
  where
    size : length marks ≡ length lists
    size = m.size ∙ ap length is_before ∙ length-replicate n false ∙ is_count

    unmarked_yet : {P : Type 0} (e : ℕ) → IsMarked before e → P
    unmarked_yet e h = none_marked n e (subst (λ ys. IsMarked ys e) is_before h)

    empty : {P : Type 0} (e : ℕ) → IsListed xs e → P
    empty e h = nothing_there h.0 e (subst (λ ys. slice_get ys h.0 ≡ Some e) is_none h.1)

    only : (t : ℕ) → IsMarked before t ⊎ IsTargetOf lists elements t → IsTargetOf lists elements t
    only t (inl h) = unmarked_yet t h
    only t (inr h) = h

    sound : (t : ℕ) → IsMarked marks t → IsSomeTarget lists elements t
    sound t h = ((let w = slice_get_within marks t true h in let s = size in omega arith), only t (m.only t h))

    marked : (t : ℕ) → IsSomeTarget lists elements t → IsMarked marks t
    marked t h = m.added t h.1 (let w = h.0 in let s = size in let z = m.size in omega arith)
