-- LinkLaws: graphs that are made link by link.
use Rattle.std.proofs.Common.{◌≡◌, ◌<◌, ◌≤◌, ◌+◌, ◌⊎◌, ℕ, List, [], ◌∷◌, ◌++◌, Option, None, Some, arith}
use Rattle.std.proofs.Common.{inl, inr, length}
use Rattle.std.proofs.Common.{length-set, refl, subst, sym, ◌∙◌}
use Rattle.std.specs.List.{slice_get}
use Rattle.std.proofs.lemmas.Bool.{cases_lt}
use Rattle.std.proofs.lemmas.List.{set_past}
use Rattle.std.proofs.lemmas.Option.{same_Some, slice_get_within}
use Rattle.link_graphs.specs.Leading.{targets_of}
use Rattle.link_graphs.specs.Marking.{IsTarget}
use Rattle.link_graphs.specs.Turning.{with_target}
use Rattle.link_graphs.proofs.PlaceLaws.{same_there}
use Rattle.link_graphs.proofs.TurnLaws.{former_target, kept_target, new_target}
use Rattle.reached_elements.specs.Linking.{GainsLinks, IsLink, IsThere, IsThereBefore, LinksAll, LinksEach, LinksThat}
use Rattle.reached_elements.specs.Linking.{LinksThose}

pub links_same : (Is : ℕ → ℕ → Type 0) (xs : List (List ℕ)) →
    ((e t : ℕ) → Is e t → e < length xs → IsTarget xs e t) → GainsLinks Is xs xs
links_same Is xs all = record {
  size = refl;
  kept = λ e t has. has;
  added = all;
  only = λ e t has. inl has;
}

-- ---- one link

one_within : (xs : List (List ℕ)) (element target : ℕ) → element < length xs →
    GainsLinks (IsLink element target) xs (with_target xs element target)
one_within xs element target within = record {
  size = length-set xs element (targets_of xs element ++ target ∷ []);
  kept = λ e t has. kept_target xs element target within e t has;
  added = λ e t is less. subst (λ x. IsTarget (with_target xs element target) x t) (sym is.0)
      (subst (λ x. IsTarget (with_target xs element target) element x) (sym is.1)
      (new_target xs element target within));
  only = λ e t has. former_target xs element target within e t has;
}

one_past : (xs : List (List ℕ)) (element target : ℕ) → length xs ≤ element →
    GainsLinks (IsLink element target) xs (with_target xs element target)
one_past xs element target past =
    subst (GainsLinks (IsLink element target) xs)
    (sym (set_past xs element (targets_of xs element ++ target ∷ []) past))
    (links_same (IsLink element target) xs (λ e t is less. absurd (let same = is.0 in omega arith)))

pub links_one : (xs ys : List (List ℕ)) (element target : ℕ) → ys ≡ with_target xs element target →
    GainsLinks (IsLink element target) xs ys
links_one xs ys element target is = subst (GainsLinks (IsLink element target) xs) (sym is)
    (by (cases_lt element (length xs)))
  where
    by : (element < length xs) ⊎ (length xs ≤ element) →
        GainsLinks (IsLink element target) xs (with_target xs element target)
    by (inl h) = one_within xs element target h
    by (inr h) = one_past xs element target h

-- ---- one after the other

pub links_both : {P Q R : ℕ → ℕ → Type 0} {xs ys zs : List (List ℕ)} → ((e t : ℕ) → R e t → P e t ⊎ Q e t) →
    ((e t : ℕ) → P e t → R e t) → ((e t : ℕ) → Q e t → R e t) → GainsLinks P xs ys → GainsLinks Q ys zs →
    GainsLinks R xs zs
links_both {P} {Q} {R} {xs} {ys} {zs} all one two m n = record {
  size = n.size ∙ m.size;
  kept = λ e t has. n.kept e t (m.kept e t has);
  added = λ e t is less. added e t (all e t is) less;
  only = λ e t has. only e t (n.only e t has);
}
  where
    added : (e t : ℕ) → P e t ⊎ Q e t → e < length xs → IsTarget zs e t
    added e t (inl p) less = n.kept e t (m.added e t p less)
    added e t (inr q) less = n.added e t q (let s = m.size in omega arith)

    before : (e t : ℕ) → IsTarget xs e t ⊎ P e t → IsTarget xs e t ⊎ R e t
    before e t (inl h) = inl h
    before e t (inr p) = inr (one e t p)

    only : (e t : ℕ) → IsTarget ys e t ⊎ Q e t → IsTarget xs e t ⊎ R e t
    only e t (inl h) = before e t (m.only e t h)
    only e t (inr q) = inr (two e t q)

pub links_by : {P R : ℕ → ℕ → Type 0} {xs ys : List (List ℕ)} → ((e t : ℕ) → P e t → R e t) →
    ((e t : ℕ) → R e t → P e t) → GainsLinks P xs ys → GainsLinks R xs ys
links_by {P} {R} {xs} {ys} there back m = record {
  size = m.size;
  kept = m.kept;
  added = λ e t is less. m.added e t (back e t is) less;
  only = λ e t has. only e t (m.only e t has);
}
  where
    only : (e t : ℕ) → IsTarget xs e t ⊎ P e t → IsTarget xs e t ⊎ R e t
    only e t (inl h) = inl h
    only e t (inr p) = inr (there e t p)

-- ---- what there may be

no_number : (n : ℕ) → None ≡ Some n → ⊥
no_number n h = absurd (cc)

pub that_one : (xs ys : List (List ℕ)) (element target : ℕ) (that : Option ℕ) → that ≡ Some target →
    GainsLinks (IsLink element target) xs ys → GainsLinks (LinksThat element that) xs ys
that_one xs ys element target that is m = links_by
    (λ e t h. (h.0, is ∙ sym (some h.1)))
    (λ e t h. (h.0, sym (same_Some target t (sym is ∙ h.1)))) m
  where
    some : {t : ℕ} → t ≡ target → Some t ≡ Some target
    some h = λ i. Some (h i)

pub that_none : (xs : List (List ℕ)) (element : ℕ) (that : Option ℕ) → that ≡ None →
    GainsLinks (LinksThat element that) xs xs
that_none xs element that is =
    links_same (LinksThat element that) xs (λ e t h. absurd (no_number t (sym is ∙ h.1)))

pub those_one : (xs ys : List (List ℕ)) (element : ℕ) (that : Option ℕ) (targets : List (Option ℕ)) →
    that ≡ Some element → GainsLinks (LinksEach element targets) xs ys → GainsLinks (LinksThose that targets) xs ys
those_one xs ys element that targets is m = links_by
    (λ e t h. (is ∙ sym (some h.0), h.1))
    (λ e t h. (sym (same_Some element e (sym is ∙ h.0)), h.1)) m
  where
    some : {e : ℕ} → e ≡ element → Some e ≡ Some element
    some h = λ i. Some (h i)

pub those_none : (xs : List (List ℕ)) (that : Option ℕ) (targets : List (Option ℕ)) → that ≡ None →
    GainsLinks (LinksThose that targets) xs xs
those_none xs that targets is =
    links_same (LinksThose that targets) xs (λ e t h. absurd (no_number e (sym is ∙ h.0)))

-- ---- the numbers before a place

none_there : {P : Type 0} (xs : List (Option ℕ)) (n : ℕ) → IsThereBefore xs 0 n → P
none_there xs n h = absurd (let l = h.1 in omega arith)

there_more : (xs : List (Option ℕ)) (k : ℕ) (x : Option ℕ) → slice_get xs k ≡ Some x → (n : ℕ) →
    IsThereBefore xs (k + 1) n → IsThereBefore xs k n ⊎ (x ≡ Some n)
there_more xs k x at n h = by (cases_lt h.0 k)
  where
    by : (h.0 < k) ⊎ (k ≤ h.0) → IsThereBefore xs k n ⊎ (x ≡ Some n)
    by (inl i) = inl (h.0, i, h.2)
    by (inr i) =
        let same : h.0 ≡ k = (let l = h.1 in omega arith) in
        inr (same_there xs k x (Some n) at (subst (λ j. slice_get xs j ≡ Some (Some n)) same h.2))

there_before : (xs : List (Option ℕ)) (k n : ℕ) → IsThereBefore xs k n → IsThereBefore xs (k + 1) n
there_before xs k n h = (h.0, (let l = h.1 in omega arith), h.2)

there_now : (xs : List (Option ℕ)) (k : ℕ) (x : Option ℕ) → slice_get xs k ≡ Some x → (n : ℕ) → x ≡ Some n →
    IsThereBefore xs (k + 1) n
there_now xs k x at n is = (k, omega arith, subst (λ y. slice_get xs k ≡ Some y) is at)

there_all : (xs : List (Option ℕ)) (k : ℕ) → length xs ≤ k → (n : ℕ) → IsThere xs n → IsThereBefore xs k n
there_all xs k past n h =
    (h.0, (let l = slice_get_within xs h.0 (Some n) h.1 in omega arith), h.1)

-- ---- each target of a list

abbrev pub EachBefore : ℕ → List (Option ℕ) → ℕ → ℕ → ℕ → Type 0
EachBefore element targets k e t = (e ≡ element) × IsThereBefore targets k t

pub each_none : (xs : List (List ℕ)) (element : ℕ) (targets : List (Option ℕ)) →
    GainsLinks (EachBefore element targets 0) xs xs
each_none xs element targets =
    links_same (EachBefore element targets 0) xs (λ e t h. none_there targets t h.1)

pub each_step : {xs ys zs : List (List ℕ)} (element : ℕ) (targets : List (Option ℕ)) (k : ℕ) (x : Option ℕ) →
    slice_get targets k ≡ Some x → GainsLinks (EachBefore element targets k) xs ys →
    GainsLinks (LinksThat element x) ys zs → GainsLinks (EachBefore element targets (k + 1)) xs zs
each_step element targets k x at m n = links_both
    (λ e t h. parted e t h.0 (there_more targets k x at t h.1))
    (λ e t h. (h.0, there_before targets k t h.1))
    (λ e t h. (h.0, there_now targets k x at t h.1)) m n
  where
    parted : (e t : ℕ) → e ≡ element → IsThereBefore targets k t ⊎ (x ≡ Some t) →
        EachBefore element targets k e t ⊎ LinksThat element x e t
    parted e t same (inl h) = inl (same, h)
    parted e t same (inr h) = inr (same, h)

pub each_end : {xs ys : List (List ℕ)} (element : ℕ) (targets : List (Option ℕ)) (k : ℕ) → length targets ≤ k →
    GainsLinks (EachBefore element targets k) xs ys → GainsLinks (LinksEach element targets) xs ys
each_end element targets k past m = links_by
    (λ e t h. (h.0, (h.1.0, h.1.2)))
    (λ e t h. (h.0, there_all targets k past t h.1)) m

-- ---- each element of a list

abbrev pub AllBefore : List (Option ℕ) → List (Option ℕ) → ℕ → ℕ → ℕ → Type 0
AllBefore elements targets k e t = IsThereBefore elements k e × IsThere targets t

pub all_none : (xs : List (List ℕ)) (elements targets : List (Option ℕ)) →
    GainsLinks (AllBefore elements targets 0) xs xs
all_none xs elements targets =
    links_same (AllBefore elements targets 0) xs (λ e t h. none_there elements e h.0)

pub all_step : {xs ys zs : List (List ℕ)} (elements targets : List (Option ℕ)) (k : ℕ) (x : Option ℕ) →
    slice_get elements k ≡ Some x → GainsLinks (AllBefore elements targets k) xs ys →
    GainsLinks (LinksThose x targets) ys zs → GainsLinks (AllBefore elements targets (k + 1)) xs zs
all_step elements targets k x at m n = links_both
    (λ e t h. parted e t (there_more elements k x at e h.0) h.1)
    (λ e t h. (there_before elements k e h.0, h.1))
    (λ e t h. (there_now elements k x at e h.0, h.1)) m n
  where
    parted : (e t : ℕ) → IsThereBefore elements k e ⊎ (x ≡ Some e) → IsThere targets t →
        AllBefore elements targets k e t ⊎ LinksThose x targets e t
    parted e t (inl h) there = inl (h, there)
    parted e t (inr h) there = inr (h, there)

pub all_end : {xs ys : List (List ℕ)} (elements targets : List (Option ℕ)) (k : ℕ) → length elements ≤ k →
    GainsLinks (AllBefore elements targets k) xs ys → GainsLinks (LinksAll elements targets) xs ys
all_end elements targets k past m = links_by
    (λ e t h. ((h.0.0, h.0.2), h.1))
    (λ e t h. (there_all elements k past e h.0, h.1)) m
