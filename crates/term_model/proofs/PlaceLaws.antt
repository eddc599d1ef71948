-- Laws on places: the first record with an identifier stands at the place that is found.
use Rattle.std.proofs.Common.{◌≡◌, ℕ, suc, ◌+◌, Bool, true, false, List, [], ◌∷◌, ◌++◌, Option, None, Some, cond}
use Rattle.std.proofs.Common.{length, map, refl, sym, ap, ◌∙◌, subst, arith, Bor}
use Rattle.std.specs.Prelude.{IfSome, find, get_or, slice_get}
use Rattle.std.specs.BTreeMap.{BTreeMap, get, is_at}
use Rattle.std.specs.Cmp.Lexicographic.{slice_cmp}
use Rattle.std.specs.List.{position_from}
use Rattle.std.specs.Map.{lookup}
use Rattle.std.specs.Option.{is_some, option_copied}
use Rattle.std.proofs.Math.Dec.{ltb}
use Rattle.std.specs.Ordering.{is_eq, nat_cmp}
use Rattle.std.proofs.lemmas.Bool.{ltb-true, ltb-false}
use Rattle.std.proofs.lemmas.List.{length-map}
use Rattle.std.proofs.lemmas.Map.Text.{is_eq-slice_cmp}
use Rattle.std.proofs.lemmas.Option.{same_Some, slice_get_past, slice_get_read}
use Rattle.std.proofs.lemmas.Slice.Eq.{bytes_eq-Decides}
use Rattle.term_model.specs.Comparing.{is_same_oid}
use Rattle.term_model.specs.Places.{HasPlaces, place_with}

-- the element at a place, where there is a place
abbrev pub element_at : {X : Type 0} → List X → Option ℕ → Option X
element_at xs None = None
element_at xs (Some i) = slice_get xs i

-- how far behind n the place i stands, and what is found there
record FindsAt {X : Type 0} (id_of : X → List ℕ) (xs : List X) (q : List ℕ) (n i : ℕ) : Type 0 where
  behind : ℕ
  place : i ≡ n + behind
  is : find (λ x. is_same_oid (id_of x) q) xs ≡ slice_get xs behind

finds_at : {X : Type 0} (id_of : X → List ℕ) (xs : List X) (q : List ℕ) (n i : ℕ)
    → position_from (λ id. is_same_oid id q) n (map id_of xs) ≡ Some i → FindsAt id_of xs q n i
finds_at id_of [] q n i = λ h. absurd (cc h)
finds_at id_of (x ∷ xs) q n i =
    by (finds_at id_of xs q (n + 1) i) (is_same_oid (id_of x) q) refl
  where
    by : (position_from (λ id. is_same_oid id q) (n + 1) (map id_of xs) ≡ Some i → FindsAt id_of xs q (n + 1) i)
        → (b : Bool) → is_same_oid (id_of x) q ≡ b
        → cond b (Some n) (position_from (λ id. is_same_oid id q) (n + 1) (map id_of xs)) ≡ Some i
        → FindsAt id_of (x ∷ xs) q n i
    by rest true e h = record { behind = 0; place = omega (arith, same_Some n i h); is = rw e refl }
    by rest false e h =
        let later = rest h in
        record { behind = suc later.behind; place = omega arith; is = rw e later.is }

finds_nowhere : {X : Type 0} (id_of : X → List ℕ) (xs : List X) (q : List ℕ) (n : ℕ)
    → position_from (λ id. is_same_oid id q) n (map id_of xs) ≡ None → find (λ x. is_same_oid (id_of x) q) xs ≡ None
finds_nowhere id_of [] q n = λ h. refl
finds_nowhere id_of (x ∷ xs) q n =
    by (finds_nowhere id_of xs q (n + 1)) (is_same_oid (id_of x) q)
  where
    by : (position_from (λ id. is_same_oid id q) (n + 1) (map id_of xs) ≡ None
        → find (λ y. is_same_oid (id_of y) q) xs ≡ None) → (b : Bool)
        → cond b (Some n) (position_from (λ id. is_same_oid id q) (n + 1) (map id_of xs)) ≡ None
        → cond b (Some x) (find (λ y. is_same_oid (id_of y) q) xs) ≡ None
    by rest true h = absurd (cc h)
    by rest false h = rest h

-- what is found is the element at the place
pub found_at : {X : Type 0} (id_of : X → List ℕ) (xs : List X) (q : List ℕ) (o : Option ℕ)
    → position_from (λ id. is_same_oid id q) 0 (map id_of xs) ≡ o
    → find (λ x. is_same_oid (id_of x) q) xs ≡ element_at xs o
found_at id_of xs q None h = finds_nowhere id_of xs q 0 h
found_at id_of xs q (Some i) h = let one = finds_at id_of xs q 0 i h in one.is ∙ ap (slice_get xs) (omega arith)

one_more : (ids : List (List ℕ)) (id q : List ℕ) (n : ℕ)
    → position_from (λ x. is_same_oid x q) n (ids ++ id ∷ []) ≡ place_with id (n + length ids) q
    (position_from (λ x. is_same_oid x q) n ids)
one_more [] id q n = ap (λ i. cond (is_same_oid id q) (Some i) None) (omega arith)
one_more (first ∷ ids) id q n =
    by (one_more ids id q (n + 1)) (is_same_oid first q)
  where
    by : position_from (λ x. is_same_oid x q) (n + 1) (ids ++ id ∷ []) ≡ place_with id (n + 1 + length ids) q
        (position_from (λ x. is_same_oid x q) (n + 1) ids) → (b : Bool)
        → cond b (Some n) (position_from (λ x. is_same_oid x q) (n + 1) (ids ++ id ∷ [])) ≡ place_with id
        (n + length (first ∷ ids)) q (cond b (Some n) (position_from (λ x. is_same_oid x q) (n + 1) ids))
    by rest true = refl
    by rest false = rest ∙ ap (λ i. place_with id i q (position_from (λ x. is_same_oid x q) (n + 1) ids)) (omega arith)

-- no record has a place
pub no_places : (places : BTreeMap (List ℕ) ℕ) → places.entries ≡ [] → HasPlaces places []
no_places places empty = λ q. ap (lookup (is_at (slice_cmp nat_cmp q))) empty

-- one more record behind the others
pub place_added : (before after : BTreeMap (List ℕ) ℕ) (ids : List (List ℕ)) (id : List ℕ) (place : ℕ)
    → place ≡ length ids → HasPlaces before ids
    → ((q : List ℕ) → get (slice_cmp nat_cmp) after q ≡ place_with id place q (get (slice_cmp nat_cmp) before q))
    → HasPlaces after (ids ++ id ∷ [])
place_added before after ids id place behind has added = λ q.
    added q
    ∙ ap (place_with id place q) (has q)
    ∙ ap (λ i. place_with id i q (position_from (λ x. is_same_oid x q) 0 ids)) (behind ∙ omega arith)
    ∙ sym (one_more ids id q 0)

-- ---- what adds a place

none_is : (o : Option ℕ) → is_some o ≡ false → o ≡ None
none_is None e = refl
none_is (Some x) e = absurd (cc e)

some_stays : (id q : List ℕ) (place : ℕ) (o : Option ℕ) → is_some o ≡ true → o ≡ place_with id place q o
some_stays id q place None e = absurd (cc e)
some_stays id q place (Some former) e = refl

other_stays : (id q : List ℕ) (place : ℕ) (o : Option ℕ) → is_same_oid id q ≡ false → o ≡ place_with id place q o
other_stays id q place None e = rw e refl
other_stays id q place (Some former) e = refl

-- an identifier that has no place yet gets this one
pub place_inserted : (before after : BTreeMap (List ℕ) ℕ) (id : List ℕ) (place : ℕ)
    → is_some (get (slice_cmp nat_cmp) before id) ≡ false
    → ((q : List ℕ) → get (slice_cmp nat_cmp) after q ≡ cond (is_eq (slice_cmp nat_cmp id q)) (Some place)
    (get (slice_cmp nat_cmp) before q))
    → (q : List ℕ) → get (slice_cmp nat_cmp) after q ≡ place_with id place q (get (slice_cmp nat_cmp) before q)
place_inserted before after id place absent updates q =
    updates q ∙ ap (λ b. cond b (Some place) (get (slice_cmp nat_cmp) before q)) (is_eq-slice_cmp id q)
    ∙ by (is_same_oid id q) refl
  where
    by : (b : Bool) → is_same_oid id q ≡ b
        → cond b (Some place) (get (slice_cmp nat_cmp) before q) ≡ place_with id place q
        (get (slice_cmp nat_cmp) before q)
    by true e =
        let same : id ≡ q = (bytes_eq-Decides id q).0 e in
        let there : get (slice_cmp nat_cmp) before q ≡ None = ap (λ k. get (slice_cmp nat_cmp) before k) (sym same)
        ∙ none_is (get (slice_cmp nat_cmp) before id) absent in
        sym (ap (place_with id place q) there ∙ ap (λ b. cond b (Some place) None) e)
    by false e = other_stays id q place (get (slice_cmp nat_cmp) before q) e

-- one that has a place keeps it
pub place_there : (places : BTreeMap (List ℕ) ℕ) (id : List ℕ) (place : ℕ)
    → is_some (get (slice_cmp nat_cmp) places id) ≡ true
    → (q : List ℕ) → get (slice_cmp nat_cmp) places q ≡ place_with id place q (get (slice_cmp nat_cmp) places q)
place_there places id place there q = by (is_same_oid id q) refl
  where
    by : (b : Bool) → is_same_oid id q ≡ b
        → get (slice_cmp nat_cmp) places q ≡ place_with id place q (get (slice_cmp nat_cmp) places q)
    by true e =
        let same : id ≡ q = (bytes_eq-Decides id q).0 e in
        some_stays id q place (get (slice_cmp nat_cmp) places q)
        (ap (λ k. is_some (get (slice_cmp nat_cmp) places k)) (sym same) ∙ there)
    by false e = other_stays id q place (get (slice_cmp nat_cmp) places q) e

-- what `get` gives of a list
pub lent : {X : Type 0} (xs : List X) (i : ℕ) (r : Option (Bor X)) → is_some r ≡ ltb i (length xs)
    → IfSome r (λ x. x.now ≡ get_or xs i x.now) → option_copied r ≡ slice_get xs i
lent xs i None e is = sym (slice_get_past xs i (ltb-false i (length xs) (sym e)))
lent xs i (Some x) e is = sym (slice_get_read xs (length xs) i x.now refl (ltb-true i (length xs) (sym e)) is)

-- ---- records

ids_more : {X : Type 0} (id_of : X → List ℕ) (xs : List X) (x : X) → map id_of (xs ++ x ∷ []) ≡ map id_of xs
    ++ id_of x ∷ []
ids_more id_of [] x = refl
ids_more id_of (y ∷ ys) x = ap (λ ids. id_of y ∷ ids) (ids_more id_of ys x)

-- a record that was added behind the others
pub record_placed : {X : Type 0} (id_of : X → List ℕ) (before after : BTreeMap (List ℕ) ℕ) (xs ys : List X) (x : X)
    (id : List ℕ) (place : ℕ)
    → ys ≡ xs ++ x ∷ [] → id ≡ id_of x → place ≡ length xs → HasPlaces before (map id_of xs)
    → ((q : List ℕ) → get (slice_cmp nat_cmp) after q ≡ place_with id place q (get (slice_cmp nat_cmp) before q))
    → HasPlaces after (map id_of ys)
record_placed id_of before after xs ys x id place whole same behind has added =
    let ids : map id_of ys ≡ map id_of xs ++ id ∷ [] =
    ap (map id_of) whole ∙ ids_more id_of xs x ∙ ap (λ k. map id_of xs ++ k ∷ []) (sym same) in
    subst (HasPlaces after) (sym ids)
    (place_added before after (map id_of xs) id place (behind ∙ sym (length-map xs id_of)) has added)
