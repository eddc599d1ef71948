-- An object is stored in its place among the others.
use Rattle.std.proofs.Common.{◌≡◌, ℕ, zero, suc, append_assoc, ◌+◌, ◌<◌, ◌≤◌, true, false, List, [], ◌∷◌, ◌++◌, length}
use Rattle.std.proofs.Common.{take, drop, get_or, Option, Some, None, refl, sym, ap, ◌∙◌, arith}
use Rattle.std.specs.Prelude.{insert, slice_get, slice_set}
use Rattle.std.specs.Option.{option_map_or}
use Rattle.std.specs.Ordering.{is_eq, is_gt}
use Rattle.std.specs.declared.cmp.Ordering.{Ordering}
use Rattle.std.specs.declared.cmp.Ordering.TheVariants.{Less, Equal, Greater}
use Rattle.std.proofs.lemmas.Bool.{false≢true}
use Rattle.std.proofs.lemmas.List.{drop_all, drop_more, set_split, take_more}
use Rattle.std.proofs.lemmas.Option.{same_Some, slice_get_within, slice_get-get_or}
use Rattle.term_model.specs.declared.objects.NamedObject.{NamedObject}
use Rattle.term_model.specs.NameOrder.{name_cmp}
use Rattle.term_model.specs.NamedObjects.{is_named_at, stored, stored_by}

-- what stands at an index begins what is left from there on
pub left_there : (xs : List NamedObject) (i : ℕ) (x : NamedObject) → slice_get xs i ≡ Some x
    → drop i xs ≡ x ∷ drop (i + 1) xs
left_there xs i x h =
    let within = slice_get_within xs i x h in
    drop_more xs i x within
    ∙ ap (λ y. y ∷ drop (i + 1) xs) (same_Some (get_or xs i x) x (sym (slice_get-get_or xs i x within) ∙ h))

-- nothing stands at an index behind the end
pub left_none : (xs : List NamedObject) (i : ℕ) → slice_get xs i ≡ None → length xs ≤ i
left_none [] i h = omega arith
left_none (x ∷ xs) zero h = absurd cc
left_none (x ∷ xs) (suc i) h = let k = left_none xs i h in omega arith

-- an entry behind the first of others goes among those behind it
pub stored_behind : (entry x : NamedObject) (xs : List NamedObject) → is_gt (name_cmp entry.name x.name) ≡ true
    → stored entry (x ∷ xs) ≡ x ∷ stored entry xs
stored_behind entry x xs h = behind (name_cmp entry.name x.name) h
  where
    behind : (o : Ordering) → is_gt o ≡ true → stored_by o entry x xs (stored entry xs) ≡ x ∷ stored entry xs
    behind Less g = absurd (false≢true g)
    behind Equal g = absurd (false≢true g)
    behind Greater g = refl

-- one of the name of the first takes its place
stored_in_place : (entry x : NamedObject) (xs : List NamedObject) → is_eq (name_cmp entry.name x.name) ≡ true
    → stored entry (x ∷ xs) ≡ entry ∷ xs
stored_in_place entry x xs h = in_place (name_cmp entry.name x.name) h
  where
    in_place : (o : Ordering) → is_eq o ≡ true → stored_by o entry x xs (stored entry xs) ≡ entry ∷ xs
    in_place Less g = absurd (false≢true g)
    in_place Equal g = refl
    in_place Greater g = absurd (false≢true g)

stored_in_front : (entry x : NamedObject) (xs : List NamedObject) → is_eq (name_cmp entry.name x.name) ≡ false
    → is_gt (name_cmp entry.name x.name) ≡ false → stored entry (x ∷ xs) ≡ entry ∷ x ∷ xs
stored_in_front entry x xs h k = in_front (name_cmp entry.name x.name) h k
  where
    in_front : (o : Ordering) → is_eq o ≡ false → is_gt o ≡ false
        → stored_by o entry x xs (stored entry xs) ≡ entry ∷ x ∷ xs
    in_front Less g l = refl
    in_front Equal g l = absurd (false≢true (sym g))
    in_front Greater g l = absurd (false≢true (sym l))

-- where the entry at its index has its name, it takes its place
pub replaces : (entry : NamedObject) (xs : List NamedObject) (at : ℕ)
    → stored entry xs ≡ take at xs ++ stored entry (drop at xs) → is_named_at xs at entry.name ≡ true
    → slice_set xs at entry ≡ stored entry xs
replaces entry xs at front named = found (slice_get xs at) refl named
  where
    found : (o : Option NamedObject) → slice_get xs at ≡ o
        → option_map_or (λ (e : NamedObject). is_eq (name_cmp entry.name e.name)) o false ≡ true
        → slice_set xs at entry ≡ stored entry xs
    found None there h = absurd (false≢true h)
    found (Some x) there h =
        let next : suc at ≡ at + 1 = omega arith in
        set_split xs at entry (slice_get_within xs at x there) ∙ ap (λ n. take at xs ++ entry ∷ drop n xs) next
        ∙ sym (front ∙ ap (λ ys. take at xs ++ ys)
        (ap (stored entry) (left_there xs at x there) ∙ stored_in_place entry x (drop (at + 1) xs) h))

-- else it goes in front of it
pub inserts : (entry : NamedObject) (xs : List NamedObject) (at : ℕ)
    → stored entry xs ≡ take at xs ++ stored entry (drop at xs) → is_named_at xs at entry.name ≡ false
    → ((x : NamedObject) → slice_get xs at ≡ Some x → is_gt (name_cmp entry.name x.name) ≡ false)
    → insert xs at entry ≡ stored entry xs
inserts entry xs at front named stops = found (slice_get xs at) refl named
  where
    found : (o : Option NamedObject) → slice_get xs at ≡ o
        → option_map_or (λ (e : NamedObject). is_eq (name_cmp entry.name e.name)) o false ≡ false
        → insert xs at entry ≡ stored entry xs
    found None there h =
        sym (front ∙ ap (λ ys. take at xs ++ ys)
        (ap (stored entry) (drop_all at xs (left_none xs at there))
        ∙ ap (λ ys. entry ∷ ys) (sym (drop_all at xs (left_none xs at there)))))
    found (Some x) there h =
        sym (front ∙ ap (λ ys. take at xs ++ ys)
        (ap (stored entry) (left_there xs at x there) ∙ (stored_in_front entry x (drop (at + 1) xs) h (stops x there)
        ∙ ap (λ ys. entry ∷ ys) (sym (left_there xs at x there)))))

-- one entry more stands in front
pub front_more : (entry x : NamedObject) (xs : List NamedObject) (at : ℕ) → at < length xs → x ≡ get_or xs at x
    → stored entry xs ≡ take at xs ++ stored entry (drop at xs) → is_gt (name_cmp entry.name x.name) ≡ true
    → stored entry xs ≡ take (at + 1) xs ++ stored entry (drop (at + 1) xs)
front_more entry x xs at within is front behind =
    front
    ∙ (ap (λ ys. take at xs ++ stored entry ys) (drop_more xs at x within ∙ ap (λ y. y ∷ drop (at + 1) xs) (sym is))
    ∙ (ap (λ ys. take at xs ++ ys) (stored_behind entry x (drop (at + 1) xs) behind)
    ∙ (sym (append_assoc (take at xs) (x ∷ []) (stored entry (drop (at + 1) xs)))
    ∙ ap (λ ys. ys ++ stored entry (drop (at + 1) xs))
    (sym (take_more xs at x within ∙ ap (λ y. take at xs ++ y ∷ []) (sym is))))))
