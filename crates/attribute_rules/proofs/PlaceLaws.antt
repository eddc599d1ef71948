-- The place of an attribute: what stands there, and that halves find it where identifiers rise.
use Rattle.std.proofs.Common.{◌≡◌, ℕ, zero, suc, ◌<◌, ◌≤◌, Bool, true, false, List, [], ◌∷◌, Option, None, Some}
use Rattle.std.proofs.Common.{◌⊎◌, refl, sym, ap, ◌∙◌, arith, length, get_or, set, subst, inl, inr}
use Rattle.std.proofs.lemmas.Bool.{and_parts, false≢true}
use Rattle.std.proofs.lemmas.Map.Text.{is_eq-slice_cmp}
use Rattle.std.proofs.lemmas.Option.{same_Some}
use Rattle.std.specs.Cmp.Lexicographic.{nat_list_cmp_total, slice_cmp}
use Rattle.std.specs.List.{AllWithin, HoldsAt}
use Rattle.std.specs.List.Sorted.{IsNonDecreasingBy, IsPartitionPoint}
use Rattle.std.specs.Option.{option_map}
use Rattle.std.specs.Ordering.{is_eq, is_lt, nat_cmp, ordering_index, ordering_reverse}
use Rattle.std.specs.Prelude.{◌&&◌, map}
use Rattle.std.specs.declared.cmp.Ordering.{Ordering}
use Rattle.std.specs.declared.cmp.Ordering.TheVariants.{Less, Equal, Greater}
use Rattle.term_values.specs.Typed.{TypedValue}
use Rattle.term_model.specs.declared.object.Attribute.{Attribute}
use Rattle.term_model.specs.Comparing.{is_same_oid}
use Rattle.term_model.specs.Modifications.{attribute_of, replaced}
use Rattle.attribute_rules.specs.Places.{are_rising, place_of, rise_from}

-- ---- what stands at a place

-- what is found at the first one, and behind it
first_has : (x : Attribute) (xs : List Attribute) (id : List ℕ) → is_same_oid x.id id ≡ true
    → (place_of (x ∷ xs) id ≡ Some 0) × (attribute_of (x ∷ xs) id ≡ Some x)
first_has x xs id h = (rw h refl, rw h refl)

behind_has : (x : Attribute) (xs : List Attribute) (id : List ℕ) → is_same_oid x.id id ≡ false
    → (place_of (x ∷ xs) id ≡ option_map suc (place_of xs id)) × (attribute_of (x ∷ xs) id ≡ attribute_of xs id)
behind_has x xs id h = (rw h refl, rw h refl)

pub first_replaced : (x : Attribute) (xs : List Attribute) (id : List ℕ) (value : TypedValue)
    → is_same_oid x.id id ≡ true → replaced id value (x ∷ xs) ≡ record x { value = value } ∷ xs
first_replaced x xs id value h = rw h refl

pub behind_replaced : (x : Attribute) (xs : List Attribute) (id : List ℕ) (value : TypedValue)
    → is_same_oid x.id id ≡ false → replaced id value (x ∷ xs) ≡ x ∷ replaced id value xs
behind_replaced x xs id value h = rw h refl

-- the attribute with an identifier stands at this place
pub record StandsAt (xs : List Attribute) (id : List ℕ) (place : ℕ) : Type 0 where
  pub within : place < length xs
  pub found : (d : Attribute) → attribute_of xs id ≡ Some (get_or xs place d)
  pub given : (d : Attribute) (value : TypedValue)
      → replaced id value xs ≡ set xs place (record (get_or xs place d) { value = value })

stands_first : (x : Attribute) (xs : List Attribute) (id : List ℕ) → is_same_oid x.id id ≡ true
    → StandsAt (x ∷ xs) id 0
stands_first x xs id same = record {
  within = omega arith;
  found = λ d. (first_has x xs id same).1;
  given = λ d value. first_replaced x xs id value same;
}

stands_behind : (x : Attribute) (xs : List Attribute) (id : List ℕ) (place : ℕ) → is_same_oid x.id id ≡ false
    → StandsAt xs id place → StandsAt (x ∷ xs) id (suc place)
stands_behind x xs id place differs stands = record {
  within = omega (arith, stands.within);
  found = λ d. (behind_has x xs id differs).1 ∙ stands.found d;
  given = λ d value. behind_replaced x xs id value differs ∙ ap (λ ys. x ∷ ys) (stands.given d value);
}

pub stands_at : (xs : List Attribute) (id : List ℕ) (place : ℕ) → place_of xs id ≡ Some place → StandsAt xs id place
stands_at [] id place e = absurd (cc)
stands_at (x ∷ xs) id place e = by_test (is_same_oid x.id id) refl (stands_at xs id)
  where
    by_rest : (found : Option ℕ) → place_of xs id ≡ found → option_map suc found ≡ Some place
        → is_same_oid x.id id ≡ false → ((k : ℕ) → place_of xs id ≡ Some k → StandsAt xs id k)
        → StandsAt (x ∷ xs) id place
    by_rest None is same differs rest = absurd (cc)
    by_rest (Some k) is same differs rest =
        subst (StandsAt (x ∷ xs) id) (same_Some (suc k) place same) (stands_behind x xs id k differs (rest k is))

    by_test : (b : Bool) → is_same_oid x.id id ≡ b → ((k : ℕ) → place_of xs id ≡ Some k → StandsAt xs id k)
        → StandsAt (x ∷ xs) id place
    by_test true same rest =
        subst (StandsAt (x ∷ xs) id) (same_Some 0 place (sym (first_has x xs id same).0 ∙ e))
        (stands_first x xs id same)
    by_test false differs rest =
        by_rest (place_of xs id) refl (sym (behind_has x xs id differs).0 ∙ e) differs rest

-- or nowhere
pub record StandsNowhere (xs : List Attribute) (id : List ℕ) : Type 0 where
  pub none : attribute_of xs id ≡ None
  pub left : (value : TypedValue) → replaced id value xs ≡ xs

pub stands_nowhere : (xs : List Attribute) (id : List ℕ) → place_of xs id ≡ None → StandsNowhere xs id
stands_nowhere [] id e = record { none = refl; left = λ value. refl }
stands_nowhere (x ∷ xs) id e = by_test (is_same_oid x.id id) refl (stands_nowhere xs id)
  where
    without : (found : Option ℕ) → option_map suc found ≡ None → found ≡ None
    without None is = refl
    without (Some k) is = absurd (cc)

    by_test : (b : Bool) → is_same_oid x.id id ≡ b → (place_of xs id ≡ None → StandsNowhere xs id)
        → StandsNowhere (x ∷ xs) id
    by_test true same rest = absurd (cc (sym e ∙ (first_has x xs id same).0))
    by_test false differs rest =
        let behind = rest (without (place_of xs id) (sym (behind_has x xs id differs).0 ∙ e)) in
        record {
          none = (behind_has x xs id differs).1 ∙ behind.none;
          left = λ value. behind_replaced x xs id value differs ∙ ap (λ ys. x ∷ ys) (behind.left value);
        }

-- ---- identifiers that rise

abbrev order : List ℕ → List ℕ → Ordering
order = slice_cmp nat_cmp

less_is : (o : Ordering) → is_lt o ≡ true → o ≡ Less
less_is Less e = refl
less_is Equal e = absurd (false≢true e)
less_is Greater e = absurd (false≢true e)

turned : (a b : List ℕ) (o : Ordering) → order a b ≡ o → order b a ≡ ordering_reverse o
turned a b o e = nat_list_cmp_total.antisymm b a ∙ ap ordering_reverse e

pub behind_rising : (x : Attribute) (xs : List Attribute) → are_rising (x ∷ xs) ≡ true → are_rising xs ≡ true
behind_rising x [] e = refl
behind_rising x (y ∷ ys) e = (and_parts (is_lt (order x.id y.id)) (rise_from y.id ys) e).1

-- each one behind is greater
rises_to : (before : List ℕ) (xs : List Attribute) (i : ℕ) (d : Attribute) → i < length xs
    → rise_from before xs ≡ true → order before (get_or xs i d).id ≡ Less
rises_to before [] i d h e = absurd (omega (arith, h))
rises_to before (x ∷ xs) zero d h e =
    less_is (order before x.id) (and_parts (is_lt (order before x.id)) (rise_from x.id xs) e).0
rises_to before (x ∷ xs) (suc i) d h e =
    let parts = and_parts (is_lt (order before x.id)) (rise_from x.id xs) e in
    nat_list_cmp_total.trans before x.id (get_or xs i d).id (less_is (order before x.id) parts.0)
    (rises_to x.id xs i d (omega (arith, h)) parts.1)

pair_rises : (xs : List Attribute) (i j : ℕ) (d : Attribute) → i < j → j < length xs → are_rising xs ≡ true
    → order (get_or xs i d).id (get_or xs j d).id ≡ Less
pair_rises [] i j d h k e = absurd (omega (arith, k))
pair_rises (x ∷ xs) i zero d h k e = absurd (omega (arith, h))
pair_rises (x ∷ xs) zero (suc j) d h k e = rises_to x.id xs j d (omega (arith, k)) e
pair_rises (x ∷ xs) (suc i) (suc j) d h k e =
    pair_rises xs i j d (omega (arith, h)) (omega (arith, k)) (behind_rising x xs e)

lesser_first : (a b c : List ℕ) → order a b ≡ Less → ordering_index (order a c) ≤ ordering_index (order b c)
lesser_first a b c e = by (order a c) refl
  where
    by : (o : Ordering) → order a c ≡ o → ordering_index (order a c) ≤ ordering_index (order b c)
    by Less is = rw is (omega arith)
    by Equal is =
        let past : order b c ≡ Greater = turned c b Less (sym (nat_list_cmp_total.congr a c b is) ∙ e) in
        rw (is, past) (omega arith)
    by Greater is =
        let past : order b c ≡ Greater =
        turned c b Less (nat_list_cmp_total.trans c a b (turned a c Greater is) e) in
        rw (is, past) (omega arith)

-- so comparisons with one identifier don't fall
pub comparisons_rise : (xs : List Attribute) (id : List ℕ) → are_rising xs ≡ true
    → IsNonDecreasingBy (λ (x : Attribute). ordering_index (order x.id id)) xs
comparisons_rise xs id e = λ i j d h k. by i j d k (either i j h)
  where
    either : (i j : ℕ) → i ≤ j → (i ≡ j) ⊎ (i < j)
    either i j h = grind arith

    by : (i j : ℕ) (d : Attribute) → j < length xs → (i ≡ j) ⊎ (i < j)
        → ordering_index (order (get_or xs i d).id id) ≤ ordering_index (order (get_or xs j d).id id)
    by i j d k (inl same) = rw same (omega arith)
    by i j d k (inr before) = lesser_first (get_or xs i d).id (get_or xs j d).id id (pair_rises xs i j d before k e)

-- ---- the first one

same_is : (a b : List ℕ) (o : Ordering) → order a b ≡ o → is_same_oid a b ≡ is_eq o
same_is a b o e = sym (is_eq-slice_cmp a b) ∙ ap is_eq e

-- none of the attributes in a part of the list has the identifier
abbrev pub NoneWithin : List Attribute → List ℕ → ℕ → ℕ → Type 0
NoneWithin xs id low high = AllWithin (λ (x : Attribute). is_same_oid x.id id ≡ false) xs low high

none_behind : (x : Attribute) (xs : List Attribute) (id : List ℕ) (n : ℕ) → NoneWithin (x ∷ xs) id 0 (suc n)
    → NoneWithin xs id 0 n
none_behind x xs id n none = λ k d low high. none (suc k) d (omega arith) (omega (arith, high))

pub first_at : (xs : List Attribute) (id : List ℕ) (i : ℕ) (d : Attribute) → i < length xs → NoneWithin xs id 0 i
    → is_same_oid (get_or xs i d).id id ≡ true → place_of xs id ≡ Some i
first_at [] id i d h none same = absurd (omega (arith, h))
first_at (x ∷ xs) id zero d h none same = (first_has x xs id same).0
first_at (x ∷ xs) id (suc i) d h none same =
    (behind_has x xs id (none 0 d (omega arith) (omega arith))).0
    ∙ ap (option_map suc) (first_at xs id i d (omega (arith, h)) (none_behind x xs id i none) same)

pub nowhere : (xs : List Attribute) (id : List ℕ) → NoneWithin xs id 0 (length xs) → place_of xs id ≡ None
nowhere [] id none = refl
nowhere (x ∷ xs) id none =
    (behind_has x xs id (none 0 x (omega arith) (omega arith))).0
    ∙ ap (option_map suc) (nowhere xs id (none_behind x xs id (length xs) none))

-- ---- halves

-- what is less than one is less than what is equal to it
less_than : (a b c : List ℕ) → order a b ≡ Less → order b c ≡ Equal → order a c ≡ Less
less_than a b c e is =
    turned c a Greater (nat_list_cmp_total.congr c b a (turned b c Equal is) ∙ turned a b Less e)

pub halves_find : (xs : List Attribute) (id : List ℕ) (i : ℕ) → i < length xs
    → HoldsAt (λ (x : Attribute). order x.id id ≡ Equal) xs i → are_rising xs ≡ true → place_of xs id ≡ Some i
halves_find [] id i h at rise = absurd (omega (arith, h))
halves_find (x ∷ xs) id i h at rise =
    first_at (x ∷ xs) id i x h
    (λ k d low high. same_is (get_or (x ∷ xs) k d).id id Less
    (less_than (get_or (x ∷ xs) k d).id (get_or (x ∷ xs) i d).id id (pair_rises (x ∷ xs) k i d high h rise) (at d)))
    (same_is (get_or (x ∷ xs) i x).id id Equal (at x))

pub halves_miss : (xs : List Attribute) (id : List ℕ) (i : ℕ)
    → (IsNonDecreasingBy (λ (x : Attribute). ordering_index (order x.id id)) xs
    → IsPartitionPoint (λ (x : Attribute). order x.id id ≡ Less) (λ x. order x.id id ≡ Greater) xs i)
    → are_rising xs ≡ true → place_of xs id ≡ None
halves_miss xs id i parted rise =
    let sides = parted (comparisons_rise xs id rise) in
    nowhere xs id (λ k d low high. by_side k d high sides (either k i))
  where
    either : (k i : ℕ) → (k < i) ⊎ (i ≤ k)
    either k i = grind arith

    by_side : (k : ℕ) (d : Attribute) → k < length xs
        → IsPartitionPoint (λ (x : Attribute). order x.id id ≡ Less) (λ x. order x.id id ≡ Greater) xs i
        → (k < i) ⊎ (i ≤ k) → is_same_oid (get_or xs k d).id id ≡ false
    by_side k d high sides (inl before) = same_is (get_or xs k d).id id Less (sides.0 k d (omega arith) before)
    by_side k d high sides (inr behind) = same_is (get_or xs k d).id id Greater (sides.1 k d behind high)

-- ---- lists with the same identifiers

replaced_from : (before id : List ℕ) (value : TypedValue) (xs : List Attribute)
    → rise_from before (replaced id value xs) ≡ rise_from before xs
replaced_from before id value [] = refl
replaced_from before id value (x ∷ xs) = by_test (is_same_oid x.id id) refl (replaced_from x.id id value xs)
  where
    by_test : (b : Bool) → is_same_oid x.id id ≡ b
        → rise_from x.id (replaced id value xs) ≡ rise_from x.id xs
        → rise_from before (replaced id value (x ∷ xs)) ≡ rise_from before (x ∷ xs)
    by_test true same rest = ap (rise_from before) (first_replaced x xs id value same)
    by_test false differs rest =
        ap (rise_from before) (behind_replaced x xs id value differs) ∙ ap (λ b. is_lt (order before x.id) && b) rest

-- an attribute with another value
pub replaced_rising : (id : List ℕ) (value : TypedValue) (xs : List Attribute)
    → are_rising (replaced id value xs) ≡ are_rising xs
replaced_rising id value [] = refl
replaced_rising id value (x ∷ xs) = by_test (is_same_oid x.id id) refl
  where
    by_test : (b : Bool) → is_same_oid x.id id ≡ b
        → are_rising (replaced id value (x ∷ xs)) ≡ are_rising (x ∷ xs)
    by_test true same = ap are_rising (first_replaced x xs id value same)
    by_test false differs =
        ap are_rising (behind_replaced x xs id value differs) ∙ replaced_from x.id id value xs

-- attributes with other values
mapped_from : (f : Attribute → Attribute) → ((x : Attribute) → (f x).id ≡ x.id) → (before : List ℕ)
    (xs : List Attribute) → rise_from before (map f xs) ≡ rise_from before xs
mapped_from f same before [] = refl
mapped_from f same before (x ∷ xs) =
    ap (λ id. is_lt (order before id) && rise_from id (map f xs)) (same x)
    ∙ ap (λ b. is_lt (order before x.id) && b) (mapped_from f same x.id xs)

pub mapped_rising : (f : Attribute → Attribute) → ((x : Attribute) → (f x).id ≡ x.id) → (xs : List Attribute)
    → are_rising (map f xs) ≡ are_rising xs
mapped_rising f same [] = refl
mapped_rising f same (x ∷ xs) = ap (λ id. rise_from id (map f xs)) (same x) ∙ mapped_from f same x.id xs
