-- TableLaws: what the table of labels has, once a further template was told: the first of each label, by document and
-- then by place.
use Rattle.std.proofs.Common.{◌≡◌, ◌⊎◌, ◌<◌, ◌≤◌, ◌∙◌, ◌+◌, ℕ, List, [], ◌∷◌, ◌++◌, Option, None, Some, refl, sym, ap}
use Rattle.std.proofs.Common.{arith, get_or, inl, inr, length, take, map}
use Rattle.std.specs.Borrow.{Bor}
use Rattle.std.specs.Cmp.Lexicographic.{pointwise, same_text}
use Rattle.std.specs.Map.{lookup}
use Rattle.std.specs.Prelude.{Bool, IfSome, true, false, ◌&&◌, ◌||◌, ◌==◌, is_some, nat_lt, option_map, slice_get}
use Rattle.std.specs.Prelude.{if◌then◌else◌}
use Rattle.indexmap.specs.IndexMap.{IndexMap}
use Rattle.std.proofs.lemmas.Bool.{eq-eqb, eqb-true, false≢true, ltb-false, ltb-true}
use Rattle.std.proofs.lemmas.List.{take_all}
use Rattle.std.proofs.lemmas.Option.{slice_get-map, slice_get_past, slice_get_read}
use Rattle.std.proofs.Math.Dec.{ltb}
use Rattle.asn1_names.specs.FirstNames.{found}
use Rattle.asn1_names.specs.NameMeaning.{is_called}
use Rattle.asn1_names.specs.StandardModule.{is_same_name}
use Rattle.gdmo_names.specs.declared.found.Found.{Found}
use Rattle.gdmo_names.specs.FoundViews.{AreTemplates, found_view, found_views, numbered}
use Rattle.gdmo_names.specs.LabelMeaning.{earlier, first_called, label_meaning, stands_before}
use Rattle.gdmo_names.specs.LabelSteps.{comes_first}
use Rattle.gdmo_names.specs.PartTerms.{Placed, PartTerms, label_of}
use Rattle.gdmo_names.proofs.NotingLaws.{map_more}

-- ---- the order of labels

abbrev pub Ahead : Placed → Placed → Type 0
Ahead x y = (x.document < y.document) ⊎ ((x.document ≡ y.document)
    × ((label_of x.template).at < (label_of y.template).at))

-- the one stands no earlier than the other
abbrev pub NoEarlier : Placed → Placed → Type 0
NoEarlier x y = (y.document < x.document) ⊎ ((x.document ≡ y.document)
    × ((label_of y.template).at ≤ (label_of x.template).at))

ahead_by : (a b p q : ℕ) (l e m : Bool) → nat_lt a b ≡ l → (a == b) ≡ e → nat_lt p q ≡ m → (l || e && m) ≡ true →
    (a < b) ⊎ ((a ≡ b) × (p < q))
ahead_by a b p q true e m l_is e_is m_is h = inl (ltb-true a b l_is)
ahead_by a b p q false true true l_is e_is m_is h = inr (eqb-true a b e_is, ltb-true p q m_is)
ahead_by a b p q false true false l_is e_is m_is h = absurd (cc)
ahead_by a b p q false false m l_is e_is m_is h = absurd (cc)

pub ahead_of : (x y : Placed) → stands_before x y ≡ true → Ahead x y
ahead_of x y h = ahead_by x.document y.document (label_of x.template).at (label_of y.template).at
    (nat_lt x.document y.document) (x.document == y.document)
    (nat_lt (label_of x.template).at (label_of y.template).at) refl refl refl h

-- numbers that aren't equal
behind_by : (a b : ℕ) → (a == b) ≡ false → b ≤ a → b < a
behind_by a b e h = by (nat_lt b a) refl
  where
    by : (l : Bool) → nat_lt b a ≡ l → b < a
    by true is = ltb-true b a is
    by false is = absurd (false≢true (sym e ∙ eq-eqb a b (omega (arith, h, ltb-false b a is))))

not_ahead_by : (a b p q : ℕ) (l e m : Bool) → nat_lt a b ≡ l → (a == b) ≡ e → nat_lt p q ≡ m → (l || e && m) ≡ false →
    (b < a) ⊎ ((a ≡ b) × (q ≤ p))
not_ahead_by a b p q true e m l_is e_is m_is h = absurd (cc)
not_ahead_by a b p q false true true l_is e_is m_is h = absurd (cc)
not_ahead_by a b p q false true false l_is e_is m_is h = inr (eqb-true a b e_is, ltb-false p q m_is)
not_ahead_by a b p q false false m l_is e_is m_is h = inl (behind_by a b e_is (ltb-false a b l_is))

pub not_ahead : (x y : Placed) → stands_before x y ≡ false → NoEarlier x y
not_ahead x y h = not_ahead_by x.document y.document (label_of x.template).at (label_of y.template).at
    (nat_lt x.document y.document) (x.document == y.document)
    (nat_lt (label_of x.template).at (label_of y.template).at) refl refl refl h

ahead_through : (x y z : Placed) → Ahead x z → Ahead z y → NoEarlier x y → ⊥
ahead_through x y z (inl h) (inl i) (inl j) = omega (arith, h, i, j)
ahead_through x y z (inl h) (inl i) (inr j) = omega (arith, h, i, j.0)
ahead_through x y z (inl h) (inr i) (inl j) = omega (arith, h, i.0, j)
ahead_through x y z (inl h) (inr i) (inr j) = omega (arith, h, i.0, j.0)
ahead_through x y z (inr h) (inl i) (inl j) = omega (arith, h.0, i, j)
ahead_through x y z (inr h) (inl i) (inr j) = omega (arith, h.0, i, j.0)
ahead_through x y z (inr h) (inr i) (inl j) = omega (arith, h.0, i.0, j)
ahead_through x y z (inr h) (inr i) (inr j) = omega (arith, h.1, i.1, j.1)

pub behind_through : (x y z : Placed) → NoEarlier x z → NoEarlier z y → Ahead x y → ⊥
behind_through x y z (inl h) (inl i) (inl j) = omega (arith, h, i, j)
behind_through x y z (inl h) (inl i) (inr j) = omega (arith, h, i, j.0)
behind_through x y z (inl h) (inr i) (inl j) = omega (arith, h, i.0, j)
behind_through x y z (inl h) (inr i) (inr j) = omega (arith, h, i.0, j.0)
behind_through x y z (inr h) (inl i) (inl j) = omega (arith, h.0, i, j)
behind_through x y z (inr h) (inl i) (inr j) = omega (arith, h.0, i, j.0)
behind_through x y z (inr h) (inr i) (inl j) = omega (arith, h.0, i.0, j)
behind_through x y z (inr h) (inr i) (inr j) = omega (arith, h.1, i.1, j.1)

-- ---- one more template

abbrev pushed : Option Placed → Placed → Option Placed
pushed before x = if comes_first x before then Some x else before

abbrev pub choice : Bool → Placed → Placed → Option Placed
choice test x y = if test then Some x else Some y

three : (x y z : Placed) (a b c : Bool) → stands_before x z ≡ a → stands_before z y ≡ b → stands_before x y ≡ c →
    earlier y (choice a x z) ≡ pushed (choice b z y) x
three x y z true true true a_is b_is c_is = ap (λ t. choice t x y) c_is ∙ sym (ap (λ t. choice t x z) a_is)
three x y z true true false a_is b_is c_is =
    absurd (ahead_through x y z (ahead_of x z a_is) (ahead_of z y b_is) (not_ahead x y c_is))
three x y z true false c a_is b_is c_is = refl
three x y z false true c a_is b_is c_is = ap (λ t. choice t z y) b_is ∙ sym (ap (λ t. choice t x z) a_is)
three x y z false false true a_is b_is c_is =
    absurd (behind_through x y z (not_ahead x z a_is) (not_ahead z y b_is) (ahead_of x y c_is))
three x y z false false false a_is b_is c_is = ap (λ t. choice t z y) b_is ∙ sym (ap (λ t. choice t x y) c_is)

earlier_push : (x y : Placed) (before : Option Placed) → earlier y (pushed before x) ≡ pushed (earlier y before) x
earlier_push x y None = refl
earlier_push x y (Some z) =
    three x y z (stands_before x z) (stands_before z y) (stands_before x y) refl refl refl

abbrev pub called : List ℕ → Placed → Bool
called label x = is_called label (label_of x.template)

abbrev told : Bool → Option Placed → Placed → Option Placed
told test before x = if test then pushed before x else before

first_push : (label : List ℕ) (xs : List Placed) (x : Placed) →
    first_called label (xs ++ x ∷ []) ≡ told (called label x) (first_called label xs) x
unfolding first_called
first_push label [] x = refl
first_push label (y ∷ ys) x =
    ap (λ rest. if called label y then earlier y rest else rest) (first_push label ys x) ∙
    by (called label y) (called label x)
  where
    by : (here there : Bool) → (if here then earlier y (told there (first_called label ys) x)
        else told there (first_called label ys) x) ≡
        told there (if here then earlier y (first_called label ys) else first_called label ys) x
    by true true = earlier_push x y (first_called label ys)
    by true false = refl
    by false there = refl

-- what the numbers of a table mean, with the label of a further template told
pub table_told : (views before after : List Placed) (n : ℕ) (x : Placed) (now next : List ℕ → Option ℕ) →
    slice_get views n ≡ Some x → after ≡ before ++ x ∷ [] →
    ((label : List ℕ) → numbered views (now label) ≡ first_called label before) →
    ((label : List ℕ) → next label ≡ (if called label x
    && comes_first x (numbered views (now (label_of x.template).text)) then Some n else now label)) →
    (label : List ℕ) → numbered views (next label) ≡ first_called label after
table_told views before after n x now next at is so_far updated label =
    ap (numbered views) (updated label) ∙ by (called label x) refl ∙ sym (first_push label before x) ∙
    ap (first_called label) (sym is)
  where
    has : (first : Bool) → numbered views (if first then Some n else now label) ≡
        (if first then Some x else first_called label before)
    has true = at
    has false = so_far label

    by : (test : Bool) → called label x ≡ test →
        numbered views (if test && comes_first x (numbered views (now (label_of x.template).text)) then Some n
        else now label) ≡ told test (first_called label before) x
    by true same = (let key : (label_of x.template).text ≡ label =
        same_text (label_of x.template).text label (sym same) in
        ap (λ z. numbered views (if comes_first x z then Some n else now label))
        (ap (λ k. numbered views (now k)) key ∙ so_far label) ∙ has (comes_first x (first_called label before)))
    by false same = so_far label

-- a table of nothing
pub table_begun : {S : Type 0} (views : List Placed) (table : IndexMap (Bor (List ℕ)) ℕ S) → table.entries ≡ [] →
    (label : List ℕ) → numbered views (found table label) ≡ first_called label []
unfolding first_called
table_begun views table is label = ap (numbered views) (ap (λ es. lookup (λ key. pointwise ◌==◌ label key.now) es) is)

-- the template at the place of a loop
pub viewed_at : (xs : List Found) (i : ℕ) (x : Found) → i < length xs → x ≡ get_or xs i x →
    slice_get (found_views xs) i ≡ Some (found_view x)
viewed_at xs i x within is = slice_get-map found_view xs i ∙
    ap (option_map found_view) (slice_get_read xs (length xs) i x refl within is)

-- one more label of a loop, and its end
pub table_step : (xs : List Found) (i : ℕ) (x : Found) (now next : List ℕ → Option ℕ) → i < length xs →
    x ≡ get_or xs i x →
    ((label : List ℕ) → numbered (found_views xs) (now label) ≡ first_called label (map found_view (take i xs))) →
    ((label : List ℕ) → next label ≡ (if called label (found_view x)
    && comes_first (found_view x) (numbered (found_views xs) (now x.label.now.text)) then Some i else now label)) →
    (label : List ℕ) → numbered (found_views xs) (next label) ≡ first_called label (map found_view (take (i + 1) xs))
table_step xs i x now next within is so_far updated =
    table_told (found_views xs) (map found_view (take i xs)) (map found_view (take (i + 1) xs)) i (found_view x) now
    next (viewed_at xs i x within is) (map_more found_view xs i x within is) so_far updated

pub table_end : (parts : PartTerms) (xs : List Found) (i : ℕ) (now : List ℕ → Option ℕ) → AreTemplates parts xs →
    length xs ≤ i →
    ((label : List ℕ) → numbered (found_views xs) (now label) ≡ first_called label (map found_view (take i xs))) →
    (label : List ℕ) → numbered (found_views xs) (now label) ≡ label_meaning parts label
unfolding label_meaning
table_end parts xs i now are past so_far label = so_far label ∙
    ap (λ ys. first_called label (map found_view ys)) (take_all i xs past) ∙ ap (first_called label) are

-- what `get` gives of the templates
pub got_view : (xs : List Found) (i : ℕ) (r : Option (Bor Found)) → is_some r ≡ ltb i (length xs) →
    IfSome r (λ x. x.now ≡ get_or xs i x.now) → option_map (λ x. found_view x.now) r ≡ slice_get (found_views xs) i
got_view xs i None e is =
    sym (slice_get-map found_view xs i ∙
    ap (option_map found_view) (slice_get_past xs i (ltb-false i (length xs) (sym e))))
got_view xs i (Some x) e is = sym (viewed_at xs i x.now (ltb-true i (length xs) (sym e)) is)

-- a label that was kept, and one that an earlier template has
pub label_kept : (views : List Placed) (x : Placed) (key : List ℕ) (n : ℕ) (now next : List ℕ → Option ℕ)
    (first : Option Placed) → key ≡ (label_of x.template).text → first ≡ numbered views (now key) →
    comes_first x first ≡ true →
    ((label : List ℕ) → next label ≡ (if is_same_name key label then Some n else now label)) →
    (label : List ℕ) → next label ≡ (if called label x
    && comes_first x (numbered views (now (label_of x.template).text)) then Some n else now label)
label_kept views x key n now next first key_is first_is test updated label = updated label ∙
    ap (λ k. if is_same_name k label then Some n else now label) key_is ∙ by (called label x)
  where
    first_now : comes_first x (numbered views (now (label_of x.template).text)) ≡ true
    first_now = sym (ap (λ k. comes_first x (numbered views (now k))) key_is) ∙ sym (ap (comes_first x) first_is) ∙ test

    by : (here : Bool) → (if here then Some n else now label) ≡
        (if here && comes_first x (numbered views (now (label_of x.template).text)) then Some n else now label)
    by true = sym (ap (λ t. if t then Some n else now label) first_now)
    by false = refl

pub label_left : (views : List Placed) (x : Placed) (key : List ℕ) (n : ℕ) (now : List ℕ → Option ℕ)
    (first : Option Placed) → key ≡ (label_of x.template).text → first ≡ numbered views (now key) →
    comes_first x first ≡ false → (label : List ℕ) → now label ≡ (if called label x
    && comes_first x (numbered views (now (label_of x.template).text)) then Some n else now label)
label_left views x key n now first key_is first_is test label = by (called label x)
  where
    first_now : comes_first x (numbered views (now (label_of x.template).text)) ≡ false
    first_now = sym (ap (λ k. comes_first x (numbered views (now k))) key_is) ∙ sym (ap (comes_first x) first_is) ∙ test

    by : (here : Bool) → now label ≡
        (if here && comes_first x (numbered views (now (label_of x.template).text)) then Some n else now label)
    by true = sym (ap (λ t. if t then Some n else now label) first_now)
    by false = refl
