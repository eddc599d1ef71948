-- Components in any order, and alternatives, are found by their tags: X.680, sections 26.3 and 28.3.
use Rattle.std.proofs.Common.{◌≡◌, Bool, true, false, Option, Some, None, refl, ap, sym, ◌∙◌, subst, ℕ, suc, zero, ◌+◌}
use Rattle.std.proofs.Common.{List, [], ◌∷◌, inl, inr, arith}
use Rattle.std.proofs.lemmas.Bool.{and_parts}
use Rattle.term_values.specs.Beginnings.{first_tags, has_tag}
use Rattle.term_values.specs.Decoding.{picked_in, unordered_in, taken_out}
use Rattle.term_values.specs.Denotes.{AbsentHolds}
use Rattle.term_values.specs.Rearranged.{IsAmong, IsRearrangement}
use Rattle.term_values.specs.Soundness.{are_all_apart, is_apart_from_all}
use Rattle.term_values.specs.Syntaxes.{TypeParts}
use Rattle.term_values.specs.Syntaxes.TypeParts.{NoParts, Part}
use Rattle.term_values.specs.Tree.{TreeValue, listed as trees_listed}
use Rattle.term_values.specs.TreeTags.{tag_of}
use Rattle.term_values.specs.Typed.{TypedValue, TypedSlots}
use Rattle.term_values.specs.Typed.TypedValue.{Pick}
use Rattle.term_values.specs.Typed.TypedSlots.{NoSlots, Filled, Empty}
use Rattle.term_values.specs.declared.tag.Tag.{Tag}
use Rattle.typed_laws.proofs.PartsRead.{PartsRead, PickRead, left_out_read}
use Rattle.typed_laws.proofs.TagsApart.{apart}

-- each of a list
abbrev pub Each : {A : Type 0} → (A → Type 0) → List A → Type 0
Each P [] = Unit {0}
Each P (x ∷ xs) = P x × Each P xs

pub each_among : {A : Type 0} (P : A → Type 0) (x : A) (others ys : List A) → IsAmong x others ys → Each P ys
    → P x × Each P others
each_among P x others [] a h = absurd a
each_among P x others (y ∷ ys) (inl p) h = (subst P p.0 h.0, subst (Each P) p.1 h.1)
each_among P x others (y ∷ ys) (inr p) h =
    let r = each_among P x p.0 ys p.2 h.1 in
    (r.0, subst (Each P) (sym p.1) (h.0, r.1))

pub each_rearranged : {A : Type 0} (P : A → Type 0) (xs ys : List A) → IsRearrangement xs ys → Each P ys → Each P xs
each_rearranged P [] ys r h = tt
each_rearranged P (x ∷ xs) ys r h =
    let p = each_among P x r.0 ys r.1 h in
    (p.0, each_rearranged P xs r.0 r.2 p.1)

-- the first of the second list stands somewhere in the first one
pub first_among : {A : Type 0} (x : A) (xs inside : List A) → IsRearrangement inside (x ∷ xs)
    → (others : List A) × IsAmong x others inside × IsRearrangement others xs
first_among x xs [] r = absurd (cc)
first_among {A} x xs (a ∷ rest) r = go r.0 r.1 r.2 (λ ys q. first_among x ys rest q)
  where
    go : (o : List A) → IsAmong a o (x ∷ xs) → IsRearrangement rest o
        → ((ys : List A) → IsRearrangement rest (x ∷ ys)
        → (others : List A) × IsAmong x others rest × IsRearrangement others ys)
        → (others : List A) × IsAmong x others (a ∷ rest) × IsRearrangement others xs
    go o (inl p) q later = (rest, inl (sym p.0, refl), subst (IsRearrangement rest) (sym p.1) q)
    go o (inr p) q later =
        let n = later p.0 (subst (IsRearrangement rest) p.1 q) in
        (a ∷ n.0, inr (n.0, refl, n.1), (p.0, p.2, n.2))

-- ---- the tree of a component, and no other one, begins it

abbrev Passes : Option (List Tag) → TreeValue → Type 0
Passes tags x = has_tag tags (tag_of x) ≡ false

-- no tree of the others begins what is apart from all of them
all_pass : (tags : Option (List Tag)) (parts : TypeParts) (trees : List TreeValue) (slots : TypedSlots)
    → is_apart_from_all tags parts ≡ true → PartsRead parts trees slots → Each (Passes tags) trees
all_pass tags NoParts trees slots e r = subst (Each (Passes tags)) (sym r.0) tt
all_pass tags (Part name syntax optional default rest) [] slots e r = tt
all_pass tags (Part name syntax optional default rest) (x ∷ xs) (Filled v slots) e (inl r) = (
  apart tags (first_tags syntax) (tag_of x) (and_parts _ _ e).0 r.0.begun,
  all_pass tags rest xs slots
      (and_parts _ _ e).1 r.1,
)
all_pass tags (Part name syntax optional default rest) (x ∷ xs) NoSlots e (inl r) = absurd r
all_pass tags (Part name syntax optional default rest) (x ∷ xs) (Empty slots) e (inl r) = absurd r
all_pass tags (Part name syntax optional (Some default) rest) (x ∷ xs) (Filled v slots) e (inr r) =
    all_pass tags rest (x ∷ xs) slots (and_parts _ _ e).1 r.1
all_pass tags (Part name syntax optional (Some default) rest) (x ∷ xs) NoSlots e (inr r) = absurd r
all_pass tags (Part name syntax optional (Some default) rest) (x ∷ xs) (Empty slots) e (inr r) = absurd r
all_pass tags (Part name syntax true None rest) (x ∷ xs) (Empty slots) e (inr r) =
    all_pass tags rest (x ∷ xs) slots (and_parts _ _ e).1 r
all_pass tags (Part name syntax true None rest) (x ∷ xs) NoSlots e (inr r) = absurd r
all_pass tags (Part name syntax true None rest) (x ∷ xs) (Filled v slots) e (inr r) = absurd r
all_pass tags (Part name syntax false None rest) (x ∷ xs) slots e (inr r) = absurd r

taken_is : (tags : Option (List Tag)) (x : TreeValue) (others inside : List TreeValue)
    → has_tag tags (tag_of x) ≡ true → Each (Passes tags) others → IsAmong x others inside
    → taken_out (has_tag tags) (trees_listed inside) ≡ Some (x, trees_listed others)
taken_is tags x others [] b h a = absurd a
taken_is tags x others (y ∷ ys) b h (inl p) =
    rw (ap (λ t. has_tag tags (tag_of t)) p.0 ∙ b) (λ i. Some (p.0 i, trees_listed (p.1 i)))
taken_is tags x others (y ∷ ys) b h (inr p) =
    let k = subst (Each (Passes tags)) p.1 h in
    rw (k.0, taken_is tags x p.0 ys b k.1 p.2) (ap (λ os. Some (x, trees_listed os)) (sym p.1))

none_taken : (tags : Option (List Tag)) (inside : List TreeValue) → Each (Passes tags) inside
    → taken_out (has_tag tags) (trees_listed inside) ≡ None
none_taken tags [] h = refl
none_taken tags (y ∷ ys) h = rw (h.0, none_taken tags ys h.1) refl

absent_all_pass : (optional : Bool) (default : Option TypedValue) (tags : Option (List Tag)) (rest : TypeParts)
    (trees : List TreeValue) (slots : TypedSlots) → is_apart_from_all tags rest ≡ true
    → AbsentHolds optional default (PartsRead rest trees) slots → Each (Passes tags) trees
absent_all_pass optional (Some default) tags rest trees (Filled v ws) e r = all_pass tags rest trees ws e r.1
absent_all_pass optional (Some default) tags rest trees NoSlots e r = absurd r
absent_all_pass optional (Some default) tags rest trees (Empty ws) e r = absurd r
absent_all_pass true None tags rest trees (Empty ws) e r = all_pass tags rest trees ws e r
absent_all_pass true None tags rest trees NoSlots e r = absurd r
absent_all_pass true None tags rest trees (Filled v ws) e r = absurd r
absent_all_pass false None tags rest trees slots e r = absurd r

pub unordered_read : (parts : TypeParts) (inside ordered : List TreeValue) (slots : TypedSlots)
    → are_all_apart parts ≡ true → IsRearrangement inside ordered → PartsRead parts ordered slots
    → unordered_in parts (trees_listed inside) ≡ Some slots
unordered_read NoParts [] ordered slots e m r = ap Some (sym r.1)
unordered_read NoParts (x ∷ xs) ordered slots e m r = absurd (each_among (λ y. ⊥) x m.0 ordered m.1
    (subst (Each (λ y. ⊥)) (sym r.0) tt)).0
unordered_read (Part name syntax optional default rest) inside [] slots e m (inl r) = absurd r
unordered_read (Part name syntax optional default rest) inside (x ∷ xs) NoSlots e m (inl r) = absurd r
unordered_read (Part name syntax optional default rest) inside (x ∷ xs) (Empty slots) e m (inl r) = absurd r
unordered_read (Part name syntax optional default rest) inside (x ∷ xs) (Filled v slots) e m (inl r) =
    let p = and_parts (is_apart_from_all (first_tags syntax) rest) (are_all_apart rest) e in
    let f = first_among x xs inside m in
    let pass = each_rearranged (Passes (first_tags syntax)) f.0 xs f.2
    (all_pass (first_tags syntax) rest xs slots p.0 r.1) in
    rw (
      taken_is (first_tags syntax) x f.0 inside r.0.begun pass f.1,
      r.0.found,
      unordered_read rest f.0 xs slots p.1
          f.2 r.1,
    ) refl
unordered_read (Part name syntax optional default rest) inside ordered slots e m (inr r) =
    let p = and_parts (is_apart_from_all (first_tags syntax) rest) (are_all_apart rest) e in
    let pass = each_rearranged (Passes (first_tags syntax)) inside ordered m
    (absent_all_pass optional default (first_tags syntax) rest ordered slots p.0 r) in
    rw (none_taken (first_tags syntax) inside pass)
    (left_out_read optional default (PartsRead rest ordered) (unordered_in rest (trees_listed inside)) slots
    (λ ws q. unordered_read rest inside ordered ws p.1 m q) r)

-- ---- alternatives

pick_passes : (tags : Option (List Tag)) (parts : TypeParts) (index : ℕ) (tree : TreeValue) (value : TypedValue)
    → is_apart_from_all tags parts ≡ true → PickRead parts index tree value → has_tag tags (tag_of tree) ≡ false
pick_passes tags NoParts index tree value e r = absurd r
pick_passes tags (Part name syntax optional default rest) zero tree value e r =
    apart tags (first_tags syntax) (tag_of tree) (and_parts _ _ e).0 r.begun
pick_passes tags (Part name syntax optional default rest) (suc index) tree value e r =
    pick_passes tags rest index tree value (and_parts _ _ e).1 r

pub picked_read : (parts : TypeParts) (k index : ℕ) (tree : TreeValue) (value : TypedValue)
    → are_all_apart parts ≡ true → PickRead parts index tree value
    → picked_in k parts tree ≡ Some (Pick (k + index) value)
picked_read NoParts k index tree value e r = absurd r
picked_read (Part name syntax optional default rest) k zero tree value e r =
    let plain : k ≡ k + 0 = omega arith in
    rw (r.begun, r.found) (ap (λ n. Some (Pick n value)) plain)
picked_read (Part name syntax optional default rest) k (suc index) tree value e r =
    let p = and_parts (is_apart_from_all (first_tags syntax) rest) (are_all_apart rest) e in
    let plain : (k + 1) + index ≡ k + suc index = omega arith in
    rw (pick_passes (first_tags syntax) rest index tree value p.0 r)
    (picked_read rest (k + 1) index tree value p.1 r ∙ ap (λ n. Some (Pick n value)) plain)
