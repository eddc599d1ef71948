-- Components and alternatives whose tags tell them apart are found by their tags: X.680, sections 24.5, 26.3 and 28.3.
use Rattle.std.proofs.Common.{◌≡◌, ◌⊎◌, Bool, true, false, Option, Some, None, refl, ap, sym, ℕ, suc, zero, ◌||◌, not}
use Rattle.std.proofs.Common.{List, [], ◌∷◌, inl, inr}
use Rattle.std.proofs.lemmas.Bool.{and_parts, or_right}
use Rattle.term_values.specs.Beginnings.{begins, first_tags, has_tag}
use Rattle.term_values.specs.Decoding.{denoted, parts_in, left_out}
use Rattle.term_values.specs.Denotes.{PresentHolds, AbsentHolds}
use Rattle.term_values.specs.Soundness.{are_runs_apart, is_apart_from_next, may_be_absent}
use Rattle.term_values.specs.Syntaxes.{TypeSyntax, TypeParts}
use Rattle.term_values.specs.Syntaxes.TypeParts.{NoParts, Part}
use Rattle.term_values.specs.Tree.{TreeValue, listed as trees_listed}
use Rattle.term_values.specs.Tree.TreeValues.{Nothing as NoTrees, Then as AndTrees}
use Rattle.term_values.specs.TreeTags.{tag_of}
use Rattle.term_values.specs.Typed.{TypedValue, TypedSlots}
use Rattle.term_values.specs.Typed.TypedSlots.{NoSlots, Filled, Empty}
use Rattle.term_values.specs.declared.tag.Tag.{Tag}
use Rattle.typed_laws.proofs.TagsApart.{apart, apart_next}

-- a tree that begins as a value of the syntax may, and gives one
pub record IsRead (syntax : TypeSyntax) (tree : TreeValue) (value : TypedValue) : Type 0 where
  pub begun : begins syntax (tag_of tree) ≡ true
  pub found : denoted false syntax tree ≡ Some value

-- trees in the order of the type give the components
abbrev pub PartsRead : TypeParts → List TreeValue → TypedSlots → Type 0
PartsRead NoParts trees slots = (trees ≡ []) × (slots ≡ NoSlots)
PartsRead (Part name syntax optional default rest) trees slots =
    PresentHolds (IsRead syntax) (PartsRead rest) trees slots
    ⊎ AbsentHolds optional default (PartsRead rest trees) slots

abbrev pub PickRead : TypeParts → ℕ → TreeValue → TypedValue → Type 0
PickRead NoParts index tree value = ⊥
PickRead (Part name syntax optional default rest) zero tree value = IsRead syntax tree value
PickRead (Part name syntax optional default rest) (suc index) tree value = PickRead rest index tree value

no_cons : {A : Type 0} (x : A) (xs : List A) → x ∷ xs ≡ [] → ⊥
no_cons x xs e = absurd (cc)

absent_may : (optional : Bool) (default : Option TypedValue) (rest : TypedSlots → Type 0) (slots : TypedSlots)
    → AbsentHolds optional default rest slots → may_be_absent optional default ≡ true
absent_may optional (Some default) rest slots h = or_right optional true refl
absent_may true None rest slots h = refl
absent_may false None rest slots h = absurd h

-- ---- in a row

-- the first tree doesn't begin what is apart from the components that may come next
first_apart : (tags : Option (List Tag)) (parts : TypeParts) (x : TreeValue) (xs : List TreeValue)
    (slots : TypedSlots) → is_apart_from_next tags parts ≡ true → PartsRead parts (x ∷ xs) slots
    → has_tag tags (tag_of x) ≡ false
first_apart tags NoParts x xs slots e r = absurd (no_cons x xs r.0)
first_apart tags (Part name syntax optional default rest) x xs (Filled v slots) e (inl r) =
    apart tags (first_tags syntax) (tag_of x) (and_parts _ _ e).0 r.0.begun
first_apart tags (Part name syntax optional default rest) x xs NoSlots e (inl r) = absurd r
first_apart tags (Part name syntax optional default rest) x xs (Empty slots) e (inl r) = absurd r
first_apart tags (Part name syntax optional (Some default) rest) x xs (Filled v slots) e (inr r) =
    first_apart tags rest x xs slots (apart_next tags syntax (may_be_absent optional (Some default)) rest e
    (or_right optional true refl)) r.1
first_apart tags (Part name syntax optional (Some default) rest) x xs NoSlots e (inr r) = absurd r
first_apart tags (Part name syntax optional (Some default) rest) x xs (Empty slots) e (inr r) = absurd r
first_apart tags (Part name syntax true None rest) x xs (Empty slots) e (inr r) =
    first_apart tags rest x xs slots (apart_next tags syntax true rest e refl) r
first_apart tags (Part name syntax true None rest) x xs NoSlots e (inr r) = absurd r
first_apart tags (Part name syntax true None rest) x xs (Filled v slots) e (inr r) = absurd r
first_apart tags (Part name syntax false None rest) x xs slots e (inr r) = absurd r

pub left_out_read : (optional : Bool) (default : Option TypedValue) (rest : TypedSlots → Type 0)
    (o : Option TypedSlots) (slots : TypedSlots) → ((ws : TypedSlots) → rest ws → o ≡ Some ws)
    → AbsentHolds optional default rest slots → left_out optional default o ≡ Some slots
left_out_read optional (Some default) rest o (Filled v ws) each h =
    rw (each ws h.1) (ap (λ x. Some (Filled x ws)) (sym h.0))
left_out_read optional (Some default) rest o NoSlots each h = absurd h
left_out_read optional (Some default) rest o (Empty ws) each h = absurd h
left_out_read true None rest o (Empty ws) each h = rw (each ws h) refl
left_out_read true None rest o NoSlots each h = absurd h
left_out_read true None rest o (Filled v ws) each h = absurd h
left_out_read false None rest o slots each h = absurd h

unless_present : (optional : Bool) (default : Option TypedValue) (tags : Option (List Tag)) (rest : TypeParts)
    → (not (may_be_absent optional default) || is_apart_from_next tags rest) ≡ true
    → may_be_absent optional default ≡ true → is_apart_from_next tags rest ≡ true
unless_present optional default tags rest e h = go (may_be_absent optional default) e h
  where
    go : (b : Bool) → (not b || is_apart_from_next tags rest) ≡ true → b ≡ true
        → is_apart_from_next tags rest ≡ true
    go true e h = e
    go false e h = absurd (cc)

pub parts_read : (parts : TypeParts) (trees : List TreeValue) (slots : TypedSlots) → are_runs_apart parts ≡ true
    → PartsRead parts trees slots → parts_in parts (trees_listed trees) ≡ Some slots
parts_read NoParts [] slots e r = ap Some (sym r.1)
parts_read NoParts (x ∷ xs) slots e r = absurd (no_cons x xs r.0)
parts_read (Part name syntax optional default rest) [] slots e (inl r) = absurd r
parts_read (Part name syntax optional default rest) (x ∷ xs) (Filled v slots) e (inl r) =
    let p = and_parts (not (may_be_absent optional default) || is_apart_from_next (first_tags syntax) rest)
    (are_runs_apart rest) e in
    let others = parts_read rest xs slots p.1 r.1 in
    rw (r.0.begun, r.0.found, others) refl
parts_read (Part name syntax optional default rest) (x ∷ xs) NoSlots e (inl r) = absurd r
parts_read (Part name syntax optional default rest) (x ∷ xs) (Empty slots) e (inl r) = absurd r
parts_read (Part name syntax optional default rest) [] slots e (inr r) =
    left_out_read optional default (PartsRead rest []) (parts_in rest NoTrees) slots
    (λ ws q. parts_read rest [] ws (and_parts _ _ e).1 q) r
parts_read (Part name syntax optional default rest) (x ∷ xs) slots e (inr r) =
    let p = and_parts (not (may_be_absent optional default) || is_apart_from_next (first_tags syntax) rest)
    (are_runs_apart rest) e in
    let may = absent_may optional default (PartsRead rest (x ∷ xs)) slots r in
    let next = unless_present optional default (first_tags syntax) rest p.0 may in
    let passes = first_of_absent optional default (first_tags syntax) rest x xs slots next r in
    rw passes (left_out_read optional default (PartsRead rest (x ∷ xs)) (parts_in rest (AndTrees x (trees_listed xs)))
    slots
    (λ ws q. parts_read rest (x ∷ xs) ws p.1 q) r)
  where
    first_of_absent : (optional : Bool) (default : Option TypedValue) (tags : Option (List Tag)) (rest : TypeParts)
        (x : TreeValue) (xs : List TreeValue) (slots : TypedSlots) → is_apart_from_next tags rest ≡ true
        → AbsentHolds optional default (PartsRead rest (x ∷ xs)) slots → has_tag tags (tag_of x) ≡ false
    first_of_absent optional (Some default) tags rest x xs (Filled v ws) e r = first_apart tags rest x xs ws e r.1
    first_of_absent optional (Some default) tags rest x xs NoSlots e r = absurd r
    first_of_absent optional (Some default) tags rest x xs (Empty ws) e r = absurd r
    first_of_absent true None tags rest x xs (Empty ws) e r = first_apart tags rest x xs ws e r
    first_of_absent true None tags rest x xs NoSlots e r = absurd r
    first_of_absent true None tags rest x xs (Filled v ws) e r = absurd r
    first_of_absent false None tags rest x xs slots e r = absurd r
