-- What a waiting operation holds stays the beginning of its path.
use Rattle.std.proofs.Common.{◌≡◌, ◌<◌, ◌≤◌, ℕ, zero, suc, Bool, true, false, List, [], ◌∷◌, ◌++◌, length, take}
use Rattle.std.proofs.Common.{length-append}
use Rattle.std.proofs.Common.{Some, refl, sym, ap, ◌∙◌, subst, arith, append_assoc, append-nil, if◌then◌else◌, inl, inr}
use Rattle.std.specs.Prelude.{Contains, slice_get}
use Rattle.std.specs.Option.{option_map}
use Rattle.std.proofs.lemmas.Bool.{false≢true}
use Rattle.std.proofs.lemmas.Option.{none-some, same_Some}
use Rattle.term_model.specs.declared.name.Rdn.{Rdn}
use Rattle.term_model.specs.declared.object.Object.{Object}
use Rattle.term_model.specs.declared.objects.NamedObject.{NamedObject}
use Rattle.term_model.specs.declared.schema.Set.{Set}
use Rattle.term_model.proofs.MapLaws.{name_Decides}
use Rattle.lock_model.specs.declared.lock_name.LockName.{LockName}
use Rattle.lock_model.specs.declared.lock_name.Mode.{Mode}
use Rattle.lock_model.specs.declared.lock_name.Part.{Part}
use Rattle.lock_model.specs.declared.path.Wanted.{Wanted}
use Rattle.lock_model.specs.LockPath.{Path, at_the_unit, begins, ending, inside_of, is_inside}
use Rattle.lock_model.specs.LockPath.{on_the_way, own, tree, way_from, way_to}
use Rattle.lock_model.specs.Units.{ended_at, ended_from, is_log_at, walk, way_on}
use Rattle.lock_model.specs.ReadSet.{class_at}
use Rattle.lock_model.specs.OperationLaws.{Framed}
use Rattle.lock_model.specs.PathLaws.{GoTogether, WaitingStays}
use Rattle.lock_model.proofs.Names.{begins_is, begins_more, begins_trans}
use Rattle.lock_model.proofs.Paths.{log_same}
use Rattle.lock_model.proofs.Depths.{paths_are_ways}
use Rattle.lock_model.proofs.Ways.{at_unit, has_first, has_later}
use Rattle.lock_model.proofs.Standing.{first_or_later}
use Rattle.lock_model.specs.declared.lock_name.Part.TheVariants as extents

abbrev Place : Type 0
Place = LockName × Mode

-- ---- the walk and the way

-- the way of where the walk ends is the walk
pub walk_from : (is_log : List Rdn → Bool) (front parts : List Rdn) (part : Part) (writing : Bool)
    → (behind : List Rdn) × ((ended_from is_log front parts part).name ≡ front ++ behind)
    × (walk is_log front parts part writing
    ≡ way_from front behind (ended_from is_log front parts part).part writing)
walk_from is_log front [] part writing = by (is_log front)
  where
    by : (b : Bool) → (behind : List Rdn)
        × ((if b then tree front else record { name = front; part = part }).name ≡ front ++ behind)
        × ((if b then (tree front, at_the_unit writing) ∷ [] else ending front part writing)
        ≡ way_from front behind (if b then tree front else record { name = front; part = part }).part writing)
    by true = ([], sym (append-nil front), refl)
    by false = ([], sym (append-nil front), refl)
walk_from is_log front (first ∷ others) part writing =
    by (walk_from is_log (front ++ first ∷ []) others part writing) (is_log front)
  where
    next : LockName
    next = ended_from is_log (front ++ first ∷ []) others part

    by : ((behind : List Rdn) × (next.name ≡ (front ++ first ∷ []) ++ behind)
        × (walk is_log (front ++ first ∷ []) others part writing
        ≡ way_from (front ++ first ∷ []) behind next.part writing)) → (b : Bool)
        → (behind : List Rdn) × ((if b then tree front else next).name ≡ front ++ behind)
        × ((if b then (tree front, at_the_unit writing) ∷ []
        else (tree front, on_the_way writing) ∷ walk is_log (front ++ first ∷ []) others part writing)
        ≡ way_from front behind (if b then tree front else next).part writing)
    by again true = ([], sym (append-nil front), refl)
    by again false = (
      first ∷ again.0,
      again.1 ∙ append_assoc front (first ∷ []) again.0,
      ap (λ (p : Path). (tree front, on_the_way writing) ∷ p) again.2,
    )

pub walk_is : (schema : Set) (objects : List NamedObject) (whole : Wanted)
    → way_on schema objects whole
    ≡ walk (is_log_at schema objects) [] whole.unit.name whole.unit.part whole.writing
walk_is schema objects whole =
    let h = walk_from (is_log_at schema objects) [] whole.unit.name whole.unit.part whole.writing in
    ap (λ n. way_from [] n (ended_at (is_log_at schema objects) whole.unit).part whole.writing) h.1 ∙ sym h.2

-- ---- a walk past names that are logs on neither map

walk_some : (is_log : List Rdn → Bool) (front parts : List Rdn) (part : Part) (writing : Bool)
    → 0 < length (walk is_log front parts part writing)
walk_some is_log front [] extents.Tree writing = by (is_log front)
  where
    by : (b : Bool) → 0 < length (if b then
        (tree front, at_the_unit writing) ∷ [] else ending front extents.Tree writing)
    by true = omega arith
    by false = omega arith
walk_some is_log front [] extents.Own writing = by (is_log front)
  where
    by : (b : Bool) → 0 < length (if b then
        (tree front, at_the_unit writing) ∷ [] else ending front extents.Own writing)
    by true = omega arith
    by false = omega arith
walk_some is_log front (first ∷ others) part writing =
    by (walk is_log (front ++ first ∷ []) others part writing) (is_log front)
  where
    by : (p : Path) (b : Bool)
        → 0 < length (if b then (tree front, at_the_unit writing) ∷ [] else (tree front, on_the_way writing) ∷ p)
    by p true = omega arith
    by p false = omega arith

abbrev Alike : (List Rdn → Bool) → (List Rdn → Bool) → Path → Type 0
Alike one other path = (name : List Rdn) (mode : Mode) → Contains path (tree name, mode) → one name ≡ other name

abbrev Stays : (one other : List Rdn → Bool) (front parts : List Rdn) (part : Part) (writing : Bool) (held : ℕ) → Type 0
Stays one other front parts part writing held =
    (take held (walk other front parts part writing) ≡ take held (walk one front parts part writing))
    × (held < length (walk other front parts part writing))

abbrev own_way : List Rdn → Bool → Bool → Path
own_way front writing b = if b then (tree front, at_the_unit writing) ∷ [] else ending front extents.Own writing

abbrev long_way : List Rdn → Bool → Bool → Path → Path
long_way front writing b p =
    if b then (tree front, at_the_unit writing) ∷ [] else (tree front, on_the_way writing) ∷ p

walk_stays : (one other : List Rdn → Bool) (front parts : List Rdn) (part : Part) (writing : Bool) (held : ℕ)
    → held < length (walk one front parts part writing)
    → Alike one other (take held (walk one front parts part writing))
    → Stays one other front parts part writing held
walk_stays one other front parts part writing zero h alike = (refl, walk_some other front parts part writing)
walk_stays one other front [] extents.Tree writing (suc k) h alike = absurd (by (one front) h)
  where
    by : (b : Bool) → suc k < length (if b then
        (tree front, at_the_unit writing) ∷ [] else ending front extents.Tree writing)
        → ⊥
    by true h = omega arith
    by false h = omega arith
walk_stays one other front [] extents.Own writing (suc k) h alike = by (one front) refl h alike
  where
    by : (b : Bool) → one front ≡ b → suc k < length (own_way front writing b)
        → Alike one other (take (suc k) (own_way front writing b))
        → (take (suc k) (own_way front writing (other front)) ≡ take (suc k) (own_way front writing b))
        × (suc k < length (own_way front writing (other front)))
    by true e h alike = absurd (omega arith)
    by false e h alike =
        let same : other front ≡ false =
        sym (alike front (on_the_way writing) (has_first (tree front, on_the_way writing)
        (take k ((own front, at_the_unit writing) ∷ [])))) ∙ e in (
          ap (λ b. take (suc k) (own_way front writing b)) same,
          subst (λ b. suc k < length
              (own_way front writing b)) (sym same) h,
        )
walk_stays one other front (first ∷ others) part writing (suc k) h alike =
    by (walk_stays one other (front ++ first ∷ []) others part writing k) (one front) refl h alike
  where
    first_walk : Path
    first_walk = walk one (front ++ first ∷ []) others part writing

    second_walk : Path
    second_walk = walk other (front ++ first ∷ []) others part writing

    by : (k < length first_walk → Alike one other (take k first_walk)
        → (take k second_walk ≡ take k first_walk) × (k < length second_walk))
        → (b : Bool) → one front ≡ b → suc k < length (long_way front writing b first_walk)
        → Alike one other (take (suc k) (long_way front writing b first_walk))
        → (take (suc k) (long_way front writing (other front) second_walk) ≡ take (suc k)
        (long_way front writing b first_walk))
        × (suc k < length (long_way front writing (other front) second_walk))
    by again true e h alike = absurd (omega arith)
    by again false e h alike =
        let same : other front ≡ false =
        sym (alike front (on_the_way writing) (has_first (tree front, on_the_way writing) (take k first_walk))) ∙ e in
        let rest = again (omega arith) (λ name mode at. alike name mode
        (has_later (tree front, on_the_way writing) (take k first_walk) (tree name, mode) at)) in
        let more : suc k < length (long_way front writing false second_walk) = (let deep = rest.1 in omega arith) in (
          ap (λ b. take (suc k) (long_way front writing b second_walk)) same
              ∙ ap (λ (p : Path). (tree front, on_the_way writing) ∷ p) rest.0,
          subst (λ b. suc k < length (long_way front writing b second_walk)) (sym same) more,
        )

-- ---- places by their index

pub contains_taken : {A : Type 0} (xs : List A) (k : ℕ) (x : A) → Contains (take k xs) x
    → (i : ℕ) × (i < k) × (slice_get xs i ≡ Some x)
contains_taken [] zero x h = absurd (omega (arith, h.1))
contains_taken [] (suc k) x h = absurd (omega (arith, h.1))
contains_taken (y ∷ ys) zero x h = absurd (omega (arith, h.1))
contains_taken (y ∷ ys) (suc k) x h = elim (first_or_later y (take k ys) x h) [
  | inl is ↦ (zero, omega arith, ap (λ z. Some z) is)
  | inr later ↦ (
      let rest = contains_taken ys k x later in
      let within = rest.1 in
      (suc rest.0, omega arith, rest.2))
]

pub taken_contains : {A : Type 0} (xs : List A) (k i : ℕ) (x : A) → slice_get xs i ≡ Some x → i < k
    → Contains (take k xs) x
taken_contains [] k i x h within = absurd (none-some x h)
taken_contains {A} (y ∷ ys) zero i x h within = absurd (omega arith)
taken_contains {A} (y ∷ ys) (suc k) zero x h within =
    subst (λ z. Contains (y ∷ take k ys) z) (same_Some y x h) (has_first y (take k ys))
taken_contains {A} (y ∷ ys) (suc k) (suc i) x h within =
    has_later y (take k ys) x (taken_contains ys k i x h (omega arith))

tree_at : (front parts rest : List Rdn) (part : Part) (writing : Bool)
    → (mode : Mode) × (slice_get (way_from front (parts ++ rest) part writing) (length parts)
    ≡ Some (tree (front ++ parts), mode))
tree_at front [] [] extents.Tree writing =
    (at_the_unit writing, ap (λ n. Some (tree n, at_the_unit writing)) (sym (append-nil front)))
tree_at front [] [] extents.Own writing = (
  on_the_way writing,
  ap (λ n. Some (tree n, on_the_way writing)) (sym
      (append-nil front)),
)
tree_at front [] (r ∷ rs) part writing = (
  on_the_way writing,
  ap (λ n. Some (tree n, on_the_way writing)) (sym
      (append-nil front)),
)
tree_at front (p ∷ ps) rest part writing =
    let at = tree_at (front ++ p ∷ []) ps rest part writing in
    (at.0, at.1 ∙ ap (λ n. Some (tree n, at.0)) (append_assoc front (p ∷ []) ps))

on_way_begins : (front parts : List Rdn) (part : Part) (writing : Bool) (i : ℕ) (place : Place)
    → slice_get (way_from front parts part writing) i ≡ Some place → begins place.0.name (front ++ parts) ≡ true
on_way_begins front [] extents.Tree writing zero place h =
    subst (λ (p : Place). begins p.0.name (front ++ []) ≡ true) (same_Some (tree front, at_the_unit writing) place h)
    (begins_more front [])
on_way_begins front [] extents.Tree writing (suc i) place h = absurd (none-some place h)
on_way_begins front [] extents.Own writing zero place h =
    subst (λ (p : Place). begins p.0.name (front ++ []) ≡ true) (same_Some (tree front, on_the_way writing) place h)
    (begins_more front [])
on_way_begins front [] extents.Own writing (suc zero) place h =
    subst (λ (p : Place). begins p.0.name (front ++ []) ≡ true) (same_Some (own front, at_the_unit writing) place h)
    (begins_more front [])
on_way_begins front [] extents.Own writing (suc (suc i)) place h = absurd (none-some place h)
on_way_begins front (first ∷ others) part writing zero place h =
    subst (λ (p : Place). begins p.0.name (front ++ first ∷ others) ≡ true)
    (same_Some (tree front, on_the_way writing) place h) (begins_more front (first ∷ others))
on_way_begins front (first ∷ others) part writing (suc i) place h =
    subst (λ n. begins place.0.name n ≡ true) (append_assoc front (first ∷ []) others)
    (on_way_begins (front ++ first ∷ []) others part writing i place h)

pub shorter : (front name : List Rdn) → begins front name ≡ true → length front ≤ length name
shorter front name h =
    let behind = begins_is front name h in
    let same = ap length behind.1 in
    omega (arith, length-append front behind.0)

-- ---- a name that carries a mode keeps its class

held_classes : (one other : Wanted) (before after : List NamedObject) (held : ℕ)
    → GoTogether (way_to one) (take held (way_to other)) → Framed one before after → (name : List Rdn) (mode : Mode)
    → Contains (take held (way_to other)) (tree name, mode) → class_at after name ≡ class_at before name
held_classes one other before after held go framed name mode at = by_writing one.writing refl
  where
    outside : is_inside one.unit name ≡ false → class_at after name ≡ class_at before name
    outside e = ap (option_map (λ (object : Object). object.class)) (framed.outside name e)

    against : one.writing ≡ true → one.unit.part ≡ extents.Tree → begins one.unit.name name ≡ true → ⊥
    against writes is h =
        let place = contains_taken (way_to other) held (tree name, mode) at in
        let on = on_way_begins [] other.unit.name other.unit.part other.writing place.0 (tree name, mode) place.2 in
        let behind = begins_is one.unit.name other.unit.name (begins_trans one.unit.name name other.unit.name h on) in
        let up = tree_at [] one.unit.name behind.0 other.unit.part other.writing in
        let there : slice_get (way_to other) (length one.unit.name) ≡ Some (tree one.unit.name, up.0) =
        subst (λ n. slice_get (way_from [] n other.unit.part other.writing) (length one.unit.name)
        ≡ Some (tree one.unit.name, up.0)) (sym behind.1) up.1 in
        let deep = paths_are_ways other place.0 (tree name, mode) place.2 in
        let less = shorter one.unit.name name h in
        let within = place.1 in
        let also : Contains (take held (way_to other)) (tree one.unit.name, up.0) =
        taken_contains (way_to other) held (length one.unit.name) (tree one.unit.name, up.0) there (omega arith) in
        let mine : Contains (way_to one) (tree one.unit.name, at_the_unit true) =
        subst (λ (p : Part). Contains (way_to one) (record { name = one.unit.name; part = p }, at_the_unit true)) is
        (subst (λ w. Contains (way_to one) (one.unit, at_the_unit w)) writes (at_unit one)) in
        false≢true (go (tree one.unit.name) (at_the_unit true) up.0 mine also)

    by_part : one.writing ≡ true → (p : Part) → one.unit.part ≡ p → inside_of p one.unit.name name ≡ true
        → class_at after name ≡ class_at before name
    by_part writes extents.Tree is h = absurd (against writes is h)
    by_part writes extents.Own is h =
        subst (λ n. class_at after n ≡ class_at before n) ((name_Decides one.unit.name name).0 h) (framed.own is)

    by_inside : one.writing ≡ true → (b : Bool) → is_inside one.unit name ≡ b
        → class_at after name ≡ class_at before name
    by_inside writes true e = by_part writes one.unit.part refl e
    by_inside writes false e = outside e

    by_writing : (b : Bool) → one.writing ≡ b → class_at after name ≡ class_at before name
    by_writing true writes = by_inside writes (is_inside one.unit name) refl
    by_writing false reads = ap (λ (objects : List NamedObject). class_at objects name) (framed.reading reads)

pub waiting_stays : WaitingStays
waiting_stays = λ schema one whole before after held go framed waits.
    let on_before = walk_is schema before whole in
    let on_after = walk_is schema after whole in
    let ended : Wanted = record { unit = ended_at (is_log_at schema before) whole.unit; writing = whole.writing } in
    let alike : Alike (is_log_at schema before) (is_log_at schema after)
    (take held (walk (is_log_at schema before) [] whole.unit.name whole.unit.part whole.writing)) =
    λ name mode at. log_same schema before after name
    (sym (held_classes one ended before after held go framed name mode
    (subst (λ (p : Path). Contains (take held p) (tree name, mode)) (sym on_before) at))) in
    let h = walk_stays (is_log_at schema before) (is_log_at schema after) [] whole.unit.name whole.unit.part
    whole.writing held (subst (λ (p : Path). held < length p) on_before waits) alike in (
      ap (take held) on_after ∙ h.0 ∙ ap (take held) (sym on_before),
      subst (λ (p : Path). held < length p) (sym on_after) h.1,
    )
