-- Changes at the place of a name.
use Rattle.std.proofs.Common.{◌≡◌, ℕ, zero, suc, Bool, true, false, List, [], ◌∷◌, ◌++◌, take, drop, refl, sym, ap, ◌∙◌}
use Rattle.std.proofs.Common.{subst, if◌then◌else◌}
use Rattle.std.proofs.lemmas.Bool.{false≢true}
use Rattle.std.proofs.lemmas.List.{map-set}
use Rattle.std.proofs.lemmas.Option.{same_Some}
use Rattle.std.specs.Arc.{arc_value}
use Rattle.std.specs.Prelude.{Some, insert, is_some, remove, slice_get, slice_set}
use Rattle.std.specs.List.{AllByRecursion}
use Rattle.std.specs.List.Sorted.{IsStrictlySortedBy}
use Rattle.std.specs.Ordering.{is_gt}
use Rattle.std.specs.declared.cmp.Ordering.TheVariants.{Less, Equal, Greater}
use Rattle.term_model.specs.declared.name.Rdn.{Rdn}
use Rattle.term_model.specs.declared.objects.NamedObject.{NamedObject}
use Rattle.term_model.specs.Comparing.{is_same_name}
use Rattle.term_model.specs.NameLaws.{name_total}
use Rattle.term_model.specs.NameOrder.{name_cmp}
use Rattle.term_model.specs.NamedObjects.{IsByName, is_named_at, names, object_at, removed, stored}
use Rattle.term_model.proofs.MapLaws.{all_by, here, later, not_same, turned}
use Rattle.term_model.proofs.StoringLaws.{inserts, replaces, stored_behind}
use Rattle.mo_list.specs.Entries.{objects_in}
use Rattle.mo_list.specs.Places.{AllInFront, IsPlace, NoneInFront}
use Rattle.mo_list.proofs.PlaceLaws.{Entry}
use Rattle.mo_list.proofs.FindingLaws.{is_equal, is_less, none_named, other_name, same_name}

-- ---- the objects of changed entries

pub set_objects : (entries : List Entry) (at : ℕ) (s : Entry) (o : NamedObject) → arc_value s ≡ o
    → objects_in (slice_set entries at s) ≡ slice_set (objects_in entries) at o
set_objects entries at s o is =
    map-set (λ (e : Entry). arc_value e) entries at s ∙ ap (λ y. slice_set (objects_in entries) at y) is

pub insert_objects : (entries : List Entry) (at : ℕ) (s : Entry) (o : NamedObject) → arc_value s ≡ o
    → objects_in (insert entries at s) ≡ insert (objects_in entries) at o
insert_objects [] zero s o is = λ i. is i ∷ []
insert_objects [] (suc at) s o is = λ i. is i ∷ []
insert_objects (x ∷ xs) zero s o is = λ i. is i ∷ (arc_value x ∷ objects_in xs)
insert_objects (x ∷ xs) (suc at) s o is = ap (λ ys. arc_value x ∷ ys) (insert_objects xs at s o is)

pub remove_objects : (entries : List Entry) (at : ℕ) → objects_in (remove entries at) ≡ remove (objects_in entries) at
remove_objects [] zero = refl
remove_objects [] (suc at) = refl
remove_objects (x ∷ xs) zero = refl
remove_objects (x ∷ xs) (suc at) = ap (λ ys. arc_value x ∷ ys) (remove_objects xs at)

-- ---- what is stored

front_stored : (entry : NamedObject) (objects : List NamedObject) (at : ℕ) → AllInFront entry.name (take at objects)
    → stored entry objects ≡ take at objects ++ stored entry (drop at objects)
front_stored entry objects zero front = refl
front_stored entry [] (suc at) front = refl
front_stored entry (x ∷ xs) (suc at) front =
    stored_behind entry x xs front.0 ∙ ap (λ ys. x ∷ ys) (front_stored entry xs at front.1)

stops_at : (name : List Rdn) (objects : List NamedObject) (at : ℕ) (x : NamedObject)
    → NoneInFront name (drop at objects)
    → slice_get objects at ≡ Some x → is_gt (name_cmp name x.name) ≡ false
stops_at name [] at x behind there = absurd cc
stops_at name (y ∷ ys) zero x behind there =
    ap (λ (z : NamedObject). is_gt (name_cmp name z.name)) (sym (same_Some y x there)) ∙ behind.0
stops_at name (y ∷ ys) (suc at) x behind there = stops_at name ys at x behind there

pub changed : (had : Bool) (entry : NamedObject) (objects : List NamedObject) (at : ℕ) → IsPlace objects entry.name at
    → is_named_at objects at entry.name ≡ had
    → (if had then slice_set objects at entry else insert objects at entry) ≡ stored entry objects
changed true entry objects at place named = replaces entry objects at (front_stored entry objects at place.front) named
changed false entry objects at place named =
    inserts entry objects at (front_stored entry objects at place.front) named
    (λ x there. stops_at entry.name objects at x place.behind there)

-- ---- whether the name is there

found_is : (name : List Rdn) (objects : List NamedObject) (at : ℕ) → AllInFront name (take at objects)
    → is_named_at objects at name ≡ true → is_some (object_at objects name) ≡ true
found_is name [] at front named = absurd (false≢true named)
found_is name (x ∷ xs) zero front named = ap is_some (here x xs name (same_name name x named))
found_is name (x ∷ xs) (suc at) front named =
    ap is_some (later x xs name (other_name name x front.0)) ∙ found_is name xs at front.1 named

pub is_there : (had : Bool) (name : List Rdn) (objects : List NamedObject) (at : ℕ) → IsByName objects
    → IsPlace objects name at
    → is_named_at objects at name ≡ had → had ≡ is_some (object_at objects name)
is_there true name objects at rising place named = sym (found_is name objects at place.front named)
is_there false name objects at rising place named =
    sym (ap is_some (none_named name objects at rising place.front place.behind named))

-- ---- what is taken out

drop_head : (name : List Rdn) (x : NamedObject) (xs : List NamedObject) → is_same_name x.name name ≡ true
    → removed name (x ∷ xs) ≡ removed name xs
drop_head name x xs h = rw h refl

keep_head : (name : List Rdn) (x : NamedObject) (xs : List NamedObject) → is_same_name x.name name ≡ false
    → removed name (x ∷ xs) ≡ x ∷ removed name xs
keep_head name x xs h = rw h refl

kept_all : (name : List Rdn) (objects : List NamedObject) → AllByRecursion (λ n. name_cmp name n ≡ Less) (names objects)
    → removed name objects ≡ objects
kept_all name [] all = refl
kept_all name (x ∷ xs) all =
    keep_head name x xs (not_same x.name name Greater (turned name x.name Less all.0) refl)
    ∙ ap (λ ys. x ∷ ys) (kept_all name xs all.1)

-- the others stand behind one of the same name
others_behind : (name : List Rdn) (x : NamedObject) (xs : List NamedObject) → name_cmp name x.name ≡ Equal
    → AllByRecursion (λ n. name_cmp x.name n ≡ Less) (names xs)
    → AllByRecursion (λ n. name_cmp name n ≡ Less) (names xs)
others_behind name x xs equal all =
    all_by (λ n. name_cmp x.name n ≡ Less) (λ n. name_cmp name n ≡ Less) (names xs)
    (λ n below. name_total.congr name x.name n equal ∙ below) all

pub removes : (name : List Rdn) (objects : List NamedObject) (at : ℕ) → IsByName objects
    → AllInFront name (take at objects)
    → is_named_at objects at name ≡ true → remove objects at ≡ removed name objects
unfolding IsStrictlySortedBy
removes name [] at rising front named = absurd (false≢true named)
removes name (x ∷ xs) zero rising front named =
    sym (drop_head name x xs (same_name name x named)
    ∙ kept_all name xs (others_behind name x xs (is_equal (name_cmp name x.name) named) rising.0))
removes name (x ∷ xs) (suc at) rising front named =
    ap (λ ys. x ∷ ys) (removes name xs at rising.1 front.1 named)
    ∙ sym (keep_head name x xs (other_name name x front.0))

pub keeps : (name : List Rdn) (objects : List NamedObject) (at : ℕ) → IsByName objects
    → AllInFront name (take at objects)
    → NoneInFront name (drop at objects) → is_named_at objects at name ≡ false → removed name objects ≡ objects
unfolding IsStrictlySortedBy
keeps name [] at rising front behind named = refl
keeps name (x ∷ xs) zero rising front behind named =
    let less = is_less (name_cmp name x.name) named behind.0 in
    kept_all name (x ∷ xs) (
      less,
      all_by (λ m. name_cmp x.name m ≡ Less) (λ m. name_cmp name m ≡ Less) (names xs)
          (λ m below. name_total.trans name x.name m less below) rising.0,
    )
keeps name (x ∷ xs) (suc at) rising front behind named =
    keep_head name x xs (other_name name x front.0) ∙ ap (λ ys. x ∷ ys) (keeps name xs at rising.1 front.1 behind named)

all_removed : (P : List Rdn → Type 0) (name : List Rdn) (objects : List NamedObject) → AllByRecursion P (names objects)
    → AllByRecursion P (names (removed name objects))
all_removed P name [] all = tt
all_removed P name (x ∷ xs) all = by (is_same_name x.name name) refl (all_removed P name xs all.1)
  where
    by : (b : Bool) → is_same_name x.name name ≡ b → AllByRecursion P (names (removed name xs))
        → AllByRecursion P (names (removed name (x ∷ xs)))
    by true h rest = subst (λ os. AllByRecursion P (names os)) (sym (drop_head name x xs h)) rest
    by false h rest = subst (λ os. AllByRecursion P (names os)) (sym (keep_head name x xs h)) (all.0, rest)

pub removed_rises : (name : List Rdn) (objects : List NamedObject) → IsByName objects → IsByName (removed name objects)
unfolding IsStrictlySortedBy
removed_rises name [] rising = tt
removed_rises name (x ∷ xs) rising = by (is_same_name x.name name) refl (removed_rises name xs rising.1)
  where
    by : (b : Bool) → is_same_name x.name name ≡ b → IsByName (removed name xs) → IsByName (removed name (x ∷ xs))
    by true h rest = subst IsByName (sym (drop_head name x xs h)) rest
    by false h rest = subst IsByName (sym (keep_head name x xs h))
        (all_removed (λ n. name_cmp x.name n ≡ Less) name xs rising.0, rest)
