-- What stands at the place of a name, and what follows it.
use Rattle.std.proofs.Common.{◌≡◌, ℕ, zero, suc, ◌+◌, ◌^◌, ◌<◌, ◌≤◌, Bool, true, false, List, [], ◌∷◌, length, take}
use Rattle.std.proofs.Common.{drop, get_or, None, Some, if◌then◌else◌, refl, sym, ap, ◌∙◌, arith}
use Rattle.std.proofs.lemmas.Bool.{false≢true}
use Rattle.std.proofs.lemmas.Option.{none-some}
use Rattle.std.specs.Option.{option_map}
use Rattle.std.specs.Arc.{arc_value}
use Rattle.std.specs.Prelude.{Option, slice_get}
use Rattle.std.specs.List.{AllByRecursion}
use Rattle.std.specs.List.Sorted.{IsStrictlySortedBy}
use Rattle.std.specs.Ordering.{is_eq, is_gt, is_lt}
use Rattle.std.specs.declared.cmp.Ordering.{Ordering}
use Rattle.std.specs.declared.cmp.Ordering.TheVariants.{Less, Equal, Greater}
use Rattle.term_model.specs.declared.name.Rdn.{Rdn}
use Rattle.term_model.specs.declared.objects.NamedObject.{NamedObject}
use Rattle.term_model.specs.Comparing.{is_same_name}
use Rattle.term_model.specs.Following.{entry_after}
use Rattle.term_model.specs.NameLaws.{name_ties, name_total}
use Rattle.term_model.specs.NameOrder.{name_cmp}
use Rattle.term_model.specs.NamedObjects.{IsByName, is_named_at, names, object_at}
use Rattle.term_model.specs.StepCounts.{IsOneCall}
use Rattle.term_model.proofs.MapLaws.{all_by, here, later, not_same, nothing_below, turned}
use Rattle.scope_select.specs.Subtrees.{entry_of}
use Rattle.mo_list.specs.Entries.{objects_in}
use Rattle.mo_list.specs.Places.{AllInFront, NoneInFront}
use Rattle.mo_list.proofs.PlaceLaws.{Entry, is_greater, length_objects}
use mir.Val.{bool_byte}

pub is_equal : (o : Ordering) → is_eq o ≡ true → o ≡ Equal
is_equal Less h = absurd (false≢true h)
is_equal Equal h = refl
is_equal Greater h = absurd (false≢true h)

pub is_less : (o : Ordering) → is_eq o ≡ false → is_gt o ≡ false → o ≡ Less
is_less Less h k = refl
is_less Equal h k = absurd (false≢true (sym h))
is_less Greater h k = absurd (false≢true (sym k))

-- an object in front has another name
pub other_name : (name : List Rdn) (x : NamedObject) → is_gt (name_cmp name x.name) ≡ true
    → is_same_name x.name name ≡ false
other_name name x h = not_same x.name name Less (turned name x.name Greater (is_greater (name_cmp name x.name) h)) refl

pub same_name : (name : List Rdn) (x : NamedObject) → is_eq (name_cmp name x.name) ≡ true
    → is_same_name x.name name ≡ true
same_name name x h =
    name_ties x.name name ∙ ap is_eq (turned name x.name Equal (is_equal (name_cmp name x.name) h))

pub found_there : (name : List Rdn) (entries : List Entry) (at : ℕ) (e : Entry)
    → AllInFront name (take at (objects_in entries))
    → is_named_at (objects_in entries) at name ≡ true → e ≡ get_or entries at e
    → object_at (objects_in entries) name ≡ Some (arc_value e).object
found_there name [] at e front named is = absurd (false≢true named)
found_there name (x ∷ xs) zero e front named is =
    here (arc_value x) (objects_in xs) name (same_name name (arc_value x) named)
    ∙ ap (λ (y : Entry). Some (arc_value y).object) (sym is)
found_there name (x ∷ xs) (suc at) e front named is =
    later (arc_value x) (objects_in xs) name (other_name name (arc_value x) front.0)
    ∙ found_there name xs at e front.1 named is

pub none_named : (name : List Rdn) (objects : List NamedObject) (at : ℕ) → IsByName objects
    → AllInFront name (take at objects)
    → NoneInFront name (drop at objects) → is_named_at objects at name ≡ false → object_at objects name ≡ None
unfolding IsStrictlySortedBy
none_named name [] at rising front behind named = refl
none_named name (x ∷ xs) zero rising front behind named =
    let less = is_less (name_cmp name x.name) named behind.0 in
    nothing_below (x ∷ xs) name (
      less,
      all_by (λ n. name_cmp x.name n ≡ Less) (λ n. name_cmp name n ≡ Less) (names xs)
          (λ n below. name_total.trans name x.name n less below) rising.0,
    )
none_named name (x ∷ xs) (suc at) rising front behind named =
    later x xs name (other_name name x front.0) ∙ none_named name xs at rising.1 front.1 behind named

-- the entry itself
pub entry_there : (name : List Rdn) (entries : List Entry) (at : ℕ) (e : Entry)
    → AllInFront name (take at (objects_in entries))
    → is_named_at (objects_in entries) at name ≡ true → e ≡ get_or entries at e
    → entry_of (objects_in entries) name ≡ Some (arc_value e)
entry_there name [] at e front named is = absurd (false≢true named)
entry_there name (x ∷ xs) zero e front named is =
    rw (same_name name (arc_value x) named) (ap (λ (y : Entry). Some (arc_value y)) (sym is))
entry_there name (x ∷ xs) (suc at) e front named is =
    rw (other_name name (arc_value x) front.0) (entry_there name xs at e front.1 named is)

pub entry_nowhere : (objects : List NamedObject) (name : List Rdn) → object_at objects name ≡ None
    → entry_of objects name ≡ None
entry_nowhere objects name none = by (entry_of objects name) none
  where
    by : (o : Option NamedObject) → option_map (λ (entry : NamedObject). entry.object) o ≡ None → o ≡ None
    by None h = refl
    by (Some x) h = absurd (none-some x.object (sym h))

-- ---- what follows

after_here : (name : List Rdn) (x : NamedObject) (xs : List NamedObject) → is_lt (name_cmp name x.name) ≡ true
    → entry_after (x ∷ xs) name ≡ Some x
after_here name x xs h = rw h refl

after_later : (name : List Rdn) (x : NamedObject) (xs : List NamedObject) → is_lt (name_cmp name x.name) ≡ false
    → entry_after (x ∷ xs) name ≡ entry_after xs name
after_later name x xs h = rw h refl

first_after : (name : List Rdn) (objects : List NamedObject)
    → AllByRecursion (λ n. name_cmp name n ≡ Less) (names objects) → entry_after objects name ≡ slice_get objects 0
first_after name [] all = refl
first_after name (x ∷ xs) all = after_here name x xs (ap is_lt all.0)

-- behind the place, or behind the one of the name that stands there
pub next_entry : (name : List Rdn) (objects : List NamedObject) (at : ℕ) (named : Bool) → IsByName objects
    → AllInFront name (take at objects)
    → NoneInFront name (drop at objects) → is_named_at objects at name ≡ named
    → entry_after objects name ≡ slice_get objects (at + (if named then 1 else 0))
unfolding IsStrictlySortedBy
next_entry name [] at named rising front behind is = refl
next_entry name (x ∷ xs) zero true rising front behind is =
    let equal = is_equal (name_cmp name x.name) is in
    after_later name x xs (ap is_lt equal)
    ∙ first_after name xs (all_by (λ n. name_cmp x.name n ≡ Less) (λ n. name_cmp name n ≡ Less) (names xs)
    (λ n below. name_total.congr name x.name n equal ∙ below) rising.0)
next_entry name (x ∷ xs) zero false rising front behind is =
    after_here name x xs (ap is_lt (is_less (name_cmp name x.name) is behind.0))
next_entry name (x ∷ xs) (suc at) named rising front behind is =
    let further : suc at + (if named then 1 else 0) ≡ suc (at + (if named then 1 else 0)) = omega arith in
    rw further
    (after_later name x xs (ap is_lt (is_greater (name_cmp name x.name) front.0))
    ∙ next_entry name xs at named rising.1 front.1 behind is)

-- the object that an entry holds
pub held_at : (entries : List Entry) (at : ℕ) (e : Entry) → at < length entries → e ≡ get_or entries at e
    → slice_get (objects_in entries) at ≡ Some (arc_value e)
held_at [] at e h is = absurd (omega arith)
held_at (x ∷ xs) zero e h is = ap (λ (y : Entry). Some (arc_value y)) (sym is)
held_at (x ∷ xs) (suc at) e h is = held_at xs at e (omega arith) is

pub held_nowhere : (entries : List Entry) (at : ℕ) → length entries ≤ at → slice_get (objects_in entries) at ≡ None
held_nowhere [] at h = refl
held_nowhere (x ∷ xs) zero h = absurd (omega arith)
held_nowhere (x ∷ xs) (suc at) h = held_nowhere xs at (omega arith)

-- the name and the object of one entry
pub of_one : (o p q : NamedObject) → p ≡ o → q ≡ o → Some o ≡ Some (record { name = p.name; object = q.object })
of_one o p q e f = λ i. Some (record { name = (sym e i).name; object = (sym f i).object })

-- a test as a number
pub byte_is : (b : Bool) → bool_byte b ≡ (if b then 1 else 0)
byte_is true = refl
byte_is false = refl

-- ---- visits

-- a search by halves, and one more look
pub one_call : (entries : List Entry) (before middle after : ℕ) → before ≤ middle
    → (0 < length entries → before < middle)
    → ((digits : ℕ) → length entries < 2 ^ digits → middle ≤ before + digits) → middle ≤ after → after ≤ middle + 1
    → IsOneCall (objects_in entries) before after
one_call entries before middle after rises some few more once = record {
  rises = omega arith;
  some = λ h. omega (arith, some (omega (arith, length_objects entries)));
  few = λ h. omega (arith, few 17 (omega (arith, length_objects entries)));
}
