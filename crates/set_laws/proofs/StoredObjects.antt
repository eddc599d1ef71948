-- A map in which an object stands in place of another under its name: it has the same names, and the others stay.
use Rattle.std.proofs.Common.{◌≡◌, Bool, true, false, List, [], ◌∷◌, Option, None, Some, refl, sym, ap, ◌∙◌, subst}
use Rattle.std.proofs.Common.{inl, inr}
use Rattle.std.proofs.lemmas.Bool.{false≢true}
use Rattle.std.proofs.lemmas.List.Elements.{All-cons, All-contains, All-from_recursion, All-head, All-tail}
use Rattle.std.proofs.lemmas.Option.{same_Some}
use Rattle.std.specs.List.Sorted.{IsStrictlySortedBy}
use Rattle.std.specs.Option.{option_map}
use Rattle.std.specs.Prelude.{All, Contains, find}
use Rattle.std.specs.declared.cmp.Ordering.{Ordering}
use Rattle.std.specs.declared.cmp.Ordering.TheVariants.{Less, Equal, Greater}
use Rattle.term_model.proofs.MapLaws.{here as found_here, later as found_later, name_Decides, not_same, others_stay}
use Rattle.term_model.proofs.MapLaws.{same_itself, same_place, stored_is_found, turned}
use Rattle.term_model.specs.declared.name.Rdn.{Rdn}
use Rattle.term_model.specs.declared.object.Object.{Object}
use Rattle.term_model.specs.declared.objects.NamedObject.{NamedObject}
use Rattle.term_model.specs.Comparing.{is_same_name}
use Rattle.term_model.specs.NameOrder.{name_cmp}
use Rattle.term_model.specs.NamedObjects.{IsByName, names, object_at, stored, stored_by}
use Rattle.set_laws.specs.KeptMaps.{under}
use Rattle.set_laws.proofs.Found.{found_is}
use Rattle.set_laws.proofs.Members.{first_or_later, map_gets, nowhere}

-- ---- what stands under a name

by_entry : (objects : List NamedObject) (name : List Rdn) (object : Object) (found : Option NamedObject)
    → find (λ (entry : NamedObject). is_same_name entry.name name) objects ≡ found
    → option_map (λ (entry : NamedObject). entry.object) found ≡ Some object → Contains objects (under name object)
by_entry objects name object None known e = absurd (cc)
by_entry objects name object (Some entry) known e =
    let is = found_is (λ (one : NamedObject). is_same_name one.name name) objects entry known in
    let named : entry.name ≡ name = (name_Decides entry.name name).0 is.1 in
    let held : entry.object ≡ object = same_Some entry.object object e in
    let same : ◌≡◌ {A = NamedObject} entry (under name object) = λ i. record { name = named i; object = held i } in
    subst (Contains objects) same is.0

pub entry_is : (objects : List NamedObject) (name : List Rdn) (object : Object) → object_at objects name ≡ Some object
    → Contains objects (under name object)
entry_is objects name object e =
    by_entry objects name object (find (λ (entry : NamedObject). is_same_name entry.name name) objects) refl e

-- the names behind the first one are greater
behind_first : (x : NamedObject) (xs : List NamedObject) (name : List Rdn) → IsByName (x ∷ xs)
    → Contains (names xs) name → name_cmp x.name name ≡ Less
unfolding IsStrictlySortedBy
behind_first x xs name rise at =
    All-contains (λ n. name_cmp x.name n ≡ Less) (names xs) name
    (All-from_recursion (λ n. name_cmp x.name n ≡ Less) (names xs) rise.0) at

behind_rise : (x : NamedObject) (xs : List NamedObject) → IsByName (x ∷ xs) → IsByName xs
unfolding IsStrictlySortedBy
behind_rise x xs rise = rise.1

pub object_is : (objects : List NamedObject) (entry : NamedObject) → IsByName objects → Contains objects entry
    → object_at objects entry.name ≡ Some entry.object
object_is [] entry rise at = absurd (nowhere entry at)
object_is (x ∷ xs) entry rise at =
    elim (first_or_later x entry xs at) [
      | inl same ↦ subst (λ (one : NamedObject). object_at (x ∷ xs) one.name ≡ Some one.object) same
          (found_here x xs x.name (same_itself x.name))
      | inr later ↦ found_later x xs entry.name
          (not_same x.name entry.name Less (behind_first x xs entry.name rise
          (map_gets (λ (one : NamedObject). one.name) xs entry later)) refl)
          ∙ object_is xs entry (behind_rise x xs rise) later
    ]

-- ---- an object in place of another

pub stored_all : (P : NamedObject → Type 0) (entry : NamedObject) (objects : List NamedObject) → P entry
    → All P objects → All P (stored entry objects)
stored_all P entry [] one all = All-cons P entry [] one all
stored_all P entry (x ∷ xs) one all =
    by (stored_all P entry xs one (All-tail P x xs all)) (name_cmp entry.name x.name)
  where
    by : All P (stored entry xs) → (o : Ordering) → All P (stored_by o entry x xs (stored entry xs))
    by rest Less = All-cons P entry (x ∷ xs) one all
    by rest Equal = All-cons P entry xs one (All-tail P x xs all)
    by rest Greater = All-cons P x (stored entry xs) (All-head P x xs all) rest

other_name : (one other : List Rdn) (o : Ordering) → name_cmp one other ≡ o → is_same_name one other ≡ false
    → other ≡ one → ⊥
other_name one other o e differs same = false≢true (sym differs ∙ (name_Decides one other).1 (sym same))

pub names_stay : (entry : NamedObject) (objects : List NamedObject) → IsByName objects
    → Contains (names objects) entry.name → names (stored entry objects) ≡ names objects
names_stay entry [] rise at = absurd (nowhere entry.name at)
names_stay entry (x ∷ xs) rise at =
    by (names_stay entry xs (behind_rise x xs rise)) (name_cmp entry.name x.name) refl
  where
    by : (Contains (names xs) entry.name → names (stored entry xs) ≡ names xs) → (o : Ordering)
        → name_cmp entry.name x.name ≡ o
        → names (stored_by o entry x xs (stored entry xs)) ≡ names (x ∷ xs)
    by rest Less e = elim (first_or_later x.name entry.name (names xs) at) [
      | inl same ↦ absurd (other_name entry.name x.name Less e (not_same entry.name x.name Less e refl) same)
      | inr later ↦ absurd (cc (sym (behind_first x xs entry.name rise later) ∙ turned entry.name x.name Less e))
    ]
    by rest Equal e = ap (λ name. name ∷ names xs) (same_place entry.name x.name e)
    by rest Greater e = elim (first_or_later x.name entry.name (names xs) at) [
      | inl same ↦ absurd (other_name entry.name x.name Greater e (not_same entry.name x.name Greater e refl) same)
      | inr later ↦ ap (λ (found : List (List Rdn)). x.name ∷ found) (rest later)
    ]

-- under each name stands an object of the class of the one that stood there
pub class_stays : (objects : List NamedObject) (name : List Rdn) (before now : Object)
    → object_at objects name ≡ Some before → now.class ≡ before.class → (other : List Rdn) (object : Object)
    → object_at objects other ≡ Some object
    → (left : Object) × (object_at (stored (under name now) objects) other ≡ Some left) × (left.class ≡ object.class)
class_stays objects name before now at class other object found = by (is_same_name name other) refl
  where
    by : (b : Bool) → is_same_name name other ≡ b
        → (left : Object) × (object_at (stored (under name now) objects) other ≡ Some left)
        × (left.class ≡ object.class)
    by true e =
        let same : name ≡ other = (name_Decides name other).0 e in
        let held : before ≡ object =
        same_Some before object (sym at ∙ ap (object_at objects) same ∙ found) in (
          now,
          subst (λ n. object_at (stored (under name now) objects) n ≡ Some now) same
              (stored_is_found (under name now) objects),
          class ∙ ap (λ (one : Object). one.class) held,
        )
    by false e = (object, others_stay (under name now) objects other e ∙ found, refl)
