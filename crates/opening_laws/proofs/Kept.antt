-- Facts of the entries of a map that storing another one, and the counting of logs, keep.
use Rattle.std.proofs.Common.{◌≡◌, ℕ, suc, ◌+◌, ◌≤◌, Bool, true, false, List, [], ◌∷◌, Some}
use Rattle.std.proofs.Common.{length, refl, sym, ap, ◌∙◌, subst, arith, is_some}
use Rattle.std.specs.Prelude.{if◌then◌else◌}
use Rattle.std.specs.List.{AllByRecursion}
use Rattle.std.specs.declared.cmp.Ordering.{Ordering}
use Rattle.std.specs.declared.cmp.Ordering.TheVariants.{Less, Equal, Greater}
use Rattle.std.proofs.lemmas.Bool.{false≢true}
use Rattle.std.proofs.lemmas.Option.{none-some, same_Some}
use Rattle.term_model.specs.declared.name.Rdn.{Rdn}
use Rattle.term_model.specs.declared.object.Object.{Object}
use Rattle.term_model.specs.declared.objects.NamedObject.{NamedObject}
use Rattle.term_model.specs.declared.schema.Set.{Set}
use Rattle.term_model.specs.BoundClasses.{is_bound_log}
use Rattle.term_model.specs.Comparing.{is_same_name}
use Rattle.term_model.specs.LogRecords.{counted, counted_entry, counted_log, records_of}
use Rattle.term_model.specs.NameOrder.{name_cmp}
use Rattle.term_model.specs.NamedObjects.{names, object_at, stored, stored_by}
use Rattle.term_model.proofs.MapLaws.{here, later, name_Decides, others_stay}

-- ---- storing

-- of each entry of the map with another one holds what holds of that one and of those before
pub all_stored : (Fact : NamedObject → Type 0) (entry : NamedObject) (objects : List NamedObject) → Fact entry
    → AllByRecursion Fact objects → AllByRecursion Fact (stored entry objects)
all_stored Fact entry [] one all = (one, tt)
all_stored Fact entry (x ∷ xs) one all = by (all_stored Fact entry xs one all.1) (name_cmp entry.name x.name)
  where
    by : AllByRecursion Fact (stored entry xs) → (o : Ordering)
        → AllByRecursion Fact (stored_by o entry x xs (stored entry xs))
    by rest Less = (one, all)
    by rest Equal = (one, all.1)
    by rest Greater = (all.0, rest)

pub all_by : (P Q : NamedObject → Type 0) (objects : List NamedObject)
    → ((entry : NamedObject) → P entry → Q entry)
    → AllByRecursion P objects → AllByRecursion Q objects
all_by P Q [] f all = tt
all_by P Q (x ∷ xs) f all = (f x all.0, all_by P Q xs f all.1)

-- there is at most one more
pub one_longer : (entry : NamedObject) (objects : List NamedObject) → length (stored entry objects) ≤ length objects + 1
one_longer entry [] = omega arith
one_longer entry (x ∷ xs) = by (one_longer entry xs) (name_cmp entry.name x.name)
  where
    by : length (stored entry xs) ≤ length xs + 1 → (o : Ordering)
        → length (stored_by o entry x xs (stored entry xs)) ≤ length (x ∷ xs) + 1
    by rest Less = omega arith
    by rest Equal = omega arith
    by rest Greater = omega (arith, rest)

-- what stood there stays, where nothing stood under the name
pub stays_there : (entry : NamedObject) (objects : List NamedObject) (name : List Rdn) (object : Object)
    → is_some (object_at objects entry.name) ≡ false → object_at objects name ≡ Some object
    → object_at (stored entry objects) name ≡ Some object
stays_there entry objects name object free there = by (is_same_name entry.name name) refl
  where
    by : (b : Bool) → is_same_name entry.name name ≡ b → object_at (stored entry objects) name ≡ Some object
    by true same =
        absurd
        (false≢true (sym free
        ∙ ap (λ n. is_some (object_at objects n)) ((name_Decides entry.name name).0 same) ∙ ap is_some there))
    by false other = others_stay entry objects name other ∙ there

-- ---- counting

pub entry_named : (schema : Set) (entry : NamedObject) (behind : List NamedObject)
    → (counted_entry schema entry behind).name ≡ entry.name
entry_named schema entry behind = by (is_bound_log schema entry.object.class)
  where
    by : (b : Bool)
        → ◌≡◌ {A = List Rdn} (if b
        then record entry { object = counted_log schema (records_of schema entry.name behind) entry.object }
        else entry).name entry.name
    by true = refl
    by false = refl

pub entry_class : (schema : Set) (entry : NamedObject) (behind : List NamedObject)
    → (counted_entry schema entry behind).object.class ≡ entry.object.class
entry_class schema entry behind = by (is_bound_log schema entry.object.class)
  where
    by : (b : Bool)
        → ◌≡◌ {A = List ℕ} (if b
        then record entry { object = counted_log schema (records_of schema entry.name behind) entry.object }
        else entry).object.class entry.object.class
    by true = refl
    by false = refl

pub same_names : (schema : Set) (objects : List NamedObject) → names (counted schema objects) ≡ names objects
same_names schema [] = refl
same_names schema (entry ∷ others) = λ i.
    entry_named schema entry (counted schema others) i ∷ same_names schema others i

pub same_length : (schema : Set) (objects : List NamedObject) → length (counted schema objects) ≡ length objects
same_length schema [] = refl
same_length schema (entry ∷ others) = ap suc (same_length schema others)

-- an object that was there is there, of the same class, as it tells of its records
pub still_there : (schema : Set) (objects : List NamedObject) (name : List Rdn) (object : Object)
    → object_at objects name ≡ Some object
    → (told : Object) × (object_at (counted schema objects) name ≡ Some told) × (told.class ≡ object.class)
still_there schema [] name object e = absurd (none-some object e)
still_there schema (entry ∷ others) name object e =
    by (still_there schema others name object) (is_same_name entry.name name) refl
  where
    last : NamedObject
    last = counted_entry schema entry (counted schema others)

    named : is_same_name last.name name ≡ is_same_name entry.name name
    named = ap (λ n. is_same_name n name) (entry_named schema entry (counted schema others))

    by : (object_at others name ≡ Some object
        → (told : Object) × (object_at (counted schema others) name ≡ Some told) × (told.class ≡ object.class))
        → (b : Bool) → is_same_name entry.name name ≡ b
        → (told : Object) × (object_at (counted schema (entry ∷ others)) name ≡ Some told)
        × (told.class ≡ object.class)
    by again true same = (
      last.object,
      here last (counted schema others) name (named ∙ same),
      entry_class schema entry (counted schema others)
          ∙ ap (λ (o : Object). o.class) (same_Some entry.object object (sym (here entry others name same) ∙ e)),
    )
    by again false other =
        let found = again (sym (later entry others name other) ∙ e) in (
          found.0,
          later last (counted schema others) name (named ∙ other) ∙ found.1,
          found.2,
        )

-- what holds of names holds of them counted
pub all_counted : (Fact : List Rdn → Type 0) (schema : Set) (objects : List NamedObject)
    → AllByRecursion (λ (entry : NamedObject). Fact entry.name) objects
    → AllByRecursion (λ (entry : NamedObject). Fact entry.name) (counted schema objects)
all_counted Fact schema [] all = tt
all_counted Fact schema (entry ∷ others) all = (
  subst Fact (sym (entry_named schema entry (counted schema others))) all.0,
  all_counted Fact schema others all.1,
)
