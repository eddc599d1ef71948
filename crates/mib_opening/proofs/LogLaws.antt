-- Logs that are counted one after the other, the last one first.
use Rattle.std.proofs.Common.{◌≡◌, ℕ, zero, suc, ◌-◌, ◌<◌, ◌≤◌, Bool, true, false, List, [], ◌∷◌, ◌++◌, Option}
use Rattle.std.proofs.Common.{None, Some, length}
use Rattle.std.proofs.Common.{get_or, refl, sym, ap, ◌∙◌, arith}
use Rattle.std.proofs.lemmas.List.{append_assoc, append-nil}
use Rattle.std.specs.Prelude.{filter, if◌then◌else◌}
use Rattle.std.specs.List.{AllByRecursion}
use Rattle.std.specs.List.Sorted.{IsStrictlySortedBy}
use Rattle.std.specs.Option.{option_map_or}
use Rattle.std.specs.Ordering.{is_lt}
use Rattle.std.specs.declared.cmp.Ordering.{Ordering}
use Rattle.std.specs.declared.cmp.Ordering.TheVariants.{Less, Equal, Greater}
use Rattle.term_model.specs.declared.name.Rdn.{Rdn}
use Rattle.term_model.specs.declared.object.Object.{Object}
use Rattle.term_model.specs.declared.objects.NamedObject.{NamedObject}
use Rattle.term_model.specs.declared.schema.Set.{Set}
use Rattle.term_model.specs.Following.{entry_after}
use Rattle.term_model.specs.LogRecords.{counted, counted_log, is_record_of, records_of}
use Rattle.term_model.specs.NameLaws.{name_total}
use Rattle.term_model.specs.NameOrder.{name_cmp}
use Rattle.term_model.specs.NamedObjects.{IsByName, names, object_at, stored, stored_by}
use Rattle.term_model.proofs.MapLaws.{here, later, not_same, same_itself, turned}
use Rattle.mib_opening.specs.LogOrder.{counted_behind, is_log, log_names, recounted}
use Rattle.mib_opening.specs.Walks.{behind}
use Rattle.mib_opening.proofs.RecordLaws.{not_behind}
use Rattle.mib_opening.proofs.WalkLaws.{kept, left_out, next_behind, none_behind, one_first, root_first, root_none}

-- ---- the names of the logs

names_append : (xs ys : List NamedObject) → names (xs ++ ys) ≡ names xs ++ names ys
names_append [] ys = refl
names_append (x ∷ xs) ys = ap (λ ns. x.name ∷ ns) (names_append xs ys)

pub first_name : (schema : Set) (entry : NamedObject) (objects : List NamedObject)
    → log_names schema (entry ∷ objects) ≡ log_names schema (entry ∷ []) ++ log_names schema objects
first_name schema entry objects =
    ap names (one_first (is_log schema) entry objects)
    ∙ names_append (filter (is_log schema) (entry ∷ [])) (filter (is_log schema) objects)

pub name_kept : (schema : Set) (entry : NamedObject) (objects : List NamedObject) → is_log schema entry ≡ true
    → log_names schema (entry ∷ objects) ≡ entry.name ∷ log_names schema objects
name_kept schema entry objects e = ap names (kept (is_log schema) entry objects e)

pub name_left : (schema : Set) (entry : NamedObject) (objects : List NamedObject) → is_log schema entry ≡ false
    → log_names schema (entry ∷ objects) ≡ log_names schema objects
name_left schema entry objects e = ap names (left_out (is_log schema) entry objects e)

-- the root, where it is there, and those behind it
pub all_with_root : (schema : Set) (object : Object) (objects : List NamedObject) (logs : List (List Rdn))
    → IsByName objects → object_at objects [] ≡ Some object
    → logs ≡ log_names schema (record { name = []; object = object } ∷ [])
    → logs ++ log_names schema (behind [] objects) ≡ log_names schema objects
all_with_root schema object objects logs sorted e added =
    ap (λ ns. ns ++ log_names schema (behind [] objects)) added
    ∙ sym (first_name schema (record { name = []; object = object }) (behind [] objects))
    ∙ ap (log_names schema) (sym (root_first object objects sorted e))

pub all_without_root : (schema : Set) (objects : List NamedObject) (logs : List (List Rdn)) → IsByName objects
    → object_at objects [] ≡ None → logs ≡ []
    → logs ++ log_names schema (behind [] objects) ≡ log_names schema objects
all_without_root schema objects logs sorted e none =
    ap (λ ns. ns ++ log_names schema (behind [] objects)) none
    ∙ ap (log_names schema) (sym (root_none objects sorted e))

-- the way through all objects: the names so far, and those behind this one
pub way_on : (schema : Set) (name : List Rdn) (next : NamedObject) (objects : List NamedObject)
    (all old new : List (List Rdn)) → IsByName objects → entry_after objects name ≡ Some next
    → new ≡ old ++ log_names schema (next ∷ [])
    → all ≡ old ++ log_names schema (behind name objects)
    → all ≡ new ++ log_names schema (behind next.name objects)
way_on schema name next objects all old new sorted e added before =
    before
    ∙ ap (λ os. old ++ log_names schema os) (next_behind name next objects sorted e)
    ∙ ap (λ ns. old ++ ns) (first_name schema next (behind next.name objects))
    ∙ sym (append_assoc old (log_names schema (next ∷ [])) (log_names schema (behind next.name objects)))
    ∙ ap (λ ns. ns ++ log_names schema (behind next.name objects)) (sym added)

pub way_ends : (schema : Set) (name : List Rdn) (objects : List NamedObject) (all logs : List (List Rdn))
    → entry_after objects name ≡ None → all ≡ logs ++ log_names schema (behind name objects) → logs ≡ all
way_ends schema name objects all logs e before =
    sym (before ∙ ap (λ os. logs ++ log_names schema os) (none_behind name objects e) ∙ append-nil logs)

-- ---- the object of one name

equal_itself : (name : List Rdn) → name_cmp name name ≡ Equal
equal_itself name = by (name_cmp name name) refl
  where
    by : (o : Ordering) → name_cmp name name ≡ o → name_cmp name name ≡ Equal
    by Less e = absurd (cc (e, name_total.antisymm name name))
    by Equal e = e
    by Greater e = absurd (cc (e, name_total.antisymm name name))

-- the first object tells of its records
pub recount_here : (schema : Set) (entry : NamedObject) (others : List NamedObject)
    → recounted schema entry.name (entry ∷ others)
    ≡ record entry { object = counted_log schema (records_of schema entry.name others) entry.object } ∷ others
recount_here schema entry others =
    let own =
    left_out (is_record_of schema entry.name) entry others
    (not_behind schema entry.name entry (ap is_lt (equal_itself entry.name))) in
    let told : Object → List NamedObject → NamedObject = λ object records. record {
      name = entry.name;
      object = counted_log schema records object;
    } in
    ap
    (λ (o : Option Object).
    option_map_or
    (λ (object : Object). stored (told object (records_of schema entry.name (entry ∷ others))) (entry ∷ others)) o
    (entry ∷ others)) (here entry others entry.name (same_itself entry.name))
    ∙ ap (λ records. stored (told entry.object records) (entry ∷ others)) own
    ∙ ap
    (λ o.
    stored_by o (told entry.object (records_of schema entry.name others)) entry others
    (stored (told entry.object (records_of schema entry.name others)) others))
    (equal_itself entry.name)

-- the first object stands in front of that name, and stays
pub recount_later : (schema : Set) (name : List Rdn) (entry : NamedObject) (others : List NamedObject)
    → name_cmp entry.name name ≡ Less
    → recounted schema name (entry ∷ others) ≡ entry ∷ recounted schema name others
recount_later schema name entry others low =
    let turn = turned entry.name name Less low in
    let none = left_out (is_record_of schema name) entry others (not_behind schema name entry (ap is_lt turn)) in
    let told : Object → List NamedObject → NamedObject = λ object records. record {
      name = name;
      object = counted_log schema records object;
    } in
    ap
    (λ (o : Option Object).
    option_map_or
    (λ (object : Object). stored (told object (records_of schema name (entry ∷ others))) (entry ∷ others)) o
    (entry ∷ others)) (later entry others name (not_same entry.name name Less low refl))
    ∙ ap
    (λ records.
    option_map_or (λ (object : Object). stored (told object records) (entry ∷ others)) (object_at others name)
    (entry ∷ others)) none
    ∙ by turn (object_at others name)
  where
    by : name_cmp name entry.name ≡ Greater → (o : Option Object)
        → option_map_or
        (λ (object : Object).
        stored (record { name = name; object = counted_log schema (records_of schema name others) object })
        (entry ∷ others)) o (entry ∷ others)
        ≡ entry
        ∷ option_map_or
        (λ (object : Object).
        stored (record { name = name; object = counted_log schema (records_of schema name others) object }) others)
        o others
    by turn None = refl
    by turn (Some object) =
        let told : NamedObject = record {
          name = name;
          object = counted_log schema (records_of schema name others) object;
        } in
        ap (λ o. stored_by o told entry others (stored told others)) turn

-- ---- one log after the other

-- without logs nothing is counted
nothing_counted : (schema : Set) (objects : List NamedObject) → log_names schema objects ≡ []
    → counted schema objects ≡ objects
nothing_counted schema [] e = refl
nothing_counted schema (entry ∷ others) e = by (nothing_counted schema others) (is_log schema entry) refl
  where
    by : (log_names schema others ≡ [] → counted schema others ≡ others) → (b : Bool) → is_log schema entry ≡ b
        → counted schema (entry ∷ others) ≡ entry ∷ others
    by again true is = absurd (cc (e, name_kept schema entry others is))
    by again false is =
        ap
        (λ b.
        (if b
        then record entry {
          object = counted_log schema (records_of schema entry.name (counted schema others)) entry.object;
        }
        else entry) ∷ counted schema others) is
        ∙ ap (λ os. entry ∷ os) (again (sym (name_left schema entry others is) ∙ e))

pub none_yet : (schema : Set) (objects : List NamedObject)
    → counted_behind schema (length (log_names schema objects)) objects ≡ objects
none_yet schema objects = by objects (length (log_names schema objects)) refl
  where
    by : (os : List NamedObject) (k : ℕ) → length (log_names schema os) ≡ k → counted_behind schema k os ≡ os
    by os zero e = nothing_counted schema os (empty (log_names schema os) e)
      where
        empty : (ns : List (List Rdn)) → length ns ≡ 0 → ns ≡ []
        empty [] e = refl
        empty (n ∷ ns) e = absurd (omega (arith, e))
    by [] (suc k) e = refl
    by (entry ∷ others) (suc k) e = by-test (by others k) (by others (suc k)) (is_log schema entry) refl
      where
        by-test : (length (log_names schema others) ≡ k → counted_behind schema k others ≡ others)
            → (length (log_names schema others) ≡ suc k → counted_behind schema (suc k) others ≡ others)
            → (b : Bool) → is_log schema entry ≡ b → counted_behind schema (suc k) (entry ∷ others) ≡ entry ∷ others
        by-test fewer same true is =
            let long = ap length (name_kept schema entry others is) in
            ap
            (λ b.
            if b then entry ∷ counted_behind schema k others else entry ∷ counted_behind schema (suc k) others) is
            ∙ ap (λ os. entry ∷ os) (fewer (omega (arith, e, long)))
        by-test fewer same false is =
            let long = ap length (name_left schema entry others is) in
            ap
            (λ b.
            if b then entry ∷ counted_behind schema k others else entry ∷ counted_behind schema (suc k) others) is
            ∙ ap (λ os. entry ∷ os) (same (sym long ∙ e))

-- the names of logs are names of the objects
all_logs : (P : List Rdn → Type 0) (schema : Set) (objects : List NamedObject) → AllByRecursion P (names objects)
    → AllByRecursion P (log_names schema objects)
all_logs P schema [] all = tt
all_logs P schema (entry ∷ others) all = by (all_logs P schema others all.1) (is_log schema entry)
  where
    by : AllByRecursion P (log_names schema others) → (b : Bool)
        → AllByRecursion P (names (if b then entry ∷ filter (is_log schema) others else filter (is_log schema) others))
    by rest true = (all.0, rest)
    by rest false = rest

all_at : (P : List Rdn → Type 0) (ns : List (List Rdn)) (k : ℕ) (d : List Rdn) → k < length ns → AllByRecursion P ns
    → P (get_or ns k d)
all_at P [] k d h all = absurd (omega arith)
all_at P (n ∷ ns) zero d h all = all.0
all_at P (n ∷ ns) (suc k) d h all = all_at P ns k d (omega arith) all.1

behind_first : (schema : Set) (entry : NamedObject) (others : List NamedObject) (k : ℕ) (d : List Rdn)
    → IsByName (entry ∷ others) → k < length (log_names schema others)
    → name_cmp entry.name (get_or (log_names schema others) k d) ≡ Less
unfolding IsStrictlySortedBy
behind_first schema entry others k d sorted within =
    all_at (λ n. name_cmp entry.name n ≡ Less) (log_names schema others) k d within
    (all_logs (λ n. name_cmp entry.name n ≡ Less) schema others sorted.0)

-- with one log more
pub one_more : (schema : Set) (objects : List NamedObject) (k : ℕ) (d : List Rdn) → IsByName objects
    → k < length (log_names schema objects)
    → recounted schema (get_or (log_names schema objects) k d) (counted_behind schema (suc k) objects)
    ≡ counted_behind schema k objects
unfolding IsStrictlySortedBy
one_more schema [] k d sorted within = absurd (omega arith)
one_more schema (entry ∷ others) k d sorted within =
    by k within (λ j. one_more schema others j d sorted.1) (is_log schema entry) refl
  where
    counted_first : (b : Bool) → is_log schema entry ≡ b
        → (if b
        then record entry {
          object = counted_log schema (records_of schema entry.name (counted schema others)) entry.object;
        }
        else entry) ∷ counted schema others ≡ counted schema (entry ∷ others)
    counted_first b is =
        ap
        (λ c.
        (if c
        then record entry {
          object = counted_log schema (records_of schema entry.name (counted schema others)) entry.object;
        }
        else entry) ∷ counted schema others) (sym is)

    chosen : (j : ℕ) (b : Bool) → is_log schema entry ≡ b
        → counted_behind schema (suc j) (entry ∷ others)
        ≡ (if b then entry ∷ counted_behind schema j others else entry ∷ counted_behind schema (suc j) others)
    chosen j b is =
        ap (λ c. if c then entry ∷ counted_behind schema j others else entry ∷ counted_behind schema (suc j) others) is

    by : (j : ℕ) → j < length (log_names schema (entry ∷ others))
        → ((i : ℕ) → i < length (log_names schema others)
        → recounted schema (get_or (log_names schema others) i d) (counted_behind schema (suc i) others)
        ≡ counted_behind schema i others)
        → (b : Bool) → is_log schema entry ≡ b
        → recounted schema (get_or (log_names schema (entry ∷ others)) j d)
        (counted_behind schema (suc j) (entry ∷ others))
        ≡ counted_behind schema j (entry ∷ others)
    by zero in-all again true is =
        ap (λ ns. recounted schema (get_or ns 0 d) (counted_behind schema 1 (entry ∷ others)))
        (name_kept schema entry others is)
        ∙ ap (recounted schema entry.name) (chosen 0 true is)
        ∙ recount_here schema entry (counted schema others)
        ∙ counted_first true is
    by (suc j) in-all again true is =
        let long = ap length (name_kept schema entry others is) in
        let inside : j < length (log_names schema others) = omega (arith, in-all, long) in
        ap (λ ns. recounted schema (get_or ns (suc j) d) (counted_behind schema (suc (suc j)) (entry ∷ others)))
        (name_kept schema entry others is)
        ∙ ap (recounted schema (get_or (log_names schema others) j d)) (chosen (suc j) true is)
        ∙ recount_later schema (get_or (log_names schema others) j d) entry (counted_behind schema (suc j) others)
        (behind_first schema entry others j d sorted inside)
        ∙ ap (λ os. entry ∷ os) (again j inside)
        ∙ sym (chosen j true is)
    by zero in-all again false is =
        let same = name_left schema entry others is in
        let inside : 0 < length (log_names schema others) = omega (arith, in-all, ap length same) in
        ap (λ ns. recounted schema (get_or ns 0 d) (counted_behind schema 1 (entry ∷ others))) same
        ∙ ap (recounted schema (get_or (log_names schema others) 0 d)) (chosen 0 false is)
        ∙ recount_later schema (get_or (log_names schema others) 0 d) entry (counted_behind schema 1 others)
        (behind_first schema entry others 0 d sorted inside)
        ∙ ap (λ os. entry ∷ os) (again 0 inside)
        ∙ counted_first false is
    by (suc j) in-all again false is =
        let same = name_left schema entry others is in
        let inside : suc j < length (log_names schema others) = omega (arith, in-all, ap length same) in
        ap (λ ns. recounted schema (get_or ns (suc j) d) (counted_behind schema (suc (suc j)) (entry ∷ others))) same
        ∙ ap (recounted schema (get_or (log_names schema others) (suc j) d)) (chosen (suc j) false is)
        ∙ recount_later schema (get_or (log_names schema others) (suc j) d) entry
        (counted_behind schema (suc (suc j)) others)
        (behind_first schema entry others (suc j) d sorted inside)
        ∙ ap (λ os. entry ∷ os) (again (suc j) inside)
        ∙ sym (chosen j false is)

-- ---- the loop

pub begin_told : (schema : Set) (objects : List NamedObject) (logs : List (List Rdn)) (n : ℕ) → n ≡ length logs
    → logs ≡ log_names schema objects → objects ≡ counted_behind schema n objects
begin_told schema objects logs n long are =
    sym (ap (λ k. counted_behind schema k objects) (long ∙ ap length are) ∙ none_yet schema objects)

pub step_told : (schema : Set) (objects : List NamedObject) (logs : List (List Rdn)) (i : ℕ) (name : List Rdn)
    (old new : List NamedObject) → IsByName objects → logs ≡ log_names schema objects → 0 < i → i ≤ length logs
    → name ≡ get_or logs (i - 1) name → old ≡ counted_behind schema i objects → new ≡ recounted schema name old
    → new ≡ counted_behind schema (i - 1) objects
step_told schema objects logs zero name old new sorted are some within is before after = absurd (omega arith)
step_told schema objects logs (suc k) name old new sorted are some within is before after =
    let back : suc k - 1 ≡ k = omega arith in
    after
    ∙ ap (recounted schema name) before
    ∙ ap (λ n. recounted schema n (counted_behind schema (suc k) objects))
    (is ∙ ap (λ j. get_or logs j name) back ∙ ap (λ ns. get_or ns k name) are)
    ∙ one_more schema objects k name sorted (omega (arith, ap length are))
    ∙ ap (λ j. counted_behind schema j objects) (sym back)
