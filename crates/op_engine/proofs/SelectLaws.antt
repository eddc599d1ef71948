-- The names that are selected are those in scope whose objects pass the filter, and they rise.
use Rattle.std.proofs.Common.{◌≡◌, ℕ, zero, suc, ◌+◌, ◌<◌, ◌++◌, Bool, Bor, true, false, List, [], ◌∷◌, arith, get_or, length}
use Rattle.std.proofs.Common.{if◌then◌else◌, refl, subst, sym, ap, take, ◌∙◌, filter}
use Rattle.std.proofs.lemmas.List.{map-append, take_more}
use Rattle.std.proofs.lemmas.List.Elements.{filter-append}
use Rattle.std.specs.List.{AllByRecursion}
use Rattle.std.specs.List.Sorted.{IsStrictlySortedBy}
use Rattle.std.specs.declared.cmp.Ordering.TheVariants.{Less}
use Rattle.term_model.specs.declared.filter.Asked.{Asked}
use Rattle.term_model.specs.declared.filter.Asked.TheVariants as filters
use Rattle.term_model.specs.declared.name.Rdn.{Rdn}
use Rattle.term_model.specs.declared.objects.NamedObject.{NamedObject}
use Rattle.term_model.specs.declared.schema.Set.{Set}
use Rattle.term_model.specs.declared.scope.Scope.{Scope}
use Rattle.term_model.specs.FilterTests.{is_true_of}
use Rattle.term_model.specs.FilterTrees.{FilterTree}
use Rattle.term_model.specs.NameOrder.{name_cmp}
use Rattle.term_model.specs.NamedObjects.{IsByName, names}
use Rattle.term_model.specs.Scope.{is_within}
use Rattle.term_model.specs.Selection.{is_selected, selected}
use Rattle.term_model.proofs.MapLaws.{here, later, not_same, same_itself}
use Rattle.operation_model.specs.OperationChecks.{selected_by}
use Rattle.op_engine.specs.Selecting.{IsThere, passes, passing_by}
use Rattle.scope_select.specs.Subtrees.{entries_in_scope, referred}

behind_first : (first : NamedObject) (others entries : List NamedObject)
    → AllByRecursion (λ n. name_cmp first.name n ≡ Less) (names entries) → AllByRecursion (IsThere others) entries
    → AllByRecursion (IsThere (first ∷ others)) entries
behind_first first others [] greater all = tt
behind_first first others (entry ∷ entries) greater all = (
  later first others entry.name (not_same first.name entry.name Less greater.0 refl) ∙ all.0,
  behind_first first others entries greater.1 all.1,
)

pub all_there : (objects : List NamedObject) → IsByName objects → AllByRecursion (IsThere objects) objects
unfolding IsStrictlySortedBy
all_there [] rising = tt
all_there (first ∷ others) rising = (
  here first others first.name (same_itself first.name),
  behind_first first others others rising.0 (all_there others rising.1),
)

-- ---- those that pass

pub passed_more : (schema : Set) (passed : FilterTree) (entries : List (Bor NamedObject)) (i : ℕ) (x d : Bor NamedObject)
    → i < length entries → x ≡ get_or entries i d
    → filter (passes schema passed) (referred (take (i + 1) entries))
    ≡ filter (passes schema passed) (referred (take i entries))
    ++ (if passes schema passed x.now then x.now ∷ [] else [])
passed_more schema passed entries i x d within is =
    ap (λ es. filter (passes schema passed) (referred es)) (take_more entries i d within)
    ∙ ap (filter (passes schema passed))
    (map-append (λ (entry : Bor NamedObject). entry.now) (take i entries) (get_or entries i d ∷ []))
    ∙ filter-append (passes schema passed) (referred (take i entries)) ((get_or entries i d).now ∷ [])
    ∙ ap (λ (y : Bor NamedObject). filter (passes schema passed) (referred (take i entries))
    ++ filter (passes schema passed) (y.now ∷ [])) (sym is)
    ∙ ap (λ ys. filter (passes schema passed) (referred (take i entries)) ++ ys) (one x.now)
  where
    one : (y : NamedObject) → filter (passes schema passed) (y ∷ []) ≡ (if passes schema passed y then y ∷ [] else [])
    one y = by (passes schema passed y) refl
      where
        by : (b : Bool) → passes schema passed y ≡ b
            → filter (passes schema passed) (y ∷ []) ≡ (if passes schema passed y then y ∷ [] else [])
        by true h = rw h refl
        by false h = rw h refl

some_passing : (schema : Set) (objects : List NamedObject) (base : List Rdn) (scope : Scope) (passed : FilterTree)
    → names (filter (passes schema passed) (entries_in_scope objects base scope))
    ≡ selected schema objects base scope passed
some_passing schema [] base scope passed = refl
some_passing schema (entry ∷ entries) base scope passed =
    by (is_within base scope entry.name) refl (is_true_of schema.attributes entry.object.attrs passed) refl
    (some_passing schema entries base scope passed)
  where
    by : (b : Bool) → is_within base scope entry.name ≡ b → (c : Bool)
        → is_true_of schema.attributes entry.object.attrs passed ≡ c
        → names (filter (passes schema passed) (entries_in_scope entries base scope))
        ≡ selected schema entries base scope passed
        → names (filter (passes schema passed) (entries_in_scope (entry ∷ entries) base scope))
        ≡ selected schema (entry ∷ entries) base scope passed
    by false h c g rest = rw h rest
    by true h true g rest = rw h (rw g (ap (λ ns. entry.name ∷ ns) rest))
    by true h false g rest = rw h (rw g rest)

-- the names in scope whose objects pass the filter of a request
pub passing_by_is : (schema : Set) (objects : List NamedObject) (base : List Rdn) (scope : Scope) (asked : Asked)
    → names (passing_by schema asked (entries_in_scope objects base scope)) ≡ selected_by schema objects base scope asked
passing_by_is schema objects base scope (filters.Good passed) = some_passing schema objects base scope passed
passing_by_is schema objects base scope (filters.Bad octets) = refl
passing_by_is schema objects base scope filters.Large = refl

-- what holds of all objects holds of those that are selected
kept_all : (P : NamedObject → Type 0) (test : NamedObject → Bool) (entries : List NamedObject)
    → AllByRecursion P entries → AllByRecursion P (filter test entries)
kept_all P test [] all = tt
kept_all P test (entry ∷ entries) all = by (test entry) refl (kept_all P test entries all.1)
  where
    by : (b : Bool) → test entry ≡ b → AllByRecursion P (filter test entries)
        → AllByRecursion P (filter test (entry ∷ entries))
    by true h rest = rw h (all.0, rest)
    by false h rest = rw h rest

pub passing_hold : (P : NamedObject → Type 0) (schema : Set) (objects : List NamedObject) (base : List Rdn)
    (scope : Scope) (asked : Asked) → AllByRecursion P objects
    → AllByRecursion P (passing_by schema asked (entries_in_scope objects base scope))
passing_hold P schema objects base scope (filters.Good passed) all =
    kept_all P (passes schema passed) (entries_in_scope objects base scope)
    (kept_all P (λ (entry : NamedObject). is_within base scope entry.name) objects all)
passing_hold P schema objects base scope (filters.Bad octets) all = tt
passing_hold P schema objects base scope filters.Large all = tt

pub held_of : (P : NamedObject → Type 0) (entries : List (Bor NamedObject)) (i : ℕ) (x d : Bor NamedObject)
    → i < length entries → x ≡ get_or entries i d → AllByRecursion P (referred entries) → P x.now
held_of P [] i x d within is all = absurd (omega arith)
held_of P (e ∷ es) zero x d within is all = subst (λ (y : Bor NamedObject). P y.now) (sym is) all.0
held_of P (e ∷ es) (suc i) x d within is all = held_of P es i x d (omega arith) is all.1

-- ---- rising names

below_some : (P : List Rdn → Type 0) (test : NamedObject → Bool) (objects : List NamedObject)
    → AllByRecursion P (names objects) → AllByRecursion P (names (filter test objects))
below_some P test [] all = tt
below_some P test (entry ∷ entries) all = by (test entry) refl (below_some P test entries all.1)
  where
    by : (b : Bool) → test entry ≡ b → AllByRecursion P (names (filter test entries))
        → AllByRecursion P (names (filter test (entry ∷ entries)))
    by true h rest = rw h (all.0, rest)
    by false h rest = rw h rest

some_rise : (test : NamedObject → Bool) (objects : List NamedObject) → IsByName objects
    → IsStrictlySortedBy name_cmp (names (filter test objects))
unfolding IsStrictlySortedBy
some_rise test [] rising = tt
some_rise test (entry ∷ entries) rising = by (test entry) refl (some_rise test entries rising.1)
  where
    by : (b : Bool) → test entry ≡ b → IsStrictlySortedBy name_cmp (names (filter test entries))
        → IsStrictlySortedBy name_cmp (names (filter test (entry ∷ entries)))
    by true h rest =
        rw h (below_some (λ n. name_cmp entry.name n ≡ Less) test entries rising.0, rest)
    by false h rest = rw h rest

pub selected_rise : (schema : Set) (objects : List NamedObject) (base : List Rdn) (scope : Scope)
    (passed : FilterTree) → IsByName objects → IsStrictlySortedBy name_cmp (selected schema objects base scope passed)
selected_rise schema objects base scope passed rising =
    some_rise (is_selected schema base scope passed) objects rising

pub selected_by_rise : (schema : Set) (objects : List NamedObject) (base : List Rdn) (scope : Scope) (asked : Asked)
    → IsByName objects → IsStrictlySortedBy name_cmp (selected_by schema objects base scope asked)
unfolding IsStrictlySortedBy
selected_by_rise schema objects base scope (filters.Good passed) rising =
    selected_rise schema objects base scope passed rising
selected_by_rise schema objects base scope (filters.Bad octets) rising = tt
selected_by_rise schema objects base scope filters.Large rising = tt
