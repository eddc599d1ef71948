-- NumberLaws: the numbers and places under which assignments and modules are found.
use Rattle.std.specs.Prelude.{◌≡◌, ◌==◌, ℕ, zero, suc, ◌+◌, List, [], ◌∷◌, ◌++◌, ◌||◌, Bool, true, false, Option, None, Some}
use Rattle.std.specs.Prelude.{MatchOption, length, map, option_map, refl, slice_get, if◌then◌else◌}
use Rattle.std.specs.Borrow.{Bor}
use Rattle.std.specs.Cmp.Lexicographic.{pointwise}
use Rattle.std.specs.List.{list_any}
use Rattle.std.specs.Map.{lookup}
use Rattle.indexmap.specs.IndexMap.{IndexMap}
use Rattle.std.proofs.Common.{ap, append_assoc, arith, get_or, zero-add, length-append, sym, take, ◌<◌, ◌∙◌}
use Rattle.std.proofs.lemmas.List.{length-map, length-take-le, map-append, take_more}
use Rattle.std.proofs.Math.Path.{subst}
use Rattle.token_grammar.specs.declared.token.Token.{Token}
use Rattle.asn1_names.specs.declared.name_tables.ModuleNames.{ModuleNames}
use Rattle.asn1_names.specs.AssignmentNumbers.{Numbered, all_numbered, first_at, first_number, first_place}
use Rattle.asn1_names.specs.AssignmentNumbers.{numbered_from}
use Rattle.asn1_names.specs.FirstNames.{first_of, found, sources}
use Rattle.asn1_names.specs.ModuleTables.{TellAllNames, TellsNames}
use Rattle.asn1_names.specs.ModuleTerms.{AssignmentTerm, ImportTerm, ModuleTerm}
use Rattle.asn1_names.specs.NameMeaning.{Meaning, assigned_meaning, first_assignment, imported_from, is_called}
use Rattle.asn1_names.specs.NameMeaning.Meaning.{Nothing}
use Rattle.asn1_names.specs.StandardModule.{is_same_name}

-- ---- the first of two

pub add-zero : (n : ℕ) → n + 0 ≡ n
add-zero n = omega arith

pub first_then : {X : Type 0} (x y z : Option X) → first_of (first_of x y) z ≡ first_of x (first_of y z)
first_then None y z = refl
first_then (Some x) y z = refl

-- either of two tests
pub first_either : {X : Type 0} (one other : Bool) (x : X) →
    first_of (if one then Some x else None) (if other then Some x else None) ≡ (if one || other then Some x else None)
first_either true other x = refl
first_either false other x = refl

-- ---- one more element

pub append_nil : {X : Type 0} (ys : List X) → ys ++ [] ≡ ys
append_nil [] = refl
append_nil (y ∷ ys) = ap (λ rest. y ∷ rest) (append_nil ys)

pub first_push : {X : Type 0} (test : X → Bool) (n : ℕ) (xs : List X) (x : X) → first_at test n (xs ++ x ∷ []) ≡
    first_of (first_at test n xs) (if test x then Some (n + length xs) else None)
unfolding first_at
first_push test n [] x =
    ap (λ k. if test x then Some k else None) (sym (add-zero n))
first_push test n (y ∷ ys) x = by (test y) (first_push test (n + 1) ys x ∙
    ap (λ k. first_of (first_at test (n + 1) ys) (if test x then Some k else None)) (omega arith))
  where
    by : (here : Bool) → first_at test (n + 1) (ys ++ x ∷ []) ≡
        first_of (first_at test (n + 1) ys) (if test x then Some (n + length (y ∷ ys)) else None) →
        (if here then Some n else first_at test (n + 1) (ys ++ x ∷ [])) ≡
        first_of (if here then Some n else first_at test (n + 1) ys)
        (if test x then Some (n + length (y ∷ ys)) else None)
    by true rest = refl
    by false rest = rest

or_false : (b : Bool) → (b || false) ≡ b
or_false true = refl
or_false false = refl

pub any_push : {X : Type 0} (test : X → Bool) (xs : List X) (x : X) →
    list_any test (xs ++ x ∷ []) ≡ (list_any test xs || test x)
any_push test [] x = or_false (test x)
any_push test (y ∷ ys) x = by (test y) (any_push test ys x)
  where
    by : (b : Bool) → list_any test (ys ++ x ∷ []) ≡ (list_any test ys || test x) →
        (b || list_any test (ys ++ x ∷ [])) ≡ ((b || list_any test ys) || test x)
    by true rest = refl
    by false rest = rest

-- the name of the module of an import of a name
abbrev pub source_of : List ℕ → ImportTerm → Option (List ℕ)
source_of name x = if list_any (is_called name) x.symbols then Some x.module_name.text else None

abbrev pub sources_of : List ℕ → List ImportTerm → Option (List ℕ)
sources_of name xs = option_map (λ token. token.text) (imported_from name xs)

pub source_push : (name : List ℕ) (xs : List ImportTerm) (x : ImportTerm) →
    sources_of name (xs ++ x ∷ []) ≡ first_of (sources_of name xs) (source_of name x)
unfolding imported_from
source_push name [] x = by (list_any (is_called name) x.symbols)
  where
    by : (b : Bool) → option_map (λ token. token.text) (if b then Some x.module_name else None) ≡
        (if b then Some x.module_name.text else None)
    by true = refl
    by false = refl
source_push name (y ∷ ys) x = by (list_any (is_called name) y.symbols) (source_push name ys x)
  where
    by : (b : Bool) → sources_of name (ys ++ x ∷ []) ≡ first_of (sources_of name ys) (source_of name x) →
        option_map (λ token. token.text) (if b then Some y.module_name else imported_from name (ys ++ x ∷ [])) ≡
        first_of (option_map (λ token. token.text) (if b then Some y.module_name else imported_from name ys))
        (source_of name x)
    by true rest = refl
    by false rest = rest

-- ---- assignments under numbers

pub numbered_push : (m i : ℕ) (xs : List AssignmentTerm) (x : AssignmentTerm) → numbered_from m i (xs ++ x ∷ []) ≡
    numbered_from m i xs ++ record { in_module = m; place = i + length xs; assignment = x } ∷ []
numbered_push m i [] x =
    ap (λ k. record { in_module = m; place = k; assignment = x } ∷ []) (sym (add-zero i))
numbered_push m i (y ∷ ys) x =
    ap (λ rest. record { in_module = m; place = i; assignment = y } ∷ rest) (numbered_push m (i + 1) ys x ∙
    ap (λ k. numbered_from m (i + 1) ys ++ record { in_module = m; place = k; assignment = x } ∷ []) (omega arith))

pub numbered_length : (m i : ℕ) (xs : List AssignmentTerm) → length (numbered_from m i xs) ≡ length xs
numbered_length m i [] = refl
numbered_length m i (x ∷ xs) = ap suc (numbered_length m (i + 1) xs)

-- the first assignment of a name is the one under its number
pub record IsFirst (name : List ℕ) (m i : ℕ) (xs : List AssignmentTerm) (d : ℕ) : Type 0 where
  pub numbered : Numbered
  pub at : slice_get (numbered_from m i xs) d ≡ Some numbered
  pub means : first_assignment name m i xs ≡
      assigned_meaning numbered.in_module numbered.place numbered.assignment.assigned

-- what is told of the first number of a name, where the first of all is n
abbrev pub TellsFirst : List ℕ → ℕ → ℕ → ℕ → List AssignmentTerm → Option ℕ → Type 0
TellsFirst name n m i xs None = first_assignment name m i xs ≡ Nothing
TellsFirst name n m i xs (Some k) = (d : ℕ) × (k ≡ n + d) × IsFirst name m i xs d

first_behind : (name : List ℕ) (n m i : ℕ) (x : AssignmentTerm) (xs : List AssignmentTerm) (k : Option ℕ) →
    is_called name x.name ≡ false → TellsFirst name (n + 1) m (i + 1) xs k → TellsFirst name n m i (x ∷ xs) k
unfolding first_assignment
first_behind name n m i x xs None not_here told = rw not_here told
first_behind name n m i x xs (Some k) not_here told = (
  suc told.0,
  told.1 ∙ omega arith,
  record { numbered = told.2.numbered; at = told.2.at; means = rw not_here told.2.means },
)

number_by : (name : List ℕ) (n m i : ℕ) (x : AssignmentTerm) (xs : List AssignmentTerm) (b : Bool) →
    is_called name x.name ≡ b → TellsFirst name (n + 1) m (i + 1) xs (first_number name (n + 1) xs) →
    TellsFirst name n m i (x ∷ xs) (if b then Some n else first_number name (n + 1) xs)
unfolding first_assignment
number_by name n m i x xs true here rest = (
  0,
  sym (add-zero n),
  record {
    numbered = record { in_module = m; place = i; assignment = x };
    at = refl;
    means = rw here refl;
  },
)
number_by name n m i x xs false here rest = first_behind name n m i x xs (first_number name (n + 1) xs) here rest

pub number_tells : (name : List ℕ) (n m i : ℕ) (xs : List AssignmentTerm) →
    TellsFirst name n m i xs (first_number name n xs)
unfolding first_at first_assignment
number_tells name n m i [] = refl
number_tells name n m i (x ∷ xs) =
    number_by name n m i x xs (is_called name x.name) refl (number_tells name (n + 1) m (i + 1) xs)

-- ---- all modules

pub get_front : {X : Type 0} (xs ys : List X) (k : ℕ) (x : X) → slice_get xs k ≡ Some x →
    slice_get (xs ++ ys) k ≡ Some x
get_front [] ys k x is = absurd (cc)
get_front (y ∷ xs) ys zero x is = is
get_front (y ∷ xs) ys (suc k) x is = get_front xs ys k x is

pub get_behind : {X : Type 0} (xs ys : List X) (k : ℕ) → slice_get (xs ++ ys) (length xs + k) ≡ slice_get ys k
get_behind [] ys k = ap (λ n. slice_get ys n) (omega arith)
get_behind (x ∷ xs) ys k =
    let one : length (x ∷ xs) + k ≡ suc (length xs + k) = omega arith in
    ap (λ n. slice_get (x ∷ xs ++ ys) n) one ∙ get_behind xs ys k

-- what is told of the module at the place k behind the first, which has the place m, and whose first assignment has the
-- number n
abbrev pub TellsOwn : ℕ → ℕ → ℕ → List ModuleTerm → Option ModuleNames → Option ModuleTerm → Type 0
TellsOwn n m k xs None None = Unit {0}
TellsOwn n m k xs None (Some x) = ⊥
TellsOwn n m k xs (Some names) None = ⊥
TellsOwn n m k xs (Some names) (Some x) = (d : ℕ) × TellsNames (n + d) names x × ((j : ℕ) (y : Numbered) →
    slice_get (numbered_from (m + k) 0 x.assignments) j ≡ Some y → slice_get (all_numbered m xs) (d + j) ≡ Some y)

own_behind : (n m k : ℕ) (x : ModuleTerm) (xs : List ModuleTerm) (names : Option ModuleNames) (y : Option ModuleTerm) →
    TellsOwn (n + length x.assignments) (m + 1) k xs names y → TellsOwn n m (suc k) (x ∷ xs) names y
own_behind n m k x xs None None told = tt
own_behind n m k x xs None (Some y) told = absurd told
own_behind n m k x xs (Some names) None told = absurd told
own_behind n m k x xs (Some names) (Some y) told =
    let first = numbered_from m 0 x.assignments in
    let many : length first ≡ length x.assignments = numbered_length m 0 x.assignments in
    let start : (n + length x.assignments) + told.0 ≡ n + (length x.assignments + told.0) = omega arith in
    let place : (m + 1) + k ≡ m + suc k = omega arith in (
      length x.assignments + told.0,
      subst (λ a. TellsNames a names y) start told.1,
      λ j z is.
          let sum : (length x.assignments + told.0) + j ≡ length first + (told.0 + j) = omega (arith, many) in
          ap (λ a. slice_get (first ++ all_numbered (m + 1) xs) a) sum ∙
          get_behind first (all_numbered (m + 1) xs) (told.0 + j) ∙
          told.2 j z (ap (λ a. slice_get (numbered_from a 0 y.assignments) j) place ∙ is),
    )

pub own_told : (k n m : ℕ) (names : List ModuleNames) (xs : List ModuleTerm) → TellAllNames n names xs →
    TellsOwn n m k xs (slice_get names k) (slice_get xs k)
own_told k n m [] [] told = tt
own_told k n m [] (x ∷ xs) told = absurd told
own_told k n m (y ∷ ys) [] told = absurd told
own_told zero n m (y ∷ ys) (x ∷ xs) told = (
  0,
  subst (λ k. TellsNames k y x) (sym (add-zero n)) told.0,
  λ j z is.
      ap (λ a. slice_get (all_numbered m (x ∷ xs)) a) (zero-add j) ∙
      get_front (numbered_from m 0 x.assignments) (all_numbered (m + 1) xs) j z
      (ap (λ a. slice_get (numbered_from a 0 x.assignments) j) (sym (add-zero m)) ∙ is),
)
own_told (suc k) n m (y ∷ ys) (x ∷ xs) told = own_behind n m k x xs (slice_get ys k) (slice_get xs k)
    (own_told k (n + length x.assignments) (m + 1) ys xs told.1)

-- ---- one more element of a list that is gone through

pub more : {X : Type 0} (xs : List X) (i : ℕ) (x : X) → i < length xs → x ≡ get_or xs i x →
    take (i + 1) xs ≡ take i xs ++ x ∷ []
more xs i x within is = take_more xs i x within ∙ ap (λ y. take i xs ++ y ∷ []) (sym is)

pub map_more : {X Y : Type 0} (f : X → Y) (xs : List X) (i : ℕ) (x : X) → i < length xs → x ≡ get_or xs i x →
    map f (take (i + 1) xs) ≡ map f (take i xs) ++ f x ∷ []
map_more f xs i x within is = ap (map f) (more xs i x within is) ∙ map-append f (take i xs) (x ∷ [])

pub taken_length : {X Y : Type 0} (f : X → Y) (xs : List X) (i : ℕ) → i < length xs → length (map f (take i xs)) ≡ i
taken_length f xs i within = length-map (take i xs) f ∙ length-take-le i xs (omega (arith, within))

-- the first number, once there is one more
pub first_step : {X Y : Type 0} (test : Y → Bool) (n : ℕ) (f : X → Y) (xs : List X) (i : ℕ) (x : X) →
    i < length xs → x ≡ get_or xs i x → first_at test n (map f (take (i + 1) xs)) ≡
    first_of (first_at test n (map f (take i xs))) (if test (f x) then Some (n + i) else None)
first_step test n f xs i x within is =
    ap (first_at test n) (map_more f xs i x within is) ∙ first_push test n (map f (take i xs)) (f x) ∙
    ap (λ k. first_of (first_at test n (map f (take i xs))) (if test (f x) then Some (n + k) else None))
    (taken_length f xs i within)

pub imports_step : (name : List ℕ) (symbols : List Token) (i : ℕ) (x : Token) (old : Option (List ℕ))
    (from : List ℕ) → i < length symbols → x ≡ get_or symbols i x →
    first_of (first_of old (if list_any (is_called name) (take i symbols) then Some from else None))
    (if is_called name x then Some from else None) ≡
    first_of old (if list_any (is_called name) (take (i + 1) symbols) then Some from else None)
imports_step name symbols i x old from within is =
    first_then old (if list_any (is_called name) (take i symbols) then Some from else None)
    (if is_called name x then Some from else None) ∙
    ap (first_of old) (first_either (list_any (is_called name) (take i symbols)) (is_called name x) from ∙
    ap (λ b. if b then Some from else None) (sym (any_push (is_called name) (take i symbols) x) ∙
    ap (list_any (is_called name)) (sym (more symbols i x within is))))

pub source_step : {X : Type 0} (name : List ℕ) (first : ImportTerm) (f : X → ImportTerm) (xs : List X) (i : ℕ)
    (x : X) → i < length xs → x ≡ get_or xs i x → sources_of name (first ∷ map f (take (i + 1) xs)) ≡
    first_of (sources_of name (first ∷ map f (take i xs))) (source_of name (f x))
source_step name first f xs i x within is =
    ap (λ ys. sources_of name (first ∷ ys)) (map_more f xs i x within is) ∙
    source_push name (first ∷ map f (take i xs)) (f x)

pub numbered_step : {X : Type 0} (before now : List Numbered) (home : ℕ) (f : X → AssignmentTerm) (xs : List X)
    (i : ℕ) (x : X) → i < length xs → x ≡ get_or xs i x →
    now ≡ before ++ numbered_from home 0 (map f (take i xs)) →
    now ++ record { in_module = home; place = i; assignment = f x } ∷ [] ≡
    before ++ numbered_from home 0 (map f (take (i + 1) xs))
numbered_step before now home f xs i x within is so_far =
    let place : 0 + length (map f (take i xs)) ≡ i = omega (arith, taken_length f xs i within) in
    ap (λ ys. ys ++ record { in_module = home; place = i; assignment = f x } ∷ []) so_far ∙
    append_assoc before (numbered_from home 0 (map f (take i xs)))
    (record { in_module = home; place = i; assignment = f x } ∷ []) ∙
    ap (λ ys. before ++ ys) (ap (λ k. numbered_from home 0 (map f (take i xs)) ++
    record { in_module = home; place = k; assignment = f x } ∷ []) (sym place) ∙
    sym (numbered_push home 0 (map f (take i xs)) (f x)) ∙
    ap (numbered_from home 0) (sym (map_more f xs i x within is)))

-- ---- one more module

pub all_push : (m : ℕ) (xs : List ModuleTerm) (x : ModuleTerm) →
    all_numbered m (xs ++ x ∷ []) ≡ all_numbered m xs ++ numbered_from (m + length xs) 0 x.assignments
all_push m [] x = append_nil (numbered_from m 0 x.assignments) ∙
    ap (λ k. numbered_from k 0 x.assignments) (sym (add-zero m))
all_push m (y ∷ ys) x =
    ap (λ rest. numbered_from m 0 y.assignments ++ rest) (all_push (m + 1) ys x ∙
    ap (λ k. all_numbered (m + 1) ys ++ numbered_from k 0 x.assignments) (omega arith)) ∙
    sym (append_assoc (numbered_from m 0 y.assignments) (all_numbered (m + 1) ys)
    (numbered_from (m + length (y ∷ ys)) 0 x.assignments))

pub all_names_push : (n m : ℕ) (names : List ModuleNames) (xs : List ModuleTerm) (own : ModuleNames)
    (x : ModuleTerm) → TellAllNames n names xs → TellsNames (n + length (all_numbered m xs)) own x →
    TellAllNames n (names ++ own ∷ []) (xs ++ x ∷ [])
all_names_push n m [] [] own x told is = (subst (λ k. TellsNames k own x) (add-zero n) is, tt)
all_names_push n m [] (y ∷ ys) own x told is = absurd told
all_names_push n m (z ∷ zs) [] own x told is = absurd told
all_names_push n m (z ∷ zs) (y ∷ ys) own x told is =
    let first = numbered_from m 0 y.assignments in
    let many : length first ≡ length y.assignments = numbered_length m 0 y.assignments in
    let both : length (first ++ all_numbered (m + 1) ys) ≡ length first + length (all_numbered (m + 1) ys) =
    length-append first (all_numbered (m + 1) ys) in
    let start : n + length (first ++ all_numbered (m + 1) ys) ≡
    (n + length y.assignments) + length (all_numbered (m + 1) ys) = omega (arith, many, both) in (
      told.0,
      all_names_push (n + length y.assignments) (m + 1) zs ys own x told.1
          (subst (λ k. TellsNames k own x) start is),
    )

-- ---- tables

pub empty_found : {V S : Type 0} (table : IndexMap (Bor (List ℕ)) V S) (name : List ℕ) → table.entries ≡ [] →
    found table name ≡ None
empty_found table name is = ap (λ es. lookup (λ key. pointwise ◌==◌ name key.now) es) is

pub first_nothing : {X : Type 0} (test : X → Bool) (n : ℕ) → first_at test n [] ≡ None
unfolding first_at
first_nothing test n = refl

pub table_step : {X Y : Type 0} (key_of : Y → Token) (f : X → Y) (now after : List ℕ → Option ℕ) (n : ℕ)
    (xs : List X) (i : ℕ) (x : X) (key : List ℕ) (value : ℕ) → i < length xs → x ≡ get_or xs i x →
    key ≡ (key_of (f x)).text → value ≡ n + i →
    ((name : List ℕ) → now name ≡ first_at (λ y. is_called name (key_of y)) n (map f (take i xs))) →
    ((name : List ℕ) → after name ≡ first_of (now name) (if is_same_name key name then Some value else None)) →
    (name : List ℕ) → after name ≡ first_at (λ y. is_called name (key_of y)) n (map f (take (i + 1) xs))
table_step key_of f now after n xs i x key value within is key_is value_is so_far updated name =
    let before = first_at (λ y. is_called name (key_of y)) n (map f (take i xs)) in
    updated name ∙
    ap (λ z. first_of z (if is_same_name key name then Some value else None)) (so_far name) ∙
    ap (λ z. first_of before (if is_same_name z name then Some value else None)) key_is ∙
    ap (λ z. first_of before (if is_same_name (key_of (f x)).text name then Some z else None)) value_is ∙
    sym (first_step (λ y. is_called name (key_of y)) n f xs i x within is)

pub no_sources : (name : List ℕ) → sources_of name [] ≡ None
unfolding imported_from
no_sources name = refl

pub one_source : (name : List ℕ) (x : ImportTerm) (before : Option (List ℕ)) → before ≡ None →
    first_of before (source_of name x) ≡ sources_of name (x ∷ [])
one_source name x before is =
    ap (λ z. first_of z (source_of name x)) (is ∙ sym (no_sources name)) ∙ sym (source_push name [] x)

pub all_step : (xs : List ModuleTerm) (home : ℕ) (x : ModuleTerm) → length xs ≡ home →
    all_numbered 0 xs ++ numbered_from home 0 x.assignments ≡ all_numbered 0 (xs ++ x ∷ [])
all_step xs home x is =
    ap (λ k. all_numbered 0 xs ++ numbered_from k 0 x.assignments) (sym is ∙ sym (zero-add (length xs))) ∙
    sym (all_push 0 xs x)
