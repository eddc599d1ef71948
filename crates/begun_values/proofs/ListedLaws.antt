-- ListedLaws: first names of the elements of a list, of a list that is seen through a view, and where none of them is
-- defined.
use Rattle.std.proofs.Common.{◌≡◌, ◌∙◌, ◌⊎◌, ◌<◌, ◌≤◌, ◌+◌, ℕ, zero, suc, List, [], ◌∷◌, ◌++◌, Bool, true, false, refl, sym}
use Rattle.std.proofs.Common.{arith, inl, inr, get_or, length, map, subst, take}
use Rattle.std.specs.Prelude.{◌↔◌, Contains}
use Rattle.std.proofs.lemmas.Bool.{false≢true}
use Rattle.std.proofs.lemmas.List.{take_all}
use Rattle.token_grammar.specs.declared.token.Token.{Token}
use Rattle.gdmo_begun_names.specs.declared.begun_names.BegunNames.{BegunNames}
use Rattle.gdmo_begun_names.specs.BegunMarks.{AnyFirst, DefinesSome, FirstSet, Marks}
use Rattle.gdmo_begun_names.proofs.MarkLaws.{any_cases, defines_by, marked_by, more}

-- ---- elements

pub any_of : {X : Type 0} (F : X → FirstSet) (xs : List X) (t : Token) → AnyFirst F xs t →
    (x : X) × (Contains xs x) × F x t
any_of F [] t h = absurd h
any_of F (y ∷ ys) t (inl here) = (y, (0, omega arith, refl), here)
any_of F (y ∷ ys) t (inr behind) = let found = any_of F ys t behind in
    (found.0, (suc found.1.0, (let w = found.1.1 in omega (arith, w)), found.1.2), found.2)

any_at : {X : Type 0} (F : X → FirstSet) (xs : List X) (x : X) (n : ℕ) → n < length xs → get_or xs n x ≡ x →
    (t : Token) → F x t → AnyFirst F xs t
any_at F [] x n below is t h = absurd (omega (arith, below))
any_at F (y ∷ ys) x zero below is t h = inl (subst (λ z. F z t) (sym is) h)
any_at F (y ∷ ys) x (suc n) below is t h = inr (any_at F ys x n (omega (arith, below)) is t h)

pub any_with : {X : Type 0} (F : X → FirstSet) (xs : List X) (x : X) (t : Token) → Contains xs x → F x t →
    AnyFirst F xs t
any_with F xs x t has h = any_at F xs x has.0 has.1 has.2 t h

any_map : {X Y : Type 0} (F : Y → FirstSet) (view : X → Y) (xs : List X) (t : Token) →
    AnyFirst (λ x. F (view x)) xs t → AnyFirst F (map view xs) t
any_map F view [] t h = absurd h
any_map F view (x ∷ xs) t (inl here) = inl here
any_map F view (x ∷ xs) t (inr behind) = inr (any_map F view xs t behind)

map_any : {X Y : Type 0} (F : Y → FirstSet) (view : X → Y) (xs : List X) (t : Token) →
    AnyFirst F (map view xs) t → AnyFirst (λ x. F (view x)) xs t
map_any F view [] t h = absurd h
map_any F view (x ∷ xs) t (inl here) = inl here
map_any F view (x ∷ xs) t (inr behind) = inr (map_any F view xs t behind)

-- those of a list that is seen through a view
pub marked_map : {X Y : Type 0} (F : Y → FirstSet) (view : X → Y) (xs : List X) {before after : BegunNames} →
    Marks (AnyFirst (λ x. F (view x)) xs) before after → Marks (AnyFirst F (map view xs)) before after
marked_map F view xs h =
    marked_by (AnyFirst (λ x. F (view x)) xs) (AnyFirst F (map view xs)) (any_map F view xs) (map_any F view xs) h

any_both : {X : Type 0} (F : X → FirstSet) (xs ys : List X) (t : Token) → AnyFirst F xs t ⊎ AnyFirst F ys t →
    AnyFirst F (xs ++ ys) t
any_both F [] ys t (inl h) = absurd h
any_both F [] ys t (inr h) = h
any_both F (x ∷ xs) ys t (inl (inl h)) = inl h
any_both F (x ∷ xs) ys t (inl (inr h)) = inr (any_both F xs ys t (inl h))
any_both F (x ∷ xs) ys t (inr h) = inr (any_both F xs ys t (inr h))

any_parted : {X : Type 0} (F : X → FirstSet) (xs ys : List X) (t : Token) → AnyFirst F (xs ++ ys) t →
    AnyFirst F xs t ⊎ AnyFirst F ys t
any_parted F [] ys t h = inr h
any_parted F (x ∷ xs) ys t (inl h) = inl (inl h)
any_parted F (x ∷ xs) ys t (inr h) = elim (any_parted F xs ys t h) as
    (λ _. AnyFirst F (x ∷ xs) t ⊎ AnyFirst F ys t) [
      | inl one ↦ inl (inr one)
      | inr other ↦ inr other
    ]

-- those of two lists in a row
pub marked_append : {X : Type 0} (F : X → FirstSet) (xs ys : List X) {before after : BegunNames} →
    Marks (λ t. AnyFirst F xs t ⊎ AnyFirst F ys t) before after → Marks (AnyFirst F (xs ++ ys)) before after
marked_append F xs ys h =
    marked_by (λ t. AnyFirst F xs t ⊎ AnyFirst F ys t) (AnyFirst F (xs ++ ys)) (any_both F xs ys)
    (any_parted F xs ys) h

-- ---- names that no module defines

pub undefined_marked : (Firsts : FirstSet) (names : BegunNames) → ¬ DefinesSome Firsts names →
    Marks Firsts names names
undefined_marked Firsts names none_there = record {
  table = refl;
  count = refl;
  kept = λ n m. m;
  there = λ n m. inl m;
  all = λ n within d. absurd (none_there (n, d));
}

-- where none may be there, none is
pub none_may : (May Firsts : FirstSet) (names : BegunNames) (b : Bool) → (b ≡ true) ↔ DefinesSome May names →
    b ≡ false → ((t : Token) → Firsts t → May t) → Marks Firsts names names
none_may May Firsts names b told is to = undefined_marked Firsts names
    (λ d. false≢true (sym is ∙ told.1 (d.0, defines_by Firsts May names d.0 to d.1)))

-- ---- answers about the names of a set

pub some_by : (One Other : FirstSet) (names : BegunNames) → ((t : Token) → One t → Other t) → DefinesSome One names →
    DefinesSome Other names
some_by One Other names to d = (d.0, defines_by One Other names d.0 to d.1)

pub told_by : (One Other : FirstSet) (names : BegunNames) (b : Bool) → ((t : Token) → One t → Other t) →
    ((t : Token) → Other t → One t) → (b ≡ true) ↔ DefinesSome One names → (b ≡ true) ↔ DefinesSome Other names
told_by One Other names b to from told = (
  λ is. some_by One Other names to (told.0 is),
  λ d. told.1 (some_by Other One names from d),
)

-- one is there
pub told_true : (One Other : FirstSet) (names : BegunNames) (b : Bool) → ((t : Token) → One t → Other t) →
    (b ≡ true) ↔ DefinesSome One names → b ≡ true → (true ≡ true) ↔ DefinesSome Other names
told_true One Other names b to told is = (λ e. some_by One Other names to (told.0 is), λ d. refl)

-- none is
pub told_false : (Other : FirstSet) (names : BegunNames) → (DefinesSome Other names → ⊥) →
    (false ≡ true) ↔ DefinesSome Other names
told_false Other names none_there = (λ e. absurd (false≢true e), λ d. absurd (none_there d))

-- of two sets, the first of which has none
pub told_second : (One Other : FirstSet) (names : BegunNames) (b c : Bool) → (b ≡ true) ↔ DefinesSome One names →
    b ≡ false → (c ≡ true) ↔ DefinesSome Other names →
    (c ≡ true) ↔ DefinesSome (λ t. One t ⊎ Other t) names
told_second One Other names b c one is other = (
  λ e. some_by Other (λ t. One t ⊎ Other t) names (λ t h. inr h) (other.0 e),
  λ d. by d (d.1.is_one),
)
  where
    by : (d : DefinesSome (λ t. One t ⊎ Other t) names) → One d.1.first ⊎ Other d.1.first → c ≡ true
    by d (inl h) = absurd (false≢true (sym is
        ∙ one.1 (d.0, record { first = d.1.first; is_one = h; is = d.1.is })))
    by d (inr h) = other.1 (d.0, record { first = d.1.first; is_one = h; is = d.1.is })

-- none of the first elements of a list, and of one more
abbrev pub NoneDefined : {X : Type 0} → (X → FirstSet) → BegunNames → List X → Type 0
NoneDefined F names xs = DefinesSome (AnyFirst F xs) names → ⊥

pub none_begin : {X : Type 0} (F : X → FirstSet) (names : BegunNames) (xs : List X) → NoneDefined F names (take 0 xs)
none_begin F names [] d = d.1.is_one
none_begin F names (x ∷ xs) d = d.1.is_one

pub none_step : {X : Type 0} (F : X → FirstSet) (names : BegunNames) (xs : List X) (i : ℕ) (x : X) (b : Bool) →
    i < length xs → x ≡ get_or xs i x → (b ≡ true) ↔ DefinesSome (F x) names → b ≡ false →
    NoneDefined F names (take i xs) → NoneDefined F names (take (i + 1) xs)
none_step F names xs i x b within at told is none d =
    by (any_cases F (take i xs) x d.1.first (subst (λ ys. AnyFirst F ys d.1.first) (more xs i x within at) d.1.is_one))
  where
    by : AnyFirst F (take i xs) d.1.first ⊎ F x d.1.first → ⊥
    by (inl h) = none (d.0, record { first = d.1.first; is_one = h; is = d.1.is })
    by (inr h) = false≢true (sym is ∙ told.1 (d.0, record { first = d.1.first; is_one = h; is = d.1.is }))

pub none_end : {X : Type 0} (F : X → FirstSet) (names : BegunNames) (xs : List X) (i : ℕ) → length xs ≤ i →
    NoneDefined F names (take i xs) → NoneDefined F names xs
none_end F names xs i past h = subst (λ ys. NoneDefined F names ys) (take_all i xs past) h

pub one_there : {X : Type 0} (F : X → FirstSet) (xs : List X) (i : ℕ) (x : X) → i < length xs → x ≡ get_or xs i x →
    (t : Token) → F x t → AnyFirst F xs t
one_there F xs i x within at t h = any_at F xs x i within (sym at) t h
