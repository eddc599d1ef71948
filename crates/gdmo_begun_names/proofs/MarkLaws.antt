-- MarkLaws: of one set of first names, of none, of two sets and of the elements of a list each is marked.
use Rattle.std.proofs.Common.{◌≡◌, ◌⊎◌, ◌<◌, ◌≤◌, ◌∙◌, ◌+◌, ℕ, List, [], ◌∷◌, ◌++◌, refl, sym, ap}
use Rattle.std.proofs.Common.{inl, inr, get_or, length, take}
use Rattle.std.proofs.lemmas.List.{take_all, take_more}
use Rattle.std.proofs.Math.Path.{subst}
use Rattle.token_grammar.specs.declared.token.Token.{Token}
use Rattle.asn1_names.specs.FirstNames.{found}
use Rattle.gdmo_begun_names.specs.declared.begun_names.BegunNames.{BegunNames}
use Rattle.gdmo_begun_names.specs.BegunMarks.{AnyFirst, DefinesOne, FirstSet, IsMarked, Marks}

pub defines_by : (One Other : FirstSet) (names : BegunNames) (n : ℕ) → ((t : Token) → One t → Other t) →
    DefinesOne One names n → DefinesOne Other names n
defines_by One Other names n to d = record { first = d.first; is_one = to d.first d.is_one; is = d.is }

defines_moved : (One : FirstSet) (before after : BegunNames) (n : ℕ) → after.defined ≡ before.defined →
    DefinesOne One after n → DefinesOne One before n
defines_moved One before after n same d =
    record { first = d.first; is_one = d.is_one; is = sym (ap (λ t. found t.now d.first.text) same) ∙ d.is }

defines_back : (One : FirstSet) (before after : BegunNames) (n : ℕ) → after.defined ≡ before.defined →
    DefinesOne One before n → DefinesOne One after n
defines_back One before after n same d =
    record { first = d.first; is_one = d.is_one; is = ap (λ t. found t.now d.first.text) same ∙ d.is }

pub none_marked : (Firsts : FirstSet) (names : BegunNames) → ((t : Token) → ¬ Firsts t) → Marks Firsts names names
none_marked Firsts names none_there = record {
  table = refl;
  count = refl;
  kept = λ n m. m;
  there = λ n m. inl m;
  all = λ n within d. absurd (none_there d.first d.is_one);
}

-- sets with the same names
pub marked_by : (One Other : FirstSet) {before after : BegunNames} → ((t : Token) → One t → Other t) →
    ((t : Token) → Other t → One t) → Marks One before after → Marks Other before after
marked_by One Other {before = before} to from h = record {
  table = h.table;
  count = h.count;
  kept = h.kept;
  there = λ n m. elim (h.there n m) as (λ _. IsMarked before n ⊎ DefinesOne Other before n) [
    | inl here ↦ inl here
    | inr here ↦ inr (defines_by One Other before n to here)
  ];
  all = λ n within d. h.all n within (defines_by Other One before n from d);
}

-- of two sets
pub both_marked : (One Other : FirstSet) {before between after : BegunNames} → Marks One before between →
    Marks Other between after → Marks (λ t. One t ⊎ Other t) before after
both_marked One Other {before = before} {between = between} {after = after} p q = record {
  table = q.table ∙ p.table;
  count = q.count ∙ p.count;
  kept = λ n m. q.kept n (p.kept n m);
  there = λ n m. elim (q.there n m) as (λ _. IsMarked before n ⊎ DefinesOne (λ t. One t ⊎ Other t) before n) [
    | inl here ↦ elim (p.there n here) as (λ _. IsMarked before n ⊎ DefinesOne (λ t. One t ⊎ Other t) before n) [
      | inl own ↦ inl own
      | inr own ↦ inr (defines_by One (λ t. One t ⊎ Other t) before n (λ t o. inl o) own)
    ]
    | inr here ↦ inr (defines_by Other (λ t. One t ⊎ Other t) before n (λ t o. inr o)
        (defines_moved Other before between n p.table here))
  ];
  all = λ n within d. either n within d (d.is_one);
}
  where
    either : (n : ℕ) → n < length before.begun.items → (d : DefinesOne (λ t. One t ⊎ Other t) before n) →
        One d.first ⊎ Other d.first → IsMarked after n
    either n within d (inl o) =
        q.kept n (p.all n within (record { first = d.first; is_one = o; is = d.is }))
    either n within d (inr o) = q.all n (subst (λ k. n < k) (sym p.count) within)
        (defines_back Other before between n p.table (record { first = d.first; is_one = o; is = d.is }))

-- ---- of the elements of a list

pub any_front : {X : Type 0} (Firsts : X → FirstSet) (xs : List X) (x : X) (t : Token) → AnyFirst Firsts xs t →
    AnyFirst Firsts (xs ++ x ∷ []) t
any_front Firsts [] x t h = absurd h
any_front Firsts (y ∷ ys) x t (inl here) = inl here
any_front Firsts (y ∷ ys) x t (inr behind) = inr (any_front Firsts ys x t behind)

pub any_last : {X : Type 0} (Firsts : X → FirstSet) (xs : List X) (x : X) (t : Token) → Firsts x t →
    AnyFirst Firsts (xs ++ x ∷ []) t
any_last Firsts [] x t h = inl h
any_last Firsts (y ∷ ys) x t h = inr (any_last Firsts ys x t h)

pub any_cases : {X : Type 0} (Firsts : X → FirstSet) (xs : List X) (x : X) (t : Token) →
    AnyFirst Firsts (xs ++ x ∷ []) t → AnyFirst Firsts xs t ⊎ Firsts x t
any_cases Firsts [] x t (inl here) = inr here
any_cases Firsts [] x t (inr behind) = absurd behind
any_cases Firsts (y ∷ ys) x t (inl here) = inl (inl here)
any_cases Firsts (y ∷ ys) x t (inr behind) =
    elim (any_cases Firsts ys x t behind) as (λ _. AnyFirst Firsts (y ∷ ys) t ⊎ Firsts x t) [
      | inl one ↦ inl (inr one)
      | inr one ↦ inr one
    ]

pub more : {X : Type 0} (xs : List X) (i : ℕ) (x : X) → i < length xs → x ≡ get_or xs i x →
    take (i + 1) xs ≡ take i xs ++ x ∷ []
more xs i x within is = take_more xs i x within ∙ ap (λ y. take i xs ++ y ∷ []) (sym is)

pub marked_step : {X : Type 0} (Firsts : X → FirstSet) (xs : List X) (i : ℕ) (x : X)
    {one other next : BegunNames} → i < length xs → x ≡ get_or xs i x →
    Marks (AnyFirst Firsts (take i xs)) one other → Marks (Firsts x) other next →
    Marks (AnyFirst Firsts (take (i + 1) xs)) one next
marked_step Firsts xs i x {one = one} {next = next} within is p q =
    subst (λ ys. Marks (AnyFirst Firsts ys) one next) (sym (more xs i x within is))
    (marked_by (λ t. AnyFirst Firsts (take i xs) t ⊎ Firsts x t) (AnyFirst Firsts (take i xs ++ x ∷ []))
    (λ t h. elim h as (λ _. AnyFirst Firsts (take i xs ++ x ∷ []) t) [
      | inl here ↦ any_front Firsts (take i xs) x t here
      | inr here ↦ any_last Firsts (take i xs) x t here
    ]) (any_cases Firsts (take i xs) x) (both_marked (AnyFirst Firsts (take i xs)) (Firsts x) p q))

pub marked_begin : {X : Type 0} (Firsts : X → FirstSet) (xs : List X) (names : BegunNames) →
    Marks (AnyFirst Firsts (take 0 xs)) names names
marked_begin Firsts [] names = none_marked (AnyFirst Firsts []) names (λ t h. h)
marked_begin Firsts (x ∷ xs) names = none_marked (AnyFirst Firsts []) names (λ t h. h)

pub marked_end : {X : Type 0} (Firsts : X → FirstSet) (xs : List X) (i : ℕ) {one next : BegunNames} →
    length xs ≤ i → Marks (AnyFirst Firsts (take i xs)) one next → Marks (AnyFirst Firsts xs) one next
marked_end Firsts xs i {one = one} {next = next} past h =
    subst (λ ys. Marks (AnyFirst Firsts ys) one next) (take_all i xs past) h
