-- JoiningLaws: statements of many attributes, joined one after the other (X.722, section 8.4).
use Rattle.std.proofs.Common.{◌≡◌, ℕ, List, [], ◌∷◌, ◌++◌, Option, Some, None, Bool, true, false, refl, sym, ap, ◌∙◌}
use Rattle.std.proofs.Common.{Less, ⊎_elim, subst, true≢false, cond, arith}
use Rattle.std.proofs.lemmas.Bool.{cases_Bool, eqb-true, false_from_ne_true}
use Rattle.std.proofs.lemmas.Map.Keys.{sorted_head, sorted_tail}
use Rattle.std.proofs.lemmas.Option.{none-some}
use Rattle.std.specs.Cmp.{unsigned_tied}
use Rattle.std.specs.Prelude.{◌==◌, if◌then◌else◌}
use Rattle.std.specs.BTreeMap.{get, is_at}
use Rattle.std.specs.Map.{keys_of, lookup}
use Rattle.std.specs.List.{AllByRecursion}
use Rattle.std.specs.List.Sorted.{IsStrictlySortedBy}
use Rattle.std.specs.Ordering.{is_eq, nat_cmp}
use Rattle.joined_statements.specs.declared.joined.Joined.{Joined}
use Rattle.joined_statements.specs.declared.joined.Joining.{Joining}
use Rattle.joined_statements.specs.JoinedStatements.{Attributes, IsJoined, IsJoinedAt, IsJoinedOf, Values}

-- what these entries state is joined
abbrev pub AreJoinedBy : Values → Joining → Attributes → List (ℕ × Joined) → Attributes → Type 0
AreJoinedBy values how before done after = (q : ℕ)
    → IsJoinedOf values how (get nat_cmp before q) (lookup (is_at (nat_cmp q)) done) (get nat_cmp after q)

-- a test that no entry of the one list passes finds in two what it finds in the other one
lookup_behind : {K X : Type 0} (test : K → Bool) (xs ys : List (K × X)) → lookup test xs ≡ None →
    lookup test (xs ++ ys) ≡ lookup test ys
lookup_behind test [] ys none = refl
lookup_behind {K} {X} test (x ∷ xs) ys none =
    ⊎_elim
    (λ (e : test x.0 ≡ true).
    absurd (none-some x.1 (sym none ∙ ap (λ b. cond b (Some x.1) (lookup test xs)) e)))
    (λ (e : test x.0 ≡ false).
    ap (λ b. cond b (Some x.1) (lookup test (xs ++ ys))) e
    ∙ lookup_behind test xs ys (sym (ap (λ b. cond b (Some x.1) (lookup test xs)) e) ∙ none))
    (cases_Bool (test x.0))

-- an entry that fails is passed over
lookup_past : {K X : Type 0} (test : K → Bool) (xs : List (K × X)) (x : K × X) → test x.0 ≡ false →
    lookup test (xs ++ x ∷ []) ≡ lookup test xs
lookup_past test [] x fails = ap (λ b. cond b (Some x.1) None) fails
lookup_past test (y ∷ xs) x fails = ap (λ rest. cond (test y.0) (Some y.1) rest) (lookup_past test xs x fails)

told_by : (values : Values) (how : Joining) (before x y z w : Option Joined) → y ≡ x → w ≡ z →
    IsJoinedOf values how before x z → IsJoinedOf values how before y w
told_by values how before x y z w same also told =
    subst (λ o. IsJoinedOf values how before o w) (sym same)
    (subst (λ o. IsJoinedOf values how before x o) (sym also) told)

-- an entry of an attribute that none before it states
pub more_joined : (values : Values) (how : Joining) (before now after : Attributes) (done : List (ℕ × Joined)) (a : ℕ)
    (other : Joined) → AreJoinedBy values how before done now → lookup (is_at (nat_cmp a)) done ≡ None →
    IsJoinedAt values how now a other after → AreJoinedBy values how before (done ++ (a, other) ∷ []) after
more_joined values how before now after done a other so_far fresh step q =
    ⊎_elim
    (λ (e : (q == a) ≡ true).
    let same : q ≡ a = eqb-true q a e in
    subst (λ n. IsJoinedOf values how (get nat_cmp before n)
    (lookup (is_at (nat_cmp n)) (done ++ (a, other) ∷ [])) (get nat_cmp after n)) (sym same)
    (told_by values how (get nat_cmp before a) (Some other)
    (lookup (is_at (nat_cmp a)) (done ++ (a, other) ∷ [])) (Some step.joined) (get nat_cmp after a)
    (lookup_behind (is_at (nat_cmp a)) done ((a, other) ∷ []) fresh
    ∙ ap (λ b. cond b (Some other) None) (unsigned_tied a a ∙ itself a))
    (step.told a ∙ ap (λ b. if b then Some step.joined else get nat_cmp now a) (itself a))
    (subst (λ o. IsJoined values how o other step.joined) (stays a (sym fresh)) step.is_joined)))
    (λ (e : (q == a) ≡ false).
    told_by values how (get nat_cmp before q) (lookup (is_at (nat_cmp q)) done)
    (lookup (is_at (nat_cmp q)) (done ++ (a, other) ∷ [])) (get nat_cmp now q) (get nat_cmp after q)
    (lookup_past (is_at (nat_cmp q)) done (a, other) (unsigned_tied q a ∙ e))
    (step.told q ∙ ap (λ b. if b then Some step.joined else get nat_cmp now q) e)
    (so_far q))
    (cases_Bool (q == a))
  where
    itself : (n : ℕ) → (n == n) ≡ true
    itself n = grind (arith)

    stays : (n : ℕ) → None ≡ lookup (is_at (nat_cmp n)) done → get nat_cmp now n ≡ get nat_cmp before n
    stays n none =
        subst (λ o. IsJoinedOf values how (get nat_cmp before n) o (get nat_cmp now n)) (sym none) (so_far n)

-- ---- entries stand by the order of their keys

key_of_one : (P : ℕ → Type 0) (done rest : List (ℕ × Joined)) (a : ℕ) (other : Joined) →
    AllByRecursion P (keys_of (done ++ (a, other) ∷ rest)) → P a
key_of_one P [] rest a other all = all.0
key_of_one P (entry ∷ done) rest a other all = key_of_one P done rest a other all.1

not_less : (n : ℕ) → ¬ (nat_cmp n n ≡ Less)
not_less n less =
    true≢false (sym (unsigned_tied n n ∙ itself n) ∙ ap is_eq less)
  where
    itself : (k : ℕ) → (k == k) ≡ true
    itself k = grind (arith)

-- no entry before one has its key
pub none_before : (done rest : List (ℕ × Joined)) (a : ℕ) (other : Joined) →
    IsStrictlySortedBy nat_cmp (keys_of (done ++ (a, other) ∷ rest)) → lookup (is_at (nat_cmp a)) done ≡ None
none_before [] rest a other sorted = refl
none_before (entry ∷ done) rest a other sorted =
    let less : nat_cmp entry.0 a ≡ Less =
    key_of_one (λ n. nat_cmp entry.0 n ≡ Less) done rest a other
    (sorted_head nat_cmp entry.0 (keys_of (done ++ (a, other) ∷ rest)) sorted) in
    let tail = none_before done rest a other
    (sorted_tail nat_cmp entry.0 (keys_of (done ++ (a, other) ∷ rest)) sorted) in
    let apart : is_at (nat_cmp a) entry.0 ≡ false = false_from_ne_true (is_at (nat_cmp a) entry.0)
    (λ e. not_less entry.0
    (subst (λ n. nat_cmp entry.0 n ≡ Less) (eqb-true a entry.0 (sym (unsigned_tied a entry.0) ∙ e)) less)) in
    ap (λ b. cond b (Some entry.1) (lookup (is_at (nat_cmp a)) done)) apart ∙ tail
