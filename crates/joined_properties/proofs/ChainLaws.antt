-- ChainLaws: what comes of many statements, joined one after the other, told from each of them, and a chain's steps.
use Rattle.std.proofs.Common.{◌≡◌, ◌<◌, ◌≤◌, ◌+◌, ◌++◌, ◌∷◌, [], ℕ, List, Option, Some, None, Bool, true, false, refl}
use Rattle.std.proofs.Common.{sym, ap, subst, ◌∙◌, ⊎_elim, inl, inr, arith, length, get_or, take}
use Rattle.std.proofs.lemmas.Bool.{eqb-true, false≢true}
use Rattle.std.proofs.lemmas.List.{append_assoc, append-nil, take_all, take_more}
use Rattle.std.proofs.lemmas.List.Elements.{Contains-append_left, Contains-push, Contains-push_cases}
use Rattle.std.specs.Prelude.{◌⊎◌, ◌==◌, if◌then◌else◌, Contains, slice_get}
use Rattle.std.specs.BTreeMap.{get}
use Rattle.std.specs.Ordering.{nat_cmp}
use Rattle.joined_statements.specs.HeldValues.{both}
use Rattle.joined_statements.specs.JoinedStatements.{Attributes, IsJoined, IsJoinedAt, IsJoinedOf, Values, join_held}
use Rattle.joined_statements.specs.declared.held.Held.{Held}
use Rattle.joined_statements.specs.declared.held.Held.TheVariants.{Nothing}
use Rattle.joined_statements.specs.declared.joined.Joined.{Joined}
use Rattle.joined_statements.specs.declared.joined.Joining.{Joining}
use Rattle.joined_statements.specs.declared.joined.Joining.TheVariants.{Beside}
use Rattle.joined_properties.specs.declared.statement.Statement.{Statement}
use Rattle.joined_properties.specs.OwnStatements.{Stated}
use Rattle.joined_properties.specs.StatementChains.{IsChain, items_of, said_by, statements_of}
use Rattle.joined_properties.specs.StatementChains.IsChain.{begin, onward}
use Rattle.joined_properties.proofs.FactLaws.{Fact, Which, either, held_of, joined_held, joined_says, or_first}
use Rattle.joined_properties.proofs.FactLaws.{or_second, says}
use Rattle.joined_properties.proofs.HeldLaws.{Covers, IsTold, both_nothing, told_join}

pub contains_nothing : {X : Type 0} (x : X) → Contains [] x → ⊥
contains_nothing x c = absurd (omega (arith, c.1))

-- ---- facts

-- one of these says it
abbrev pub IsSaid : {X : Type 0} → (X → Option Joined) → List X → Fact → Type 0
IsSaid {X} said xs fact = (x : X) × Contains xs x × (says (said x) fact ≡ true)

pub chain_said : {X : Type 0} {values : Values} {how : Joining} {said : X → Option Joined}
    {before after : Option Joined} {xs : List X} (fact : Fact) → IsChain values how said before xs after →
    says after fact ≡ true →
    (says before fact ≡ true) ⊎ IsSaid said xs fact
chain_said fact begin e = inl e
chain_said {X} {values} {how} {said} {before} fact (onward {xs} {now} {after} x chain joined) e =
    ⊎_elim
    (λ (p : says now fact ≡ true).
    ⊎_elim (λ (q : says before fact ≡ true). inl q)
    (λ (q : IsSaid said xs fact). inr (q.0, Contains-append_left xs (x ∷ []) q.0 q.1, q.2))
    (chain_said fact chain p))
    (λ (p : says (said x) fact ≡ true). inr (x, Contains-push xs x, p))
    (either (says now fact) (says (said x) fact)
    (sym (joined_says values how now (said x) after fact joined) ∙ e))

pub chain_says : {X : Type 0} {values : Values} {how : Joining} {said : X → Option Joined}
    {before after : Option Joined} {xs : List X} (fact : Fact) → IsChain values how said before xs after →
    IsSaid said xs fact →
    says after fact ≡ true
chain_says fact begin p = absurd (contains_nothing p.0 p.1)
chain_says {X} {values} {how} {said} {before} fact (onward {xs} {now} {after} x chain joined) p =
    joined_says values how now (said x) after fact joined ∙
    ⊎_elim
    (λ (c : Contains xs p.0). or_first (says now fact) (says (said x) fact) (chain_says fact chain (p.0, c, p.2)))
    (λ (same : x ≡ p.0).
    or_second (says now fact) (says (said x) fact) (subst (λ y. says (said y) fact ≡ true) (sym same) p.2))
    (Contains-push_cases xs x p.0 p.1)

-- ---- what is held

pub chain_told : {X : Type 0} {values : Values} {how : Joining} {said : X → Option Joined}
    {before after : Option Joined} {xs : List X} (which : Which) (Holds : ℕ → Type 0) →
    IsChain values how said before xs after →
    IsTold values Holds (held_of which before) →
    ((x : X) → Contains xs x → IsTold values Holds (held_of which (said x))) →
    IsTold values Holds (held_of which after)
chain_told which Holds begin told each = told
chain_told {X} {values} {how} {said} {before} which Holds (onward {xs} {now} {after} x chain joined) told each =
    subst (IsTold values Holds) (sym (joined_held values how which now (said x) after joined))
    (told_join values Holds how (held_of which now) (held_of which (said x))
    (chain_told which Holds chain told (λ y c. each y (Contains-append_left xs (x ∷ []) y c)))
    (each x (Contains-push xs x)))

-- what either of two covers, both cover
abbrev pub CoversJoined : Values → Joining → Type 0
CoversJoined values how = (h g : Held) (n : ℕ) → Covers values h n ⊎ Covers values g n →
    Covers values (join_held values how h g) n

pub chain_covers : {X : Type 0} {values : Values} {how : Joining} {said : X → Option Joined}
    {before after : Option Joined} {xs : List X} (which : Which) (n : ℕ) → CoversJoined values how →
    IsChain values how said before xs after → (x : X) → Contains xs x → Covers values (held_of which (said x)) n →
    Covers values (held_of which after) n
chain_covers which n law begin y c covers = absurd (contains_nothing y c)
chain_covers {X} {values} {how} {said} {before} which n law (onward {xs} {now} {after} x chain joined) y c covers =
    subst (λ h. Covers values h n) (sym (joined_held values how which now (said x) after joined))
    (law (held_of which now) (held_of which (said x)) n
    (⊎_elim (λ (d : Contains xs y). inl (chain_covers which n law chain y d covers))
    (λ (same : x ≡ y). inr (subst (λ z. Covers values (held_of which (said z)) n) (sym same) covers))
    (Contains-push_cases xs x y c)))

pub chain_nothing : {X : Type 0} {values : Values} {said : X → Option Joined} {before after : Option Joined}
    {xs : List X} (which : Which) → IsChain values Beside said before xs after → held_of which after ≡ Nothing →
    (x : X) → Contains xs x → held_of which (said x) ≡ Nothing
chain_nothing which begin e y c = absurd (contains_nothing y c)
chain_nothing {X} {values} {said} {before} which (onward {xs} {now} {after} x chain joined) e y c =
    let two : (held_of which now ≡ Nothing) × (held_of which (said x) ≡ Nothing) =
    both_nothing values (held_of which now) (held_of which (said x))
    (sym (joined_held values Beside which now (said x) after joined) ∙ e) in
    ⊎_elim (λ (d : Contains xs y). chain_nothing which chain two.0 y d)
    (λ (same : x ≡ y). subst (λ z. held_of which (said z) ≡ Nothing) same two.1)
    (Contains-push_cases xs x y c)

pub nothing_chain : {X : Type 0} {values : Values} {said : X → Option Joined} {before after : Option Joined}
    {xs : List X} (which : Which) → IsChain values Beside said before xs after → held_of which before ≡ Nothing →
    ((x : X) → Contains xs x → held_of which (said x) ≡ Nothing) → held_of which after ≡ Nothing
nothing_chain which begin e each = e
nothing_chain {X} {values} {said} {before} which (onward {xs} {now} {after} x chain joined) e each =
    joined_held values Beside which now (said x) after joined ∙
    (λ i. both values
    (nothing_chain which chain e (λ y c. each y (Contains-append_left xs (x ∷ []) y c)) i)
    (each x (Contains-push xs x) i))

-- ---- steps

pub chain_on : {X : Type 0} {values : Values} {how : Joining} {said : X → Option Joined}
    {before now after : Option Joined} (xs ys : List X) → IsChain values how said before xs now →
    IsChain values how said now ys after → IsChain values how said before (xs ++ ys) after
chain_on {X} {values} {how} {said} {before} {now} xs ys one begin =
    subst (λ zs. IsChain values how said before zs now) (sym (append-nil xs)) one
chain_on {X} {values} {how} {said} {before} xs ys one (onward {xs = zs} {now = then_} {after} x chain joined) =
    subst (λ ws. IsChain values how said before ws after) (append_assoc xs zs (x ∷ []))
    (onward x (chain_on xs zs one chain) joined)

pub chain_more : {X : Type 0} {values : Values} {how : Joining} {said : X → Option Joined}
    {before now after : Option Joined} (xs : List X) (i : ℕ) (x : X) → i < length xs → x ≡ get_or xs i x →
    IsChain values how said before (take i xs) now → IsJoinedOf values how now (said x) after →
    IsChain values how said before (take (i + 1) xs) after
chain_more {X} {values} {how} {said} {before} {now} {after} xs i x within is chain joined =
    subst (λ zs. IsChain values how said before zs after)
    (ap (λ y. take i xs ++ y ∷ []) is ∙ sym (take_more xs i x within))
    (onward x chain joined)

pub chain_all : {X : Type 0} {values : Values} {how : Joining} {said : X → Option Joined}
    {before after : Option Joined} (xs : List X) (i : ℕ) → length xs ≤ i →
    IsChain values how said before (take i xs) after → IsChain values how said before xs after
chain_all {X} {values} {how} {said} {before} {after} xs i past chain =
    subst (λ zs. IsChain values how said before zs after) (take_all i xs past) chain

-- a statement that is joined to a table
pub statement_joined : (values : Values) (now after : Attributes) (statement : Statement) →
    IsJoinedAt values Beside now statement.attribute statement.joined after → (q : ℕ) →
    IsJoinedOf values Beside (get nat_cmp now q) (said_by q statement) (get nat_cmp after q)
statement_joined values now after statement step q =
    subst (λ o. IsJoinedOf values Beside (get nat_cmp now q) (said_by q statement) o) (sym (step.told q))
    (pick (q == statement.attribute) refl)
  where
    pick : (b : Bool) → (q == statement.attribute) ≡ b →
        IsJoinedOf values Beside (get nat_cmp now q) (if b then Some statement.joined else None)
        (if b then Some step.joined else get nat_cmp now q)
    pick true e = subst (λ n. IsJoined values Beside (get nat_cmp now n) statement.joined step.joined)
        (sym (eqb-true q statement.attribute e)) step.is_joined
    pick false e = refl

-- ---- packages and superclasses

statements_push : (stated : Stated) (places : List ℕ) (place : ℕ) →
    statements_of stated (places ++ place ∷ []) ≡ statements_of stated places ++ items_of (slice_get stated place)
statements_push stated [] place = append-nil (items_of (slice_get stated place))
statements_push stated (p ∷ places) place =
    ap (λ xs. items_of (slice_get stated p) ++ xs) (statements_push stated places place)
    ∙ sym (append_assoc (items_of (slice_get stated p)) (statements_of stated places)
    (items_of (slice_get stated place)))

pub packages_more : {values : Values} {how : Joining} {said : Statement → Option Joined}
    {before now after : Option Joined} (stated : Stated) (places : List ℕ) (i : ℕ) → i < length places →
    IsChain values how said before (statements_of stated (take i places)) now →
    IsChain values how said now (items_of (slice_get stated (get_or places i 0))) after →
    IsChain values how said before (statements_of stated (take (i + 1) places)) after
packages_more {values} {how} {said} {before} {now} {after} stated places i within one other =
    subst (λ xs. IsChain values how said before xs after)
    (sym (ap (statements_of stated) (take_more places i 0 within)
    ∙ statements_push stated (take i places) (get_or places i 0)))
    (chain_on (statements_of stated (take i places)) (items_of (slice_get stated (get_or places i 0))) one other)

pub packages_all : {values : Values} {how : Joining} {said : Statement → Option Joined}
    {before after : Option Joined} (stated : Stated) (places : List ℕ) (i : ℕ) → length places ≤ i →
    IsChain values how said before (statements_of stated (take i places)) after →
    IsChain values how said before (statements_of stated places) after
packages_all {values} {how} {said} {before} {after} stated places i past chain =
    subst (λ zs. IsChain values how said before (statements_of stated zs) after) (take_all i places past) chain

pub number_more : {values : Values} {how : Joining} {said : ℕ → Option Joined} {before now after : Option Joined}
    (xs : List ℕ) (i : ℕ) → i < length xs → IsChain values how said before (take i xs) now →
    IsJoinedOf values how now (said (get_or xs i 0)) after → IsChain values how said before (take (i + 1) xs) after
number_more {values} {how} {said} {before} {now} {after} xs i within chain joined =
    subst (λ zs. IsChain values how said before zs after) (sym (take_more xs i 0 within))
    (onward (get_or xs i 0) chain joined)

-- ---- marks

pub not_marked : (marks : List Bool) (i : ℕ) → i < length marks → get_or marks i false ≡ false →
    ¬ Contains (take i marks) true → ¬ Contains (take (i + 1) marks) true
not_marked marks i within e none_ c =
    ⊎_elim none_ (λ (same : get_or marks i false ≡ true). false≢true (sym e ∙ same))
    (Contains-push_cases (take i marks) (get_or marks i false) true
    (subst (λ xs. Contains xs true) (take_more marks i false within) c))

pub none_marked : (marks : List Bool) (i : ℕ) → length marks ≤ i → ¬ Contains (take i marks) true →
    ¬ Contains marks true
none_marked marks i past none_ c = none_ (subst (λ xs. Contains xs true) (sym (take_all i marks past)) c)
