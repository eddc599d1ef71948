-- Which tokens two spellings from one place meet, where the one is missing or shorter.
use Rattle.std.proofs.Common.{◌≡◌, ℕ, ◌+◌, ◌<◌, Bool, true, false, ◌||◌, List, Option, None, Some, ◌⊎◌, inl, inr, sym}
use Rattle.std.proofs.Common.{◌∙◌, ap, subst, arith, slice_get}
use Rattle.token_grammar.specs.declared.token.Token.{Token}
use Rattle.token_grammar.specs.Spelling.{At, passes}
use Rattle.token_grammar.proofs.Heads.{or_left, or_right}
use Rattle.grammar_laws.specs.Opening.{Opening, past, front, one_of}
use Rattle.grammar_laws.specs.Decided.{Parts, AreAlternatives, Meets, meets}
use Rattle.grammar_laws.proofs.Fronts.{Front, past_left, past_right}
use Rattle.grammar_laws.proofs.Fronts.Front.{no_token, one_token, more_tokens}

wider : (p q : Token → Option Token → Bool) (x y : Option Token) → ((t : Token) (u : Option Token) → p t u ≡ true
    → q t u ≡ true) → meets p x y ≡ true → meets q x y ≡ true
wider p q None y wide e = e
wider p q (Some t) y wide e = wide t y e

pub meets_wider : {tokens : List Token} {i : ℕ} {p : Token → Option Token → Bool} (q : Token → Option Token → Bool)
    → ((t : Token) (u : Option Token) → p t u ≡ true → q t u ≡ true) → Meets tokens i p → Meets tokens i q
meets_wider {tokens} {i} {p} q wide here = record {
  met = wider p q (slice_get tokens i) (slice_get tokens (i + 1))
      wide here.met;
}

never_both : (p q : Token → Option Token → Bool) (x y : Option Token) → Parts p q → meets p x y ≡ true
    → meets q x y ≡ true → ⊥
never_both p q None y parts e h = absurd (cc e)
never_both p q (Some t) y parts e h = parts t y e h

pub meets_apart : {tokens : List Token} {i : ℕ} {p q : Token → Option Token → Bool} → Parts p q → Meets tokens i p
    → Meets tokens i q → ⊥
meets_apart {tokens} {i} {p} {q} parts one two = never_both p q (slice_get tokens i) (slice_get tokens (i + 1)) parts
    one.met two.met

pub meets_from : {tokens : List Token} {i j : ℕ} {p : Token → Option Token → Bool} → i ≡ j → Meets tokens i p
    → Meets tokens j p
meets_from {tokens} {i} {j} {p} e here = subst (λ (n : ℕ). Meets tokens n p) e here

met_at : (p : Token → Option Token → Bool) (t : Token) (x y : Option Token) → x ≡ Some t → p t y ≡ true
    → meets p x y ≡ true
met_at p t x y get e = ap (λ z. meets p z y) get ∙ e

at_separator : (p : Token → Bool) (x y : Option Token) → passes p x ≡ true → meets (λ t u. p t) x y ≡ true
at_separator p None y e = e
at_separator p (Some t) y e = e

pub meets_separator : {tokens : List Token} {i : ℕ} {p : Token → Bool} → At tokens i p → Meets tokens i (λ t u. p t)
meets_separator {tokens} {i} {p} here = record {
  met = at_separator p (slice_get tokens i) (slice_get tokens (i + 1))
      here.passed;
}

two_pass : (p : Opening) (t u : Token) (y : Option Token) → y ≡ Some u → p.two t u ≡ true → front p t y ≡ true
two_pass p t u y get e = or_right (p.alone t) (passes (p.two t) y) (ap (passes (p.two t)) get ∙ e)

-- What is known where a part stands that may be missing: it is missing, or its front stands there.
abbrev pub Starts : List Token → Opening → ℕ → ℕ → Type 0
Starts tokens p i k = ((k ≡ i) × (p.empty ≡ true)) ⊎ Meets tokens i (front p)

pub front_starts : {tokens : List Token} {p : Opening} {i k : ℕ} → Front tokens p i k → Starts tokens p i k
front_starts (no_token at e) = inl (at, e)
front_starts {tokens} {p} {i} {k} (one_token {token = t} at get s a f) = inr (record {
  met = met_at (front p) t
      (slice_get tokens i) (slice_get tokens (i + 1)) get (or_left (p.alone t) (passes (p.two t) (slice_get tokens (i +
      1))) a);
})
front_starts {tokens} {p} {i} {k} (more_tokens {token = t} {next = u} order get get' f s two) = inr (record {
  met =
      met_at (front p) t (slice_get tokens i) (slice_get tokens (i + 1)) get (two_pass p t u (slice_get tokens (i + 1))
      get' two);
})

-- a part that isn't missing
pub front_full : {tokens : List Token} {p : Opening} {i k : ℕ} → p.empty ≡ false → Front tokens p i k
    → Meets tokens i (front p)
front_full {tokens} {p} {i} {k} full f = go (front_starts f)
  where
    go : Starts tokens p i k → Meets tokens i (front p)
    go (inl missing) = absurd (let e = missing.1 in cc (e, full))
    go (inr here) = here

-- a part that has tokens
pub front_begun : {tokens : List Token} (p : Opening) {i k : ℕ} → i < k → Front tokens p i k → Meets tokens i (front p)
front_begun {tokens} p {i} {k} order f = go (front_starts f)
  where
    go : Starts tokens p i k → Meets tokens i (front p)
    go (inl missing) = absurd (let e = missing.0 in omega (arith, e, order))
    go (inr here) = here

-- What follows a part that may go on: it is missing, and the place is the same, or it begins as what goes on does.
pub meets_behind : {tokens : List Token} (on : Token → Option Token → Bool) {q : Opening} {j k : ℕ}
    → Parts on (front q) → Meets tokens j on → Front tokens q j k → (k ≡ j) × (q.empty ≡ true)
meets_behind {tokens} on {q} {j} {k} parts here f = go (front_starts f)
  where
    go : Starts tokens q j k → (k ≡ j) × (q.empty ≡ true)
    go (inl missing) = missing
    go (inr begins) = absurd (meets_apart parts here begins)

-- two tokens at one place
same_token : {x : Option Token} {t u : Token} → x ≡ Some t → x ≡ Some u → t ≡ u
same_token p q = cc (p, q)

-- that a choice goes on
pub on_first : (p q : Opening) (t : Token) (u : Option Token) → p.on t u ≡ true → (one_of p q).on t u ≡ true
on_first p q t u e = past_left p.empty (past q.empty (past p.single (past q.single (p.on t u || q.on t u) (p.second
    t)) (q.second t)) (front p t u)) (front q t u) (past_left q.empty (past p.single (past q.single (p.on t u || q.on
    t u) (p.second t)) (q.second t)) (front p t u) (past_left p.single (past q.single (p.on t u || q.on t u) (p.second
    t)) (q.second t) (past_left q.single (p.on t u || q.on t u) (p.second t) (or_left (p.on t u) (q.on t u) e))))

pub on_second : (p q : Opening) (t : Token) (u : Option Token) → q.on t u ≡ true → (one_of p q).on t u ≡ true
on_second p q t u e = past_left p.empty (past q.empty (past p.single (past q.single (p.on t u || q.on t u) (p.second
    t)) (q.second t)) (front p t u)) (front q t u) (past_left q.empty (past p.single (past q.single (p.on t u || q.on
    t u) (p.second t)) (q.second t)) (front p t u) (past_left p.single (past q.single (p.on t u || q.on t u) (p.second
    t)) (q.second t) (past_left q.single (p.on t u || q.on t u) (p.second t) (or_right (p.on t u) (q.on t u) e))))

on_second_there : (p q : Opening) (t : Token) (u : Option Token) → q.single ≡ true → p.second t ≡ true
    → (one_of p q).on t u ≡ true
on_second_there p q t u single e = past_left p.empty (past q.empty (past p.single (past q.single (p.on t u || q.on t
    u) (p.second t)) (q.second t)) (front p t u)) (front q t u) (past_left q.empty (past p.single (past q.single (p.on
    t u || q.on t u) (p.second t)) (q.second t)) (front p t u) (past_left p.single (past q.single (p.on t u || q.on t
    u) (p.second t)) (q.second t) (past_right q.single (p.on t u || q.on t u) (p.second t) single e)))

on_first_there : (p q : Opening) (t : Token) (u : Option Token) → p.single ≡ true → q.second t ≡ true
    → (one_of p q).on t u ≡ true
on_first_there p q t u single e = past_left p.empty (past q.empty (past p.single (past q.single (p.on t u || q.on t u)
    (p.second t)) (q.second t)) (front p t u)) (front q t u) (past_left q.empty (past p.single (past q.single (p.on t
    u || q.on t u) (p.second t)) (q.second t)) (front p t u) (past_right p.single (past q.single (p.on t u || q.on t
    u) (p.second t)) (q.second t) single e))

on_second_missing : (p q : Opening) (t : Token) (u : Option Token) → q.empty ≡ true → front p t u ≡ true
    → (one_of p q).on t u ≡ true
on_second_missing p q t u empty e = past_left p.empty (past q.empty (past p.single (past q.single (p.on t u || q.on t
    u) (p.second t)) (q.second t)) (front p t u)) (front q t u) (past_right q.empty (past p.single (past q.single
    (p.on t u || q.on t u) (p.second t)) (q.second t)) (front p t u) empty e)

on_first_missing : (p q : Opening) (t : Token) (u : Option Token) → p.empty ≡ true → front q t u ≡ true
    → (one_of p q).on t u ≡ true
on_first_missing p q t u empty e = past_right p.empty (past q.empty (past p.single (past q.single (p.on t u || q.on t
    u) (p.second t)) (q.second t)) (front p t u)) (front q t u) empty e

pub choice_first : {tokens : List Token} {j : ℕ} (p q : Opening) → Meets tokens j p.on → Meets tokens j (one_of p q).on
choice_first p q here = meets_wider (one_of p q).on (on_first p q) here

pub choice_second : {tokens : List Token} {j : ℕ} (p q : Opening) → Meets tokens j q.on → Meets tokens j (one_of p q).on
choice_second p q here = meets_wider (one_of p q).on (on_second p q) here

-- one alternative is missing, and the other one isn't
first_missing : {tokens : List Token} (p q : Opening) {i j k : ℕ} → j ≡ i → p.empty ≡ true → i < k
    → Front tokens q i k → Meets tokens j (one_of p q).on
first_missing p q at e order f = meets_from (sym at) (meets_wider (one_of p q).on (λ t u h. on_first_missing p q t u e
    h) (front_begun q order f))

second_missing : {tokens : List Token} (p q : Opening) {i j k : ℕ} → k ≡ i → q.empty ≡ true → i < j
    → Front tokens p i j → Meets tokens k (one_of p q).on
second_missing p q at e order f = meets_from (sym at) (meets_wider (one_of p q).on (λ t u h. on_second_missing p q t u
    e h) (front_begun p order f))

-- One alternative spells the tokens up to j, and the other one up to k.
pub alternatives_meet : {tokens : List Token} (p q : Opening) {i j k : ℕ} → AreAlternatives p q → Front tokens p i j
    → Front tokens q i k → Meets tokens j (one_of p q).on ⊎ Meets tokens k (one_of p q).on
alternatives_meet p q apart (no_token at e) (no_token at' e') = absurd (apart.missing e e')
alternatives_meet p q apart (no_token at e) (one_token at' get s a f) = inl (first_missing p q at e (omega (
  arith,
  at',
)) (one_token at' get s a f))
alternatives_meet p q apart (no_token at e) (more_tokens order get get' f s two) = inl (first_missing p q at e (omega
    (arith, order)) (more_tokens order get get' f s two))
alternatives_meet p q apart (one_token at get s a f) (no_token at' e') = inr (second_missing p q at' e' (omega (
  arith,
  at,
)) (one_token at get s a f))
alternatives_meet p q apart (more_tokens order get get' f s two) (no_token at' e') = inr (second_missing p q at' e'
    (omega (arith, order)) (more_tokens order get get' f s two))
alternatives_meet p q apart (one_token {token = t} at get s a f) (one_token {token = u} at' get' s' a' f') = absurd
    (apart.alone t a (ap q.alone (same_token get get') ∙ a'))
alternatives_meet {tokens} p q {i} {j} {k} apart (one_token {token = t} at get s a f) (more_tokens {token = u} {next =
    v} order get' get'' f' s' two') = inl (meets_from (sym at) (record {
      met = met_at (one_of p q).on v (slice_get
          tokens (i + 1)) (slice_get tokens (i + 1 + 1)) get'' (on_first_there p q v (slice_get tokens (i + 1 + 1)) s
          s');
    }))
alternatives_meet {tokens} p q {i} {j} {k} apart (more_tokens {token = u} {next = v} order get' get'' f' s' two')
    (one_token {token = t} at get s a f) = inr (meets_from (sym at) (record {
      met = met_at (one_of p q).on v
          (slice_get tokens (i + 1)) (slice_get tokens (i + 1 + 1)) get'' (on_second_there p q v (slice_get tokens (i
          + 1 +
          1)) s s');
    }))
alternatives_meet p q apart (more_tokens {token = t} {next = u} order get get' f s two) (more_tokens {token = t'}
    {next = u'} order' get'' get''' f' s' two') = absurd (apart.two t u two (ap (λ x. q.two x u) (same_token get
    get'') ∙ ap (q.two t') (same_token get' get''') ∙ two'))
