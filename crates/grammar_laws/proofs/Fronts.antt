-- The first two tokens of a spelling pass the tests of the form's opening.
use Rattle.std.proofs.Common.{◌≡◌, ℕ, zero, suc, ◌+◌, ◌≤◌, Bool, true, false, ◌&&◌, ◌||◌, List, [], ◌∷◌, Option, None}
use Rattle.std.proofs.Common.{Some, refl, sym, ◌∙◌, ap, subst, arith, slice_get}
use Rattle.token_grammar.specs.declared.token.Token.{Token}
use Rattle.token_grammar.specs.Form.{Form, Tree, Slots, Slot, NoSlots, form_at, is_open, filled}
use Rattle.token_grammar.specs.Spelling as S
use Rattle.token_grammar.specs.Spelling.{At, passes, Spells}
use Rattle.token_grammar.proofs.Heads.{or_left, or_right, and_both}
use Rattle.token_grammar.proofs.Known.{first_so, second_so}
use Rattle.grammar_laws.specs.Opening.{Opening, past, token_opening, in_turn, one_of, optional, repeated, separated}
use Rattle.grammar_laws.specs.Opening.{marks_opening, opening, clauses_opening}
use Rattle.grammar_laws.specs.Decided.{AllDecided, IsWithin}

-- The tokens from one place to another, by an opening: none, one, or two and more.
pub data Front (tokens : List Token) (p : Opening) : ℕ → ℕ → Type 0 where
  no_token : {i k : ℕ} → k ≡ i → p.empty ≡ true → Front tokens p i k
  one_token : {i k : ℕ} {token : Token} → k ≡ i + 1 → slice_get tokens i ≡ Some token → p.single ≡ true
      → p.alone token ≡ true → p.first token ≡ true → Front tokens p i k
  more_tokens : {i k : ℕ} {token next : Token} → i + 2 ≤ k → slice_get tokens i ≡ Some token
      → slice_get tokens (i + 1) ≡ Some next → p.first token ≡ true → p.second next ≡ true
      → p.two token next ≡ true → Front tokens p i k

pub past_left : (s a b : Bool) → a ≡ true → past s a b ≡ true
past_left true a b e = or_left a b e
past_left false a b e = e

pub past_right : (s a b : Bool) → s ≡ true → b ≡ true → past s a b ≡ true
past_right true a b e h = or_right a b h
past_right false a b e h = absurd (cc e)

-- what holds of a wider opening
pub front_within : {tokens : List Token} {p : Opening} (q : Opening) {i k : ℕ} → IsWithin p q → Front tokens p i k
    → Front tokens q i k
front_within q within (no_token at e) = no_token at (within.empty e)
front_within q within (one_token {token = t} at get s a f) = one_token at get (within.single s) (within.alone t a)
    (within.first t f)
front_within q within (more_tokens {token = t} {next = u} order get then_ f s two) = more_tokens order get then_
    (within.first t f) (within.second u s) (within.two t u two)

pub get_from : (tokens : List Token) {i j : ℕ} {x : Option Token} → i ≡ j → slice_get tokens i ≡ x
    → slice_get tokens j ≡ x
get_from tokens {i} {j} {x} e get = subst (λ (n : ℕ). slice_get tokens n ≡ x) e get

pub front_order : {tokens : List Token} {p : Opening} {i k : ℕ} → Front tokens p i k → i ≤ k
front_order (no_token at e) = omega (arith, at)
front_order (one_token at get s a f) = omega (arith, at)
front_order (more_tokens order get get' f s two) = omega (arith, order)

-- one part and then another
pub fronts_in_turn : {tokens : List Token} {p q : Opening} {i j k : ℕ} → Front tokens p i j → Front tokens q j k
    → Front tokens (in_turn p q) i k
fronts_in_turn {tokens} {p = p} {q = q} (no_token at e) (no_token at' e') = no_token (at' ∙ at) (and_both p.empty
    q.empty e e')
fronts_in_turn {tokens} {p = p} {q = q} (no_token at e) (one_token {token = t} at' get s a f) = one_token (omega
    (arith, at, at')) (get_from tokens at get) (past_right p.empty (q.empty && p.single) q.single e s) (past_right
    p.empty (q.empty && p.alone t) (q.alone t) e a) (past_right p.empty (p.first t) (q.first t) e f)
fronts_in_turn {tokens} {p = p} {q = q} (no_token at e) (more_tokens {token = t} {next = u} order get get' f s two) =
    more_tokens (omega (arith, at, order)) (get_from tokens at get) (get_from tokens (ap (λ n. n + 1) at) get')
    (past_right p.empty (p.first t) (q.first t) e f) (past_right p.empty (past p.single (p.second u) (q.first u))
    (q.second u) e s) (past_right p.empty (past p.single (p.two t u) (p.alone t && q.first u)) (q.two t u) e two)
fronts_in_turn {tokens} {p = p} {q = q} (one_token {token = t} at get s a f) (no_token at' e') = one_token (at' ∙ at)
    get (past_left p.empty (q.empty && p.single) q.single (and_both q.empty p.single e' s)) (past_left p.empty
    (q.empty && p.alone t) (q.alone t) (and_both q.empty (p.alone t) e' a)) (past_left p.empty (p.first t) (q.first t)
    f)
fronts_in_turn {tokens} {p = p} {q = q} (one_token {token = t} at get s a f) (one_token {token = u} at' get' s' a' f')
    = more_tokens (omega (arith, at, at')) get (get_from tokens at get') (past_left p.empty (p.first t) (q.first t) f)
    (past_left p.empty (past p.single (p.second u) (q.first u)) (q.second u) (past_right p.single (p.second u)
    (q.first u) s f')) (past_left p.empty (past p.single (p.two t u) (p.alone t && q.first u)) (q.two t u) (past_right
    p.single (p.two t u) (p.alone t && q.first u) s (and_both (p.alone t) (q.first u) a f')))
fronts_in_turn {tokens} {p = p} {q = q} (one_token {token = t} at get s a f) (more_tokens {token = u} order' get'
    get'' f' s' two') = more_tokens (omega (arith, at, order')) get (get_from tokens at get') (past_left p.empty
    (p.first t) (q.first t) f) (past_left p.empty (past p.single (p.second u) (q.first u)) (q.second u) (past_right
    p.single (p.second u) (q.first u) s f')) (past_left p.empty (past p.single (p.two t u) (p.alone t && q.first u))
    (q.two t u) (past_right p.single (p.two t u) (p.alone t && q.first u) s (and_both (p.alone t) (q.first u) a f')))
fronts_in_turn {tokens} {p = p} {q = q} (more_tokens {token = t} {next = u} order get get' f s two) later =
    more_tokens (omega (arith, order, front_order later)) get get' (past_left p.empty (p.first t) (q.first t) f)
    (past_left p.empty (past p.single (p.second u) (q.first u)) (q.second u) (past_left p.single (p.second u) (q.first
    u) s)) (past_left p.empty (past p.single (p.two t u) (p.alone t && q.first u)) (q.two t u) (past_left p.single
    (p.two t u) (p.alone t && q.first u) two))

-- one of two parts
pub within_left : (p q : Opening) → IsWithin p (one_of p q)
within_left p q = record {
  empty = or_left p.empty q.empty;
  single = or_left p.single q.single;
  alone = λ t. or_left (p.alone t) (q.alone t);
  first = λ t. or_left (p.first t) (q.first t);
  second = λ t. or_left (p.second t) (q.second t);
  two = λ t u. or_left (p.two t u) (q.two t u);
}

pub within_right : (p q : Opening) → IsWithin q (one_of p q)
within_right p q = record {
  empty = or_right p.empty q.empty;
  single = or_right p.single q.single;
  alone = λ t. or_right (p.alone t) (q.alone t);
  first = λ t. or_right (p.first t) (q.first t);
  second = λ t. or_right (p.second t) (q.second t);
  two = λ t u. or_right (p.two t u) (q.two t u);
}

pub within_same : (p : Opening) → IsWithin p p
within_same p = record {
  empty = λ e. e;
  single = λ e. e;
  alone = λ t e. e;
  first = λ t e. e;
  second = λ t e. e;
  two =
      λ t u e. e;
}

pub within_then : {p q r : Opening} → IsWithin p q → IsWithin q r → IsWithin p r
within_then one two = record {
  empty = λ e. two.empty (one.empty e);
  single = λ e. two.single (one.single e);
  alone = λ t e. two.alone t (one.alone t e);
  first = λ t e. two.first t (one.first t e);
  second = λ t e. two.second t (one.second t e);
  two = λ t u e. two.two t u (one.two t u e);
}

within_optional : (p : Opening) → IsWithin p (optional p)
within_optional p = record {
  empty = λ e. refl;
  single = λ e. e;
  alone = λ t e. e;
  first = λ t e. e;
  second = λ t e.
      e;
  two = λ t u e. e;
}

-- what is passed by one of two tests that are one
pub past_both : (s a b : Bool) {c : Bool} → (a ≡ true → c ≡ true) → (b ≡ true → c ≡ true) → past s a b ≡ true → c ≡ true
past_both true true b one two e = one refl
past_both true false b one two e = two e
past_both false a b one two e = one e

pub or_both : (a b : Bool) {c : Bool} → (a ≡ true → c ≡ true) → (b ≡ true → c ≡ true) → (a || b) ≡ true → c ≡ true
or_both true b one two e = one refl
or_both false b one two e = two e

-- parts with nothing between them: one more before the others
pub within_repeated : (p q : Opening) → IsWithin q p → IsWithin (in_turn q (repeated p)) (repeated p)
within_repeated p q one = record {
  empty = λ e. refl;
  single = past_both q.empty q.single p.single one.single (λ e. e);
  alone = λ t. past_both q.empty (q.alone t) (p.alone t) (one.alone t) (λ e. e);
  first = λ t. past_both q.empty (q.first t) (p.first t) (one.first t) (λ e. e);
  second = λ t. past_both q.empty (past q.single (q.second t) (p.first t)) (past p.single (p.second t) (p.first t))
      (second t) (λ e. e);
  two = λ t u. past_both q.empty (past q.single (q.two t u) (q.alone t && p.first u)) (past p.single (p.two t u)
      (p.alone t && p.first u)) (two t u) (λ e. e);
}
  where
    later : (t : Token) (s : Bool) → (s ≡ true → p.single ≡ true) → past s (q.second t) (p.first t) ≡ true
        → past p.single (p.second t) (p.first t) ≡ true
    later t true single e = or_both (q.second t) (p.first t) (λ h. past_left p.single (p.second t) (p.first t)
        (one.second t h)) (λ h. past_right p.single (p.second t) (p.first t) (single refl) h) e
    later t false single e = past_left p.single (p.second t) (p.first t) (one.second t e)

    second : (t : Token) → past q.single (q.second t) (p.first t) ≡ true → past p.single (p.second t) (p.first t) ≡ true
    second t = later t q.single one.single

    two_later : (t u : Token) (s : Bool) → (s ≡ true → p.single ≡ true) → past s (q.two t u) (q.alone t && p.first u)
        ≡ true → past p.single (p.two t u) (p.alone t && p.first u) ≡ true
    two_later t u true single e = or_both (q.two t u) (q.alone t && p.first u) (λ h. past_left p.single (p.two t u)
        (p.alone t && p.first u) (one.two t u h)) (λ h. past_right p.single (p.two t u) (p.alone t && p.first u)
        (single refl) (and_both (p.alone t) (p.first u) (one.alone t (first_so (q.alone t) (p.first u) h)) (second_so
        (q.alone t) (p.first u) h))) e
    two_later t u false single e = past_left p.single (p.two t u) (p.alone t && p.first u) (one.two t u e)

    two : (t u : Token) → past q.single (q.two t u) (q.alone t && p.first u) ≡ true
        → past p.single (p.two t u) (p.alone t && p.first u) ≡ true
    two t u = two_later t u q.single one.single

-- parts with a separator between them: the last one, and one more before the others
within_last : (separator : Token → Bool) (p : Opening) → IsWithin p (separated separator p)
within_last separator p = record {
  empty = λ e. e;
  single = or_right p.empty p.single;
  alone = λ t. or_right p.empty (p.alone t);
  first = λ t. or_right p.empty (p.first t);
  second = λ t e. or_right p.empty (past p.single (p.second t) (separator t)) (past_left p.single (p.second t)
      (separator t) e);
  two = λ t u e. or_right p.empty (past p.single (p.two t u) (p.alone t && separator u)) (past_left p.single (p.two t
      u) (p.alone t && separator u) e);
}

-- where the first part is missing, nothing is said; where it isn't, the separator comes next
missing_or : (s a b : Bool) {c : Bool} → (s ≡ true → c ≡ true) → (s ≡ false → a ≡ true → c ≡ true)
    → past s a b ≡ true → c ≡ true
missing_or true a b one two e = one refl
missing_or false a b one two e = two refl e

within_separated : (separator : Token → Bool) (p q : Opening) → IsWithin (in_turn p (in_turn (token_opening separator)
    q)) (separated separator p)
within_separated separator p q = record {
  empty = λ e. first_so p.empty false e;
  single = missing_or p.empty false (q.empty && true) (λ e. or_left p.empty p.single e) (λ full e. absurd (cc e));
  alone = λ t. missing_or p.empty false (q.empty && separator t) (λ e. or_left p.empty (p.alone t) e) (λ full e.
      absurd (cc e));
  first = λ t. missing_or p.empty (p.first t) (separator t) (λ e. or_left p.empty (p.first t) e) (λ full e. or_right
      p.empty (p.first t) e);
  second = λ t. missing_or p.empty (past p.single (p.second t) (separator t)) (q.first t) (λ e. or_left p.empty (past
      p.single (p.second t) (separator t)) e) (λ full e. or_right p.empty (past p.single (p.second t) (separator t)) e);
  two = λ t u. missing_or p.empty (past p.single (p.two t u) (p.alone t && separator u)) (separator t && q.first u) (λ
      e. or_left p.empty (past p.single (p.two t u) (p.alone t && separator u)) e) (λ full e. or_right p.empty (past
      p.single (p.two t u) (p.alone t && separator u)) e);
}

-- a clause is one of all clauses, and what came doesn't matter
pub within_clauses : (named : ℕ → Opening) (n : ℕ) (s : Slots) → is_open n s ≡ true
    → IsWithin (opening named (form_at n s)) (clauses_opening named s)
within_clauses named n NoSlots still = absurd (cc still)
within_clauses named zero (Slot needed f came s) still = within_left (opening named f) (clauses_opening named s)
within_clauses named (suc n) (Slot needed f came s) still = within_then (within_clauses named n s still) (within_right
    (opening named f) (clauses_opening named s))

pub filled_opening : (named : ℕ → Opening) (n : ℕ) (a : Tree) (s : Slots) → clauses_opening named (filled n a s) ≡
    clauses_opening named s
filled_opening named n a NoSlots = refl
filled_opening named zero a (Slot needed f came s) = refl
filled_opening named (suc n) a (Slot needed f came s) = ap (one_of (opening named f)) (filled_opening named n a s)

token_at : (tokens : List Token) (i : ℕ) (test : Token → Bool) (x : Option Token) → slice_get tokens i ≡ x
    → passes test x ≡ true → Front tokens (token_opening test) i (i + 1)
token_at tokens i test None get pass = absurd (cc pass)
token_at tokens i test (Some t) get pass = one_token refl get refl pass pass

pub front_at : {tokens : List Token} {i : ℕ} (test : Token → Bool) → At tokens i test
    → Front tokens (token_opening test) i (i + 1)
front_at {tokens} {i} test here = token_at tokens i test (slice_get tokens i) refl here.passed

-- tokens in a row
marks_front : {tokens : List Token} (test : Token → Bool) (tests : List (Token → Bool)) {i k : ℕ}
    → Front tokens (token_opening test) i (i + 1) → Front tokens (marks_opening tests) (i + 1) k
    → Front tokens (marks_opening (test ∷ tests)) i k
marks_front {tokens} test [] {i} {k} one (no_token at e) =
    subst (λ (n : ℕ). Front tokens (token_opening test) i n) (sym at) one
marks_front test [] one (one_token at get s a f) = absurd (cc s)
marks_front test [] one (more_tokens order get get' f s two) = absurd (cc f)
marks_front test (next ∷ tests) one others = fronts_in_turn one others

-- what is known of a spelling's first two tokens
pub spells_front : {tokens : List Token} {grammar : ℕ → Form} {named : ℕ → Opening} → AllDecided grammar named
    → {f : Form} {i k : ℕ} {a : Tree} → Spells tokens grammar f i k a → Front tokens (opening named f) i k
spells_front all S.no_marks = no_token refl refl
spells_front all (S.marks {test} {tests} here others) = marks_front test tests (front_at test here)
    (spells_front all others)
spells_front all (S.keep {token = token} get ok next) = one_token next get refl ok ok
spells_front all (S.both one two) = fronts_in_turn (spells_front all one) (spells_front all two)
spells_front {named = named} all (S.first {f} {g} one) = front_within (one_of (opening named f) (opening named g))
    (within_left (opening named f) (opening named g)) (spells_front all one)
spells_front {named = named} all (S.second {f} {g} one) = front_within (one_of (opening named f) (opening named g))
    (within_right (opening named f) (opening named g)) (spells_front all one)
spells_front all S.absent = no_token refl refl
spells_front {named = named} all (S.present {f} one) = front_within (optional (opening named f)) (within_optional
    (opening named f)) (spells_front all one)
spells_front {named = named} all (S.last {separator} {f} one) = front_within (separated separator (opening named f))
    (within_last separator (opening named f)) (spells_front all one)
spells_front {named = named} all (S.more {separator} {f} one here others) = front_within (separated separator (opening
    named f)) (within_separated separator (opening named f) (separated separator (opening named f))) (fronts_in_turn
    (spells_front all one) (fronts_in_turn (front_at separator here) (spells_front all others)))
spells_front all S.no_more = no_token refl refl
spells_front {named = named} all (S.another {f} one others) = front_within (repeated (opening named f))
    (within_repeated (opening named f) (opening named f) (within_same (opening named f))) (fronts_in_turn
    (spells_front all one) (spells_front all others))
spells_front all (S.enough complete e) = no_token refl refl
spells_front {tokens} {named = named} all (S.clause {s} {i} {j} {k} {a} n still one others) = front_within (repeated
    (clauses_opening named s)) (within_repeated (clauses_opening named s) (opening named (form_at n s))
    (within_clauses named n s still)) (fronts_in_turn (spells_front all one) (subst (λ p. Front tokens (repeated p) j
    k) (filled_opening named n a s) (spells_front all others)))
spells_front {named = named} all (S.named {n} one) = front_within (named n) (all.within n) (spells_front all one)
