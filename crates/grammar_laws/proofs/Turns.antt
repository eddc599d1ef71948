-- Two spellings of a part and what stands behind it.
use Rattle.std.proofs.Common.{◌≡◌, ℕ, Bool, true, false, ◌&&◌, ◌||◌, List, Option, None, Some, inl, inr, refl, sym}
use Rattle.token_grammar.specs.declared.token.Token.{Token}
use Rattle.token_grammar.specs.Form.{Tree}
use Rattle.token_grammar.specs.Spelling.{At, passes}
use Rattle.token_grammar.proofs.Heads.{or_left, or_right}
use Rattle.token_grammar.proofs.Known.{first_so}
use Rattle.grammar_laws.specs.Opening.{Opening, past, front, in_turn, repeated, separated, token_opening}
use Rattle.grammar_laws.specs.Decided.{Parts, Meets, Once}
use Rattle.grammar_laws.proofs.Fronts.{Front}
use Rattle.grammar_laws.proofs.Meeting.{meets_wider, meets_from, meets_behind, meets_apart, meets_separator}

-- what goes on by the one test goes on by the other
pub once_wider : {tokens : List Token} {on : Token → Option Token → Bool} (on' : Token → Option Token
    → Bool) {j k : ℕ} {a b c d : Tree} → ((t : Token) (u : Option Token) → on t u ≡ true → on' t u ≡ true) → (a ≡ b
    → c ≡ d) → Once tokens on j a k b → Once tokens on' j c k d
once_wider on' wide same (inl e) = inl (e.0, same e.1)
once_wider on' wide same (inr (inl here)) = inr (inl (meets_wider on' wide here))
once_wider on' wide same (inr (inr here)) = inr (inr (meets_wider on' wide here))

behind : {tokens : List Token} (on on' : Token → Option Token → Bool) (q : Opening) {j k : ℕ} → Parts on (front q)
    → (q.empty ≡ true → (t : Token) (u : Option Token) → on t u ≡ true → on' t u ≡ true) → Meets tokens j on
    → Front tokens q j k → Meets tokens k on'
behind on on' q parts wide here f = let is = meets_behind on parts here f in meets_from (sym is.0) (meets_wider on'
    (wide is.1) here)

-- A part was spelt up to j, and up to j', and what stands behind it up to k, and up to k'.
pub once_in_turn : {tokens : List Token} (on rest_on whole_on : Token → Option Token
    → Bool) (q : Opening) {j j' k k' : ℕ} {a a' b b' c c' : Tree} → Parts on (front q) → (q.empty ≡ true
    → (t : Token) (u : Option Token) → on t u ≡ true → whole_on t u ≡ true) → ((t : Token) (u : Option Token)
    → rest_on t u ≡ true → whole_on t u ≡ true) → (a ≡ a' → b ≡ b' → c ≡ c') → Front tokens q j k
    → Front tokens q j' k' → Once tokens on j a j' a' → (j ≡ j' → a ≡ a' → Once tokens rest_on k b k' b')
    → Once tokens whole_on k c k' c'
once_in_turn on rest_on whole_on q parts wide rest_wide same f f' (inl e) rest = once_wider whole_on rest_wide (same
    e.1) (rest e.0 e.1)
once_in_turn on rest_on whole_on q parts wide rest_wide same f f' (inr (inl here)) rest = inr (inl (behind on whole_on
    q parts wide here f))
once_in_turn on rest_on whole_on q parts wide rest_wide same f f' (inr (inr here)) rest = inr (inr (behind on whole_on
    q parts wide here f'))

-- parts with nothing between them begin as one of them does
repeated_next : (p : Opening) (t : Token) (u : Option Token) → passes ((repeated p).two t) u ≡ true → front p t u ≡ true
repeated_next p t None e = absurd (cc e)
repeated_next p t (Some u) e = by_cases p.single e
  where
    either_test : (b : Bool) → p.two t u ≡ b → (b || (p.alone t && p.first u)) ≡ true → (p.alone t || p.two t u) ≡ true
    either_test true is h = or_right (p.alone t) (p.two t u) is
    either_test false is h = or_left (p.alone t) (p.two t u) (first_so (p.alone t) (p.first u) h)

    by_cases : (s : Bool) → past s (p.two t u) (p.alone t && p.first u) ≡ true → (p.alone t || p.two t u) ≡ true
    by_cases true h = either_test (p.two t u) refl h
    by_cases false h = or_right (p.alone t) (p.two t u) h

pub repeated_front : (p : Opening) (t : Token) (u : Option Token) → front (repeated p) t u ≡ true → front p t u ≡ true
repeated_front p t u e = by_cases (p.alone t) refl e
  where
    by_cases : (b : Bool) → p.alone t ≡ b → (b || passes ((repeated p).two t) u) ≡ true → front p t u ≡ true
    by_cases true is h = or_left (p.alone t) (passes (p.two t) u) is
    by_cases false is h = repeated_next p t u h

-- a separator and other parts behind it begin with a separator
next_separator : (separator : Token → Bool) (q : Opening) (t : Token) (u : Option Token)
    → passes ((in_turn (token_opening separator) q).two t) u ≡ true → separator t ≡ true
next_separator separator q t None e = absurd (cc e)
next_separator separator q t (Some u) e = first_so (separator t) (q.first u) e

pub separator_front : (separator : Token → Bool) (q : Opening) (t : Token) (u : Option Token)
    → front (in_turn (token_opening separator) q) t u ≡ true → separator t ≡ true
separator_front separator q t u e = by_cases q.empty e
  where
    by_cases : (b : Bool) → ((b && separator t) || passes ((in_turn (token_opening separator) q).two t) u) ≡ true
        → separator t ≡ true
    by_cases false h = next_separator separator q t u h
    by_cases true h = or_else (separator t) refl h
      where
        or_else : (b : Bool) → separator t ≡ b → (b || passes ((in_turn (token_opening separator) q).two t) u) ≡ true
            → separator t ≡ true
        or_else true is h = is
        or_else false is h = next_separator separator q t u h

-- The last part was spelt up to k; and one part up to j, and a separator stands there.
pub last_or_more : {tokens : List Token} (separator : Token → Bool) (p : Opening) {j k : ℕ} {a b : Tree}
    → Parts p.on (λ t u. separator t) → At tokens j separator → Once tokens p.on k a j b
    → Meets tokens k (separated separator p).on
last_or_more separator p parts here (inl e) = meets_from (sym e.0) (meets_wider (separated separator p).on (λ t u h.
    or_left (separator t) (p.on t u) h) (meets_separator here))
last_or_more separator p parts here (inr (inl met)) = meets_wider (separated separator p).on (λ t u h. or_right
    (separator t) (p.on t u) h) met
last_or_more separator p parts here (inr (inr met)) = absurd (meets_apart parts met (meets_separator here))

pub once_sym : {tokens : List Token} (on : Token → Option Token → Bool) {j k : ℕ} {a b : Tree}
    → Once tokens on j a k b → Once tokens on k b j a
once_sym on (inl e) = inl (sym e.0, sym e.1)
once_sym on (inr (inl met)) = inr (inr met)
once_sym on (inr (inr met)) = inr (inl met)
