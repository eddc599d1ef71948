-- Laws on what stands behind a brace: one of four, told by the first tokens.
use Rattle.std.proofs.Common.{◌≡◌, ℕ, ◌+◌, ◌≤◌, Bool, true, false, ◌||◌, List, Option, None, Some, ◌⊎◌, inl, inr, refl}
use Rattle.std.proofs.Common.{arith, slice_get, codes}
use Rattle.token_grammar.specs.declared.token.Token.{Token}
use Rattle.token_grammar.specs.declared.syntax_refusal.SyntaxRefusal.{SyntaxRefusal}
use Rattle.token_grammar.specs.Form.{Tree, Keep, Then, Or, Many, Named, First, Second, Empty}
use Rattle.token_grammar.specs.Spelling as S
use Rattle.token_grammar.specs.Spelling.{passes}
use Rattle.token_grammar.specs.Beginning as B
use Rattle.token_grammar.specs.Beginning.{Begins}
use Rattle.token_grammar.specs.Outcome.{closed, Stops, IsFault, IsSpelt, Fails}
use Rattle.token_grammar.specs.TokenTests.{is_arc_start, is_name, is_number, is_sign_of}
use Rattle.token_grammar.specs.Parts.{arc, named_number, sign}
use Rattle.token_grammar.proofs.Sequences.{apart_closed, spelt_first, spelt_second, stops_or, stops_later, fault_front}
use Rattle.token_grammar.proofs.Sequences.{fault_rest, fault_first, fault_second, fails_by, spelt_order}
use Rattle.token_grammar.proofs.Tokens.{keep_spelt, marks_fault}
use Rattle.token_grammar.proofs.Parts.{arcs_apart, token_there}
use Rattle.token_grammar.proofs.References.{fault_here}
use Rattle.asn1_values_syntax.specs.Asn1.{asn1}
use Rattle.asn1_values_syntax.specs.Lookahead.{is_name_before_parenthesis, is_number_before_arc, starts_arcs}
use Rattle.asn1_values_syntax.specs.Lookahead.{starts_named_arcs}
use Rattle.asn1_values_syntax.specs.ValueForms.{values, arcs_end, braces_content, parts_end}
use Rattle.asn1_values_syntax.proofs.FirstTokens.{quiet_name, quiet_number, quiet_unless}
use Rattle.asn1_values_syntax.proofs.Cases.{decide, neither_first, neither_second, not_both}
use Rattle.asn1_values_syntax.proofs.Values.{name_there}
use Rattle.asn1_values_syntax.proofs.Braces.{arcs_begin, named_arcs_begin, no_named_arcs, parts_before_arcs}
use Rattle.asn1_values_syntax.proofs.Braces.{parts_before_named_arcs}

-- neither a number nor a name
no_arc : (token : Option Token) → passes is_number token ≡ false → passes is_name token ≡ false → passes is_arc_start
    token ≡ false
no_arc None e f = refl
no_arc (Some t) e f = both (is_number t) (is_name t) e f
  where
    both : (a b : Bool) → a ≡ false → b ≡ false → (a || b) ≡ false
    both true b e f = absurd (cc e)
    both false b e f = f

wider : (p q : Token → Bool) (token : Option Token) → ((t : Token) → p t ≡ true → q t ≡ true) → passes p token ≡
    true →
    passes q token ≡ true
wider p q None all e = absurd (cc e)
wider p q (Some t) all e = all t e

or_so : (a b : Bool) → b ≡ true → (a || b) ≡ true
or_so true b e = refl
or_so false b e = e

first_or : (a b : Bool) → a ≡ true → (a || b) ≡ true
first_or true b e = refl
first_or false b e = absurd (cc e)

-- Where no arcs stand, they end at once, or behind the number or the name that stands there.
pub record ArcsStop (tokens : List Token) (i : ℕ) : Type 0 where
  pub place : ℕ
  pub fault : IsFault tokens asn1 closed arcs_end i place
  pub near : (place ≡ i) ⊎ ((place ≡ i + 1) × (passes is_arc_start (slice_get tokens i) ≡ true))

pub arcs_stop : {tokens : List Token} {i : ℕ} → starts_arcs tokens i ≡ false → ArcsStop tokens i
arcs_stop {tokens} {i} none = go (decide (passes is_number (slice_get tokens i)))
    (decide (passes is_name (slice_get tokens i)))
  where
    numbered : passes is_number (slice_get tokens i) ≡ true → (t : Token) × (slice_get tokens i ≡ Some t) ×
        (is_number t ≡ true) → ArcsStop tokens i
    numbered here there = record {
      place = i + 1;
      fault = fault_front arcs_apart (fault_first (fault_rest (keep_spelt there.1 there.2) apart_closed
          (fault_front apart_closed (fault_here ((quiet_unless is_arc_start arc refl (λ t e. e)
          (not_both (passes is_number (slice_get tokens i)) (passes is_arc_start (slice_get tokens (i + 1))) here
          (neither_first (is_number_before_arc tokens i) (is_name_before_parenthesis tokens i) none))).stops (i + 1)
          (omega arith))))) ((quiet_number (Then named_number (Many Empty arc)) here (λ at text. refl)).stops (i + 1)
          (omega arith)));
      near = inr (
        refl,
        wider is_number is_arc_start (slice_get tokens i) (λ t e. first_or (is_number t) (is_name t) e)
            here,
      );
    }

    named : passes is_name (slice_get tokens i) ≡ true → ArcsStop tokens i
    named here = record {
      place = i + 1;
      fault = fault_front arcs_apart (fault_second ((quiet_name (Then (Keep is_number) (Then arc (Many Empty arc)))
          here
          (λ at text. refl)).stops (i + 1) (omega arith)) (fault_front apart_closed
          (fault_rest (name_there here).1 apart_closed (fault_front apart_closed
          (marks_fault (not_both (passes is_name (slice_get tokens i))
          (passes (is_sign_of (codes "(")) (slice_get tokens (i + 1))) here
          (neither_second (is_number_before_arc tokens i) (is_name_before_parenthesis tokens i) none)))))));
      near = inr (
        refl,
        wider is_name is_arc_start (slice_get tokens i) (λ t e. or_so (is_number t) (is_name t) e)
            here,
      );
    }

    neither : passes is_number (slice_get tokens i) ≡ false → passes is_name (slice_get tokens i) ≡ false → ArcsStop
        tokens i
    neither e f = record {
      place = i;
      fault = fault_here ((quiet_unless is_arc_start arcs_end refl (λ t h. h)
          (no_arc (slice_get tokens i) e f)).stops i (omega arith));
      near = inl refl;
    }

    go : (passes is_number (slice_get tokens i) ≡ true) ⊎ (passes is_number (slice_get tokens i) ≡ false) →
        (passes is_name (slice_get tokens i) ≡ true) ⊎ (passes is_name (slice_get tokens i) ≡ false) → ArcsStop tokens
        i
    go (inl e) f = numbered e (token_there tokens i is_number e)
    go (inr e) (inl f) = named f
    go (inr e) (inr f) = neither e f

-- What doesn't end before k goes no further than k.
pub arcs_stop_by : {tokens : List Token} {i k : ℕ} → ArcsStop tokens i → i ≤ k →
    (passes is_arc_start (slice_get tokens i) ≡ true → i + 1 ≤ k) → Stops tokens asn1 closed arcs_end i k
arcs_stop_by {tokens} {i} {k} s order past = stops_later (near s.near) s.fault.stops
  where
    near : (s.place ≡ i) ⊎ ((s.place ≡ i + 1) × (passes is_arc_start (slice_get tokens i) ≡ true)) → s.place ≤ k
    near (inl e) = omega (arith, e, order)
    near (inr p) = let e = p.0 in let q = past p.1 in omega arith

pub named_arcs_stop : {tokens : List Token} {i k : ℕ} → starts_named_arcs tokens i ≡ false → i ≤ k →
    (passes is_name (slice_get tokens i) ≡ true → i + 1 ≤ k) → (passes is_name (slice_get tokens i) ≡ true → passes
    is_arc_start (slice_get tokens (i + 1)) ≡ true → i + 1 + 1 ≤ k) → Stops tokens asn1 closed
    (Then (Keep is_name) arcs_end) i k
named_arcs_stop {tokens} {i} {k} none order one two = go (decide (passes is_name (slice_get tokens i)))
  where
    place : passes is_name (slice_get tokens i) ≡ true → (m : ℕ) → (m ≡ i + 1) ⊎
        ((m ≡ i + 1 + 1) × (passes is_arc_start (slice_get tokens (i + 1)) ≡ true)) → m ≤ k
    place here m (inl e) = let q = one here in omega arith
    place here m (inr p) = let e = p.0 in let q = two here p.1 in omega arith

    behind : passes is_name (slice_get tokens i) ≡ true → ArcsStop tokens (i + 1) → Stops tokens asn1 closed
        (Then (Keep is_name) arcs_end) i k
    behind here s = stops_later (place here s.place s.near) (fault_rest (name_there here).1 apart_closed
        s.fault).stops

    go : (passes is_name (slice_get tokens i) ≡ true) ⊎ (passes is_name (slice_get tokens i) ≡ false) → Stops tokens
        asn1 closed (Then (Keep is_name) arcs_end) i k
    go (inl here) = behind here (arcs_stop (not_both (passes is_name (slice_get tokens i))
        (starts_arcs tokens (i + 1))
        here none))
    go (inr absent) = (quiet_unless is_name (Then (Keep is_name) arcs_end) refl (λ t e. e) absent).stops k order

-- A list of parts goes past a number or a name, and past one behind a name.
value_begins : {tokens : List Token} {i : ℕ} → passes is_arc_start (slice_get tokens i) ≡ true → Begins tokens asn1
    (Named values) i (i + 1)
value_begins {tokens} {i} here = go (decide (passes is_number (slice_get tokens i)))
    (decide (passes is_name (slice_get tokens i)))
  where
    go : (passes is_number (slice_get tokens i) ≡ true) ⊎ (passes is_number (slice_get tokens i) ≡ false) →
        (passes is_name (slice_get tokens i) ≡ true) ⊎ (passes is_name (slice_get tokens i) ≡ false) → Begins tokens
        asn1 (Named values) i (i + 1)
    go (inl e) f = B.named (B.second (B.first (B.rest S.absent (B.token (record { passed = e }) refl))))
    go (inr e) (inl f) = B.named (B.second (B.second (B.first (B.front (B.token (record { passed = f }) refl)))))
    go (inr e) (inr f) = absurd (let h = no_arc (slice_get tokens i) e f in cc (h, here))

parts_begin : {tokens : List Token} {i : ℕ} → passes is_arc_start (slice_get tokens i) ≡ true → Begins tokens asn1
    parts_end i (i + 1)
parts_begin here = B.front (B.item (B.second (value_begins here)))

parts_begin_name : {tokens : List Token} {i : ℕ} → passes is_name (slice_get tokens i) ≡ true → Begins tokens asn1
    parts_end i (i + 1)
parts_begin_name {tokens} {i} here = parts_begin (wider is_name is_arc_start (slice_get tokens i)
    (λ t e. or_so (is_number t) (is_name t) e) here)

parts_begin_named : {tokens : List Token} {i : ℕ} → passes is_name (slice_get tokens i) ≡ true → passes is_arc_start
    (slice_get tokens (i + 1)) ≡ true → Begins tokens asn1 parts_end i (i + 1 + 1)
parts_begin_named here behind = B.front (B.item (B.first (B.rest (name_there here).1.spelt (value_begins behind))))

-- no brace ends the value at once
ends_not : {tokens : List Token} {i : ℕ} → passes (is_sign_of (codes "}")) (slice_get tokens i) ≡ false → (k : ℕ) → i
    ≤
    k → Stops tokens asn1 closed (sign (codes "}")) i k
ends_not fails k order = (quiet_unless (is_sign_of (codes "}")) (sign (codes "}")) refl (λ t e. e) fails).stops k
    order

-- Arcs behind the brace.
arcs_others : {tokens : List Token} {i k : ℕ} → starts_arcs tokens i ≡ true →
    ((m : ℕ) → Begins tokens asn1 arcs_end i m → m ≤ k) → i + 1 ≤ k
arcs_others {tokens} {i} arcs most = most (i + 1) (arcs_begin arcs)

pub content_arcs : {tokens : List Token} {i k : ℕ} {a : Tree} → passes (is_sign_of (codes "}")) (slice_get tokens i) ≡
    false → starts_arcs tokens i ≡ true → IsSpelt tokens asn1 closed arcs_end i a k → IsSpelt tokens asn1 closed
    braces_content i (Second (Second (First a))) k
content_arcs {k = k} fails arcs one = let past = arcs_others arcs one.furthest in spelt_second
    (ends_not fails k (spelt_order one)) (spelt_second (stops_later past (parts_before_arcs arcs).stops)
    (spelt_first one (no_named_arcs arcs past)))

pub content_arcs_fails : {tokens : List Token} {i : ℕ} {e : SyntaxRefusal} → passes (is_sign_of (codes "}"))
    (slice_get tokens i) ≡ false → starts_arcs tokens i ≡ true → Fails tokens asn1 closed arcs_end i e → Fails tokens
    asn1 closed braces_content i e
content_arcs_fails fails arcs r = fails_by (λ k one. let past = arcs_others arcs one.stops.furthest in fault_second
    (ends_not fails k one.stops.order) (fault_second (stops_later past (parts_before_arcs arcs).stops)
    (fault_first one (no_named_arcs arcs past)))) r

-- Arcs behind a name.
named_past : {tokens : List Token} {i k : ℕ} → passes is_name (slice_get tokens i) ≡ true → starts_arcs tokens (i + 1)
    ≡
    true → ((m : ℕ) → Begins tokens asn1 (Then (Keep is_name) arcs_end) i m → m ≤ k) → i + 1 + 1 ≤ k
named_past {tokens} {i} here arcs most = most (i + 1 + 1) (named_arcs_begin here arcs)

pub content_named : {tokens : List Token} {i k : ℕ} {a : Tree} → passes (is_sign_of (codes "}")) (slice_get tokens i)
    ≡
    false → starts_arcs tokens i ≡ false → passes is_name (slice_get tokens i) ≡ true → starts_arcs tokens (i + 1) ≡
    true → IsSpelt tokens asn1 closed (Then (Keep is_name) arcs_end) i a k → IsSpelt tokens asn1 closed braces_content
    i
    (Second (Second (Second a))) k
content_named {k = k} fails none here arcs one = let past = named_past here arcs one.furthest in spelt_second
    (ends_not fails k (spelt_order one)) (spelt_second (stops_later past (parts_before_named_arcs here arcs).stops)
    (spelt_second (arcs_stop_by (arcs_stop none) (spelt_order one) (λ e. omega (arith, past))) one))

pub content_named_fails : {tokens : List Token} {i : ℕ} {e : SyntaxRefusal} → passes (is_sign_of (codes "}"))
    (slice_get tokens i) ≡ false → starts_arcs tokens i ≡ false → passes is_name (slice_get tokens i) ≡ true →
    starts_arcs tokens (i + 1) ≡ true → Fails tokens asn1 closed (Then (Keep is_name) arcs_end) i e → Fails tokens
    asn1
    closed braces_content i e
content_named_fails fails none here arcs r = fails_by (λ k one. let past = named_past here arcs one.stops.furthest in
    fault_second (ends_not fails k one.stops.order) (fault_second (stops_later past
    (parts_before_named_arcs here arcs).stops) (fault_second (arcs_stop_by (arcs_stop none) one.stops.order
    (λ e. omega (arith, past))) one))) r

-- Parts behind the brace.
parts_others : {tokens : List Token} {i k : ℕ} → starts_arcs tokens i ≡ false → starts_named_arcs tokens i ≡ false → i
    ≤
    k → ((m : ℕ) → Begins tokens asn1 parts_end i m → m ≤ k) → Stops tokens asn1 closed
    (Or arcs_end (Then (Keep is_name) arcs_end)) i k
parts_others {tokens} {i} {k} none no_name order most = stops_or (arcs_stop_by (arcs_stop none) order
    (λ here. most (i + 1) (parts_begin here))) (named_arcs_stop no_name order
    (λ here. most (i + 1) (parts_begin_name here)) (λ here behind. most (i + 1 + 1) (parts_begin_named here behind)))

pub content_parts : {tokens : List Token} {i k : ℕ} {a : Tree} → passes (is_sign_of (codes "}")) (slice_get tokens i)
    ≡
    false → starts_arcs tokens i ≡ false → starts_named_arcs tokens i ≡ false → IsSpelt tokens asn1 closed parts_end i
    a
    k → IsSpelt tokens asn1 closed braces_content i (Second (First a)) k
content_parts {k = k} fails none no_name one = spelt_second (ends_not fails k (spelt_order one))
    (spelt_first one (parts_others none no_name (spelt_order one) one.furthest))

pub content_parts_fails : {tokens : List Token} {i : ℕ} {e : SyntaxRefusal} → passes (is_sign_of (codes "}"))
    (slice_get tokens i) ≡ false → starts_arcs tokens i ≡ false → starts_named_arcs tokens i ≡ false → Fails tokens
    asn1
    closed parts_end i e → Fails tokens asn1 closed braces_content i e
content_parts_fails fails none no_name r = fails_by (λ k one. fault_second (ends_not fails k one.stops.order)
    (fault_first one (parts_others none no_name one.stops.order one.stops.furthest))) r
