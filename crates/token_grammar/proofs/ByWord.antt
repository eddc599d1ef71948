-- Laws on clauses in any order of which each is known by its first word, or two by their second words.
use Rattle.std.specs.Result.{IsErrAnd}
use Rattle.std.proofs.Common.{◌≡◌, ◌≢◌, ℕ, zero, suc, ◌+◌, ◌≤◌, Bool, true, false, not, ◌&&◌, List, ◌∷◌, Option, None}
use Rattle.std.proofs.Common.{Some, is_none, is_some, option_map, Result, Ok, Err, ◌⊎◌, inl, inr, refl, sym, ◌∙◌, ap}
use Rattle.std.proofs.Common.{subst, arith, slice_get}
use Rattle.token_grammar.specs.declared.token.Token.{Token}
use Rattle.token_grammar.specs.declared.syntax_refusal.SyntaxRefusal.{SyntaxRefusal}
use Rattle.token_grammar.specs.Form.{Form, Tree, Marks, Keep, Then, AnyOrder, Slots, Slot, NoSlots, form_at, is_open}
use Rattle.token_grammar.specs.Form.{filled}
use Rattle.token_grammar.specs.Spelling.{passes}
use Rattle.token_grammar.specs.Beginning.{Begins}
use Rattle.token_grammar.specs.TokenTests.{is_word_of}
use Rattle.token_grammar.specs.Turns.{AllStop, IsTaken, TakesClause, KeepsClause}
use Rattle.token_grammar.specs.Outcome.{closed, Stops, IsSpelt, Fails, Reads}
use Rattle.token_grammar.proofs.Heads.{Firsts, skips, starts, Heads, stops_unless}
use Rattle.token_grammar.proofs.Sequences.{passes_false}
use Rattle.token_grammar.proofs.Known.{at_word, token_of}
use Rattle.token_grammar.proofs.Clauses.{OthersStop, same_place, opens_but, others_stop_by, clause_taken, fails_clause}
use Rattle.token_grammar.proofs.Clauses.{came_not, comes_here, comes_not, exit_clause, slot_stops, second_word_stops}
use Rattle.token_grammar.proofs.Clauses.{first_word_begins, clause_taken_with, fails_clause_with}

-- the clauses, of which the one at m can't begin
abbrev pub masked : ℕ → Slots → Slots
masked m NoSlots = NoSlots
masked zero (Slot needed f came s) = Slot needed (Keep (λ t. false)) came s
masked (suc m) (Slot needed f came s) = Slot needed f came (masked m s)

masked_open : (l m : ℕ) (s : Slots) → is_open l s ≡ is_open l (masked m s)
masked_open l m NoSlots = refl
masked_open zero zero (Slot needed f came s) = refl
masked_open zero (suc m) (Slot needed f came s) = refl
masked_open (suc l) zero (Slot needed f came s) = refl
masked_open (suc l) (suc m) (Slot needed f came s) = masked_open l m s

masked_form : (l m : ℕ) (s : Slots) → l ≢ m → form_at l (masked m s) ≡ form_at l s
masked_form l m NoSlots other = refl
masked_form zero zero (Slot needed f came s) other = absurd (other refl)
masked_form zero (suc m) (Slot needed f came s) other = refl
masked_form (suc l) zero (Slot needed f came s) other = refl
masked_form (suc l) (suc m) (Slot needed f came s) other = masked_form l m s (λ same. other (ap suc same))

-- A token that passes p is one with which only the clauses at m and n begin, and the second word of the one
-- at m isn't there.
pub others_stop_by_words : {tokens : List Token} {grammar : ℕ → Form} (named : Firsts) → Heads grammar named →
    {p q : Token → Bool} {tests : List (Token → Bool)} {g : Form} (m n : ℕ) (s : Slots) {i k : ℕ} → form_at m s ≡ Then
    (Marks (p ∷ q ∷ tests)) g → ((t : Token) → p t ≡ true → opens_but named n (masked m s) t ≡ false) → passes p
    (slice_get tokens i) ≡ true → (is_open m s ≡ true → passes q (slice_get tokens (i + 1)) ≡ false) → i + 1 ≤ k →
    OthersStop tokens grammar n s i k
others_stop_by_words {tokens} {grammar} named heads {p} {q} {tests} {g} m n s {i} {k} form away here gone order =
    record { others = λ l other open_l. go l (same_place l m) other open_l }
  where
    go : (l : ℕ) → (l ≡ m) ⊎ (l ≢ m) → l ≢ n → is_open l s ≡ true → Stops tokens grammar closed (form_at l s) i k
    go l (inl e) other open_l = subst (λ (x : ℕ). Stops tokens grammar closed (form_at x s) i k) (sym e)
        (subst (λ (x : Form). Stops tokens grammar closed x i k) (sym form)
        (second_word_stops here (gone (subst (λ (x : ℕ). is_open x s ≡ true) e open_l)) order))
    go l (inr never) other open_l = subst (λ (x : Form). Stops tokens grammar closed x i k) (masked_form l m s never)
        ((others_stop_by named heads n (masked m s) (omega arith) (record { passed = here }) away).others l other
        (sym (masked_open l m s) ∙ open_l))

-- where a clause's first word is there, it goes past it
past_word : {tokens : List Token} {grammar : ℕ → Form} {p : Token → Bool} {tests : List (Token → Bool)} {f g : Form}
    {i : ℕ} → f ≡ Then (Marks (p ∷ tests)) g → passes p (slice_get tokens i) ≡ true → Begins tokens grammar f i
    (i + 1)
past_word {tokens} {grammar} {p} {tests} {f} {g} {i} form here = subst
    (λ (x : Form). Begins tokens grammar x i (i + 1)) (sym form) (first_word_begins here)

-- The clause at n comes, whose first word only the one at m has too, and the other's second word isn't there.
pub fails_by_words : {tokens : List Token} {grammar : ℕ → Form} (named : Firsts) → Heads grammar named →
    (on : Token → Bool) (text : List ℕ) {q : Token → Bool} {tests tests' : List (Token → Bool)} {f g : Form} (n m : ℕ)
    (s : Slots) {i : ℕ} {e : SyntaxRefusal} → form_at n s ≡ Then (Marks (is_word_of text ∷ tests)) f → form_at m s ≡
    Then (Marks (is_word_of text ∷ q ∷ tests')) g → ((at : ℕ) → on (token_of 0 at text) ≡ true) →
    ((at : ℕ) → opens_but named n (masked m s) (token_of 0 at text) ≡ false) → is_open n s ≡ true → passes
    (is_word_of text) (slice_get tokens i) ≡ true → (is_open m s ≡ true → passes q (slice_get tokens (i + 1)) ≡ false)
    → Fails tokens grammar closed (form_at n s) i e → Fails tokens grammar on (AnyOrder s) i e
fails_by_words named heads on text n m s {i} one two wide away still here gone r = fails_clause_with on n s
    (at_word text true on wide) still here (λ k most. others_stop_by_words named heads m n s two
    (at_word text false (opens_but named n (masked m s)) away) here gone (most (i + 1) (past_word one here))) r

pub taken_by_words : {tokens : List Token} {grammar : ℕ → Form} (named : Firsts) → Heads grammar named →
    (on : Token → Bool) (text : List ℕ) {q : Token → Bool} {tests tests' : List (Token → Bool)} {f g : Form} (n m : ℕ)
    (s : Slots) {i j : ℕ} {a : Tree} → form_at n s ≡ Then (Marks (is_word_of text ∷ tests)) f → form_at m s ≡ Then
    (Marks (is_word_of text ∷ q ∷ tests')) g → skips named (form_at n s) ≡ false →
    ((at : ℕ) → on (token_of 0 at text) ≡ true) →
    ((at : ℕ) → opens_but named n (masked m s) (token_of 0 at text) ≡ false) → is_open n s ≡ true → passes
    (is_word_of text) (slice_get tokens i) ≡ true → (is_open m s ≡ true → passes q (slice_get tokens (i + 1)) ≡ false)
    → IsSpelt tokens grammar closed (form_at n s) i a j → IsTaken tokens grammar on s (filled n a s) i j
taken_by_words named heads on text n m s {i} one two full wide away still here gone r = clause_taken_with named heads
    on n s full (at_word text true on wide) still here (λ k most. others_stop_by_words named heads m n s two
    (at_word text false (opens_but named n (masked m s)) away) here gone (most (i + 1) (past_word one here))) r

-- The same of a clause whose first word no other clause has, from what the code asked: whether the clause is
-- still missing (b), and whether the word is there (w).
pub word_fails : {tokens : List Token} {grammar : ℕ → Form} (named : Firsts) → Heads grammar named →
    (on : Token → Bool) (text : List ℕ) (n : ℕ) (s after : Slots) {X : Type 0} (view : X → Tree) (o : Option X)
    (b : Bool) {w : Bool} {i : ℕ} {e : SyntaxRefusal} (r : Result (Option ℕ) SyntaxRefusal) → is_open n s ≡ is_none
    (option_map view o) → ((at : ℕ) → on (token_of 0 at text) ≡ true) →
    ((at : ℕ) → opens_but named n s (token_of 0 at text) ≡ false) → is_some o ≡ not b → w ≡ passes (is_word_of text)
    (slice_get tokens i) → (b && w) ≡ true → Fails tokens grammar closed (form_at n s) i e → IsErrAnd r (λ d. d ≡ e) →
    TakesClause tokens grammar on s after i r
word_fails named heads on text n s after view o b {w} {i} {e} r mine wide away missing word comes fails is =
    exit_clause after r is (fails_clause named heads on n s (at_word text true on wide)
    (at_word text false (opens_but named n s) away) (mine ∙ came_not view o b w missing comes)
    (sym word ∙ comes_here b w comes) fails)

pub word_taken : {tokens : List Token} {grammar : ℕ → Form} (named : Firsts) → Heads grammar named →
    (on : Token → Bool) (text : List ℕ) (n : ℕ) (s : Slots) {X : Type 0} (view : X → Tree) (o : Option X) (b : Bool)
    {w : Bool} {i j : ℕ} {a : Tree} → is_open n s ≡ is_none (option_map view o) → skips named (form_at n s) ≡ false →
    ((at : ℕ) → on (token_of 0 at text) ≡ true) → ((at : ℕ) → opens_but named n s (token_of 0 at text) ≡ false) →
    is_some o ≡ not b → w ≡ passes (is_word_of text) (slice_get tokens i) → (b && w) ≡ true → IsSpelt tokens grammar
    closed (form_at n s) i a j → IsTaken tokens grammar on s (filled n a s) i j
word_taken named heads on text n s view o b {w} {i} mine full wide away missing word comes one = clause_taken named
    heads on n s full (at_word text true on wide) (at_word text false (opens_but named n s) away)
    (mine ∙ came_not view o b w missing comes) (sym word ∙ comes_here b w comes) one

-- A clause is kept, in either way: from what is known where it was read, and where it fails.
pub clause_kept : (tokens : List Token) {grammar : ℕ → Form} (part on : Token → Bool) (n : ℕ) (s : Slots) {X : Type 0}
    (view : X → Tree) (put : Option X → Slots) (old new : Option X) (i : ℕ) (read : Result (X × ℕ) SyntaxRefusal)
    (answer : Result (Option ℕ) SyntaxRefusal) → ((x : X) → put (Some x) ≡ filled n (view x) s) →
    ((j : ℕ) (a : Tree) → IsSpelt tokens grammar part (form_at n s) i a j → IsTaken tokens grammar on s (filled n a s)
    i j) →
    ((e : SyntaxRefusal) → Fails tokens grammar part (form_at n s) i e → Fails tokens grammar on (AnyOrder s) i e) →
    Reads tokens grammar part (form_at n s) i view read → KeepsClause read old new answer → TakesClause tokens grammar
    on s (put new) i answer
clause_kept tokens {grammar} part on n s view put old new i (Ok x) answer fills takes fails one kept =
    let taken = subst (λ (after : Slots). IsTaken tokens grammar on s after i x.1) (sym (fills x.0))
    (takes x.1 (view x.0) one) in
    subst (λ (r : Result (Option ℕ) SyntaxRefusal). TakesClause tokens grammar on s (put new) i r) (sym kept.1)
    (subst (λ o. IsTaken tokens grammar on s (put o) i x.1) (sym kept.0) taken)
clause_kept tokens {grammar} part on n s view put old new i (Err e) answer fills takes fails one kept =
    subst (λ (r : Result (Option ℕ) SyntaxRefusal). TakesClause tokens grammar on s (put new) i r) (sym kept.1)
    (fails e one)

-- The same of a clause whose first word no other clause has.
pub word_kept : (tokens : List Token) {grammar : ℕ → Form} (named : Firsts) → Heads grammar named →
    (on : Token → Bool) (text : List ℕ) (n : ℕ) (s : Slots) {X : Type 0} (view : X → Tree) (put : Option X → Slots)
    (o : Option X) (b : Bool) {w : Bool} (new : Option X) (i : ℕ) (read : Result (X × ℕ) SyntaxRefusal)
    (answer : Result (Option ℕ) SyntaxRefusal) → is_open n s ≡ is_none (option_map view o) → skips named (form_at n s)
    ≡ false → ((at : ℕ) → on (token_of 0 at text) ≡ true) →
    ((at : ℕ) → opens_but named n s (token_of 0 at text) ≡ false) → ((x : X) → put (Some x) ≡ filled n (view x) s) →
    is_some o ≡ not b → w ≡ passes (is_word_of text) (slice_get tokens i) → (b && w) ≡ true → Reads tokens grammar
    closed (form_at n s) i view read → KeepsClause read o new answer → TakesClause tokens grammar on s (put new) i
    answer
word_kept tokens named heads on text n s view put o b {w} new i read answer mine full wide away fills missing word
    comes one kept =
    clause_kept tokens closed on n s view put o new i read answer fills
    (λ j a spelt. clause_taken named heads on n s full (at_word text true on wide)
    (at_word text false (opens_but named n s) away) (mine ∙ came_not view o b w missing comes)
    (sym word ∙ comes_here b w comes) spelt)
    (λ e fault. fails_clause named heads on n s (at_word text true on wide)
    (at_word text false (opens_but named n s) away) (mine ∙ came_not view o b w missing comes)
    (sym word ∙ comes_here b w comes) fault)
    one kept

-- No clause comes: a slot whose clause can't begin here, since it came or its first word isn't there.
pub slot_not : {tokens : List Token} {grammar : ℕ → Form} (named : Firsts) → Heads grammar named → (text : List ℕ)
    {needed : Bool} {f : Form} {X : Type 0} (view : X → Tree) (o : Option X) {s : Slots} (b : Bool) {w : Bool} {i : ℕ}
    → skips named f ≡ false → ((t : Token) → starts named f t ≡ true → is_word_of text t ≡ true) → is_some o ≡ not b →
    w ≡ passes (is_word_of text) (slice_get tokens i) → (b && w) ≡ false → AllStop tokens grammar s i i → AllStop
    tokens grammar (Slot needed f (option_map view o) s) i i
slot_not named heads text {f = f} view o b {w} {i} full begins missing word fails later = slot_stops
    (λ open_now. stops_unless named heads (is_word_of text) f i i (omega arith) full begins
    (sym word ∙ comes_not view o b w missing fails open_now)) later

-- Of two clauses that begin with one word the second one is asked for by both of its words (r). Where the first
-- one comes, the second one's second word isn't there, if it may still come.
pub pair_first : {X : Type 0} (view : X → Tree) (o : Option X) (b d p q r : Bool) → is_some o ≡ not b → r ≡ (p && q) →
    (d && not (b && r)) ≡ true → p ≡ true → is_none (option_map view o) ≡ true → q ≡ false
pair_first view None true true true true r missing pair asked here open_now = absurd (cc (pair, asked))
pair_first view None true true true false r missing pair asked here open_now = refl
pair_first view None true true false q r missing pair asked here open_now = absurd (cc here)
pair_first view None true false p q r missing pair asked here open_now = absurd (cc asked)
pair_first view None false d p q r missing pair asked here open_now = absurd (cc missing)
pair_first view (Some x) b d p q r missing pair asked here open_now = absurd (cc open_now)

-- Where the first one doesn't come, though it may and its first word is there, the second one's second word is.
pair_word : {X : Type 0} (view : X → Tree) (o : Option X) (b w other p q r : Bool) → is_some o ≡ not b → r ≡ (p && q)
    → ((b && w) && not (other && r)) ≡ false → w ≡ true → is_none (option_map view o) ≡ true → q ≡ true
pair_word view None true true other true true r missing pair asked here open_now = refl
pair_word view None true true true true false r missing pair asked here open_now = absurd (cc (pair, asked))
pair_word view None true true false true false r missing pair asked here open_now = absurd (cc asked)
pair_word view None true true true false q r missing pair asked here open_now = absurd (cc (pair, asked))
pair_word view None true true false false q r missing pair asked here open_now = absurd (cc asked)
pair_word view None true false other p q r missing pair asked here open_now = absurd (cc here)
pair_word view None false w other p q r missing pair asked here open_now = absurd (cc missing)
pair_word view (Some x) b w other p q r missing pair asked here open_now = absurd (cc open_now)

pub pair_second : (text text' : List ℕ) (token : Option Token) {X : Type 0} (view : X → Tree) (o : Option X)
    (b w other p r : Bool) → ((at : ℕ) → is_word_of text' (token_of 0 at text) ≡ false) → is_some o ≡ not b → r ≡
    (p && passes (is_word_of text) token) → ((b && w) && not (other && r)) ≡ false → w ≡ true → is_none
    (option_map view o) ≡ true → passes (is_word_of text') token ≡ false
pair_second text text' token view o b w other p r differ missing pair asked here open_now = passes_false
    (is_word_of text) (is_word_of text') token (at_word text false (is_word_of text') differ)
    (pair_word view o b w other p (passes (is_word_of text) token) r missing pair asked here open_now)
