-- Laws on the parts that several grammars have, and on the lists that readers make.
use Rattle.std.proofs.Common.{◌≡◌, ℕ, ◌+◌, ◌≤◌, ◌<◌, Bool, true, false, not, ◌&&◌, ◌||◌, List, [], ◌∷◌, ◌++◌, Option}
use Rattle.std.proofs.Common.{None, Some, ◌⊎◌, inl, inr, refl, sym, ◌∙◌, ap, subst, arith, slice_get, length, codes}
use Rattle.std.proofs.lemmas.Option.{slice_get_within}
use Rattle.token_grammar.specs.declared.token.Token.{Token}
use Rattle.token_grammar.specs.Form.{Form, Tree, Keep, Listed, Many, Leaf, First, Second, After}
use Rattle.token_grammar.specs.Spelling as S
use Rattle.token_grammar.specs.Spelling.{At, passes, Spells}
use Rattle.token_grammar.specs.Beginning as B
use Rattle.token_grammar.specs.Beginning.{Begins}
use Rattle.token_grammar.specs.Outcome.{closed, Stops, IsFault, IsSpelt}
use Rattle.token_grammar.specs.TokenTests.{is_sign_of, is_name, is_number, is_arc_start}
use Rattle.token_grammar.specs.Parts.{either, list_tree, arc, first_arc, sign}
use Rattle.token_grammar.proofs.Places.{at_from}
use Rattle.token_grammar.proofs.Heads.{unknown, heads_unknown, starts, skips, Firsts, Heads, spells_first, at_wider}
use Rattle.token_grammar.proofs.Heads.{or_left, or_right}
use Rattle.token_grammar.proofs.Sequences.{Apart, apart_by, apart_closed, not_closed, passes_false, stops_wider}
use Rattle.token_grammar.proofs.Sequences.{stops_later, spelt_wider, fault_wider, fault_front, fault_rest, spelt_first}
use Rattle.token_grammar.proofs.Sequences.{spelt_second, fault_first, stops_or, spelt_order}
use Rattle.token_grammar.proofs.Tokens.{keep_fault, marks_fault}
use Rattle.token_grammar.proofs.Turns.{Leads, leads_start, leads_on, many_leads, list_leads, list_ends, Separates}
use Rattle.token_grammar.proofs.Known.{first_so, second_so, at_name, at_number}

-- a list of one part more
pub list_tree-append : {X : Type 0} (view : X → Tree) (before : Tree) (xs : List X) (x : X)
    → list_tree view before (xs ++ x ∷ []) ≡ After (list_tree view before xs) (view x)
list_tree-append view before [] x = refl
list_tree-append view before (y ∷ ys) x = list_tree-append view (After before (view y)) ys x

-- there is a token where one passes a test
pub at_within : (tokens : List Token) (i : ℕ) (test : Token → Bool) → passes test (slice_get tokens i) ≡ true
    → i < length tokens
at_within tokens i test pass = go (slice_get tokens i) refl pass
  where
    go : (x : Option Token) → slice_get tokens i ≡ x → passes test x ≡ true → i < length tokens
    go None e p = absurd (cc p)
    go (Some t) e p = slice_get_within tokens i t e

-- the token that passes a test
pub token_there : (tokens : List Token) (i : ℕ) (test : Token → Bool) → passes test (slice_get tokens i) ≡ true
    → (t : Token) × (slice_get tokens i ≡ Some t) × (test t ≡ true)
token_there tokens i test pass = go (slice_get tokens i) refl pass
  where
    go : (x : Option Token) → slice_get tokens i ≡ x → passes test x ≡ true → (t : Token)
        × (slice_get tokens i ≡ Some t) × (test t ≡ true)
    go None e p = absurd (cc p)
    go (Some t) e p = (t, e, p)

-- A repeat, as its reader's loop keeps it.
pub many_start : {tokens : List Token} {grammar : ℕ → Form} {on : Token → Bool} {X : Type 0} (view : X → Tree)
    {before : Tree} {f : Form} {i : ℕ} (xs : List X) → xs ≡ []
    → Leads tokens grammar on (Many before f) i (Many (list_tree view before xs) f) i
many_start {tokens} {grammar} {on} {X} view {before} {f} {i} xs none =
    subst (λ (ys : List X). Leads tokens grammar on (Many before f) i (Many (list_tree view before ys) f) i)
    (sym none) leads_start

pub many_push : {tokens : List Token} {grammar : ℕ → Form} {part on : Token → Bool} {whole : Form} {X : Type 0}
    (view : X → Tree) (before : Tree) {f : Form} {i j k : ℕ} (xs ys : List X) {x : X}
    → ((m : ℕ) → At tokens m part → At tokens m on) → Apart tokens grammar part f → At tokens j on
    → Leads tokens grammar on whole i (Many (list_tree view before xs) f) j → IsSpelt tokens grammar part f j (view x) k
    → ys ≡ xs ++ x ∷ [] → Leads tokens grammar on whole i (Many (list_tree view before ys) f) k
many_push {tokens} {grammar} {part} {on} {whole} {X} view before {f} {i} {j} {k} xs ys {x} wide away comes led one
    more = subst (λ (t : Tree). Leads tokens grammar on whole i (Many t f) k) (sym (list_tree-append view before xs x)
    ∙ ap (list_tree view before) (sym more)) (leads_on led (many_leads comes wide away one))

-- A list, as its reader's loop keeps it.
pub list_start : {tokens : List Token} {grammar : ℕ → Form} {separator on : Token → Bool} {X : Type 0} (view : X → Tree)
    {before : Tree} {f : Form} {i : ℕ} (xs : List X) → xs ≡ []
    → Leads tokens grammar on (Listed separator before f) i (Listed separator (list_tree view before xs) f) i
list_start {tokens} {grammar} {separator} {on} {X} view {before} {f} {i} xs none =
    subst (λ (ys : List X). Leads tokens grammar on (Listed separator before f) i
    (Listed separator (list_tree view before ys) f) i) (sym none) leads_start

pub list_push : {tokens : List Token} {grammar : ℕ → Form} {separator part on : Token → Bool} {whole : Form}
    {X : Type 0} (view : X → Tree) (before : Tree) {f : Form} {i j k m : ℕ} (xs ys : List X) {x : X}
    → Separates tokens separator part on
    → Leads tokens grammar on whole i (Listed separator (list_tree view before xs) f) j
    → IsSpelt tokens grammar part f j (view x) k → ys ≡ xs ++ x ∷ [] → At tokens k separator → m ≡ k + 1
    → Leads tokens grammar on whole i (Listed separator (list_tree view before ys) f) m
list_push {tokens} {grammar} {separator} {part} {on} {whole} {X} view before {f} {i} {j} {k} {m} xs ys {x} sep led one
    more here next = subst (λ (n : ℕ). Leads tokens grammar on whole i (Listed separator (list_tree view before ys) f)
    n) (sym next) (subst (λ (t : Tree). Leads tokens grammar on whole i (Listed separator t f) (k + 1))
    (sym (list_tree-append view before xs x) ∙ ap (list_tree view before) (sym more))
    (leads_on led (list_leads sep one here)))

pub list_last : {tokens : List Token} {grammar : ℕ → Form} {separator part on : Token → Bool} {X : Type 0}
    (view : X → Tree) (before : Tree) {f : Form} {j k : ℕ} (xs ys : List X) {x : X} → Separates tokens separator part on
    → IsSpelt tokens grammar part f j (view x) k → ys ≡ xs ++ x ∷ [] → passes separator (slice_get tokens k) ≡ false
    → IsSpelt tokens grammar on (Listed separator (list_tree view before xs) f) j (list_tree view before ys) k
list_last {tokens} {grammar} {separator} {part} {on} {X} view before {f} {j} {k} xs ys {x} sep one more fails =
    subst (λ (t : Tree). IsSpelt tokens grammar on (Listed separator (list_tree view before xs) f) j t k)
    (sym (list_tree-append view before xs x) ∙ ap (list_tree view before) (sym more)) (list_ends sep one fails)

-- A spelling behind which a token of `on` stands is no hindrance to going on.
pub spelt_short : {tokens : List Token} {grammar : ℕ → Form} {on : Token → Bool} {f : Form} {i j k : ℕ} {a : Tree}
    → IsSpelt tokens grammar closed f i a j → At tokens j on → j ≤ k → Stops tokens grammar on f i k
spelt_short {tokens} {grammar} {on} {f} {i} {j} {k} {a} one here order =
    record {
      order = let first = spelt_order one in omega arith;
      unspelt = λ m b s. go m b (one.only m b s);
      furthest =
          λ m b. let most = one.furthest m b in omega arith;
    }
  where
    go : (m : ℕ) (b : Tree) → ((m ≡ j) × (b ≡ a)) ⊎ At tokens m closed → At tokens m on
    go m b (inl e) = at_from (sym e.0) here
    go m b (inr never) = not_closed never

one_token : {tokens : List Token} {grammar : ℕ → Form} {test : Token → Bool} {i k : ℕ} {a : Tree}
    → Spells tokens grammar (Keep test) i k a → k ≡ i + 1
one_token (S.keep e ok next) = next

-- A name with no parenthesis behind it is no arc with a number.
name_arc : {tokens : List Token} {grammar : ℕ → Form} {i k : ℕ} {a : Tree}
    → (passes is_name (slice_get tokens i) && not (passes (is_sign_of (codes "(")) (slice_get tokens (i + 1)))) ≡ true
    → IsSpelt tokens grammar closed (Keep is_name) i a k → Stops tokens grammar (is_sign_of (codes "(")) arc i k
name_arc {tokens} {grammar} {i} {k} {a} bare one = stops_or
    (stops_later (spelt_order one)
    (stops_wider (is_sign_of (codes "("))
    (keep_fault (passes_false is_name is_number (slice_get tokens i)
    (λ t e. at_name false is_number (λ at text. refl) t e)
    (first_so (passes is_name (slice_get tokens i))
    (not (passes (is_sign_of (codes "(")) (slice_get tokens (i + 1)))) bare))).stops))
    (stops_wider (is_sign_of (codes "("))
    (fault_rest one apart_closed
    (fault_front apart_closed
    (marks_fault (subst (λ (x : ℕ). passes (is_sign_of (codes "(")) (slice_get tokens x) ≡ false)
    (sym (one_token one.spelt)) absent)))).stops)
  where
    negated : (b : Bool) → not b ≡ true → b ≡ false
    negated true e = sym e
    negated false e = refl

    absent : passes (is_sign_of (codes "(")) (slice_get tokens (i + 1)) ≡ false
    absent = negated (passes (is_sign_of (codes "(")) (slice_get tokens (i + 1)))
        (second_so (passes is_name (slice_get tokens i))
        (not (passes (is_sign_of (codes "(")) (slice_get tokens (i + 1)))) bare)

pub bare_name : {tokens : List Token} {grammar : ℕ → Form} {i k : ℕ} {a : Tree}
    → (passes is_name (slice_get tokens i) && not (passes (is_sign_of (codes "(")) (slice_get tokens (i + 1)))) ≡ true
    → IsSpelt tokens grammar closed (Keep is_name) i a k
    → IsSpelt tokens grammar (is_sign_of (codes "(")) first_arc i (Second a) k
bare_name bare one = spelt_second (name_arc bare one) (spelt_wider (is_sign_of (codes "(")) one)

pub bare_name_fault : {tokens : List Token} {grammar : ℕ → Form} {i k : ℕ}
    → (passes is_name (slice_get tokens i) && not (passes (is_sign_of (codes "(")) (slice_get tokens (i + 1)))) ≡ true
    → IsFault tokens grammar closed (Keep is_name) i k → IsFault tokens grammar (is_sign_of (codes "(")) first_arc i k
bare_name_fault {tokens} {grammar} {i} {k} bare r =
    absurd (not_closed (r.stops.unspelt (i + 1) (Leaf there.0) (S.keep there.1 there.2 refl)))
  where
    there : (t : Token) × (slice_get tokens i ≡ Some t) × (is_name t ≡ true)
    there = token_there tokens i is_name
        (first_so (passes is_name (slice_get tokens i))
        (not (passes (is_sign_of (codes "(")) (slice_get tokens (i + 1)))) bare)

-- Where no bare name stands, the first arc has its number.
arc_name : {tokens : List Token} {grammar : ℕ → Form} {i k : ℕ}
    → (passes is_name (slice_get tokens i) && not (passes (is_sign_of (codes "(")) (slice_get tokens (i + 1)))) ≡ false
    → ((m : ℕ) → Begins tokens grammar arc i m → m ≤ k)
    → Stops tokens grammar (is_sign_of (codes "(")) (Keep is_name) i k
arc_name {tokens} {grammar} {i} {k} other most =
    record { order = most i B.no_tokens; unspelt = unspelt; furthest = furthest }
  where
    rule : (a b : Bool) → a ≡ true → (a && not b) ≡ false → b ≡ true
    rule true true e f = refl
    rule true false e f = absurd (cc f)
    rule false b e f = absurd (cc e)

    unspelt : (m : ℕ) (b : Tree) → Spells tokens grammar (Keep is_name) i m b → At tokens m (is_sign_of (codes "("))
    unspelt m b (S.keep e ok next) =
        at_from (sym next) (record {
          passed =
              rule (passes is_name (slice_get tokens i)) (passes (is_sign_of (codes "(")) (slice_get tokens (i + 1)))
              (ap (passes is_name) e ∙ ok) other;
        })

    furthest : (m : ℕ) → Begins tokens grammar (Keep is_name) i m → m ≤ k
    furthest m B.no_tokens = most i B.no_tokens
    furthest m (B.token here next) = most m (B.second (B.front (B.token here next)))

pub numbered_arc : {tokens : List Token} {grammar : ℕ → Form} {i k : ℕ} {a : Tree}
    → (passes is_name (slice_get tokens i) && not (passes (is_sign_of (codes "(")) (slice_get tokens (i + 1)))) ≡ false
    → IsSpelt tokens grammar closed arc i a k → IsSpelt tokens grammar (is_sign_of (codes "(")) first_arc i (First a) k
numbered_arc other one = spelt_first (spelt_wider (is_sign_of (codes "(")) one) (arc_name other one.furthest)

pub numbered_arc_fault : {tokens : List Token} {grammar : ℕ → Form} {i k : ℕ}
    → (passes is_name (slice_get tokens i) && not (passes (is_sign_of (codes "(")) (slice_get tokens (i + 1)))) ≡ false
    → IsFault tokens grammar closed arc i k → IsFault tokens grammar (is_sign_of (codes "(")) first_arc i k
numbered_arc_fault other one =
    fault_first (fault_wider (is_sign_of (codes "(")) one) (arc_name other one.stops.furthest)

-- no arc begins with the brace that ends an object identifier
pub arcs_apart : {tokens : List Token} {grammar : ℕ → Form} → Apart tokens grammar is_arc_start (sign (codes "}"))
arcs_apart {tokens} {grammar} = apart_by unknown heads_unknown (sign (codes "}")) refl never
  where
    either : (t : Token) (a b : Bool) → is_number t ≡ a → is_name t ≡ b → (a || b) ≡ true
        → is_sign_of (codes "}") t ≡ false
    either t true b e f h = at_number false (is_sign_of (codes "}")) (λ at text. refl) t e
    either t false b e f h = at_name false (is_sign_of (codes "}")) (λ at text. refl) t (f ∙ h)

    never : (t : Token) → is_arc_start t ≡ true → starts unknown (sign (codes "}")) t ≡ false
    never t e = either t (is_number t) (is_name t) refl refl e

-- what a list needs, where a part is closed, or goes on with tokens that are no separators
pub separates_closed : {tokens : List Token} {separator : Token → Bool} → Separates tokens separator closed separator
separates_closed = record {
  separates = λ k here. here;
  continues = λ k here. not_closed here;
  apart =
      λ k here now. not_closed here;
}

pub at_both : {tokens : List Token} {k : ℕ} {p q : Token → Bool} → ((t : Token) → p t ≡ true → q t ≡ false)
    → At tokens k p → At tokens k q → ⊥
at_both {tokens} {k} {p} {q} never here now = let f = passes_false p q (slice_get tokens k) never here.passed in let g =
    now.passed in cc

pub separates_by : {tokens : List Token} {separator part : Token → Bool}
    → ((t : Token) → part t ≡ true → separator t ≡ false) → Separates tokens separator part (either separator part)
separates_by {tokens} {separator} {part} never =
    record {
      separates = λ k here. at_wider (either separator part) (λ t e. or_left (separator t) (part t) e) here;
      continues = λ k here. at_wider (either separator part) (λ t e. or_right (separator t) (part t) e) here;
      apart =
          λ k here now. at_both never here now;
    }

-- what is apart from two kinds of tokens
pub apart_either : {tokens : List Token} {grammar : ℕ → Form} {p q : Token → Bool} {g : Form} → Apart tokens grammar p g
    → Apart tokens grammar q g → Apart tokens grammar (either p q) g
apart_either {tokens} {grammar} {p} {q} {g} one two =
    record { apart = λ i here. go i (slice_get tokens i) refl here.passed }
  where
    found : (i : ℕ) (t : Token) → slice_get tokens i ≡ Some t → (a b : Bool) → p t ≡ a → q t ≡ b → (a || b) ≡ true
        → Stops tokens grammar closed g i i
    found i t is true b e f h = one.apart i (record { passed = ap (passes p) is ∙ e })
    found i t is false b e f h = two.apart i (record { passed = ap (passes q) is ∙ (f ∙ h) })

    go : (i : ℕ) (x : Option Token) → slice_get tokens i ≡ x → passes (either p q) x ≡ true
        → Stops tokens grammar closed g i i
    go i None is pass = absurd (cc pass)
    go i (Some t) is pass = found i t is (p t) (q t) refl refl pass

-- a form that is spelt by no fewer than one token has its first token there
pub spelt_within : {tokens : List Token} {grammar : ℕ → Form} (named : Firsts) → Heads grammar named
    → {on : Token → Bool} {f : Form} {i k : ℕ} {a : Tree} → skips named f ≡ false → IsSpelt tokens grammar on f i a k
    → i < length tokens
spelt_within {tokens} named heads {on} {f} {i} {k} full one = go (spells_first named heads one.spelt)
  where
    go : ((k ≡ i) × (skips named f ≡ true)) ⊎ ((i < k) × At tokens i (starts named f)) → i < length tokens
    go (inl p) = absurd (let q = p.1 in cc (q, full))
    go (inr p) = at_within tokens i (starts named f) p.1.passed

-- what is read with an equal tree
pub spelt_as : {tokens : List Token} {grammar : ℕ → Form} {on : Token → Bool} {f : Form} {i k : ℕ} {a b : Tree} → a ≡ b
    → IsSpelt tokens grammar on f i b k → IsSpelt tokens grammar on f i a k
spelt_as {tokens} {grammar} {on} {f} {i} {k} {a} {b} e r =
    subst (λ (x : Tree). IsSpelt tokens grammar on f i x k) (sym e) r

-- one of two is one of a list of two
pub one_of_two : (a b : Bool) → (a || b) ≡ true → (a || (b || false)) ≡ true
one_of_two true b e = refl
one_of_two false true e = refl
one_of_two false false e = e

pub one_word : (a : Bool) → (a || false) ≡ true → a ≡ true
one_word true e = refl
one_word false e = e
