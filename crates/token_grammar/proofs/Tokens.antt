-- Laws on single tokens and on tokens in a row.
use Rattle.std.proofs.Common.{◌≡◌, ℕ, ◌+◌, ◌≤◌, Bool, true, false, List, [], ◌∷◌, Some, ◌⊎◌, inl, refl, sym, ◌∙◌, ap}
use Rattle.std.proofs.Common.{subst, arith, slice_get}
use Rattle.token_grammar.specs.declared.token.Token.{Token}
use Rattle.token_grammar.specs.Form.{Form, Tree, Marks, Keep, Bare, Leaf}
use Rattle.token_grammar.specs.Spelling as S
use Rattle.token_grammar.specs.Spelling.{At, passes, Spells}
use Rattle.token_grammar.specs.Beginning as B
use Rattle.token_grammar.specs.Beginning.{Begins}
use Rattle.token_grammar.specs.Outcome.{closed, IsFault, IsSpelt}
use Rattle.token_grammar.proofs.Places.{at_token}
use Rattle.token_grammar.proofs.Heads.{at_not}
use Rattle.token_grammar.proofs.Sequences.{spelt_order}

-- no tokens spell the empty row, and none begin it
pub no_marks_spelt : {tokens : List Token} {grammar : ℕ → Form} {i : ℕ}
    → IsSpelt tokens grammar closed (Marks []) i Bare i
no_marks_spelt {tokens} {grammar} {i} = record { spelt = S.no_marks; only = only; furthest = furthest }
  where
    only : (k : ℕ) (b : Tree) → Spells tokens grammar (Marks []) i k b → ((k ≡ i) × (b ≡ Bare)) ⊎ At tokens k closed
    only k b S.no_marks = inl (refl, refl)

    furthest : (k : ℕ) → Begins tokens grammar (Marks []) i k → k ≤ i
    furthest k B.no_tokens = omega arith

-- the first token of a row is there, and the others are read
pub marks_spelt : {tokens : List Token} {grammar : ℕ → Form} {test : Token → Bool} {tests : List (Token → Bool)}
    {i k : ℕ} → At tokens i test → IsSpelt tokens grammar closed (Marks tests) (i + 1) Bare k
    → IsSpelt tokens grammar closed (Marks (test ∷ tests)) i Bare k
marks_spelt {tokens} {grammar} {test} {tests} {i} {k} here others =
    record { spelt = S.marks here others.spelt; only = only; furthest = furthest }
  where
    only : (m : ℕ) (b : Tree) → Spells tokens grammar (Marks (test ∷ tests)) i m b → ((m ≡ k) × (b ≡ Bare))
        ⊎ At tokens m closed
    only m b (S.marks now t) = others.only m b t

    furthest : (m : ℕ) → Begins tokens grammar (Marks (test ∷ tests)) i m → m ≤ k
    furthest m B.no_tokens = let order = spelt_order others in omega arith
    furthest m (B.mark now b) = others.furthest m b

-- the first token of a row is not there
pub marks_fault : {tokens : List Token} {grammar : ℕ → Form} {test : Token → Bool} {tests : List (Token → Bool)} {i : ℕ}
    → passes test (slice_get tokens i) ≡ false → IsFault tokens grammar closed (Marks (test ∷ tests)) i i
marks_fault {tokens} {grammar} {test} {tests} {i} fails =
    record { begun = B.no_tokens; stops = record { order = omega arith; unspelt = unspelt; furthest = furthest } }
  where
    unspelt : (m : ℕ) (b : Tree) → Spells tokens grammar (Marks (test ∷ tests)) i m b → At tokens m closed
    unspelt m b (S.marks now t) = at_not tokens i test fails now

    furthest : (m : ℕ) → Begins tokens grammar (Marks (test ∷ tests)) i m → m ≤ i
    furthest m B.no_tokens = omega arith
    furthest m (B.mark now b) = at_not tokens i test fails now

-- the first token of a row is there, and the others have their fault
pub marks_rest_fault : {tokens : List Token} {grammar : ℕ → Form} {test : Token → Bool} {tests : List (Token → Bool)}
    {i k : ℕ} → At tokens i test → IsFault tokens grammar closed (Marks tests) (i + 1) k
    → IsFault tokens grammar closed (Marks (test ∷ tests)) i k
marks_rest_fault {tokens} {grammar} {test} {tests} {i} {k} here others =
    record {
      begun = B.mark here others.begun;
      stops =
          record { order = let order = others.stops.order in omega arith; unspelt = unspelt; furthest = furthest };
    }
  where
    unspelt : (m : ℕ) (b : Tree) → Spells tokens grammar (Marks (test ∷ tests)) i m b → At tokens m closed
    unspelt m b (S.marks now t) = others.stops.unspelt m b t

    furthest : (m : ℕ) → Begins tokens grammar (Marks (test ∷ tests)) i m → m ≤ k
    furthest m B.no_tokens = let order = others.stops.order in omega arith
    furthest m (B.mark now b) = others.stops.furthest m b

-- a row of one token
pub mark_spelt : {tokens : List Token} {grammar : ℕ → Form} {test : Token → Bool} {i : ℕ}
    → passes test (slice_get tokens i) ≡ true → IsSpelt tokens grammar closed (Marks (test ∷ [])) i Bare (i + 1)
mark_spelt pass = marks_spelt (record { passed = pass }) no_marks_spelt

-- a token that is kept
pub keep_spelt : {tokens : List Token} {grammar : ℕ → Form} {test : Token → Bool} {i : ℕ} {token : Token}
    → slice_get tokens i ≡ Some token → test token ≡ true
    → IsSpelt tokens grammar closed (Keep test) i (Leaf token) (i + 1)
keep_spelt {tokens} {grammar} {test} {i} {token} e ok =
    record { spelt = S.keep e ok refl; only = only; furthest = furthest }
  where
    same : (x y : Token) → slice_get tokens i ≡ Some x → slice_get tokens i ≡ Some y → Leaf y ≡ Leaf x
    same x y p q = cc (p, q)

    only : (m : ℕ) (b : Tree) → Spells tokens grammar (Keep test) i m b → ((m ≡ i + 1) × (b ≡ Leaf token))
        ⊎ At tokens m closed
    only m b (S.keep {token = x} f now next) = inl (next, same token x e f)

    furthest : (m : ℕ) → Begins tokens grammar (Keep test) i m → m ≤ i + 1
    furthest m B.no_tokens = omega arith
    furthest m (B.token now next) = omega (arith, next)

pub keep_fault : {tokens : List Token} {grammar : ℕ → Form} {test : Token → Bool} {i : ℕ}
    → passes test (slice_get tokens i) ≡ false → IsFault tokens grammar closed (Keep test) i i
keep_fault {tokens} {grammar} {test} {i} fails =
    record { begun = B.no_tokens; stops = record { order = omega arith; unspelt = unspelt; furthest = furthest } }
  where
    unspelt : (m : ℕ) (b : Tree) → Spells tokens grammar (Keep test) i m b → At tokens m closed
    unspelt m b (S.keep {token = x} e ok next) = at_not tokens i test fails (at_token tokens i test x e ok)

    furthest : (m : ℕ) → Begins tokens grammar (Keep test) i m → m ≤ i
    furthest m B.no_tokens = omega arith
    furthest m (B.token now next) = at_not tokens i test fails now

-- what is read up to an equal place
pub spelt_to : {tokens : List Token} {grammar : ℕ → Form} {on : Token → Bool} {f : Form} {i j k : ℕ} {a : Tree} → j ≡ k
    → IsSpelt tokens grammar on f i a j → IsSpelt tokens grammar on f i a k
spelt_to {tokens} {grammar} {on} {f} {i} {j} {k} {a} e r = subst (λ (x : ℕ). IsSpelt tokens grammar on f i a x) e r

-- a token that is there and passes the test is kept: a copy of it
pub kept : {tokens : List Token} {grammar : ℕ → Form} {test : Token → Bool} {i k : ℕ} {token copy : Token}
    → slice_get tokens i ≡ Some token → copy ≡ token → k ≡ i + 1 → passes test (slice_get tokens i) ≡ true
    → IsSpelt tokens grammar closed (Keep test) i (Leaf copy) k
kept {tokens} {grammar} {test} {i} {k} {token} {copy} is same next pass =
    spelt_to (sym next) (subst (λ (x : Token). IsSpelt tokens grammar closed (Keep test) i (Leaf x) (i + 1)) (sym same)
    (keep_spelt is (sym (ap (passes test) is) ∙ pass)))
