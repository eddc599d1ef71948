-- Laws on lists, repeats and clauses in any order: one turn leads from the form to what is left of it.
use Rattle.std.proofs.Common.{◌≡◌, ℕ, ◌+◌, ◌≤◌, ◌<◌, Bool, false, List, [], ◌∷◌, ◌⊎◌, inl, inr, refl, sym, ◌∙◌, ap}
use Rattle.std.proofs.Common.{subst, arith, slice_get, length, map, drop, get_or, add-one}
use Rattle.std.proofs.Math.Seq.{drop-cons}
use Rattle.std.proofs.Math.ListN.{drop_of_length-le}
use Rattle.token_grammar.specs.declared.token.Token.{Token}
use Rattle.token_grammar.specs.Form.{Form, Tree, Bare, Marks, Listed, Many, After}
use Rattle.token_grammar.specs.Spelling as S
use Rattle.token_grammar.specs.Spelling.{At, passes, Spells}
use Rattle.token_grammar.specs.Beginning as B
use Rattle.token_grammar.specs.Beginning.{Begins}
pub use Rattle.token_grammar.specs.Turns.{Leads}
use Rattle.token_grammar.specs.Outcome.{closed, Stops, IsFault, IsSpelt}
use Rattle.token_grammar.proofs.Places.{spells_begins, spells_from, begins_from, at_from}
use Rattle.token_grammar.proofs.Tokens.{no_marks_spelt}
use Rattle.token_grammar.proofs.Sequences.{Apart, not_closed, spelt_order}

pub leads_start : {tokens : List Token} {grammar : ℕ → Form} {on : Token → Bool} {f : Form} {i : ℕ}
    → Leads tokens grammar on f i f i
leads_start = record {
  order = omega arith;
  spells = λ k a s. s;
  only = λ k a s. inl s;
  begins = λ k b. b;
  furthest =
      λ k b. inr b;
}

pub leads_on : {tokens : List Token} {grammar : ℕ → Form} {on : Token → Bool} {f g h : Form} {i j k : ℕ}
    → Leads tokens grammar on f i g j → Leads tokens grammar on g j h k → Leads tokens grammar on f i h k
leads_on {tokens} {grammar} {on} {f} {g} {h} {i} {j} {k} one two = record {
  order = let first = one.order in let second = two.order in omega arith;
  spells = λ m a s. one.spells m a (two.spells m a s);
  only = λ m a s. only m a (one.only m a s);
  begins = λ m b. one.begins m (two.begins m b);
  furthest = λ m b. furthest m (one.furthest m b);
}
  where
    only : (m : ℕ) (a : Tree) → Spells tokens grammar g j m a ⊎ At tokens m on → Spells tokens grammar h k m a
        ⊎ At tokens m on
    only m a (inl s) = two.only m a s
    only m a (inr here) = inr here

    furthest : (m : ℕ) → (m ≤ j) ⊎ Begins tokens grammar g j m → (m ≤ k) ⊎ Begins tokens grammar h k m
    furthest m (inl most) = inl (let second = two.order in omega arith)
    furthest m (inr b) = two.furthest m b

-- what is read of what is left is read of the whole
pub spelt_led : {tokens : List Token} {grammar : ℕ → Form} {on : Token → Bool} {f g : Form} {i j k : ℕ} {a : Tree}
    → Leads tokens grammar on f i g j → IsSpelt tokens grammar on g j a k → IsSpelt tokens grammar on f i a k
spelt_led {tokens} {grammar} {on} {f} {g} {i} {j} {k} {a} one two =
    record {
      spelt = one.spells k a two.spelt;
      only = λ m b s. only m b (one.only m b s);
      furthest =
          λ m b. furthest m (one.furthest m b);
    }
  where
    only : (m : ℕ) (b : Tree) → Spells tokens grammar g j m b ⊎ At tokens m on → ((m ≡ k) × (b ≡ a)) ⊎ At tokens m on
    only m b (inl s) = two.only m b s
    only m b (inr here) = inr here

    furthest : (m : ℕ) → (m ≤ j) ⊎ Begins tokens grammar g j m → m ≤ k
    furthest m (inl most) = let first = spelt_order two in omega arith
    furthest m (inr b) = two.furthest m b

pub stops_led : {tokens : List Token} {grammar : ℕ → Form} {on : Token → Bool} {f g : Form} {i j k : ℕ}
    → Leads tokens grammar on f i g j → Stops tokens grammar on g j k → Stops tokens grammar on f i k
stops_led {tokens} {grammar} {on} {f} {g} {i} {j} {k} one two =
    record {
      order = let first = one.order in let second = two.order in omega arith;
      unspelt =
          λ m b s. unspelt m b (one.only m b s);
      furthest = λ m b. furthest m (one.furthest m b);
    }
  where
    unspelt : (m : ℕ) (b : Tree) → Spells tokens grammar g j m b ⊎ At tokens m on → At tokens m on
    unspelt m b (inl s) = two.unspelt m b s
    unspelt m b (inr here) = here

    furthest : (m : ℕ) → (m ≤ j) ⊎ Begins tokens grammar g j m → m ≤ k
    furthest m (inl most) = let first = two.order in omega arith
    furthest m (inr b) = two.furthest m b

pub fault_led : {tokens : List Token} {grammar : ℕ → Form} {on : Token → Bool} {f g : Form} {i j k : ℕ}
    → Leads tokens grammar on f i g j → IsFault tokens grammar on g j k → IsFault tokens grammar on f i k
fault_led {k = k} one two = record { begun = one.begins k two.begun; stops = stops_led one two.stops }

-- the form of a part with another tree for what came so far
listed_at : {tokens : List Token} {grammar : ℕ → Form} {separator : Token → Bool} {f : Form} {s a b : Tree} {i k : ℕ}
    {c : Tree} → a ≡ b → Spells tokens grammar (Listed separator (After s a) f) i k c
    → Spells tokens grammar (Listed separator (After s b) f) i k c
listed_at {tokens} {grammar} {separator} {f} {s} {a} {b} {i} {k} {c} e t =
    subst (λ (x : Tree). Spells tokens grammar (Listed separator (After s x) f) i k c) e t

listed_begins_at : {tokens : List Token} {grammar : ℕ → Form} {separator : Token → Bool} {f : Form} {s a b : Tree}
    {i k : ℕ} → a ≡ b → Begins tokens grammar (Listed separator (After s a) f) i k
    → Begins tokens grammar (Listed separator (After s b) f) i k
listed_begins_at {tokens} {grammar} {separator} {f} {s} {a} {b} {i} {k} e t =
    subst (λ (x : Tree). Begins tokens grammar (Listed separator (After s x) f) i k) e t

many_at : {tokens : List Token} {grammar : ℕ → Form} {f : Form} {s a b : Tree} {i k : ℕ} {c : Tree} → a ≡ b
    → Spells tokens grammar (Many (After s a) f) i k c → Spells tokens grammar (Many (After s b) f) i k c
many_at {tokens} {grammar} {f} {s} {a} {b} {i} {k} {c} e t =
    subst (λ (x : Tree). Spells tokens grammar (Many (After s x) f) i k c) e t

many_begins_at : {tokens : List Token} {grammar : ℕ → Form} {f : Form} {s a b : Tree} {i k : ℕ} → a ≡ b
    → Begins tokens grammar (Many (After s a) f) i k → Begins tokens grammar (Many (After s b) f) i k
many_begins_at {tokens} {grammar} {f} {s} {a} {b} {i} {k} e t =
    subst (λ (x : Tree). Begins tokens grammar (Many (After s x) f) i k) e t

-- What a list needs of the tokens with which it may go on: the separator is one of them, and so is
-- each token with which a part may go on, which is no separator.
pub record Separates (tokens : List Token) (separator part on : Token → Bool) : Type 0 where
  pub separates : (k : ℕ) → At tokens k separator → At tokens k on
  pub continues : (k : ℕ) → At tokens k part → At tokens k on
  pub apart : (k : ℕ) → At tokens k part → At tokens k separator → ⊥

-- A part and a separator were read.
pub list_leads : {tokens : List Token} {grammar : ℕ → Form} {separator part on : Token → Bool} {s a : Tree} {f : Form}
    {i j : ℕ} → Separates tokens separator part on → IsSpelt tokens grammar part f i a j → At tokens j separator
    → Leads tokens grammar on (Listed separator s f) i (Listed separator (After s a) f) (j + 1)
list_leads {tokens} {grammar} {separator} {part} {on} {s} {a} {f} {i} {j} sep one here = record {
  order = let first = spelt_order one in omega arith;
  spells = λ k b t. S.more one.spelt here t;
  only = only;
  begins = λ k b. B.more one.spelt here b;
  furthest = furthest;
}
  where
    ends : (k : ℕ) (x : Tree) → ((k ≡ j) × (x ≡ a)) ⊎ At tokens k part → At tokens k on
    ends k x (inl e) = sep.separates k (at_from (sym e.0) here)
    ends k x (inr next) = sep.continues k next

    goes : (k m : ℕ) (x b : Tree) → At tokens m separator → ((m ≡ j) × (x ≡ a)) ⊎ At tokens m part
        → Spells tokens grammar (Listed separator (After s x) f) (m + 1) k b
        → Spells tokens grammar (Listed separator (After s a) f) (j + 1) k b
    goes k m x b now (inl e) t = spells_from (ap (λ y. y + 1) e.0) (listed_at e.1 t)
    goes k m x b now (inr next) t = absurd (sep.apart m next now)

    only : (k : ℕ) (b : Tree) → Spells tokens grammar (Listed separator s f) i k b
        → Spells tokens grammar (Listed separator (After s a) f) (j + 1) k b ⊎ At tokens k on
    only k b (S.last {a = x} t) = inr (ends k x (one.only k x t))
    only k b (S.more {a = x} {b = y} {j = m} t now r) = inl (goes k m x y now (one.only m x t) r)

    begun : (k m : ℕ) (x : Tree) → At tokens m separator → ((m ≡ j) × (x ≡ a)) ⊎ At tokens m part
        → Begins tokens grammar (Listed separator (After s x) f) (m + 1) k
        → Begins tokens grammar (Listed separator (After s a) f) (j + 1) k
    begun k m x now (inl e) t = begins_from (ap (λ y. y + 1) e.0) (listed_begins_at e.1 t)
    begun k m x now (inr next) t = absurd (sep.apart m next now)

    furthest : (k : ℕ) → Begins tokens grammar (Listed separator s f) i k → (k ≤ j + 1)
        ⊎ Begins tokens grammar (Listed separator (After s a) f) (j + 1) k
    furthest k B.no_tokens = inl (let first = spelt_order one in omega arith)
    furthest k (B.item b) = inl (let most = one.furthest k b in omega arith)
    furthest k (B.more {a = x} {j = m} t now b) = inr (begun k m x now (one.only m x t) b)

-- A part was read, and no separator stands behind it.
pub list_ends : {tokens : List Token} {grammar : ℕ → Form} {separator part on : Token → Bool} {s a : Tree} {f : Form}
    {i j : ℕ} → Separates tokens separator part on → IsSpelt tokens grammar part f i a j
    → passes separator (slice_get tokens j) ≡ false → IsSpelt tokens grammar on (Listed separator s f) i (After s a) j
list_ends {tokens} {grammar} {separator} {part} {on} {s} {a} {f} {i} {j} sep one fails =
    record { spelt = S.last one.spelt; only = only; furthest = furthest }
  where
    gone : {A : Type 0} → At tokens j separator → A
    gone here = absurd (let p = here.passed in cc (p, fails))

    ends : (k : ℕ) (x : Tree) → ((k ≡ j) × (x ≡ a)) ⊎ At tokens k part → ((k ≡ j) × (After s x ≡ After s a))
        ⊎ At tokens k on
    ends k x (inl e) = inl (e.0, ap (After s) e.1)
    ends k x (inr next) = inr (sep.continues k next)

    goes : {A : Type 0} (m : ℕ) (x : Tree) → At tokens m separator → ((m ≡ j) × (x ≡ a)) ⊎ At tokens m part → A
    goes m x now (inl e) = gone (at_from e.0 now)
    goes m x now (inr next) = absurd (sep.apart m next now)

    only : (k : ℕ) (b : Tree) → Spells tokens grammar (Listed separator s f) i k b → ((k ≡ j) × (b ≡ After s a))
        ⊎ At tokens k on
    only k b (S.last {a = x} t) = ends k x (one.only k x t)
    only k b (S.more {a = x} {j = m} t now r) = goes m x now (one.only m x t)

    furthest : (k : ℕ) → Begins tokens grammar (Listed separator s f) i k → k ≤ j
    furthest k B.no_tokens = spelt_order one
    furthest k (B.item b) = one.furthest k b
    furthest k (B.more {a = x} {j = m} t now b) = goes m x now (one.only m x t)

-- A part has its fault.
pub list_fault : {tokens : List Token} {grammar : ℕ → Form} {separator part on : Token → Bool} {s : Tree} {f : Form}
    {i k : ℕ} → Separates tokens separator part on → IsFault tokens grammar part f i k
    → IsFault tokens grammar on (Listed separator s f) i k
list_fault {tokens} {grammar} {separator} {part} {on} {s} {f} {i} {k} sep one =
    record {
      begun = B.item one.begun;
      stops =
          record { order = one.stops.order; unspelt = unspelt; furthest = furthest };
    }
  where
    unspelt : (m : ℕ) (b : Tree) → Spells tokens grammar (Listed separator s f) i m b → At tokens m on
    unspelt m b (S.last {a = x} t) = sep.continues m (one.stops.unspelt m x t)
    unspelt m b (S.more {a = x} {j = n} t now r) = absurd (sep.apart n (one.stops.unspelt n x t) now)

    furthest : (m : ℕ) → Begins tokens grammar (Listed separator s f) i m → m ≤ k
    furthest m B.no_tokens = one.stops.order
    furthest m (B.item b) = one.stops.furthest m b
    furthest m (B.more {a = x} {j = n} t now b) = absurd (sep.apart n (one.stops.unspelt n x t) now)

-- One more part of a repeat was read; `on` has the token with which it begins, and each token with
-- which a part may go on, with which no part begins.
pub many_leads : {tokens : List Token} {grammar : ℕ → Form} {part on : Token → Bool} {s a : Tree} {f : Form} {i j : ℕ}
    → At tokens i on → ((k : ℕ) → At tokens k part → At tokens k on) → Apart tokens grammar part f
    → IsSpelt tokens grammar part f i a j → Leads tokens grammar on (Many s f) i (Many (After s a) f) j
many_leads {tokens} {grammar} {part} {on} {s} {a} {f} {i} {j} comes wide away one = record {
  order = spelt_order one;
  spells = λ k b t. S.another one.spelt t;
  only = only;
  begins = λ k b. B.another one.spelt b;
  furthest = furthest;
}
  where
    short : (m k : ℕ) (x b : Tree) → At tokens m part → Spells tokens grammar (Many x f) m k b → At tokens k on
    short m k x b next S.no_more = wide m next
    short m k x b next (S.another {a = y} {j = n} t r) = not_closed ((away.apart m next).unspelt n y t)

    goes : (k m : ℕ) (x b : Tree) → ((m ≡ j) × (x ≡ a)) ⊎ At tokens m part
        → Spells tokens grammar (Many (After s x) f) m k b → Spells tokens grammar (Many (After s a) f) j k b
        ⊎ At tokens k on
    goes k m x b (inl e) t = inl (spells_from e.0 (many_at e.1 t))
    goes k m x b (inr next) t = inr (short m k (After s x) b next t)

    only : (k : ℕ) (b : Tree) → Spells tokens grammar (Many s f) i k b
        → Spells tokens grammar (Many (After s a) f) j k b ⊎ At tokens k on
    only k b S.no_more = inr comes
    only k b (S.another {a = x} {b = y} {j = m} t r) = goes k m x y (one.only m x t) r

    ends : (m k : ℕ) (x : Tree) → m ≤ j → At tokens m part → Begins tokens grammar (Many x f) m k → k ≤ j
    ends m k x order next B.no_tokens = order
    ends m k x order next (B.one b) = let most = (away.apart m next).furthest k b in omega arith
    ends m k x order next (B.another {a = y} {j = n} t b) = not_closed ((away.apart m next).unspelt n y t)

    begun : (k m : ℕ) (x : Tree) → m ≤ j → ((m ≡ j) × (x ≡ a)) ⊎ At tokens m part
        → Begins tokens grammar (Many (After s x) f) m k → (k ≤ j) ⊎ Begins tokens grammar (Many (After s a) f) j k
    begun k m x order (inl e) t = inr (begins_from e.0 (many_begins_at e.1 t))
    begun k m x order (inr next) t = inl (ends m k (After s x) order next t)

    furthest : (k : ℕ) → Begins tokens grammar (Many s f) i k → (k ≤ j) ⊎ Begins tokens grammar (Many (After s a) f) j k
    furthest k B.no_tokens = inl (spelt_order one)
    furthest k (B.one b) = inl (one.furthest k b)
    furthest k (B.another {a = x} {j = m} t b) = begun k m x (one.furthest m (spells_begins t)) (one.only m x t) b

-- No further part comes.
pub many_ends : {tokens : List Token} {grammar : ℕ → Form} {on : Token → Bool} {s : Tree} {f : Form} {i : ℕ}
    → Stops tokens grammar closed f i i → IsSpelt tokens grammar on (Many s f) i s i
many_ends {tokens} {grammar} {on} {s} {f} {i} none = record { spelt = S.no_more; only = only; furthest = furthest }
  where
    only : (k : ℕ) (b : Tree) → Spells tokens grammar (Many s f) i k b → ((k ≡ i) × (b ≡ s)) ⊎ At tokens k on
    only k b S.no_more = inl (refl, refl)
    only k b (S.another {a = x} {j = m} t r) = not_closed (none.unspelt m x t)

    furthest : (k : ℕ) → Begins tokens grammar (Many s f) i k → k ≤ i
    furthest k B.no_tokens = omega arith
    furthest k (B.one b) = none.furthest k b
    furthest k (B.another {a = x} {j = m} t b) = not_closed (none.unspelt m x t)

-- A part has its fault.
pub many_fault : {tokens : List Token} {grammar : ℕ → Form} {part on : Token → Bool} {s : Tree} {f : Form} {i k : ℕ}
    → At tokens i on → ((m : ℕ) → At tokens m part → At tokens m on) → Apart tokens grammar part f
    → IsFault tokens grammar part f i k → IsFault tokens grammar on (Many s f) i k
many_fault {tokens} {grammar} {part} {on} {s} {f} {i} {k} comes wide away one =
    record {
      begun = B.one one.begun;
      stops =
          record { order = one.stops.order; unspelt = unspelt; furthest = furthest };
    }
  where
    short : (m n : ℕ) (x b : Tree) → At tokens m part → Spells tokens grammar (Many x f) m n b → At tokens n on
    short m n x b next S.no_more = wide m next
    short m n x b next (S.another {a = y} {j = p} t r) = not_closed ((away.apart m next).unspelt p y t)

    unspelt : (m : ℕ) (b : Tree) → Spells tokens grammar (Many s f) i m b → At tokens m on
    unspelt m b S.no_more = comes
    unspelt m b (S.another {a = x} {b = y} {j = n} t r) = short n m (After s x) y (one.stops.unspelt n x t) r

    ends : (m n : ℕ) (x : Tree) → m ≤ k → At tokens m part → Begins tokens grammar (Many x f) m n → n ≤ k
    ends m n x order next B.no_tokens = order
    ends m n x order next (B.one b) = let most = (away.apart m next).furthest n b in omega arith
    ends m n x order next (B.another {a = y} {j = p} t b) = not_closed ((away.apart m next).unspelt p y t)

    furthest : (m : ℕ) → Begins tokens grammar (Many s f) i m → m ≤ k
    furthest m B.no_tokens = one.stops.order
    furthest m (B.one b) = one.stops.furthest m b
    furthest m (B.another {a = x} {j = n} t b) =
        ends n m (After s x) (one.stops.furthest n (spells_begins t)) (one.stops.unspelt n x t) b

empty_row : {tokens : List Token} {grammar : ℕ → Form} {i k : ℕ} {a : Tree}
    → Spells tokens grammar (Marks []) i k a → k ≡ i
empty_row S.no_marks = refl

one_mark : {tokens : List Token} {grammar : ℕ → Form} {test : Token → Bool} {i k : ℕ} {a : Tree}
    → Spells tokens grammar (Marks (test ∷ [])) i k a → At tokens i test × (k ≡ i + 1)
one_mark (S.marks here t) = (here, empty_row t)

-- The first token of a row was read.
pub marks_lead : {tokens : List Token} {grammar : ℕ → Form} {test : Token → Bool} {tests : List (Token → Bool)}
    {i j : ℕ} → IsSpelt tokens grammar closed (Marks (test ∷ [])) i Bare j
    → Leads tokens grammar closed (Marks (test ∷ tests)) i (Marks tests) j
marks_lead {tokens} {grammar} {test} {tests} {i} {j} one = record {
  order = spelt_order one;
  spells = λ k a t. S.marks read.0 (spells_from read.1 t);
  only = λ k a t. inl (only k a t);
  begins = λ k b. B.mark read.0 (begins_from read.1 b);
  furthest = furthest;
}
  where
    read : At tokens i test × (j ≡ i + 1)
    read = one_mark one.spelt

    only : (k : ℕ) (a : Tree) → Spells tokens grammar (Marks (test ∷ tests)) i k a
        → Spells tokens grammar (Marks tests) j k a
    only k a (S.marks now t) = spells_from (sym read.1) t

    furthest : (k : ℕ) → Begins tokens grammar (Marks (test ∷ tests)) i k → (k ≤ j)
        ⊎ Begins tokens grammar (Marks tests) j k
    furthest k B.no_tokens = inl (spelt_order one)
    furthest k (B.mark now b) = inr (begins_from (sym read.1) b)

pub marks_front_fault : {tokens : List Token} {grammar : ℕ → Form} {test : Token → Bool} {tests : List (Token → Bool)}
    {i k : ℕ} → IsFault tokens grammar closed (Marks (test ∷ [])) i k
    → IsFault tokens grammar closed (Marks (test ∷ tests)) i k
marks_front_fault {tokens} {grammar} {test} {tests} {i} {k} one =
    record {
      begun = begun k one.begun;
      stops =
          record { order = one.stops.order; unspelt = unspelt; furthest = furthest };
    }
  where
    gone : {A : Type 0} → At tokens i test → A
    gone here = not_closed (one.stops.unspelt (i + 1) Bare (S.marks here S.no_marks))

    begun : (m : ℕ) → Begins tokens grammar (Marks (test ∷ [])) i m → Begins tokens grammar (Marks (test ∷ tests)) i m
    begun m B.no_tokens = B.no_tokens
    begun m (B.mark now b) = gone now

    unspelt : (m : ℕ) (b : Tree) → Spells tokens grammar (Marks (test ∷ tests)) i m b → At tokens m closed
    unspelt m b (S.marks now t) = gone now

    furthest : (m : ℕ) → Begins tokens grammar (Marks (test ∷ tests)) i m → m ≤ k
    furthest m B.no_tokens = one.stops.order
    furthest m (B.mark now b) = gone now

next : {A : Type 0} (test : A → Token → Bool) (words : List A) (n : ℕ) (word : A) → n < length words
    → drop n words ≡ get_or words n word ∷ drop (n + 1) words
next test words n word below =
    drop-cons words n word below ∙ ap (λ m. get_or words n word ∷ drop m words) (sym (add-one n))

-- The next of the words of a list was read, or has its fault.
pub words_lead : {tokens : List Token} {grammar : ℕ → Form} {whole : Form} {A : Type 0} (test : A → Token → Bool)
    (words : List A) (n : ℕ) (word : A) {i j k : ℕ} → n < length words
    → Leads tokens grammar closed whole i (Marks (map test (drop n words))) j
    → IsSpelt tokens grammar closed (Marks (test (get_or words n word) ∷ [])) j Bare k
    → Leads tokens grammar closed whole i (Marks (map test (drop (n + 1) words))) k
words_lead {tokens} {grammar} {whole} {A} test words n word {i} {j} {k} below before one =
    leads_on (subst (λ (x : List A). Leads tokens grammar closed whole i (Marks (map test x)) j)
    (next test words n word below) before) (marks_lead one)

pub words_fault : {tokens : List Token} {grammar : ℕ → Form} {whole : Form} {A : Type 0} (test : A → Token → Bool)
    (words : List A) (n : ℕ) (word : A) {i j k : ℕ} → n < length words
    → Leads tokens grammar closed whole i (Marks (map test (drop n words))) j
    → IsFault tokens grammar closed (Marks (test (get_or words n word) ∷ [])) j k
    → IsFault tokens grammar closed whole i k
words_fault {tokens} {grammar} {whole} {A} test words n word {i} {j} {k} below before one =
    fault_led (subst (λ (x : List A). Leads tokens grammar closed whole i (Marks (map test x)) j)
    (next test words n word below) before) (marks_front_fault one)

pub words_end : {tokens : List Token} {grammar : ℕ → Form} {whole : Form} {A : Type 0} (test : A → Token → Bool)
    (words : List A) (n : ℕ) {i k : ℕ} → length words ≤ n
    → Leads tokens grammar closed whole i (Marks (map test (drop n words))) k
    → IsSpelt tokens grammar closed whole i Bare k
words_end {tokens} {grammar} {whole} {A} test words n {i} {k} all before =
    spelt_led (subst (λ (x : List A). Leads tokens grammar closed whole i (Marks (map test x)) k)
    (drop_of_length-le words all) before) no_marks_spelt
