-- Spells: the tokens from one place to another spell a form, and this is what they say (docs/PROFILE.md,
-- section 2).
use Rattle.std.specs.Prelude.{◌≡◌, ℕ, ◌+◌, Bool, true, false, List, [], ◌∷◌, Option, None, Some, slice_get}
use Rattle.token_grammar.specs.declared.token.Token.{Token}
use Rattle.token_grammar.specs.Form.{Form, Marks, Keep, Then, Or, Maybe, Listed, Many, AnyOrder, Named, Slots, Tree}
use Rattle.token_grammar.specs.Form.{Bare, Leaf, Pair, First, Second, Absent, Present, After, Numbered, form_at}
use Rattle.token_grammar.specs.Form.{is_open, filled, is_complete, slots_tree}

-- whether there is a token, and it passes the test
abbrev pub passes : (Token → Bool) → Option Token → Bool
passes test None = false
passes test (Some token) = test token

-- the token at the place i passes the test
pub record At (tokens : List Token) (i : ℕ) (test : Token → Bool) : Type 0 where
  pub passed : passes test (slice_get tokens i) ≡ true

pub data Spells (tokens : List Token) (grammar : ℕ → Form) : Form → ℕ → ℕ → Tree → Type 0 where
  no_marks : {i : ℕ} → Spells tokens grammar (Marks []) i i Bare
  marks : {test : Token → Bool} {tests : List (Token → Bool)} {i k : ℕ} {a : Tree} → At tokens i test
      → Spells tokens grammar (Marks tests) (i + 1) k a → Spells tokens grammar (Marks (test ∷ tests)) i k a
  keep : {test : Token → Bool} {i k : ℕ} {token : Token} → slice_get tokens i ≡ Some token → test token ≡ true
      → k ≡ i + 1 → Spells tokens grammar (Keep test) i k (Leaf token)
  both : {f g : Form} {i j k : ℕ} {a b : Tree} → Spells tokens grammar f i j a → Spells tokens grammar g j k b
      → Spells tokens grammar (Then f g) i k (Pair a b)
  first : {f g : Form} {i k : ℕ} {a : Tree} → Spells tokens grammar f i k a
      → Spells tokens grammar (Or f g) i k (First a)
  second : {f g : Form} {i k : ℕ} {a : Tree} → Spells tokens grammar g i k a
      → Spells tokens grammar (Or f g) i k (Second a)
  absent : {f : Form} {i : ℕ} → Spells tokens grammar (Maybe f) i i Absent
  present : {f : Form} {i k : ℕ} {a : Tree} → Spells tokens grammar f i k a
      → Spells tokens grammar (Maybe f) i k (Present a)
  last : {separator : Token → Bool} {f : Form} {s a : Tree} {i k : ℕ} → Spells tokens grammar f i k a
      → Spells tokens grammar (Listed separator s f) i k (After s a)
  more : {separator : Token → Bool} {f : Form} {s a b : Tree} {i j k : ℕ} → Spells tokens grammar f i j a
      → At tokens j separator → Spells tokens grammar (Listed separator (After s a) f) (j + 1) k b
      → Spells tokens grammar (Listed separator s f) i k b
  no_more : {f : Form} {s : Tree} {i : ℕ} → Spells tokens grammar (Many s f) i i s
  another : {f : Form} {s a b : Tree} {i j k : ℕ} → Spells tokens grammar f i j a
      → Spells tokens grammar (Many (After s a) f) j k b → Spells tokens grammar (Many s f) i k b
  -- all needed clauses came, and no further clause comes
  enough : {s : Slots} {i : ℕ} {a : Tree} → is_complete s ≡ true → a ≡ slots_tree s
      → Spells tokens grammar (AnyOrder s) i i a
  -- the clause at the place n, which didn't come yet, comes next
  clause : {s : Slots} {i j k : ℕ} {a b : Tree} (n : ℕ) → is_open n s ≡ true → Spells tokens grammar (form_at n s) i j a
      → Spells tokens grammar (AnyOrder (filled n a s)) j k b → Spells tokens grammar (AnyOrder s) i k b
  -- the number of the document stands in no text: it is 0
  named : {n i k : ℕ} {a : Tree} → Spells tokens grammar (grammar n) i k a
      → Spells tokens grammar (Named n) i k (Numbered 0 a)
