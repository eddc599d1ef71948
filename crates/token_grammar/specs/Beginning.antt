-- Begins: the tokens from one place to another begin a form (docs/PROFILE.md, section 2). Nothing is asked
-- of how the form could end. The form goes on with a token where the tokens up to and with it begin the
-- form.
use Rattle.std.specs.Prelude.{◌≡◌, ℕ, ◌+◌, Bool, true, List, ◌∷◌}
use Rattle.token_grammar.specs.declared.token.Token.{Token}
use Rattle.token_grammar.specs.Form.{Form, Marks, Keep, Then, Or, Maybe, Listed, Many, AnyOrder, Named, Slots, Tree}
use Rattle.token_grammar.specs.Form.{After, form_at, is_open, filled}
use Rattle.token_grammar.specs.Spelling.{At, Spells}

pub data Begins (tokens : List Token) (grammar : ℕ → Form) : Form → ℕ → ℕ → Type 0 where
  -- no tokens at all begin every form
  no_tokens : {f : Form} {i : ℕ} → Begins tokens grammar f i i
  -- a form of one token is begun by each token that spells it
  token : {test : Token → Bool} {i k : ℕ} → At tokens i test → k ≡ i + 1 → Begins tokens grammar (Keep test) i k
  -- a sequence: its first part is begun, or spelt, and then the rest is begun
  mark : {test : Token → Bool} {tests : List (Token → Bool)} {i k : ℕ} → At tokens i test
      → Begins tokens grammar (Marks tests) (i + 1) k → Begins tokens grammar (Marks (test ∷ tests)) i k
  front : {f g : Form} {i k : ℕ} → Begins tokens grammar f i k → Begins tokens grammar (Then f g) i k
  rest : {f g : Form} {i j k : ℕ} {a : Tree} → Spells tokens grammar f i j a → Begins tokens grammar g j k
      → Begins tokens grammar (Then f g) i k
  -- a choice: one of its alternatives is begun
  first : {f g : Form} {i k : ℕ} → Begins tokens grammar f i k → Begins tokens grammar (Or f g) i k
  second : {f g : Form} {i k : ℕ} → Begins tokens grammar g i k → Begins tokens grammar (Or f g) i k
  -- an optional part, and each repetition after the first, is a choice with its absence
  present : {f : Form} {i k : ℕ} → Begins tokens grammar f i k → Begins tokens grammar (Maybe f) i k
  item : {separator : Token → Bool} {f : Form} {s : Tree} {i k : ℕ} → Begins tokens grammar f i k
      → Begins tokens grammar (Listed separator s f) i k
  more : {separator : Token → Bool} {f : Form} {s a : Tree} {i j k : ℕ} → Spells tokens grammar f i j a
      → At tokens j separator → Begins tokens grammar (Listed separator (After s a) f) (j + 1) k
      → Begins tokens grammar (Listed separator s f) i k
  one : {f : Form} {s : Tree} {i k : ℕ} → Begins tokens grammar f i k → Begins tokens grammar (Many s f) i k
  another : {f : Form} {s a : Tree} {i j k : ℕ} → Spells tokens grammar f i j a
      → Begins tokens grammar (Many (After s a) f) j k → Begins tokens grammar (Many s f) i k
  -- clauses in any order are a choice between all their orders
  one_clause : {s : Slots} {i k : ℕ} (n : ℕ) → is_open n s ≡ true → Begins tokens grammar (form_at n s) i k
      → Begins tokens grammar (AnyOrder s) i k
  clause : {s : Slots} {i j k : ℕ} {a : Tree} (n : ℕ) → is_open n s ≡ true → Spells tokens grammar (form_at n s) i j a
      → Begins tokens grammar (AnyOrder (filled n a s)) j k → Begins tokens grammar (AnyOrder s) i k
  -- a named form is begun where the form that it stands for is
  named : {n i k : ℕ} → Begins tokens grammar (grammar n) i k → Begins tokens grammar (Named n) i k
