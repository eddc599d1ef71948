-- Form: what the texts of the compiler's grammars are made of, and Tree: what such a text says
-- (X.722, section 8; X.680, section 5).
use Rattle.std.specs.Prelude.{ℕ, zero, suc, Bool, true, false, List, Option, None, Some, is_some, is_none, ◌&&◌, not}
use Rattle.std.specs.Prelude.{◌||◌}
use Rattle.token_grammar.specs.declared.token.Token.{Token}

-- what the tokens of a form say
pub data Tree : Type 0 where
  -- tokens that aren't kept
  Bare : Tree
  -- a token
  Leaf : Token → Tree
  -- a sequence
  Pair : Tree → Tree → Tree
  -- a choice's first or second alternative
  First : Tree → Tree
  Second : Tree → Tree
  -- an optional part
  Absent : Tree
  Present : Tree → Tree
  -- a list: nothing yet, or one more part behind what came so far
  Empty : Tree
  After : Tree → Tree → Tree
  -- a named part with the number of its document, which no text says
  Numbered : ℕ → Tree → Tree

mutual
  pub data Form : Type 0 where
    -- tokens in a row, one for each test, that aren't kept
    Marks : List (Token → Bool) → Form
    -- one token, which is kept
    Keep : (Token → Bool) → Form
    -- a sequence
    Then : Form → Form → Form
    -- a choice
    Or : Form → Form → Form
    -- an optional part
    Maybe : Form → Form
    -- one or more parts with a separator between each two, behind the parts that came so far
    Listed : (Token → Bool) → Tree → Form → Form
    -- none or more parts with nothing between them, behind the parts that came so far
    Many : Tree → Form → Form
    -- clauses in any order, each at most once
    AnyOrder : Slots → Form
    -- the form that the grammar has under a number
    Named : ℕ → Form

  -- The clauses that may come in any order: whether the clause must come, its form, and what it
  -- says where it came already.
  pub data Slots : Type 0 where
    NoSlots : Slots
    Slot : Bool → Form → Option Tree → Slots → Slots

-- the form of the clause at a place; no token is one of a clause that isn't there
abbrev pub form_at : ℕ → Slots → Form
form_at n NoSlots = Keep (λ _. false)
form_at zero (Slot needed f came slots) = f
form_at (suc n) (Slot needed f came slots) = form_at n slots

-- whether the clause at a place may still come
abbrev pub is_open : ℕ → Slots → Bool
is_open n NoSlots = false
is_open zero (Slot needed f came slots) = is_none came
is_open (suc n) (Slot needed f came slots) = is_open n slots

-- the clause at a place came, and this is what it says
abbrev pub filled : ℕ → Tree → Slots → Slots
filled n a NoSlots = NoSlots
filled zero a (Slot needed f came slots) = Slot needed f (Some a) slots
filled (suc n) a (Slot needed f came slots) = Slot needed f came (filled n a slots)

-- each clause that must come came
abbrev pub is_complete : Slots → Bool
is_complete NoSlots = true
is_complete (Slot needed f came slots) = (not needed || is_some came) && is_complete slots

-- what an optional part says
abbrev pub option_tree : Option Tree → Tree
option_tree None = Absent
option_tree (Some a) = Present a

-- what the clauses say
abbrev pub slots_tree : Slots → Tree
slots_tree NoSlots = Bare
slots_tree (Slot needed f came slots) = Pair (option_tree came) (slots_tree slots)
