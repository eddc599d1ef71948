-- Opening: what the first two tokens of a form may be, and the tokens with which it may go on (docs/PROFILE.md,
-- section 2). Each test passes at least the tokens that it speaks of.
use Rattle.std.specs.Prelude.{ℕ, Bool, true, false, ◌&&◌, ◌||◌, List, [], ◌∷◌, Option}
use Rattle.token_grammar.specs.declared.token.Token.{Token}
use Rattle.token_grammar.specs.Form.{Form, Marks, Keep, Then, Or, Maybe, Listed, Many, AnyOrder, Named, Slots, NoSlots}
use Rattle.token_grammar.specs.Form.{Slot}
use Rattle.token_grammar.specs.Spelling.{passes}

pub record Opening : Type 0 where
  -- no tokens may spell the form
  pub empty : Bool
  -- some token may spell it alone, and this one may
  pub single : Bool
  pub alone : Token → Bool
  -- it may begin with this token, and this one may come second
  pub first : Token → Bool
  pub second : Token → Bool
  -- it may begin with these two tokens
  pub two : Token → Token → Bool
  -- A shorter spelling may have gone on with this token and what stands behind it.
  pub on : Token → Option Token → Bool

-- the form may begin with a token and what stands behind it
abbrev pub front : Opening → Token → Option Token → Bool
front p token next = p.alone token || passes (p.two token) next

-- the first of two tests, and the second one beside it where a part may be missing
abbrev pub past : Bool → Bool → Bool → Bool
past true a b = a || b
past false a b = a

-- no token, and not no tokens either
abbrev pub never : Opening
never = record {
  empty = false;
  single = false;
  alone = λ token. false;
  first = λ token. false;
  second = λ token. false;
  two = λ token next. false;
  on = λ token next. false;
}

-- no tokens
abbrev pub nothing : Opening
nothing = record never { empty = true }

-- one token
abbrev pub token_opening : (Token → Bool) → Opening
token_opening test = record never { single = true; alone = test; first = test }

-- one part and then another
abbrev pub in_turn : Opening → Opening → Opening
in_turn p q = record {
  empty = p.empty && q.empty;
  single = past p.empty (q.empty && p.single) q.single;
  alone = λ token. past p.empty (q.empty && p.alone token) (q.alone token);
  first = λ token. past p.empty (p.first token) (q.first token);
  second = λ token. past p.empty (past p.single (p.second token) (q.first token)) (q.second token);
  two = λ token next. past p.empty (past p.single (p.two token next) (p.alone token && q.first next))
      (q.two token next);
  on = λ token next. past q.empty (q.on token next) (p.on token next);
}

-- One part or another. Where one of them may be shorter than the other, it might have gone on with what stands there
-- in the other one.
abbrev pub one_of : Opening → Opening → Opening
one_of p q = record {
  empty = p.empty || q.empty;
  single = p.single || q.single;
  alone = λ token. p.alone token || q.alone token;
  first = λ token. p.first token || q.first token;
  second = λ token. p.second token || q.second token;
  two = λ token next. p.two token next || q.two token next;
  on = λ token next. past p.empty (past q.empty (past p.single (past q.single (p.on token next || q.on token next)
      (p.second token)) (q.second token)) (front p token next)) (front q token next);
}

abbrev pub optional : Opening → Opening
optional p = record p { empty = true; on = λ token next. p.on token next || front p token next }

-- parts with nothing between them
abbrev pub repeated : Opening → Opening
repeated p = record {
  empty = true;
  single = p.single;
  alone = p.alone;
  first = p.first;
  second = λ token. past p.single (p.second token) (p.first token);
  two = λ token next. past p.single (p.two token next) (p.alone token && p.first next);
  on = λ token next. p.on token next || front p token next;
}

-- parts with a separator between them; of parts that may be missing nothing is known
abbrev pub separated : (Token → Bool) → Opening → Opening
separated separator p = record {
  empty = p.empty;
  single = p.empty || p.single;
  alone = λ token. p.empty || p.alone token;
  first = λ token. p.empty || p.first token;
  second = λ token. p.empty || past p.single (p.second token) (separator token);
  two = λ token next. p.empty || past p.single (p.two token next) (p.alone token && separator next);
  on = λ token next. separator token || p.on token next;
}

abbrev pub marks_opening : List (Token → Bool) → Opening
marks_opening [] = nothing
marks_opening (test ∷ []) = token_opening test
marks_opening (test ∷ (next ∷ tests)) = in_turn (token_opening test) (marks_opening (next ∷ tests))

-- the opening of a form, where `named` are those of the named forms
abbrev mutual
  pub opening : (ℕ → Opening) → Form → Opening
  opening named (Marks tests) = marks_opening tests
  opening named (Keep test) = token_opening test
  opening named (Then f g) = in_turn (opening named f) (opening named g)
  opening named (Or f g) = one_of (opening named f) (opening named g)
  opening named (Maybe f) = optional (opening named f)
  opening named (Listed separator s f) = separated separator (opening named f)
  opening named (Many s f) = repeated (opening named f)
  opening named (AnyOrder s) = repeated (clauses_opening named s)
  opening named (Named n) = named n

  -- the opening of one clause
  pub clauses_opening : (ℕ → Opening) → Slots → Opening
  clauses_opening named NoSlots = never
  clauses_opening named (Slot needed f came s) = one_of (opening named f) (clauses_opening named s)
