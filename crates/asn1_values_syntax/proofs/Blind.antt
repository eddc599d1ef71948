-- Forms none of whose tests tells one name from another: texts that differ in names alone have the same readings.
use Rattle.std.proofs.Common.{◌≡◌, ℕ, ◌+◌, Bool, true, List, [], ◌∷◌, Option, None, Some, inl, inr, sym, ◌∙◌, ap}
use Rattle.std.proofs.Common.{slice_get}
use Rattle.token_grammar.specs.declared.token.Token.{Token}
use Rattle.token_grammar.specs.Form.{Form, Tree, Marks, Keep, Then, Or, Maybe, Listed, Many, AnyOrder, Named, Bare}
use Rattle.token_grammar.specs.Form.{Leaf, Pair, First, Second, Absent, Present, After, Numbered}
use Rattle.token_grammar.specs.Spelling as S
use Rattle.token_grammar.specs.Spelling.{At, passes, Spells}
use Rattle.token_grammar.specs.Beginning as B
use Rattle.token_grammar.specs.Beginning.{Begins}
use Rattle.token_grammar.specs.TokenTests.{is_name}
use Rattle.token_grammar.proofs.Places.{at_token}
use Rattle.token_grammar.proofs.Parts.{token_there}
use Rattle.asn1_values_syntax.specs.Keywords.{Alike, SameButNames}

-- a test that tells no name from another
abbrev pub Blind : (Token → Bool) → Type 0
Blind test = (t u : Token) → is_name t ≡ true → is_name u ≡ true → test t ≡ test u

abbrev pub MarksBlind : List (Token → Bool) → Type 0
MarksBlind [] = Unit {0}
MarksBlind (test ∷ tests) = Blind test × MarksBlind tests

abbrev pub FormBlind : Form → Type 0
FormBlind (Marks tests) = MarksBlind tests
FormBlind (Keep test) = Blind test
FormBlind (Then f g) = FormBlind f × FormBlind g
FormBlind (Or f g) = FormBlind f × FormBlind g
FormBlind (Maybe f) = FormBlind f
FormBlind (Listed separator s f) = Blind separator × FormBlind f
FormBlind (Many s f) = FormBlind f
FormBlind (AnyOrder s) = ⊥
FormBlind (Named n) = Unit {0}

passes_alike : (test : Token → Bool) → Blind test → (x y : Option Token) → Alike x y → passes test x ≡ true → passes
    test y ≡ true
passes_alike test blind None None alike e = e
passes_alike test blind None (Some u) alike e = absurd alike
passes_alike test blind (Some t) None alike e = absurd alike
passes_alike test blind (Some t) (Some u) (inl same) e = sym (ap test same) ∙ e
passes_alike test blind (Some t) (Some u) (inr names) e = sym (blind t u names.0 names.1) ∙ e

at_alike : {ts us : List Token} {test : Token → Bool} {i : ℕ} → SameButNames ts us → Blind test → At ts i test → At us
    i test
at_alike {ts} {us} {test} {i} same blind here = record {
  passed = passes_alike test blind (slice_get ts i)
      (slice_get us i) (same.alike i) here.passed;
}

-- what came before in a list is no matter
relisted : {tokens : List Token} {grammar : ℕ → Form} {separator : Token → Bool} {f : Form} {s b : Tree} {i k : ℕ}
    (other : Tree) → Spells tokens grammar (Listed separator s f) i k b → (c : Tree) × Spells tokens grammar
    (Listed separator other f) i k c
relisted other (S.last {a = a} sp) = (After other a, S.last sp)
relisted other (S.more {a = a} sp here r) = let q = relisted (After other a) r in (q.0, S.more sp here q.1)

relisted_begins : {tokens : List Token} {grammar : ℕ → Form} {separator : Token → Bool} {f : Form} {s : Tree}
    {i k : ℕ} (other : Tree) → Begins tokens grammar (Listed separator s f) i k → Begins tokens grammar
    (Listed separator other f) i k
relisted_begins other B.no_tokens = B.no_tokens
relisted_begins other (B.item b) = B.item b
relisted_begins other (B.more {a = a} sp here b) = B.more sp here (relisted_begins (After other a) b)

pub repeated : {tokens : List Token} {grammar : ℕ → Form} {f : Form} {s b : Tree} {i k : ℕ} (other : Tree) → Spells
    tokens
    grammar (Many s f) i k b → (c : Tree) × Spells tokens grammar (Many other f) i k c
repeated other S.no_more = (other, S.no_more)
repeated other (S.another {a = a} sp r) = let q = repeated (After other a) r in (q.0, S.another sp q.1)

pub repeated_begins : {tokens : List Token} {grammar : ℕ → Form} {f : Form} {s : Tree} {i k : ℕ} (other : Tree) → Begins
    tokens grammar (Many s f) i k → Begins tokens grammar (Many other f) i k
repeated_begins other B.no_tokens = B.no_tokens
repeated_begins other (B.one b) = B.one b
repeated_begins other (B.another {a = a} sp b) = B.another sp (repeated_begins (After other a) b)

kept_alike : {us : List Token} {grammar : ℕ → Form} {test : Token → Bool} {i k : ℕ} → k ≡ i + 1 → (t : Token) ×
    (slice_get us i ≡ Some t) × (test t ≡ true) → (b : Tree) × Spells us grammar (Keep test) i k b
kept_alike next there = (Leaf there.0, S.keep there.1 there.2 next)

pub spells_alike : {ts us : List Token} {grammar : ℕ → Form} → ((n : ℕ) → FormBlind (grammar n)) → SameButNames ts
    us → {f : Form} {i k : ℕ} {a : Tree} → FormBlind f → Spells ts grammar f i k a → (b : Tree) × Spells us grammar f
    i k b
spells_alike table same blind S.no_marks = (Bare, S.no_marks)
spells_alike table same blind (S.marks here s) = let r = spells_alike table same blind.1 s in
    (r.0, S.marks (at_alike same blind.0 here) r.1)
spells_alike {ts} {us} table same blind (S.keep {test} {i} {k} {token} e ok next) = kept_alike next
    (token_there us i test (at_alike same blind (at_token ts i test token e ok)).passed)
spells_alike table same blind (S.both s r) = let p = spells_alike table same blind.0 s in let q = spells_alike table
    same blind.1 r in (Pair p.0 q.0, S.both p.1 q.1)
spells_alike table same blind (S.first s) = let p = spells_alike table same blind.0 s in (First p.0, S.first p.1)
spells_alike table same blind (S.second s) = let p = spells_alike table same blind.1 s in (Second p.0, S.second p.1)
spells_alike table same blind S.absent = (Absent, S.absent)
spells_alike table same blind (S.present s) = let p = spells_alike table same blind s in (Present p.0, S.present p.1)
spells_alike table same blind (S.last {s = before} s) = let p = spells_alike table same blind.1 s in
    (After before p.0, S.last p.1)
spells_alike table same blind (S.more {s = before} s here r) = let p = spells_alike table same blind.1 s in let q =
    relisted (After before p.0) (spells_alike table same blind r).1 in
    (q.0, S.more p.1 (at_alike same blind.0 here) q.1)
spells_alike table same blind (S.no_more {s = before}) = (before, S.no_more)
spells_alike table same blind (S.another {s = before} s r) = let p = spells_alike table same blind s in let q =
    repeated (After before p.0) (spells_alike table same blind r).1 in (q.0, S.another p.1 q.1)
spells_alike table same blind (S.enough complete e) = absurd blind
spells_alike table same blind (S.clause n still s r) = absurd blind
spells_alike table same blind (S.named {n = n} s) = let p = spells_alike table same (table n) s in
    (Numbered 0 p.0, S.named p.1)

pub begins_alike : {ts us : List Token} {grammar : ℕ → Form} → ((n : ℕ) → FormBlind (grammar n)) → SameButNames ts
    us → {f : Form} {i k : ℕ} → FormBlind f → Begins ts grammar f i k → Begins us grammar f i k
begins_alike table same blind B.no_tokens = B.no_tokens
begins_alike table same blind (B.token here next) = B.token (at_alike same blind here) next
begins_alike table same blind (B.mark here b) = B.mark (at_alike same blind.0 here)
    (begins_alike table same blind.1 b)
begins_alike table same blind (B.front b) = B.front (begins_alike table same blind.0 b)
begins_alike table same blind (B.rest s b) = B.rest (spells_alike table same blind.0 s).1
    (begins_alike table same blind.1 b)
begins_alike table same blind (B.first b) = B.first (begins_alike table same blind.0 b)
begins_alike table same blind (B.second b) = B.second (begins_alike table same blind.1 b)
begins_alike table same blind (B.present b) = B.present (begins_alike table same blind b)
begins_alike table same blind (B.item b) = B.item (begins_alike table same blind.1 b)
begins_alike table same blind (B.more {s = before} s here b) = let p = spells_alike table same blind.1 s in B.more p.1
    (at_alike same blind.0 here) (relisted_begins (After before p.0) (begins_alike table same blind b))
begins_alike table same blind (B.one b) = B.one (begins_alike table same blind b)
begins_alike table same blind (B.another {s = before} s b) = let p = spells_alike table same blind s in B.another p.1
    (repeated_begins (After before p.0) (begins_alike table same blind b))
begins_alike table same blind (B.one_clause n still b) = absurd blind
begins_alike table same blind (B.clause n still s b) = absurd blind
begins_alike table same blind (B.named {n = n} b) = B.named (begins_alike table same (table n) b)
