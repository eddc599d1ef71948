-- SpellingRanges: what tokens in order spell has its tokens in order, where no clauses come in any order.
use Rattle.std.proofs.Common.{◌≡◌, ℕ, ◌≤◌, Bool, true, false, ◌&&◌, List, refl, arith}
use Rattle.token_grammar.specs.declared.token.Token.{Token}
use Rattle.token_grammar.specs.Form.{Form, Marks, Keep, Then, Or, Maybe, Listed, Many, AnyOrder, Named}
use Rattle.token_grammar.specs.Form.{Tree, Bare, Leaf, Pair, First, Second, Absent, Present, Empty, After, Numbered}
use Rattle.token_grammar.specs.Spelling as S
use Rattle.token_grammar.specs.Spelling.{Spells}
use Rattle.placing_laws.proofs.TokenPlaces.{AreRising}
use Rattle.placing_laws.proofs.TreeRanges.{Ranged, range_wider, reach, reach_at, reach_behind, reach_rises}

abbrev is_empty : Tree → Bool
is_empty Bare = false
is_empty (Leaf token) = false
is_empty (Pair a b) = false
is_empty (First a) = false
is_empty (Second a) = false
is_empty Absent = false
is_empty (Present a) = false
is_empty Empty = true
is_empty (After a b) = false
is_empty (Numbered n a) = false

-- no clauses come in any order, and no list has begun
abbrev pub is_ordered : Form → Bool
is_ordered (Marks tests) = true
is_ordered (Keep test) = true
is_ordered (Then f g) = is_ordered f && is_ordered g
is_ordered (Or f g) = is_ordered f && is_ordered g
is_ordered (Maybe f) = is_ordered f
is_ordered (Listed separator s f) = is_empty s && is_ordered f
is_ordered (Many s f) = is_empty s && is_ordered f
is_ordered (AnyOrder s) = false
is_ordered (Named n) = true

-- the same of the parts of a form
abbrev has_ordered_parts : Form → Bool
has_ordered_parts (Marks tests) = true
has_ordered_parts (Keep test) = true
has_ordered_parts (Then f g) = is_ordered f && is_ordered g
has_ordered_parts (Or f g) = is_ordered f && is_ordered g
has_ordered_parts (Maybe f) = is_ordered f
has_ordered_parts (Listed separator s f) = is_ordered f
has_ordered_parts (Many s f) = is_ordered f
has_ordered_parts (AnyOrder s) = false
has_ordered_parts (Named n) = true

-- what came so far of a form
abbrev Begun : ℕ → Form → ℕ → Type 0
Begun low (Marks tests) high = low ≤ high
Begun low (Keep test) high = low ≤ high
Begun low (Then f g) high = low ≤ high
Begun low (Or f g) high = low ≤ high
Begun low (Maybe f) high = low ≤ high
Begun low (Listed separator s f) high = Ranged low s high
Begun low (Many s f) high = Ranged low s high
Begun low (AnyOrder s) high = low ≤ high
Begun low (Named n) high = low ≤ high

both_true : (a b : Bool) → (a && b) ≡ true → (a ≡ true) × (b ≡ true)
both_true true b e = (refl, e)
both_true false b e = absurd (cc)

empty_begins : (s : Tree) {low high : ℕ} → is_empty s ≡ true → low ≤ high → Ranged low s high
empty_begins Bare e less = absurd (cc)
empty_begins (Leaf token) e less = absurd (cc)
empty_begins (Pair a b) e less = absurd (cc)
empty_begins (First a) e less = absurd (cc)
empty_begins (Second a) e less = absurd (cc)
empty_begins Absent e less = absurd (cc)
empty_begins (Present a) e less = absurd (cc)
empty_begins Empty e less = less
empty_begins (After a b) e less = absurd (cc)
empty_begins (Numbered n a) e less = absurd (cc)

begins : (f : Form) {low high : ℕ} → is_ordered f ≡ true → low ≤ high → Begun low f high
begins (Marks tests) e less = less
begins (Keep test) e less = less
begins (Then f g) e less = less
begins (Or f g) e less = less
begins (Maybe f) e less = less
begins (Listed separator s f) e less = empty_begins s (both_true (is_empty s) (is_ordered f) e).0 less
begins (Many s f) e less = empty_begins s (both_true (is_empty s) (is_ordered f) e).0 less
begins (AnyOrder s) e less = less
begins (Named n) e less = less

parts_of : (f : Form) → is_ordered f ≡ true → has_ordered_parts f ≡ true
parts_of (Marks tests) e = refl
parts_of (Keep test) e = refl
parts_of (Then f g) e = e
parts_of (Or f g) e = e
parts_of (Maybe f) e = e
parts_of (Listed separator s f) e = (both_true (is_empty s) (is_ordered f) e).1
parts_of (Many s f) e = (both_true (is_empty s) (is_ordered f) e).1
parts_of (AnyOrder s) e = absurd (cc)
parts_of (Named n) e = refl

module _ (from : ℕ) (tokens : List Token) (grammar : ℕ → Form) (rising : AreRising from tokens)
    (ordered : (n : ℕ) → is_ordered (grammar n) ≡ true) where
  ranged : {f : Form} {i k : ℕ} {a : Tree} (low : ℕ) → has_ordered_parts f ≡ true → Spells tokens grammar f i k a →
      Begun low f (reach from tokens i) → Ranged low a (reach from tokens k)
  ranged low e S.no_marks begun = begun
  ranged {i = i} low e (S.marks {tests = tests} here rest) begun =
      let more = reach_rises from tokens i rising in ranged {f = Marks tests} low refl rest (omega arith)
  ranged {i = i} {k = k} low e (S.keep get ok next) begun =
      let here = reach_at from tokens i rising get in
      let behind = reach_behind from tokens i k get next in
      (omega arith, omega arith)
  ranged {f = Then f g} low e (S.both {j = j} one two) begun =
      let parts = both_true (is_ordered f) (is_ordered g) e in (
        reach from tokens j,
        ranged {f = f} low (parts_of f parts.0) one (begins f parts.0 begun),
        ranged {f = g} (reach from tokens j) (parts_of g parts.1) two (begins g parts.1 (omega arith)),
      )
  ranged {f = Or f g} low e (S.first one) begun =
      let parts = both_true (is_ordered f) (is_ordered g) e in
      ranged {f = f} low (parts_of f parts.0) one (begins f parts.0 begun)
  ranged {f = Or f g} low e (S.second one) begun =
      let parts = both_true (is_ordered f) (is_ordered g) e in
      ranged {f = g} low (parts_of g parts.1) one (begins g parts.1 begun)
  ranged low e S.absent begun = begun
  ranged {f = Maybe f} low e (S.present one) begun = ranged {f = f} low (parts_of f e) one (begins f e begun)
  ranged {f = Listed separator s f} {i = i} low e (S.last one) begun =
      (reach from tokens i, begun, ranged {f = f} (reach from tokens i) (parts_of f e) one (begins f e (omega arith)))
  ranged {f = Listed separator s f} {i = i} low e (S.more {a = a} {j = j} one here others) begun =
      let item = ranged {f = f} (reach from tokens i) (parts_of f e) one (begins f e (omega arith)) in
      ranged {f = Listed separator (After s a) f} low e others
      (reach from tokens i, begun, range_wider a _ _ _ (reach_rises from tokens j rising) item)
  ranged low e S.no_more begun = begun
  ranged {f = Many s f} {i = i} low e (S.another {a = a} one others) begun =
      ranged {f = Many (After s a) f} low e others
      (reach from tokens i, begun, ranged {f = f} (reach from tokens i) (parts_of f e) one (begins f e (omega arith)))
  ranged {f = AnyOrder s} low e (S.enough complete is) begun = absurd (cc)
  ranged {f = AnyOrder s} low e (S.clause n opened one others) begun = absurd (cc)
  ranged low e (S.named {n = n} one) begun =
      ranged {f = grammar n} low (parts_of (grammar n) (ordered n)) one (begins (grammar n) (ordered n) begun)

  -- a named form
  pub named_ranged : {n i k : ℕ} {a : Tree} → Spells tokens grammar (Named n) i k a →
      Ranged (reach from tokens i) a (reach from tokens k)
  named_ranged {n = n} {i = i} one = ranged {f = Named n} (reach from tokens i) refl one (omega arith)
