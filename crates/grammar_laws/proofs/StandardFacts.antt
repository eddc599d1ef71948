-- Examples of the definitions, computed: a small grammar with each kind of form, whose choices are decided by one or
-- two
-- tokens (docs/PROFILE.md, section 2).
--   shelf   = label SHELF clauses [AT number] ;
--   clauses = HOLDS item, ..;  and, before or behind it or not at all,  MARKS [label ..] ;
--   item    = ["name" :] label | box
--   box     = label BOX size ;
--   size    = WIDE number | WIDE FREE
use Rattle.std.proofs.Common.{◌≡◌, ℕ, Bool, true, false, ◌&&◌, ◌||◌, List, [], ◌∷◌, Option, None, Some, refl, codes}
use Rattle.token_grammar.specs.declared.token.Token.{Token}
use Rattle.token_grammar.specs.Kinds.{word_kind}
use Rattle.token_grammar.specs.Form.{Form, Marks, Keep, Then, Or, Maybe, Listed, Many, AnyOrder, Named, Slots, Slot}
use Rattle.token_grammar.specs.Form.{NoSlots, Empty, Tree}
use Rattle.token_grammar.specs.TokenTests.{is_word_of, is_sign_of, is_label, is_number, is_string}
use Rattle.token_grammar.specs.Parts.{words, sign, label_reference}
use Rattle.token_grammar.specs.Spelling.{Spells}
use Rattle.token_grammar.proofs.Known.{token_of, at_word, at_sign, at_string, at_label, at_number, first_so, second_so}
use Rattle.grammar_laws.specs.Opening.{Opening, front, opening, clauses_opening, never}
use Rattle.grammar_laws.specs.Decided.{AllDecided, IsDecided, AreAlternatives, Parts}
use Rattle.grammar_laws.proofs.Leading.{Leads, never_leads, leads, clauses_lead, front_first}
use Rattle.grammar_laws.proofs.OneSpelling.{closed_once, decided_forms_spell_once}
use Rattle.grammar_laws.proofs.TestLaws.{no, or_false, either_of, alone_of, first_of_two}

abbrev size : Form
size = Or (Then (Marks (words (codes "WIDE" ∷ []))) (Keep is_number)) (Marks (words (codes "WIDE" ∷ codes "FREE" ∷ [])))

abbrev box : Form
box = Then (Keep is_label) (Then (Marks (words (codes "BOX" ∷ []))) (Then size (sign (codes ";"))))

abbrev boxes : ℕ → Form
boxes n = box

abbrev item : Form
item = Or label_reference (Named 0)

abbrev items : Form
items = Then (Marks (words (codes "HOLDS" ∷ []))) (Then (Listed (is_sign_of (codes ",")) Empty item) (sign (codes ";")))

abbrev labels : Form
labels = Then (Marks (words (codes "MARKS" ∷ []))) (Then (Many Empty (Keep is_label)) (sign (codes ";")))

abbrev clauses : Slots
clauses = Slot true items None (Slot false labels None NoSlots)

abbrev place : Form
place = Then (Marks (words (codes "AT" ∷ []))) (Keep is_number)

abbrev shelf : Form
shelf = Then (Keep is_label) (Then (Marks (words (codes "SHELF" ∷ []))) (Then (AnyOrder clauses) (Then (Maybe place)
    (sign (codes ";")))))

-- a box names no other form
abbrev boxes_opening : ℕ → Opening
boxes_opening n = opening (λ m. never) box

-- a box begins with a label and the word BOX, and never with a number
box_begins : front (boxes_opening 0) (token_of word_kind 0 (codes "a")) (Some (token_of word_kind 2 (codes "BOX"))) ≡
    true
box_begins = refl

box_ends : (opening boxes_opening box).on (token_of word_kind 0 (codes "FREE")) None ≡ false
box_ends = refl

-- behind a label, an item goes on with the word BOX
item_goes_on : (opening boxes_opening item).on (token_of word_kind 2 (codes "BOX")) None ≡ true
item_goes_on = refl

size_apart : AreAlternatives (opening boxes_opening (Then (Marks (words (codes "WIDE" ∷ []))) (Keep is_number)))
    (opening boxes_opening (Marks (words (codes "WIDE" ∷ codes "FREE" ∷ []))))
size_apart = record {
  missing = λ e h. no e;
  alone = λ t e h. no e;
  two = λ t u e h. let number = second_so (is_word_of (codes "WIDE") t) (is_number u) e in let free = second_so
      (is_word_of (codes "WIDE") t) (is_word_of (codes "FREE") u) h in let other = at_number false (is_word_of (codes
      "FREE")) (λ at text. refl) u number in cc (free, other);
}

box_decided : IsDecided boxes_opening box
box_decided = (
  tt,
  (tt, (((tt, tt, λ t u e h. no e), tt, size_apart), tt, λ t u e h. no e), λ t u e h. no e),
  λ t u e
      h. no e,
)

boxes_decided : AllDecided boxes boxes_opening
boxes_decided = record {
  within = λ n. record {
    empty = λ e. e;
    single = λ e. e;
    alone = λ t e. e;
    first = λ t e. e;
    second = λ t e. e;
    two =
        λ t u e. e;
  };
  on = λ n t u e. e;
  decided = λ n. box_decided;
}

-- a string is no label
name_apart : Parts (opening boxes_opening (Maybe (Then (Keep is_string) (sign (codes ":"))))).on (front (opening
    boxes_opening (Keep is_label)))
name_apart t u e h = let string = first_of_two (is_string t) (is_sign_of (codes ":")) u e in let label = alone_of
    (is_label t) u h in let other = at_string false is_label (λ at text. refl) t string in cc (label, other)

item_apart : AreAlternatives (opening boxes_opening label_reference) (opening boxes_opening (Named 0))
item_apart = record {
  missing = λ e h. no e;
  alone = λ t e h. no h;
  two = λ t u e h. let string = first_so (is_string t) (is_sign_of (codes ":") u) (or_false (is_string t && is_sign_of
      (codes ":") u) e) in let label = first_so (is_label t) (is_word_of (codes "BOX") u) h in let other = at_string
      false is_label (λ at text. refl) t string in cc (label, other);
}

item_decided : IsDecided boxes_opening item
item_decided = ((((tt, tt, λ t u e h. no e), refl), tt, name_apart), tt, item_apart)

-- an item goes on with BOX, which is no comma
items_separate : Parts (opening boxes_opening item).on (λ t u. is_sign_of (codes ",") t)
items_separate t u e h = let other = at_word (codes "BOX") false (is_sign_of (codes ",")) (λ at. refl) t e in cc (
  h,
  other,
)

-- a list of items goes on with a comma, or with BOX behind the last one
items_end : Parts (opening boxes_opening (Listed (is_sign_of (codes ",")) Empty item)).on (front (opening
    boxes_opening (sign (codes ";"))))
items_end t u e h = let semicolon = alone_of (is_sign_of (codes ";") t) u h in either_of (is_sign_of (codes ",") t)
    (is_word_of (codes "BOX") t) e
    (λ sep. let other = at_sign (codes ",") false (is_sign_of (codes ";")) (λ at. refl) t sep in cc (semicolon, other))
    (λ word. let other = at_word (codes "BOX") false (is_sign_of (codes ";")) (λ at. refl) t word in cc (
      semicolon,
      other,
    ))

items_decided : IsDecided boxes_opening items
items_decided = (tt, ((item_decided, items_separate), tt, items_end), λ t u e h. no e)

-- a row of labels goes on with a label
labels_end : Parts (opening boxes_opening (Many Empty (Keep is_label))).on (front (opening boxes_opening (sign (codes
    ";"))))
labels_end t u e h = let label = alone_of (is_label t) u e in let semicolon = alone_of (is_sign_of (codes ";") t) u h
    in let other = at_label false (is_sign_of (codes ";")) (λ at text. refl) t label in cc (semicolon, other)

labels_decided : IsDecided boxes_opening labels
labels_decided = (tt, ((tt, record { full = refl; apart = λ t u e h. no e }), tt, labels_end), λ t u e h. no e)

-- what begins the clauses and the end of a shelf, by its first token
boxes_lead : (n : ℕ) → Leads (boxes_opening n)
boxes_lead n = leads (λ m. never) (λ m. never_leads) box

first_token : (f : Form) (t : Token) (u : Option Token) → front (opening boxes_opening f) t u ≡ true
    → (opening boxes_opening f).first t ≡ true
first_token f t u e = front_first t u (leads boxes_opening boxes_lead f) e

first_clause : (s : Slots) (t : Token) (u : Option Token) → front (clauses_opening boxes_opening s) t u ≡ true
    → (clauses_opening boxes_opening s).first t ≡ true
first_clause s t u e = front_first t u (clauses_lead boxes_opening boxes_lead s) e

-- a word or a sign isn't another one
other_word : (text : List ℕ) (test : Token → Bool) (t : Token) → ((at : ℕ) → test (token_of 0 at text) ≡ false)
    → is_word_of text t ≡ true → test t ≡ true → ⊥
other_word text test t computes is e = let other = at_word text false test computes t is in cc (other, e)

clauses_apart : Parts (front (opening boxes_opening items))
    (front (clauses_opening boxes_opening (Slot false labels None NoSlots)))
clauses_apart t u e h =
    other_word (codes "HOLDS") (is_word_of (codes "MARKS")) t (λ at. refl) (first_token items t u e)
    (or_false (is_word_of (codes "MARKS") t) (first_clause (Slot false labels None NoSlots) t u h))

clauses_decided : IsDecided boxes_opening (AnyOrder clauses)
clauses_decided = (
  items_decided,
  record { full = refl; apart = λ t u e h. no e },
  clauses_apart,
  (labels_decided, record { full = refl; apart = λ t u e h. no e }, (λ t u e h. no (first_clause NoSlots t u h)), tt),
)

place_end : Parts (opening boxes_opening (Maybe place)).on (front (opening boxes_opening (sign (codes ";"))))
place_end t u e h = other_word (codes "AT") (is_sign_of (codes ";")) t (λ at. refl) (first_token place t u e)
    (first_token (sign (codes ";")) t u h)

clauses_end : Parts (opening boxes_opening (AnyOrder clauses)).on
    (front (opening boxes_opening (Then (Maybe place) (sign (codes ";")))))
clauses_end t u e h =
    let ends = first_token (Then (Maybe place) (sign (codes ";"))) t u h in
    either_of (is_word_of (codes "HOLDS") t) (is_word_of (codes "MARKS") t || false) (first_clause clauses t u e)
    (λ is. other_word (codes "HOLDS") (λ w. is_word_of (codes "AT") w || is_sign_of (codes ";") w) t (λ at. refl) is
    ends)
    (λ is. other_word (codes "MARKS") (λ w. is_word_of (codes "AT") w || is_sign_of (codes ";") w) t (λ at. refl)
    (or_false (is_word_of (codes "MARKS") t) is) ends)

-- the first two tokens decide each choice of a shelf
shelf_decided : IsDecided boxes_opening shelf
shelf_decided = (
  tt,
  (
    tt,
    (clauses_decided, (((tt, tt, λ t u e h. no e), refl), tt, place_end), clauses_end),
    λ t u e h. no e,
  ),
  λ t u e h. no e,
)

-- so tokens spell at most one shelf from a place, with one end
shelf_once : (tokens : List Token) (i j k : ℕ) (a b : Tree) → Spells tokens boxes shelf i j a
    → Spells tokens boxes shelf i k b → (j ≡ k) × (a ≡ b)
shelf_once tokens i j k a b one two = closed_once tokens
    (decided_forms_spell_once tokens boxes boxes_opening boxes_decided shelf shelf_decided i j k a b one two)
