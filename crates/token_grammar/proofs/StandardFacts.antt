-- Examples of tests of tokens and of forms, computed: X.722, section 8.2; X.680, section 12; and a small
-- grammar with each kind of form, a text that spells it, and texts that begin it up to their fault (that
-- they don't go on there is tested by rows of compiler_rows).
--   shelf   = label SHELF clauses [AT number] ;
--   clauses = HOLDS item, ..;  and, before or behind it or not at all,  MARKS [label ..] ;
--   item    = ["name" :] label | box
--   box     = label BOX size ;
--   size    = WIDE number | WIDE FREE
use Rattle.std.proofs.Common.{◌≡◌, ℕ, true, false, List, [], ◌∷◌, None, refl, codes, arith}
use Rattle.token_grammar.specs.declared.token.Token.{Token}
use Rattle.token_grammar.specs.Kinds.{word_kind, number_kind, string_kind, sign_kind}
use Rattle.token_grammar.specs.StringTexts.{DenotesText}
use Rattle.token_grammar.specs.StringTexts.Between.{nothing, octet, doubled}
use Rattle.token_grammar.specs.Form.{Form, Marks, Keep, Then, Or, Maybe, Listed, Many, AnyOrder, Named, Slots, Slot}
use Rattle.token_grammar.specs.Form.{NoSlots, Bare, Leaf, Pair, First, Second, Absent, Present, Empty, After, Numbered}
use Rattle.token_grammar.specs.TokenTests.{is_sign_of, is_label, is_name, is_number}
use Rattle.token_grammar.specs.Parts.{words, sign, label_reference}
use Rattle.token_grammar.specs.Spelling.{Spells, no_marks, marks, keep, both, first, second, absent, present, last}
use Rattle.token_grammar.specs.Spelling.{more, no_more, another, enough, clause, named}
use Rattle.token_grammar.specs.Beginning as B
use Rattle.token_grammar.specs.Beginning.{Begins}
use Rattle.token_grammar.proofs.Known.{token_of}

-- a label has a lower-case letter; a word in capitals is none, whatever else it has
label_example : is_label (token_of word_kind 0 (codes "aB")) ≡ true
label_example = refl

no_label_example : is_label (token_of word_kind 0 (codes "A/B1")) ≡ false
no_label_example = refl

-- a keyword of templates may be a name, a word of ASN.1 may not
name_example : is_name (token_of word_kind 0 (codes "PACKAGE")) ≡ true
name_example = refl

no_name_example : is_name (token_of word_kind 0 (codes "INTEGER")) ≡ false
no_name_example = refl

-- `"a""b"` denotes the octets of a"b, and `!a"!` those of a"
doubled_example : DenotesText (token_of string_kind 0 (codes "\"a\"\"b\"")) (codes "a\"b")
doubled_example = record {
  delimiter = 34;
  written = codes "a\"\"b";
  is_string = refl;
  delimited = refl;
  between = octet (λ e. omega arith) (doubled (octet (λ e. omega arith) nothing));
}

other_delimiter_example : DenotesText (token_of string_kind 0 (codes "!a\"!")) (codes "a\"")
other_delimiter_example = record {
  delimiter = 33;
  written = codes "a\"";
  is_string = refl;
  delimited = refl;
  between = octet (λ e. omega arith) (octet (λ e. omega arith) nothing);
}

abbrev size : Form
size = Or (Then (Marks (words (codes "WIDE" ∷ []))) (Keep is_number)) (Marks (words (codes "WIDE" ∷ codes "FREE" ∷ [])))

abbrev box : Form
box = Then (Keep is_label) (Then (Marks (words (codes "BOX" ∷ []))) (Then size (sign (codes ";"))))

abbrev boxes : ℕ → Form
boxes n = box

abbrev items : Form
items = Then (Marks (words (codes "HOLDS" ∷ [])))
    (Then (Listed (is_sign_of (codes ",")) Empty (Or label_reference (Named 0))) (sign (codes ";")))

abbrev labels : Form
labels = Then (Marks (words (codes "MARKS" ∷ []))) (Then (Many Empty (Keep is_label)) (sign (codes ";")))

abbrev clauses : Slots
clauses = Slot true items None (Slot false labels None NoSlots)

abbrev shelf : Form
shelf = Then (Keep is_label)
    (Then (Marks (words (codes "SHELF" ∷ [])))
    (Then (AnyOrder clauses)
    (Then (Maybe (Then (Marks (words (codes "AT" ∷ []))) (Keep is_number))) (sign (codes ";")))))

abbrev word_at : ℕ → List ℕ → Token
word_at at text = token_of word_kind at text

abbrev sign_at : ℕ → List ℕ → Token
sign_at at text = token_of sign_kind at text

-- a SHELF MARKS x; HOLDS b, c BOX WIDE FREE;; AT 7;
abbrev whole : List Token
whole = word_at 0 (codes "a") ∷ word_at 2 (codes "SHELF")
    ∷ word_at 8 (codes "MARKS") ∷ word_at 14 (codes "x") ∷ sign_at 15 (codes ";")
    ∷ word_at 17 (codes "HOLDS") ∷ word_at 23 (codes "b") ∷ sign_at 24 (codes ",")
    ∷ word_at 26 (codes "c") ∷ word_at 28 (codes "BOX") ∷ word_at 32 (codes "WIDE") ∷ word_at 37 (codes "FREE")
    ∷ sign_at 41 (codes ";")
    ∷ sign_at 42 (codes ";")
    ∷ word_at 44 (codes "AT") ∷ token_of number_kind 47 (codes "7") ∷ sign_at 48 (codes ";") ∷ []

-- the clauses stand in their own order in the tree, whichever came first
whole_example : Spells whole boxes shelf 0 17
    (Pair (Leaf (word_at 0 (codes "a"))) (Pair Bare (Pair
    (Pair (Present (Pair Bare
    (Pair (After (After Empty (First (Pair Absent (Leaf (word_at 23 (codes "b"))))))
    (Second (Numbered 0 (Pair (Leaf (word_at 26 (codes "c"))) (Pair Bare (Pair (Second Bare) Bare)))))) Bare)))
    (Pair (Present (Pair Bare (Pair (After Empty (Leaf (word_at 14 (codes "x")))) Bare))) Bare))
    (Pair (Present (Pair Bare (Leaf (token_of number_kind 47 (codes "7"))))) Bare))))
whole_example = both (keep refl refl refl) (both (marks (record { passed = refl }) no_marks) (both
    (clause 1 refl (both (marks (record { passed = refl }) no_marks)
    (both (another (keep refl refl refl) no_more) (marks (record { passed = refl }) no_marks)))
    (clause 0 refl (both (marks (record { passed = refl }) no_marks) (both
    (more (first (both absent (keep refl refl refl))) (record { passed = refl })
    (last (second (named (both (keep refl refl refl)
    (both (marks (record { passed = refl }) no_marks)
    (both (second (marks (record { passed = refl }) (marks (record { passed = refl }) no_marks)))
    (marks (record { passed = refl }) no_marks))))))))
    (marks (record { passed = refl }) no_marks)))
    (enough refl refl)))
    (both (present (both (marks (record { passed = refl }) no_marks) (keep refl refl refl)))
    (marks (record { passed = refl }) no_marks))))

-- a SHELF HOLDS b BOX WIDE x: a size goes on with a number or with FREE, so the fault is at x
abbrev faulty : List Token
faulty = word_at 0 (codes "a") ∷ word_at 2 (codes "SHELF") ∷ word_at 8 (codes "HOLDS") ∷ word_at 14 (codes "b")
    ∷ word_at 16 (codes "BOX") ∷ word_at 20 (codes "WIDE") ∷ word_at 25 (codes "x") ∷ []

faulty_example : Begins faulty boxes shelf 0 6
faulty_example = B.rest (keep refl refl refl) (B.rest (marks (record { passed = refl }) no_marks) (B.front
    (B.one_clause 0 refl (B.rest (marks (record { passed = refl }) no_marks) (B.front
    (B.item (B.second (B.named
    (B.rest (keep refl refl refl)
    (B.rest (marks (record { passed = refl }) no_marks)
    (B.front (B.second (B.mark (record { passed = refl }) B.no_tokens)))))))))))))

-- a SHELF MARKS; ;: the clause of the items is missing, and the fault is at the second semicolon
abbrev missing : List Token
missing = word_at 0 (codes "a") ∷ word_at 2 (codes "SHELF") ∷ word_at 8 (codes "MARKS") ∷ sign_at 13 (codes ";")
    ∷ sign_at 15 (codes ";") ∷ []

missing_example : Begins missing boxes shelf 0 4
missing_example = B.rest (keep refl refl refl) (B.rest (marks (record { passed = refl }) no_marks) (B.front
    (B.clause 1 refl (both (marks (record { passed = refl }) no_marks)
    (both no_more (marks (record { passed = refl }) no_marks))) B.no_tokens)))
