-- An example of a template, computed: X.722, section 8.3.
use Rattle.std.proofs.Common.{List, [], ◌∷◌, refl, codes}
use Rattle.token_grammar.specs.declared.token.Token.{Token}
use Rattle.token_grammar.specs.Kinds.{word_kind, number_kind, sign_kind}
use Rattle.token_grammar.specs.Form.{Named, Bare, Leaf, Pair, First, Absent, Empty, After, Numbered}
use Rattle.token_grammar.specs.Spelling.{Spells, no_marks, marks, keep, both, first, no_more, another, enough, named}
use Rattle.token_grammar.proofs.Known.{token_of}
use Rattle.gdmo_members.specs.Clauses.{classes}
use Rattle.gdmo_members.specs.Templates.{templates}

-- c MANAGED OBJECT CLASS REGISTERED AS {2 6};
abbrev label : Token
label = token_of word_kind 0 (codes "c")

abbrev brace : Token
brace = token_of sign_kind 37 (codes "{")

abbrev first_number : Token
first_number = token_of number_kind 38 (codes "2")

abbrev second_number : Token
second_number = token_of number_kind 40 (codes "6")

abbrev small_class : List Token
small_class = label ∷ token_of word_kind 2 (codes "MANAGED") ∷ token_of word_kind 10 (codes "OBJECT") ∷ token_of
    word_kind 17 (codes "CLASS")
    ∷ token_of word_kind 23 (codes "REGISTERED") ∷ token_of word_kind 34 (codes "AS")
    ∷ brace ∷ first_number ∷ second_number ∷ token_of sign_kind 41 (codes "}") ∷ token_of sign_kind 42 (codes ";") ∷ []

-- its label, the three clauses, of which none came, and its identifier
class_example : Spells small_class templates (Named classes) 0 11
    (Numbered 0 (Pair (Leaf label) (Pair Bare (Pair
    (Pair Absent (Pair Absent (Pair Absent Bare)))
    (Pair (Pair Bare (Pair (Leaf brace)
    (Pair (First (First (Leaf first_number))) (Pair (After Empty (First (Leaf second_number))) Bare)))) Bare)))))
class_example = named (both (keep refl refl refl) (both
    (marks (record { passed = refl }) (marks (record { passed = refl }) (marks (record { passed = refl }) no_marks)))
    (both (enough refl refl) (both
    (both (marks (record { passed = refl }) (marks (record { passed = refl }) no_marks))
    (both (keep refl refl refl)
    (both (first (first (keep refl refl refl)))
    (both (another (first (keep refl refl refl)) no_more) (marks (record { passed = refl }) no_marks)))))
    (marks (record { passed = refl }) no_marks)))))
