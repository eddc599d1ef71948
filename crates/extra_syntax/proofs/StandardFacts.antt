-- Examples of docs/PROFILE.md, section 9, computed: an empty section, a section with one instance, and words.
use Rattle.std.proofs.Common.{◌≡◌, true, false, List, [], ◌∷◌, refl, codes}
use Rattle.token_grammar.specs.declared.token.Token.{Token}
use Rattle.token_grammar.specs.Kinds.{word_kind, number_kind, sign_kind}
use Rattle.token_grammar.specs.Form.{Named, Tree, Bare, Leaf, Pair, First, Second, Absent, Present, Empty, After}
use Rattle.token_grammar.specs.Form.{Numbered}
use Rattle.token_grammar.specs.Spelling.{Spells, no_marks, marks, keep, both, first, second, absent, present, last}
use Rattle.token_grammar.specs.Spelling.{no_more, another, named}
use Rattle.token_grammar.specs.TokenTests.{is_name}
use Rattle.token_grammar.proofs.Known.{token_of}
use Rattle.extra_syntax.specs.SectionForms.{instance_sections, is_reserved_label, section, sections}

-- ARGUMENT is a name to ASN.1, and GeneralizedTime a label that is none
argument_example : is_name (token_of word_kind 0 (codes "ARGUMENT")) ≡ true
argument_example = refl

reserved_example : is_reserved_label (token_of word_kind 0 (codes "GeneralizedTime")) ≡ true
reserved_example = refl

free_example : is_reserved_label (token_of word_kind 0 (codes "load")) ≡ false
free_example = refl

-- RULES END
abbrev rules_word : Token
rules_word = token_of word_kind 0 (codes "RULES")

empty_example : Spells (rules_word ∷ token_of word_kind 6 (codes "END") ∷ []) sections section 0 2
    (First (Numbered 0 (Pair (Leaf rules_word) (Pair Empty Bare))))
empty_example = first (named (both (keep refl refl refl) (both no_more (marks (record { passed = refl }) no_marks))))

-- INSTANCES ROOT element AT {elementId = 1} WITH load = 7; END
abbrev instances_word : Token
instances_word = token_of word_kind 0 (codes "INSTANCES")

abbrev root_word : Token
root_word = token_of word_kind 10 (codes "ROOT")

abbrev class_label : Token
class_label = token_of word_kind 15 (codes "element")

abbrev naming_label : Token
naming_label = token_of word_kind 27 (codes "elementId")

abbrev naming_number : Token
naming_number = token_of number_kind 39 (codes "1")

abbrev value_label : Token
value_label = token_of word_kind 47 (codes "load")

abbrev value_number : Token
value_number = token_of number_kind 54 (codes "7")

abbrev one_instance : List Token
one_instance = instances_word ∷ root_word ∷ class_label ∷ token_of word_kind 23 (codes "AT") ∷ token_of sign_kind 26
    (codes "{") ∷ naming_label ∷ token_of sign_kind 37 (codes "=") ∷ naming_number ∷ token_of sign_kind 40 (codes "}") ∷
    token_of word_kind 42 (codes "WITH") ∷ value_label ∷ token_of sign_kind 52 (codes "=") ∷ value_number ∷ token_of
    sign_kind 55 (codes ";") ∷ token_of word_kind 57 (codes "END") ∷ []

-- a number without a sign, as the value of an attribute
abbrev numbered_pair : Token → Token → Tree
numbered_pair label number = Pair (Leaf label)
    (Pair Bare (Numbered 0 (Second (First (Pair Absent (Leaf number))))))

-- its word, its class and its name, the values, and no packages
instance_example : Spells one_instance sections (Named instance_sections) 0 15
    (Numbered 0 (Pair (Leaf instances_word) (Pair (After Empty (Pair (Pair (First (Leaf root_word))
    (Pair (Leaf class_label) (Pair Bare (Pair Bare (Pair (After Empty (numbered_pair naming_label naming_number))
    Bare))))) (Pair (Present (Pair Bare (After Empty (numbered_pair value_label value_number)))) (Pair Absent Bare))))
    Bare)))
instance_example = named (both (keep refl refl refl) (both (another (both
    (both (first (keep refl refl refl)) (both (keep refl refl refl) (both (marks (record { passed = refl }) no_marks)
    (both (marks (record { passed = refl }) no_marks) (both (last (both (keep refl refl refl)
    (both (marks (record { passed = refl }) no_marks) (named (second (first (both absent (keep refl refl refl))))))))
    (marks (record { passed = refl }) no_marks))))))
    (both (present (both (marks (record { passed = refl }) no_marks) (last (both (keep refl refl refl)
    (both (marks (record { passed = refl }) no_marks) (named (second (first (both absent (keep refl refl refl))))))))))
    (both absent (marks (record { passed = refl }) no_marks)))) no_more) (marks (record { passed = refl }) no_marks)))
