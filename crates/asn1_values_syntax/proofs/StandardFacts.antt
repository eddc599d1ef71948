-- Examples of a value with its two readings, of a type and of a module, computed: X.680, sections 13.1, 23.1, 32.3.
use Rattle.std.proofs.Common.{List, [], ◌∷◌, refl, codes}
use Rattle.token_grammar.specs.declared.token.Token.{Token}
use Rattle.token_grammar.specs.Kinds.{number_kind, sign_kind, word_kind}
use Rattle.token_grammar.specs.Form.{Named, Bare, Leaf, Pair, First, Second, Absent, Empty, Numbered}
use Rattle.token_grammar.specs.Parts.{object_identifier}
use Rattle.token_grammar.specs.Spelling as S
use Rattle.token_grammar.specs.Spelling.{Spells}
use Rattle.token_grammar.proofs.Known.{token_of}
use Rattle.asn1_values_syntax.specs.Asn1.{asn1}
use Rattle.asn1_values_syntax.specs.ValueForms.{modules, types, values}
use Rattle.asn1_values_syntax.specs.Readings.{SaysArcs, arcs_said, braces_said, number, number_said, part_said}

-- {5}
abbrev brace : Token
brace = token_of sign_kind 0 (codes "{")

abbrev five : Token
five = token_of number_kind 1 (codes "5")

abbrev one_number : List Token
one_number = brace ∷ five ∷ token_of sign_kind 2 (codes "}") ∷ []

-- a value of one part, an object identifier of one arc, and what is kept of both
value_example : Spells one_number asn1 (Named values) 0 3 (braces_said brace (part_said (Second (number_said five))))
value_example = S.named (S.second (S.second (S.second (S.both (S.keep refl refl refl)
    (S.second (S.first (S.both (S.last (S.second (S.named (S.second (S.first (S.both S.absent
    (S.keep refl refl refl))))))) (S.marks (record { passed = refl }) S.no_marks))))))))

identifier_example : Spells one_number asn1 object_identifier 0 3
    (Pair (Leaf brace) (arcs_said (First (First (Leaf five))) Empty))
identifier_example = S.both (S.keep refl refl refl) (S.both (S.first (S.first (S.keep refl refl refl)))
    (S.both S.no_more (S.marks (record { passed = refl }) S.no_marks)))

kept_example : SaysArcs (part_said (Second (number_said five))) (arcs_said (First (First (Leaf five))) Empty)
kept_example = number

-- NULL
abbrev null : Token
null = token_of word_kind 0 (codes "NULL")

type_example : Spells (null ∷ []) asn1 (Named types) 0 1
    (Numbered 0 (Second (Second (Second (Pair (First (Leaf null)) Empty)))))
type_example = S.named (S.second (S.second (S.second (S.both (S.first (S.keep refl refl refl)) S.no_more))))

-- M DEFINITIONS ::= BEGIN END
abbrev name : Token
name = token_of word_kind 0 (codes "M")

abbrev small_module : List Token
small_module = name ∷ token_of word_kind 2 (codes "DEFINITIONS") ∷ token_of sign_kind 14 (codes "::=") ∷ token_of
    word_kind 18 (codes "BEGIN") ∷ token_of word_kind 24 (codes "END") ∷ []

module_example : Spells small_module asn1 (Named modules) 0 5
    (Numbered 0 (Pair (Pair (Leaf name) (Pair Absent (Pair Bare (Pair Absent (Pair Bare Bare)))))
    (Pair Absent (Pair Absent (Pair Empty Bare)))))
module_example = S.named (S.both (S.both (S.keep refl refl refl) (S.both S.absent
    (S.both (S.marks (record { passed = refl }) S.no_marks) (S.both S.absent
    (S.both (S.marks (record { passed = refl }) S.no_marks) (S.marks (record { passed = refl }) S.no_marks))))))
    (S.both S.absent (S.both S.absent (S.both S.no_more (S.marks (record { passed = refl }) S.no_marks)))))
