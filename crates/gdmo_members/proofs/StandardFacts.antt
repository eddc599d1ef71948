-- An example of a template, computed: X.722, section 8.4.
use Rattle.std.proofs.Common.{List, [], ◌∷◌, refl, codes}
use Rattle.token_grammar.specs.declared.token.Token.{Token}
use Rattle.token_grammar.specs.Kinds.{word_kind, sign_kind}
use Rattle.token_grammar.specs.Form.{Named, Bare, Leaf, Pair, Absent, Numbered}
use Rattle.token_grammar.specs.Spelling.{Spells, no_marks, marks, keep, both, absent, enough, named}
use Rattle.token_grammar.proofs.Known.{token_of}
use Rattle.gdmo_members.specs.Clauses.{packages}
use Rattle.gdmo_members.specs.Templates.{templates}

-- p PACKAGE;
abbrev label : Token
label = token_of word_kind 0 (codes "p")

abbrev small_package : List Token
small_package = label ∷ token_of word_kind 2 (codes "PACKAGE") ∷ token_of sign_kind 9 (codes ";") ∷ []

-- its label, the five clauses, of which none came, and its end without a registration
package_example : Spells small_package templates (Named packages) 0 3
    (Numbered 0 (Pair (Leaf label) (Pair Bare (Pair
    (Pair Absent (Pair Absent (Pair Absent (Pair Absent (Pair Absent Bare)))))
    (Pair Absent Bare)))))
package_example = named (both (keep refl refl refl)
    (both (marks (record { passed = refl }) no_marks)
    (both (enough refl refl) (both absent (marks (record { passed = refl }) no_marks)))))
