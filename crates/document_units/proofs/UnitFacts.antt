-- Examples of documents: none of a unit, and a section between empty semicolons, "; RULES END ;".
use Rattle.std.proofs.Common.{List, [], ◌∷◌, arith, codes, refl}
use Rattle.token_grammar.specs.declared.token.Token.{Token}
use Rattle.token_grammar.specs.Form.{Tree, Bare, Empty, First, Leaf, Numbered, Pair}
use Rattle.token_grammar.specs.Spelling as S
use Rattle.token_grammar.proofs.Known.{token_of}
use Rattle.document_units.specs.DocumentForms.{SpellsUnits}
use Rattle.document_units.specs.DocumentForms.SpellsUnits.{at_end, semicolon, unit}
use Rattle.document_units.specs.UnitForms.SpellsUnit.{of_section}
use Rattle.document_units.specs.UnitForms.UnitTerm.{SectionUnit}

no_units : SpellsUnits [] 0 []
no_units = at_end (omega arith)

abbrev example : List Token
example = token_of 5 0 (codes ";") ∷ token_of 0 2 (codes "RULES") ∷ token_of 0 8 (codes "END") ∷ token_of 5 12 (codes ";")
    ∷ []

abbrev no_rules : Tree
no_rules = First (Numbered 0 (Pair (Leaf (token_of 0 2 (codes "RULES"))) (Pair Empty Bare)))

one_section : SpellsUnits example 0 (SectionUnit no_rules ∷ [])
one_section = semicolon (record { passed = refl })
    (unit (of_section (S.first (S.named (S.both (S.keep refl refl refl)
    (S.both S.no_more (S.marks (record { passed = refl }) S.no_marks))))))
    (semicolon (record { passed = refl }) (at_end (omega arith))))
