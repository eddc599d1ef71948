-- Asn1: the table of the forms of ASN.1 that documents may use (X.680; where X.680 has no such form, its
-- forerunner X.208; docs/PROFILE.md, section 8). What it leaves out is no syntax here.
use Rattle.std.specs.Prelude.{ℕ, zero, suc, false, [], ◌∷◌, codes}
use Rattle.token_grammar.specs.Form.{Form, Marks, Keep, Then, Or, Maybe, Listed, Many, Named, Empty}
use Rattle.token_grammar.specs.TokenTests.{is_word, is_name}
use Rattle.token_grammar.specs.Parts.{words, sign, object_identifier}
use Rattle.asn1_values_syntax.specs.ValueForms.{types, values, comma, value_form}
use Rattle.asn1_values_syntax.specs.TypeForms.{is_tag_mode, type_form}

-- X.680, section 13.1: TagDefault ::= EXPLICIT TAGS | IMPLICIT TAGS | empty
abbrev pub tag_default : Form
tag_default = Then (Keep is_tag_mode) (Marks (words (codes "TAGS" ∷ [])))

-- X.680, section 13.1: Exports ::= EXPORTS SymbolsExported ";"; any words are taken, and none is looked up
abbrev pub exports : Form
exports = Then (Marks (words (codes "EXPORTS" ∷ []))) (Then (Maybe (Listed comma Empty (Keep is_word)))
    (sign (codes ";")))

-- X.680, section 13.1: SymbolsFromModule ::= SymbolList FROM GlobalModuleReference
abbrev pub symbols : Form
symbols = Then (Listed comma Empty (Keep is_name)) (Then (Marks (words (codes "FROM" ∷ [])))
    (Then (Keep is_name) (Maybe object_identifier)))

-- X.680, section 13.1: Imports ::= IMPORTS SymbolsImported ";", from one module or more
abbrev pub imports : Form
imports = Then (Marks (words (codes "IMPORTS" ∷ []))) (Then symbols (Then (Many Empty symbols) (sign (codes ";"))))

-- X.680, sections 16.1 and 16.2: TypeAssignment ::= typereference "::=" Type;
-- ValueAssignment ::= valuereference Type "::=" Value
abbrev pub type_assignment : Form
type_assignment = Then (sign (codes "::=")) (Named types)

abbrev pub value_assignment : Form
value_assignment = Then (Named types) (Then (sign (codes "::=")) (Named values))

abbrev pub assignment : Form
assignment = Then (Keep is_name) (Or type_assignment value_assignment)

-- X.680, section 13.1: ModuleDefinition ::= ModuleIdentifier DEFINITIONS TagDefault "::=" BEGIN ModuleBody END
abbrev pub module_head : Form
module_head = Then (Keep is_name) (Then (Maybe object_identifier) (Then (Marks (words (codes "DEFINITIONS" ∷ [])))
    (Then (Maybe tag_default) (Then (sign (codes "::=")) (Marks (words (codes "BEGIN" ∷ [])))))))

abbrev pub module_form : Form
module_form = Then module_head (Then (Maybe exports) (Then (Maybe imports)
    (Then (Many Empty assignment) (Marks (words (codes "END" ∷ []))))))

-- the form under each number; no token begins a form of another number
abbrev pub asn1 : ℕ → Form
asn1 zero = module_form
asn1 (suc zero) = type_form
asn1 (suc (suc zero)) = value_form
asn1 (suc (suc (suc n))) = Keep (λ token. false)
