-- Texts: short terms of which the examples are made.
use Rattle.std.specs.Prelude.{ℕ, List, [], ◌∷◌, false, None}
use Rattle.token_grammar.specs.declared.token.Token.{Token}
use Rattle.token_grammar.specs.Kinds.{word_kind, number_kind}
use Rattle.asn1_names.specs.ModuleTerms.{TypeTerm, AssignmentTerm, ImportTerm}
use Rattle.asn1_names.specs.ModuleTerms.{ModuleTerm}
use Rattle.asn1_names.specs.ModuleTerms.PlainTerm.{OneWord}
use Rattle.asn1_names.specs.ModuleTerms.TypeTerm.{Plain, Reference}
use Rattle.asn1_names.specs.ModuleTerms.AssignedTerm.{AssignsType}

-- a word, and digits, at a place
abbrev pub word : ℕ → List ℕ → Token
word at text = record { kind = word_kind; at = at; text = text }

abbrev pub digits : ℕ → List ℕ → Token
digits at text = record { kind = number_kind; at = at; text = text }

-- a type of one word, and the name of a type
abbrev pub simple : ℕ → List ℕ → TypeTerm
simple at text = Plain (word at text) OneWord []

abbrev pub named : ℕ → List ℕ → TypeTerm
named at text = Reference None (word at text) []

-- `name ::= type`
abbrev pub type_assignment : ℕ → List ℕ → TypeTerm → AssignmentTerm
type_assignment at name of = record { name = word at name; assigned = AssignsType of }

-- a module of a document, with explicit tags
abbrev pub module_of : ℕ → List ℕ → List ImportTerm → List AssignmentTerm → ModuleTerm
module_of document name imports assignments = record {
  document = document;
  name = word 0 name;
  is_implicit = false;
  imports = imports;
  assignments = assignments;
}

abbrev pub import_of : Token → ℕ → List ℕ → ImportTerm
import_of symbol at module_name = record { symbols = symbol ∷ []; module_name = word at module_name }
