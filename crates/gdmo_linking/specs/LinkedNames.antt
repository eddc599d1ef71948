-- LinkedNames: what linked parts tell of identifiers, of names of types and values, and of the words of clauses (X.722,
-- section 8; docs/PROFILE.md, section 12).
use Rattle.std.specs.Prelude.{◌≡◌, ◌||◌, ℕ, List, [], ◌∷◌, Bool, Option, None, Some, if◌then◌else◌}
use Rattle.std.specs.List.{list_any}
use Rattle.token_grammar.specs.declared.qualified_name.QualifiedName.{QualifiedName}
use Rattle.token_grammar.specs.declared.token.Token.{Token}
use Rattle.token_grammar.specs.TokenTests.{is_word_of}
use Rattle.term_values.specs.Syntaxes.{TypeSyntax}
use Rattle.asn1_names.specs.NameMeaning.{Meaning}
use Rattle.asn1_names.specs.NameMeaning.Meaning.{TypeAt, ValueAt, StandardType}
use Rattle.linked_parts.specs.declared.linked.LinkedHead.{LinkedHead}
use Rattle.linked_parts.specs.declared.linked.LinkedName.{LinkedName}
use Rattle.linked_parts.specs.declared.linked.NamedMeaning.{NamedMeaning}
use Rattle.linked_parts.specs.declared.linked.NamedMeaning.TheVariants.{Assigned, Standard}
use Rattle.gdmo_names.specs.FirstNames.{IsIdentifier}
use Rattle.gdmo_names.specs.PartTerms.{Placed, PartTerms, identifier_of, label_of, module_terms_of}
use Rattle.gdmo_names.specs.TemplateTerms.{IdentifierTerm, StatedTerm}
use Rattle.gdmo_names.specs.TemplateTerms.StatedTerm.{NotStated, StatedValue, ByRule}
use Rattle.gdmo_names.specs.TypeMeaning.{qualified_meaning}

-- the identifier under which a template is registered, its first name replaced
abbrev pub IsLinkedIdentifier : PartTerms → Option IdentifierTerm → Option (List ℕ) → Type 0
IsLinkedIdentifier parts None None = Unit {0}
IsLinkedIdentifier parts (Some x) (Some arcs) = IsIdentifier parts x arcs
IsLinkedIdentifier parts _ _ = ⊥

pub record IsHead (parts : PartTerms) (x : Placed) (head : LinkedHead) : Type 0 where
  pub document : head.document ≡ x.document
  pub label : head.label ≡ label_of x.template
  pub identifier : IsLinkedIdentifier parts (identifier_of x.template) head.identifier

-- a meaning is told by the places of its module and its assignment, or by the name of CMIP-1's type
pub data IsMeant (name : Token) : Meaning → NamedMeaning → Type 0 where
  of_type : {m i : ℕ} {of : _} → IsMeant name (TypeAt m i of) (Assigned m i)
  of_value : {m i : ℕ} {of number text : _} → IsMeant name (ValueAt m i of number text) (Assigned m i)
  of_standard : {syntax : TypeSyntax} → IsMeant name (StandardType syntax) (Standard name)

pub record IsLinkedName (parts : PartTerms) (name : QualifiedName) (linked : LinkedName) : Type 0 where
  pub named : linked.name ≡ name.name
  pub meant : IsMeant name.name (qualified_meaning (module_terms_of parts) name) linked.meaning

abbrev pub IsOptionalName : PartTerms → Option QualifiedName → Option LinkedName → Type 0
IsOptionalName parts None None = Unit {0}
IsOptionalName parts (Some name) (Some linked) = IsLinkedName parts name linked
IsOptionalName parts _ _ = ⊥

-- DERIVATION RULE gives no value
abbrev pub stated_name : StatedTerm → Option QualifiedName
stated_name NotStated = None
stated_name (StatedValue name) = Some name
stated_name (ByRule rule) = None

-- one of two words stands among these; the first of them that is one
abbrev pub is_either : List ℕ → List ℕ → Token → Bool
is_either one other token = is_word_of one token || is_word_of other token

abbrev pub has_either : List ℕ → List ℕ → List Token → Bool
has_either one other words = list_any (is_either one other) words

abbrev pub first_of : List ℕ → List ℕ → List Token → Option Token
first_of one other [] = None
first_of one other (word ∷ words) = if is_either one other word then Some word else first_of one other words
