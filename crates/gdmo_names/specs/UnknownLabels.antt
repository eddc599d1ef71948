-- UnknownLabels: references that no template, module, type or value has, each looked up in its own space; of a token
-- of a document (X.722, section 8; docs/PROFILE.md, section 12).
use Rattle.std.specs.Prelude.{◌≡◌, ◌≢◌, ◌⊎◌, ℕ, None}
use Rattle.token_grammar.specs.declared.qualified_name.QualifiedName.{QualifiedName}
use Rattle.token_grammar.specs.declared.token.Token.{Token}
use Rattle.asn1_names.specs.NameMeaning.{module_meaning}
use Rattle.asn1_names.specs.NameMeaning.Meaning.{Nothing}
use Rattle.asn1_names.specs.NameMeaning.ModuleMeaning.{NoModule}
use Rattle.gdmo_names.specs.FirstNames.{IsAssigned, StandsIdentifier, root_arc}
use Rattle.gdmo_names.specs.LabelMeaning.{label_meaning}
use Rattle.gdmo_names.specs.Mentions.{Role}
use Rattle.gdmo_names.specs.PartTerms.{PartTerms, module_terms_of}
use Rattle.gdmo_names.specs.References.{Refers}
use Rattle.gdmo_names.specs.TemplateTerms.{IdentifierTerm}
use Rattle.gdmo_names.specs.TemplateTerms.FirstTerm.{ArcName}
use Rattle.gdmo_names.specs.TemplateTerms.ReferenceTerm.{ByLabel}
use Rattle.gdmo_names.specs.TypeMeaning.{NamesType, NamesValue, qualified_meaning}

-- a template of the document names the type or the value
abbrev pub NamesQualified : PartTerms → ℕ → QualifiedName → Type 0
NamesQualified parts document name = NamesType parts document name ⊎ NamesValue parts document name

pub data UnknownLabelAt (parts : PartTerms) (document at : ℕ) : Type 0 where
  template_label : {role : Role} {label : Token} → Refers parts document role (ByLabel label) →
      label_meaning parts label.text ≡ None → label.at ≡ at → UnknownLabelAt parts document at
  module_name : {name : QualifiedName} → NamesQualified parts document name →
      module_meaning (module_terms_of parts) name.module_name.text ≡ NoModule → name.module_name.at ≡ at →
      UnknownLabelAt parts document at
  type_or_value : {name : QualifiedName} → NamesQualified parts document name →
      module_meaning (module_terms_of parts) name.module_name.text ≢ NoModule →
      qualified_meaning (module_terms_of parts) name ≡ Nothing → name.name.at ≡ at → UnknownLabelAt parts document at
  first_name : {identifier : IdentifierTerm} {name : Token} → StandsIdentifier parts document identifier →
      identifier.first ≡ ArcName name → root_arc name.text ≡ None → ¬ IsAssigned parts name.text → name.at ≡ at →
      UnknownLabelAt parts document at
