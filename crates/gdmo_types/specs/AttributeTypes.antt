-- AttributeTypes: what is told of the type of each attribute (X.722, section 8.7; docs/PROFILE.md, section 12).
use Rattle.std.specs.Prelude.{◌≡◌, ◌≢◌, ◌⊎◌, List}
use Rattle.token_grammar.specs.declared.qualified_name.QualifiedName.{QualifiedName}
use Rattle.asn1_names.specs.CodeMeanings.{Means as IsCode}
use Rattle.asn1_names.specs.NodeCount.{IsNoType}
use Rattle.asn1_names.specs.declared.name_tables.Meaning.{Meaning as CodeMeaning}
use Rattle.gdmo_names.specs.AttributeSyntaxes.{AttributeHasType, HasUnknownSyntax}
use Rattle.gdmo_names.specs.FoundViews.{found_views}
use Rattle.gdmo_names.specs.InStep.{AreEach}
use Rattle.gdmo_names.specs.PartTerms.{Placed, PartTerms, kind_of, module_terms_of}
use Rattle.gdmo_names.specs.TemplateTerms.TemplateKind.{AttributeKind}
use Rattle.gdmo_names.specs.TypeMeaning.{qualified_meaning}
use Rattle.gdmo_names.specs.declared.found.Found.{Found}
use Rattle.gdmo_types.specs.declared.attribute_types.AttributeType.{AttributeType}
use Rattle.gdmo_types.specs.declared.attribute_types.AttributeType.TheVariants.{Of, Endless, Missing}

-- an attribute is of the type that a name means
pub record IsOfMeaning (parts : PartTerms) (attribute : Placed) (meaning : CodeMeaning) : Type 0 where
  pub name : QualifiedName
  pub of_type : AttributeHasType parts attribute name
  pub is_type : ¬ IsNoType (qualified_meaning (module_terms_of parts) name)
  pub meant : IsCode (module_terms_of parts) meaning (qualified_meaning (module_terms_of parts) name)

-- it derives from itself
pub record IsEndless (parts : PartTerms) (attribute : Placed) : Type 0 where
  pub is_attribute : kind_of attribute.template ≡ AttributeKind
  pub no_type : (name : QualifiedName) → ¬ AttributeHasType parts attribute name
  pub known : ¬ HasUnknownSyntax parts attribute

-- its type isn't known, or it is no attribute
abbrev pub TellsMissing : PartTerms → Placed → Type 0
TellsMissing parts attribute = HasUnknownSyntax parts attribute ⊎ (kind_of attribute.template ≢ AttributeKind)

abbrev pub TellsType : PartTerms → Placed → AttributeType → Type 0
TellsType parts attribute (Of meaning) = IsOfMeaning parts attribute meaning
TellsType parts attribute Endless = IsEndless parts attribute
TellsType parts attribute Missing = TellsMissing parts attribute

abbrev pub AreAttributeTypes : PartTerms → List Found → List AttributeType → Type 0
AreAttributeTypes parts xs types = AreEach (TellsType parts) (found_views xs) types
