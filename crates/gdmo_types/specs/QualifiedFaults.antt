-- QualifiedFaults: what is wrong with the names of types and values in a template: there is no such module, it has no
-- such name, or a value is named for a type or a type for a value (X.722, section 8; docs/PROFILE.md, section 12).
use Rattle.std.specs.Prelude.{◌≡◌, ◌≢◌, ℕ, List}
use Rattle.token_grammar.specs.declared.qualified_name.QualifiedName.{QualifiedName}
use Rattle.asn1_names.specs.ModuleTerms.{ModuleTerm}
use Rattle.asn1_names.specs.NameMeaning.{Meaning, module_meaning}
use Rattle.asn1_names.specs.NameMeaning.Meaning.{Nothing}
use Rattle.asn1_names.specs.NameMeaning.ModuleMeaning.{NoModule}
use Rattle.gdmo_classes.specs.declared.properties.Properties.{Properties}
use Rattle.gdmo_names.specs.ClassViews.{stated_term}
use Rattle.gdmo_names.specs.FaultSets.{AnyOf, Either, FaultSet, OneFault}
use Rattle.gdmo_names.specs.FirstLabelFault.LabelFault.{KindWrong, LabelUnknown}
use Rattle.gdmo_names.specs.PartTerms.{Placed, PartTerms, body_of, module_terms_of}
use Rattle.gdmo_names.specs.TemplateTerms.{BodyTerm}
use Rattle.gdmo_names.specs.TypeMeaning.{name_list, qualified_meaning, stated_values, type_names}
use Rattle.gdmo_names.specs.TypeMeaning.{value_names}
use Rattle.gdmo_names.specs.WrongKinds.{IsTypeMeaning, IsValueMeaning}

-- a module has no such name
abbrev pub IsNotAssigned : List ModuleTerm → QualifiedName → Type 0
IsNotAssigned ms name =
    (module_meaning ms name.module_name.text ≢ NoModule) × (qualified_meaning ms name ≡ Nothing)

-- a name that means nothing
abbrev pub UnknownName : List ModuleTerm → ℕ → QualifiedName → FaultSet
UnknownName ms document name =
    Either (OneFault (module_meaning ms name.module_name.text ≡ NoModule) LabelUnknown document name.module_name.at)
    (OneFault (IsNotAssigned ms name) LabelUnknown document name.name.at)

-- the same, or one that doesn't mean what may stand there
abbrev pub NameFaults : (Meaning → Type 0) → List ModuleTerm → ℕ → QualifiedName → FaultSet
NameFaults IsOther ms document name = Either (UnknownName ms document name)
    (OneFault (IsOther (qualified_meaning ms name)) KindWrong document name.name.at)

abbrev pub TypeNameFaults : List ModuleTerm → ℕ → QualifiedName → FaultSet
TypeNameFaults ms document name = NameFaults IsValueMeaning ms document name

abbrev pub ValueNameFaults : List ModuleTerm → ℕ → QualifiedName → FaultSet
ValueNameFaults ms document name = NameFaults IsTypeMeaning ms document name

-- what is wrong with them in the properties of an attribute
abbrev pub PropertyFaults : List ModuleTerm → ℕ → Properties → FaultSet
PropertyFaults ms document x = Either (Either (Either
    (AnyOf (ValueNameFaults ms document) (stated_values (stated_term x.default_value)))
    (AnyOf (ValueNameFaults ms document) (stated_values (stated_term x.initial_value))))
    (AnyOf (TypeNameFaults ms document) (name_list x.permitted_values)))
    (AnyOf (TypeNameFaults ms document) (name_list x.required_values))

-- what is wrong with the names of types and values in a template, and in all templates
abbrev pub BodyNameFaults : List ModuleTerm → ℕ → BodyTerm → FaultSet
BodyNameFaults ms document body = Either (AnyOf (TypeNameFaults ms document) (type_names body))
    (AnyOf (ValueNameFaults ms document) (value_names body))

abbrev pub QualifiedFaults : PartTerms → Placed → FaultSet
QualifiedFaults parts x = BodyNameFaults (module_terms_of parts) x.document (body_of x.template)
