-- ComparedTypes: what is told of the type of an attribute, and of one that is stated, and when two of them are other
-- ones (X.722, section 8.7; docs/PROFILE.md, section 12).
use Rattle.std.specs.Prelude.{◌≡◌, ◌≢◌, ◌↔◌, ℕ, List, Option, None, Some}
use Rattle.token_grammar.specs.declared.qualified_name.QualifiedName.{QualifiedName}
use Rattle.asn1_names.specs.ModuleTerms.{ModuleTerm}
use Rattle.asn1_names.specs.NameMeaning.{Meaning}
use Rattle.asn1_names.specs.NodeCount.{IsNoType}
use Rattle.key_numbers.specs.NumberedLists.{AreOnce, Row}
use Rattle.type_numbers.specs.AskedTypes.{HasNumber}
use Rattle.gdmo_names.specs.AttributeSyntaxes.{AttributeHasType, HasUnknownSyntax}
use Rattle.gdmo_names.specs.PartTerms.{Placed, PartTerms, kind_of, module_terms_of}
use Rattle.gdmo_names.specs.RuleFaults.{AreOneStatedType, IsOfStatedType}
use Rattle.gdmo_names.specs.RuleWords.{IsKnownType}
use Rattle.gdmo_names.specs.TemplateTerms.TemplateKind.{AttributeKind}
use Rattle.gdmo_names.specs.TypeMeaning.{qualified_meaning}
use Rattle.gdmo_types.specs.AttributeTypes.{IsEndless, TellsMissing}
use Rattle.gdmo_types.specs.declared.compared_types.ComparedType.{ComparedType}
use Rattle.gdmo_types.specs.declared.compared_types.ComparedType.TheVariants.{Missing, Nothing, Number}

-- the number is that of the type that a name means
abbrev pub NumbersName : PartTerms → Row → QualifiedName → ℕ → Type 0
NumbersName parts row name n = HasNumber (module_terms_of parts) row (qualified_meaning (module_terms_of parts) name) n

-- the number is that of the type of an attribute
pub record NumbersAttribute (parts : PartTerms) (row : Row) (attribute : Placed) (n : ℕ) : Type 0 where
  pub name : QualifiedName
  pub of_type : AttributeHasType parts attribute name
  pub numbered : NumbersName parts row name n

-- of an attribute: its type isn't known, it has none, or its type has this number
abbrev pub TellsAttribute : PartTerms → Row → Placed → ComparedType → Type 0
TellsAttribute parts row attribute Missing = TellsMissing parts attribute
TellsAttribute parts row attribute Nothing = IsEndless parts attribute
TellsAttribute parts row attribute (Number n) = NumbersAttribute parts row attribute n

-- the type that is stated isn't there
pub record IsStatedMissing (parts : PartTerms) (stated : Option QualifiedName) : Type 0 where
  pub name : QualifiedName
  pub is : stated ≡ Some name
  pub no_type : IsNoType (qualified_meaning (module_terms_of parts) name)

pub record NumbersStated (parts : PartTerms) (row : Row) (stated : Option QualifiedName) (n : ℕ) : Type 0 where
  pub name : QualifiedName
  pub is : stated ≡ Some name
  pub numbered : NumbersName parts row name n

-- of a type that may be stated: it isn't there, none is stated, or it has this number
abbrev pub TellsStatedType : PartTerms → Row → Option QualifiedName → ComparedType → Type 0
TellsStatedType parts row stated Missing = IsStatedMissing parts stated
TellsStatedType parts row stated Nothing = stated ≡ None
TellsStatedType parts row stated (Number n) = NumbersStated parts row stated n

-- of a type that is meant: it is none, or it has this number
abbrev pub TellsMeant : List ModuleTerm → Row → Meaning → ComparedType → Type 0
TellsMeant ms row meant Missing = IsNoType meant
TellsMeant ms row meant Nothing = ⊥
TellsMeant ms row meant (Number n) = HasNumber ms row meant n

-- two are known, and aren't the types with one number
abbrev pub AreOther : ComparedType → ComparedType → Type 0
AreOther Missing other = ⊥
AreOther Nothing Missing = ⊥
AreOther Nothing Nothing = Unit {0}
AreOther Nothing (Number k) = Unit {0}
AreOther (Number n) Missing = ⊥
AreOther (Number n) Nothing = Unit {0}
AreOther (Number n) (Number k) = n ≢ k

-- what is told of an attribute and of a stated type is other exactly where both are known, and the attribute isn't of
-- the stated type
abbrev pub TellsOtherStated : Type 0
TellsOtherStated = (parts : PartTerms) (row : Row) (attribute : Placed) (stated : Option QualifiedName)
    (one other : ComparedType) → AreOnce row → kind_of attribute.template ≡ AttributeKind →
    TellsAttribute parts row attribute one → TellsStatedType parts row stated other →
    AreOther one other ↔ ((¬ HasUnknownSyntax parts attribute) × IsKnownType parts stated ×
    (¬ IsOfStatedType parts attribute stated))

-- the same of two types that are stated
abbrev pub TellsOtherTypes : Type 0
TellsOtherTypes = (parts : PartTerms) (row : Row) (stated its_stated : Option QualifiedName)
    (one other : ComparedType) → AreOnce row → TellsStatedType parts row stated one →
    TellsStatedType parts row its_stated other →
    AreOther one other ↔ (IsKnownType parts stated × IsKnownType parts its_stated ×
    (¬ AreOneStatedType parts stated its_stated))
