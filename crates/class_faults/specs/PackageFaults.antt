-- PackageFaults: what can be wrong with the properties of attributes: unequal inherited defaults, permitted values of
-- which none is left, and ADD or REMOVE on what is no set (X.722, section 8.4; docs/PROFILE.md, section 18).
use Rattle.std.specs.Prelude.{◌≡◌, ◌⊎◌, ◌↔◌, ℕ, List, Option, Some, Contains, slice_get}
use Rattle.token_grammar.specs.declared.token.Token.{Token}
use Rattle.term_values.specs.Syntaxes.{TypeSyntax}
use Rattle.term_model.specs.WholeRecords.{IsNotEmpty, IsSetValued}
use Rattle.asn1_names.specs.ModuleTerms.{ModuleTerm}
use Rattle.linked_parts.specs.declared.linked.Linked.{Linked}
use Rattle.linked_parts.specs.declared.linked.LinkedClass.{LinkedClass}
use Rattle.linked_parts.specs.declared.linked.LinkedName.{LinkedName}
use Rattle.linked_parts.specs.declared.linked.LinkedPackage.{LinkedPackage}
use Rattle.linked_parts.specs.declared.linked.LinkedUse.{LinkedUse}
use Rattle.class_faults.specs.AttributeSyntaxes.{AttributeHas}
use Rattle.class_faults.specs.CyclicClasses.{IsLabelAt}
use Rattle.class_faults.specs.StatedProperties.{HoldsUnequal, States, TypeHas}

-- the class at the place k has its label at this token of a document
pub record IsClassAt (linked : Linked) (k document at : ℕ) : Type 0 where
  pub of_class : LinkedClass
  pub stands : slice_get linked.classes.items k ≡ Some of_class
  pub label : IsLabelAt of_class.head document at

-- of some attribute two defaults, or two initial values, hold in a class and are unequal
pub record UnequalDefaultAt (ms : List ModuleTerm) (linked : Linked) (document at : ℕ) : Type 0 where
  pub k : ℕ
  pub is_class : IsClassAt linked k document at
  pub attribute : ℕ
  pub unequal : HoldsUnequal ms linked (λ (stated : LinkedUse). stated.default_value) attribute k
      ⊎ HoldsUnequal ms linked (λ (stated : LinkedUse). stated.initial_value) attribute k

-- the syntaxes of the types that permit values of an attribute in a class are these
pub record ArePermitted (ms : List ModuleTerm) (linked : Linked) (k attribute : ℕ) (types : List TypeSyntax)
    : Type 0 where
  pub each : (type : TypeSyntax) → Contains types type ↔
      ((stated : LinkedUse) × ((name : LinkedName) × States linked k stated × (stated.attribute ≡ attribute)
      × (stated.permitted ≡ Some name) × TypeHas ms linked name type))

-- Of some attribute of a class the ranges, or the sizes, of its syntax and of the types that permit its values have
-- nothing in common. A type of another form has no ranges that could be compared; sizes below 0 are none.
pub record EmptyPermittedAt (ms : List ModuleTerm) (linked : Linked) (document at : ℕ) : Type 0 where
  pub k : ℕ
  pub is_class : IsClassAt linked k document at
  pub attribute : ℕ
  pub stated : LinkedUse
  pub states : States linked k stated
  pub of_attribute : stated.attribute ≡ attribute
  pub syntax : TypeSyntax
  pub has : AttributeHas ms linked attribute syntax
  pub types : List TypeSyntax
  pub permit : ArePermitted ms linked k attribute types
  pub empty : ¬ IsNotEmpty syntax types

-- the word ADD, REMOVE or ADD-REMOVE stands at a token of a package, whatever class has it
pub record IsSetWordAt (linked : Linked) (stated : LinkedUse) (document at : ℕ) : Type 0 where
  pub place : ℕ
  pub of_package : LinkedPackage
  pub stands : slice_get linked.packages.items place ≡ Some of_package
  pub says : Contains of_package.attributes.items stated
  pub in_document : of_package.head.document ≡ document
  pub word : Token
  pub is_word : (stated.add ≡ Some word) ⊎ (stated.remove ≡ Some word)
  pub at_token : word.at ≡ at

-- ADD or REMOVE of an attribute whose syntax isn't SET OF, under any tags
pub record NotSetValuedAt (ms : List ModuleTerm) (linked : Linked) (document at : ℕ) : Type 0 where
  pub stated : LinkedUse
  pub is_word : IsSetWordAt linked stated document at
  pub syntax : TypeSyntax
  pub has : AttributeHas ms linked stated.attribute syntax
  pub no_set : ¬ IsSetValued syntax
