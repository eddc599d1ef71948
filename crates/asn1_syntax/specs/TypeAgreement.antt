-- TypeAgreement: two types are equal in all but the place and the capacity of the memory of their lists and boxes,
-- which no text says (X.680, sections 17 to 51; X.208, sections 20 to 27).
use Rattle.std.specs.Prelude.{◌≡◌}
use Rattle.std.specs.declared.alloc.Global.{Global}
use Rattle.std.specs.declared.boxed.Box.{Box}
use Rattle.std.specs.declared.vec.Vec.{Vec}
use Rattle.token_grammar.specs.declared.token.Token.{Token}
use Rattle.token_grammar.specs.PartLaws.{ListsAgree, OptionsAgree}
use Rattle.asn1_values_syntax.specs.Agreement.{ValuesAgree}
use Rattle.asn1_values_syntax.specs.declared.constraint.Constraint.{Constraint}
use Rattle.asn1_values_syntax.specs.declared.constraint.Constraint.TheVariants.{Size, Values}
use Rattle.asn1_syntax.specs.declared.plain_type.IntegerType.{IntegerType}
use Rattle.asn1_syntax.specs.declared.plain_type.EnumeratedType.{EnumeratedType}
use Rattle.asn1_syntax.specs.declared.plain_type.BitStringType.{BitStringType}
use Rattle.asn1_syntax.specs.declared.plain_type.AnyType.{AnyType}
use Rattle.asn1_syntax.specs.declared.plain_type.TypeName.{TypeName}
use Rattle.asn1_syntax.specs.declared.plain_type.PlainType.{PlainType}
use Rattle.asn1_syntax.specs.declared.plain_type.PlainType.TheVariants.{Simple, Integer, Enumerated, BitString}
use Rattle.asn1_syntax.specs.declared.plain_type.PlainType.TheVariants.{OctetString, ObjectIdentifier, Any, Named}
use Rattle.asn1_syntax.specs.declared.presence.Presence.{Presence}
use Rattle.asn1_syntax.specs.declared.presence.Presence.TheVariants.{Optional, Default}
use Rattle.asn1_syntax.specs.declared.type_text.TypeText.{TypeText, Row_of-Alternative, end_of-Alternative}
use Rattle.asn1_syntax.specs.declared.type_text.TypeText.{more_of-Alternative}
use Rattle.asn1_syntax.specs.declared.type_text.TypeText.TheVariants.{Tagged', Structured, Choice', Plain}
use Rattle.asn1_syntax.specs.declared.type_text.StructureText.{StructureText, Row_of-Component, end_of-Component}
use Rattle.asn1_syntax.specs.declared.type_text.StructureText.{more_of-Component, Held-StructureText-Components-0}
use Rattle.asn1_syntax.specs.declared.type_text.StructureText.{None', Some'}
use Rattle.asn1_syntax.specs.declared.type_text.StructureText.TheVariants.{Components', ListOf'}
use Rattle.asn1_syntax.specs.declared.type_text.Component.{Component}
use Rattle.asn1_syntax.specs.declared.type_text.Alternative.{Alternative}

-- the same parts, or parts that agree, one by one
abbrev pub VectorsEqual : {X : Type 0} → Vec X Global → Vec X Global → Type 0
VectorsEqual x y = x.items ≡ y.items

abbrev pub VectorsAgree : {X : Type 0} → (X → X → Type 0) → Vec X Global → Vec X Global → Type 0
VectorsAgree agree x y = ListsAgree agree x.items y.items

abbrev pub ConstraintsAgree : Constraint → Constraint → Type 0
ConstraintsAgree (Size x) (Size y) = VectorsEqual x y
ConstraintsAgree (Size x) (Values y) = ⊥
ConstraintsAgree (Values x) (Size y) = ⊥
ConstraintsAgree (Values x) (Values y) = VectorsEqual x y

abbrev pub IntegersAgree : IntegerType → IntegerType → Type 0
IntegersAgree x y = (x.word ≡ y.word) × OptionsAgree VectorsEqual x.numbers y.numbers

abbrev pub EnumeratedAgree : EnumeratedType → EnumeratedType → Type 0
EnumeratedAgree x y = (x.word ≡ y.word) × VectorsEqual x.items y.items

abbrev pub BitStringsAgree : BitStringType → BitStringType → Type 0
BitStringsAgree x y = (x.word ≡ y.word) × OptionsAgree VectorsEqual x.bits y.bits

-- two types of one kind that agree
pub data PlainTypesAgree : PlainType → PlainType → Type 0 where
  two_simple : {x y : Token} → x ≡ y → PlainTypesAgree (Simple x) (Simple y)
  two_integers : {x y : IntegerType} → IntegersAgree x y → PlainTypesAgree (Integer x) (Integer y)
  two_enumerated : {x y : EnumeratedType} → EnumeratedAgree x y → PlainTypesAgree (Enumerated x) (Enumerated y)
  two_bit_strings : {x y : BitStringType} → BitStringsAgree x y → PlainTypesAgree (BitString x) (BitString y)
  two_octet_strings : {x y : Token} → x ≡ y → PlainTypesAgree (OctetString x) (OctetString y)
  two_identifiers : {x y : Token} → x ≡ y → PlainTypesAgree (ObjectIdentifier x) (ObjectIdentifier y)
  two_any : {x y : AnyType} → x ≡ y → PlainTypesAgree (Any x) (Any y)
  two_names : {x y : TypeName} → x ≡ y → PlainTypesAgree (Named x) (Named y)

abbrev pub PresencesAgree : Presence → Presence → Type 0
PresencesAgree (Optional x) (Optional y) = x ≡ y
PresencesAgree (Optional x) (Default y) = ⊥
PresencesAgree (Default x) (Optional y) = ⊥
PresencesAgree (Default x) (Default y) = ValuesAgree x y

abbrev pub BoxedPresencesAgree : Box Presence Global → Box Presence Global → Type 0
BoxedPresencesAgree x y = PresencesAgree x.value y.value

abbrev mutual
  pub TypesAgree : TypeText → TypeText → Type 0
  TypesAgree (Tagged' tag mode place of) (Tagged' tag' mode' place' of') = (tag.value ≡ tag'.value) × (mode ≡ mode') ×
      TypesAgree of of'
  TypesAgree (Tagged' _ _ _ _) (Structured _ _) = ⊥
  TypesAgree (Tagged' _ _ _ _) (Choice' _ _ _ _) = ⊥
  TypesAgree (Tagged' _ _ _ _) (Plain _ _) = ⊥
  TypesAgree (Structured _ _) (Tagged' _ _ _ _) = ⊥
  TypesAgree (Structured word content) (Structured word' content') = (word ≡ word') × StructuresAgree content content'
  TypesAgree (Structured _ _) (Choice' _ _ _ _) = ⊥
  TypesAgree (Structured _ _) (Plain _ _) = ⊥
  TypesAgree (Choice' _ _ _ _) (Tagged' _ _ _ _) = ⊥
  TypesAgree (Choice' _ _ _ _) (Structured _ _) = ⊥
  TypesAgree (Choice' word shape row constraints) (Choice' word' shape' row' constraints') = (word ≡ word') ×
      AlternativeRowsAgree row row' ×
      VectorsAgree ConstraintsAgree constraints constraints'
  TypesAgree (Choice' _ _ _ _) (Plain _ _) = ⊥
  TypesAgree (Plain _ _) (Tagged' _ _ _ _) = ⊥
  TypesAgree (Plain _ _) (Structured _ _) = ⊥
  TypesAgree (Plain _ _) (Choice' _ _ _ _) = ⊥
  TypesAgree (Plain of constraints) (Plain of' constraints') = PlainTypesAgree of of' ×
      VectorsAgree ConstraintsAgree constraints constraints'

  pub StructuresAgree : StructureText → StructureText → Type 0
  StructuresAgree (Components' components constraints) (Components' components' constraints') = HeldAgree components
      components' × VectorsAgree ConstraintsAgree constraints constraints'
  StructuresAgree (Components' _ _) (ListOf' _ _ _) = ⊥
  StructuresAgree (ListOf' _ _ _) (Components' _ _) = ⊥
  StructuresAgree (ListOf' size place of) (ListOf' size' place' of') = OptionsAgree VectorsEqual size size' ×
      TypesAgree of of'

  pub HeldAgree : Held-StructureText-Components-0 → Held-StructureText-Components-0 → Type 0
  HeldAgree None' None' = Unit {0}
  HeldAgree None' (Some' _ _) = ⊥
  HeldAgree (Some' _ _) None' = ⊥
  HeldAgree (Some' shape row) (Some' shape' row') = ComponentRowsAgree row row'

  pub ComponentRowsAgree : {n m : _} → Row_of-Component n → Row_of-Component m → Type 0
  ComponentRowsAgree end_of-Component end_of-Component = Unit {0}
  ComponentRowsAgree end_of-Component (more_of-Component _ _ _ _) = ⊥
  ComponentRowsAgree (more_of-Component _ _ _ _) end_of-Component = ⊥
  ComponentRowsAgree (more_of-Component name of presence others) (more_of-Component name' of' presence' others') =
      (name ≡ name') × TypesAgree of of' × OptionsAgree BoxedPresencesAgree presence presence' × ComponentRowsAgree
      others others'

  pub AlternativeRowsAgree : {n m : _} → Row_of-Alternative n → Row_of-Alternative m → Type 0
  AlternativeRowsAgree end_of-Alternative end_of-Alternative = Unit {0}
  AlternativeRowsAgree end_of-Alternative (more_of-Alternative _ _ _) = ⊥
  AlternativeRowsAgree (more_of-Alternative _ _ _) end_of-Alternative = ⊥
  AlternativeRowsAgree (more_of-Alternative name of others) (more_of-Alternative name' of' others') =
      (name ≡ name') × TypesAgree of of' × AlternativeRowsAgree others others'

abbrev pub ComponentsAgree : Component → Component → Type 0
ComponentsAgree x y = (x.name ≡ y.name) × TypesAgree x.of y.of × OptionsAgree BoxedPresencesAgree x.presence y.presence

abbrev pub AlternativesAgree : Alternative → Alternative → Type 0
AlternativesAgree x y = (x.name ≡ y.name) × TypesAgree x.of y.of
