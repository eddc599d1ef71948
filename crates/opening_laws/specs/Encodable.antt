-- Schemas of which everything has an encoding: X.660, clause 7; X.690, sections 8.1.2, 8.1.3 and 8.19; docs/PROFILE.md,
-- section 3. An identifier has at most 64 arcs of 32 bits, no tag stands for the end of contents, and lengths end at
-- 2 ^ 32 - 1.
use Rattle.std.specs.Prelude.{◌≡◌, ◌<◌, ◌^◌, ◌⊎◌, ℕ, List, true, Some, All, Contains, length}
use Rattle.term_values.specs.Fits.{Fits}
use Rattle.term_values.specs.Syntaxes.TypeSyntax.{ObjectIdentifier}
use Rattle.term_values.specs.Typed.{TypedValue}
use Rattle.term_values.specs.Typed.TypedValue.{Identifier}
use Rattle.term_values.specs.Written.{der}
use Rattle.term_model.specs.declared.name.Rdn.{Rdn}
use Rattle.term_model.specs.declared.packages.PackageRec.{PackageRec}
use Rattle.term_model.specs.declared.packages.Property.{Property}
use Rattle.term_model.specs.declared.schema.AttrRec.{AttrRec}
use Rattle.term_model.specs.declared.schema.ClassRec.{ClassRec}
use Rattle.term_model.specs.declared.schema.InstRec.{InstRec}
use Rattle.term_model.specs.declared.schema.Set.{Set}
use Rattle.term_model.specs.WholeSet.{identifiers_of}
use Rattle.typed_laws.specs.SyntaxTags.{has_tags}

-- arcs of an OBJECT IDENTIFIER
abbrev pub IsIdentifier : List ℕ → Type 0
IsIdentifier arcs = Fits ObjectIdentifier (Identifier arcs)

-- a package that some class has is registered under the identifier
abbrev pub IsOfClass : Set → List ℕ → Type 0
IsOfClass schema id =
    (of_class : ClassRec) × ((of_package : PackageRec) × Contains schema.classes of_class
    × (Contains of_class.mandatory of_package ⊎ Contains of_class.conditional of_package)
    × (of_package.id ≡ Some id))

-- an instance chooses it
abbrev pub IsChosen : Set → List ℕ → Type 0
IsChosen schema id = (instance : InstRec) × Contains schema.instances instance × Contains instance.chosen id

-- a part of the system's own name, or of the name of an instance
abbrev pub IsNamePart : Set → Rdn → Type 0
IsNamePart schema part =
    Contains schema.system part
    ⊎ ((instance : InstRec) × Contains schema.instances instance × Contains instance.name part)

-- what a class states as the value that an attribute has where none is given
abbrev pub IsStated : Property → TypedValue → Type 0
IsStated property value = (property.initial ≡ Some value) ⊎ (property.default ≡ Some value)

-- each stated value of the attribute is written in fewer than 2 ^ 32 octets
abbrev pub HasShortValues : Set → Property → Type 0
HasShortValues schema property =
    (template : AttrRec) (value : TypedValue) → Contains schema.attributes template → template.id ≡ property.attribute
    → IsStated property value → length (der template.syntax value) < 2 ^ 32

pub record IsEncodable (schema : Set) : Type 0 where
  pub identifiers : All IsIdentifier (identifiers_of schema)
  pub packages : (id : List ℕ) → IsOfClass schema id ⊎ IsChosen schema id → IsIdentifier id
  pub tags : All (λ (template : AttrRec). has_tags template.syntax ≡ true) schema.attributes
  pub parts : (part : Rdn) → IsNamePart schema part → length part.value < 2 ^ 32
  pub values : All (λ (of_class : ClassRec). All (HasShortValues schema) of_class.properties) schema.classes
