-- What is known of the values of an object's attributes: X.711, section 7.4, m-Set.
use Rattle.std.specs.Prelude.{◌≡◌, ℕ, List, [], ◌∷◌, Some, set, true}
use Rattle.term_values.specs.FitTest.{value_fits}
use Rattle.term_values.specs.Syntaxes.{TypeSyntax}
use Rattle.term_values.specs.Typed.{TypedValue}
use Rattle.fitting_members.specs.MemberLengths.{members_length}
use Rattle.term_model.specs.declared.object.Attribute.{Attribute}
use Rattle.term_model.specs.declared.packages.Property.{Property}
use Rattle.term_model.specs.declared.schema.Set.{Set}
use Rattle.term_model.specs.ClassAttributes.{is_permitted, property_of, syntax_of}
use Rattle.object_modifications.specs.declared.knowing.Knowledge.{Knowledge}
use Rattle.object_modifications.specs.declared.knowing.Knowledge.TheVariants.{Untried, Fits, Misfits}

-- so many octets are told, where some are
abbrev pub Counts : ℕ → Knowledge → Type 0
Counts count Untried = Unit
Counts count (Fits octets) = octets ≡ count
Counts count Misfits = Unit

-- a value of which it is told fits its syntax, is one of each of the types that are permitted, and its members take so
-- many octets
abbrev pub Knows : TypeSyntax → List TypeSyntax → TypedValue → Knowledge → Type 0
Knows syntax permitted value Untried = Unit
Knows syntax permitted value (Fits octets) =
    (value_fits syntax value ≡ true) × (is_permitted permitted value ≡ true) × (octets ≡ members_length syntax value)
Knows syntax permitted value Misfits = Unit

-- so of an attribute of an object of this class, by its syntax and the properties of the class, where it has both
abbrev pub IsKnown : Set → List ℕ → Attribute → Knowledge → Type 0
IsKnown schema class attribute told =
    (syntax : TypeSyntax) → (property : Property) → syntax_of schema.attributes attribute.id ≡ Some syntax
    → property_of schema class attribute.id ≡ Some property → Knows syntax property.permitted attribute.value told

-- and of attributes in their order
abbrev pub AreKnown : Set → List ℕ → List Attribute → List Knowledge → Type 0
AreKnown schema class [] told = Unit
AreKnown schema class (x ∷ xs) [] = Unit
AreKnown schema class (x ∷ xs) (first ∷ others) = IsKnown schema class x first × AreKnown schema class xs others

-- nothing is known any more at these places
abbrev pub forgotten : List ℕ → List Knowledge → List Knowledge
forgotten [] told = told
forgotten (place ∷ places) told = forgotten places (set told place Untried)
