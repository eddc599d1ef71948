-- What holds of the trees of values: no two values have one tree. docs/PROFILE.md, section 2.
use Rattle.std.specs.Prelude.{◌≡◌, List, [], ◌∷◌, Option, None, Some}
use Rattle.token_grammar.specs.declared.object_identifier.ObjectIdentifier.{ObjectIdentifier}
use Rattle.token_grammar.specs.Form.{Tree}

-- equal trees are trees of equal values
abbrev pub OneValue : {X : Type 0} → (X → Tree) → Type 0
OneValue {X} view = (x y : X) → view x ≡ view y → x ≡ y

-- Equal trees are trees of values that agree. A vector and a box also have the place of their memory,
-- and a vector its capacity. No text says them, so values agree where they are equal in all else.
abbrev pub OneValueBy : {X : Type 0} → (X → X → Type 0) → (X → Tree) → Type 0
OneValueBy {X} agree view = (x y : X) → view x ≡ view y → agree x y

-- and the other way round: values that agree have one tree
abbrev pub OneTreeBy : {X : Type 0} → (X → X → Type 0) → (X → Tree) → Type 0
OneTreeBy {X} agree view = (x y : X) → agree x y → view x ≡ view y

-- as many parts, each of which agrees with the one at its place
abbrev pub ListsAgree : {X : Type 0} → (X → X → Type 0) → List X → List X → Type 0
ListsAgree agree [] [] = Unit {0}
ListsAgree agree [] (y ∷ ys) = ⊥
ListsAgree agree (x ∷ xs) [] = ⊥
ListsAgree agree (x ∷ xs) (y ∷ ys) = agree x y × ListsAgree agree xs ys

-- two parts that agree, or none
abbrev pub OptionsAgree : {X : Type 0} → (X → X → Type 0) → Option X → Option X → Type 0
OptionsAgree agree None None = Unit {0}
OptionsAgree agree None (Some y) = ⊥
OptionsAgree agree (Some x) None = ⊥
OptionsAgree agree (Some x) (Some y) = agree x y

abbrev pub IdentifiersAgree : ObjectIdentifier → ObjectIdentifier → Type 0
IdentifiersAgree x y = (x.brace ≡ y.brace) × (x.first ≡ y.first) × (x.others.items ≡ y.others.items)
