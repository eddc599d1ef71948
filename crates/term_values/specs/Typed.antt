-- Typed values, as contracts see `Value`, `Slots` and `Values`: X.680.
use Rattle.std.specs.Prelude.{◌≡◌, ℕ, zero, suc, ℤ, List, [], ◌∷◌, Bool, true, false, refl}
use Rattle.std.specs.Coded.{Coded, code_by}
use Rattle.std.proofs.Common.{ap}
use Rattle.term_values.specs.Sketch.{Sketch, sketch_code}
use Rattle.term_values.specs.Sketch.Sketch.{Leaf, Join}

mutual
  pub data TypedValue : Type 0 where
    -- BOOLEAN
    Truth : Bool → TypedValue
    -- INTEGER and ENUMERATED
    Int : ℤ → TypedValue
    -- BIT STRING: its octets, and how many bits of the last one are unused
    Bits : List ℕ → ℕ → TypedValue
    -- OCTET STRING
    Octets : List ℕ → TypedValue
    Null : TypedValue
    -- OBJECT IDENTIFIER: its arcs
    Identifier : List ℕ → TypedValue
    -- the string types: the octets of the text
    Text : List ℕ → TypedValue
    -- GeneralizedTime: the octets of its text
    Time : List ℕ → TypedValue
    -- SEQUENCE and SET: the components in the order of the type
    Parts : TypedSlots → TypedValue
    -- SEQUENCE OF and SET OF: the members
    Many : TypedValues → TypedValue
    -- CHOICE: which alternative, counted from 0, and its value
    Pick : ℕ → TypedValue → TypedValue
    -- ANY and CMISFilter: the octets of one value
    Raw : List ℕ → TypedValue

  -- components in the order of their type, each there or left out
  pub data TypedSlots : Type 0 where
    NoSlots : TypedSlots
    Filled : TypedValue → TypedSlots → TypedSlots
    Empty : TypedSlots → TypedSlots

  pub data TypedValues : Type 0 where
    Nothing : TypedValues
    Then : TypedValue → TypedValues → TypedValues

-- the values of a list
abbrev pub listed : List TypedValue → TypedValues
listed [] = Nothing
listed (x ∷ xs) = Then x (listed xs)

-- A code, by which a value is told from another.
abbrev mutual
  pub value_sketch : TypedValue → Sketch
  value_sketch (Truth true) = Leaf 0 (1 ∷ []) []
  value_sketch (Truth false) = Leaf 0 [] []
  value_sketch (Int n) = Leaf 1 [] ((n, n) ∷ [])
  value_sketch (Octets xs) = Leaf 2 xs []
  value_sketch Null = Leaf 3 [] []
  value_sketch (Raw xs) = Leaf 4 xs []
  value_sketch (Identifier xs) = Leaf 5 xs []
  value_sketch (Text xs) = Leaf 6 xs []
  value_sketch (Time xs) = Leaf 7 xs []
  value_sketch (Bits xs unused) = Leaf 8 (unused ∷ xs) []
  value_sketch (Parts xs) = Join 0 (Leaf 0 [] []) (slots_sketch xs)
  value_sketch (Many xs) = Join 1 (Leaf 0 [] []) (values_sketch xs)
  value_sketch (Pick n x) = Join 2 (Leaf n [] []) (value_sketch x)

  slots_sketch : TypedSlots → Sketch
  slots_sketch NoSlots = Leaf 0 [] []
  slots_sketch (Filled x xs) = Join 0 (value_sketch x) (slots_sketch xs)
  slots_sketch (Empty xs) = Join 1 (Leaf 0 [] []) (slots_sketch xs)

  values_sketch : TypedValues → Sketch
  values_sketch Nothing = Leaf 0 [] []
  values_sketch (Then x xs) = Join 0 (value_sketch x) (values_sketch xs)

abbrev leaf_back : ℕ → List ℕ → TypedValue
leaf_back zero [] = Truth false
leaf_back zero (x ∷ xs) = Truth true
leaf_back (suc (suc zero)) xs = Octets xs
leaf_back (suc (suc (suc (suc zero)))) xs = Raw xs
leaf_back (suc (suc (suc (suc (suc zero))))) xs = Identifier xs
leaf_back (suc (suc (suc (suc (suc (suc zero)))))) xs = Text xs
leaf_back (suc (suc (suc (suc (suc (suc (suc zero))))))) xs = Time xs
leaf_back (suc (suc (suc (suc (suc (suc (suc (suc k)))))))) (unused ∷ xs) = Bits xs unused
leaf_back _ _ = Null

abbrev mutual
  pub value_back : Sketch → TypedValue
  value_back (Leaf (suc zero) xs ((n, m) ∷ pairs)) = Int n
  value_back (Leaf kind xs pairs) = leaf_back kind xs
  value_back (Join zero x y) = Parts (slots_back y)
  value_back (Join (suc zero) x y) = Many (values_back y)
  value_back (Join (suc (suc k)) (Leaf n xs pairs) y) = Pick n (value_back y)
  value_back (Join (suc (suc k)) (Join n x z) y) = Null

  slots_back : Sketch → TypedSlots
  slots_back (Leaf kind xs pairs) = NoSlots
  slots_back (Join zero x y) = Filled (value_back x) (slots_back y)
  slots_back (Join (suc k) x y) = Empty (slots_back y)

  values_back : Sketch → TypedValues
  values_back (Leaf kind xs pairs) = Nothing
  values_back (Join kind x y) = Then (value_back x) (values_back y)

mutual
  pub value_again : (x : TypedValue) → value_back (value_sketch x) ≡ x
  value_again (Truth true) = refl
  value_again (Truth false) = refl
  value_again (Int n) = refl
  value_again (Octets xs) = refl
  value_again Null = refl
  value_again (Raw xs) = refl
  value_again (Identifier xs) = refl
  value_again (Text xs) = refl
  value_again (Time xs) = refl
  value_again (Bits xs unused) = refl
  value_again (Parts xs) = ap Parts (slots_again xs)
  value_again (Many xs) = ap Many (values_again xs)
  value_again (Pick n x) = ap (λ y. Pick n y) (value_again x)

  pub slots_again : (x : TypedSlots) → slots_back (slots_sketch x) ≡ x
  slots_again NoSlots = refl
  slots_again (Filled x xs) = rw (value_again x, slots_again xs) refl
  slots_again (Empty xs) = ap Empty (slots_again xs)

  pub values_again : (x : TypedValues) → values_back (values_sketch x) ≡ x
  values_again Nothing = refl
  values_again (Then x xs) = rw (value_again x, values_again xs) refl

abbrev pub value_code : Coded TypedValue
value_code = code_by Sketch sketch_code value_sketch value_back value_again

abbrev pub slots_code : Coded TypedSlots
slots_code = code_by Sketch sketch_code slots_sketch slots_back slots_again

abbrev pub values_code : Coded TypedValues
values_code = code_by Sketch sketch_code values_sketch values_back values_again
