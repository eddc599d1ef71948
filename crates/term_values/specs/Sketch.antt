-- A plain binary tree with a code. Each recursive type of values or syntaxes is coded by a map into it that has a way
-- back.
use Rattle.std.specs.Prelude.{◌≡◌, ℕ, ℤ, List, [], ◌∷◌, ◌++◌, ◌⊎◌, refl}
use Rattle.std.specs.Coded.{Coded, code_by, coded×, coded⊎, coded_ℕ, coded_ℤ, coded_list}
use Rattle.std.proofs.Common.{inl, inr, append_assoc, ◌∙◌, ap, sym}

-- what stands at one place: a kind, octets, and pairs of numbers; or a kind and what is joined
pub data Sketch : Type 0 where
  Leaf : ℕ → List ℕ → List (ℤ × ℤ) → Sketch
  Join : ℕ → Sketch → Sketch → Sketch

abbrev Node : Type 0
Node = (ℕ × (List ℕ × List (ℤ × ℤ))) ⊎ ℕ

abbrev node_code : Coded Node
node_code = coded⊎ (coded× coded_ℕ (coded× (coded_list coded_ℕ) (coded_list (coded× coded_ℤ coded_ℤ)))) coded_ℕ

-- postfix notation, and a stack that gives the tree back
abbrev postfix : Sketch → List Node
postfix (Leaf kind octets pairs) = inl (kind, (octets, pairs)) ∷ []
postfix (Join kind x y) = postfix x ++ (postfix y ++ inr kind ∷ [])

abbrev pushed : Node → List Sketch → List Sketch
pushed (inl (kind, (octets, pairs))) xs = Leaf kind octets pairs ∷ xs
pushed (inr kind) (y ∷ (x ∷ xs)) = Join kind x y ∷ xs
pushed (inr kind) (y ∷ []) = []
pushed (inr kind) [] = []

abbrev run : List Node → List Sketch → List Sketch
run [] stack = stack
run (node ∷ nodes) stack = run nodes (pushed node stack)

run-postfix : (x : Sketch) (rest : List Node) (xs : List Sketch) → run (postfix x ++ rest) xs ≡ run rest (x ∷ xs)
run-postfix (Leaf kind octets pairs) rest xs = refl
run-postfix (Join kind x y) rest xs =
    ap (λ nodes. run nodes xs) (append_assoc (postfix x) (postfix y ++ inr kind ∷ []) rest
    ∙ ap (λ nodes. postfix x ++ nodes) (append_assoc (postfix y) (inr kind ∷ []) rest))
    ∙ (run-postfix x (postfix y ++ (inr kind ∷ rest)) xs
    ∙ run-postfix y (inr kind ∷ rest) (x ∷ xs))

abbrev first_of : List Sketch → Sketch
first_of (x ∷ xs) = x
first_of [] = Leaf 0 [] []

empty-append : (nodes : List Node) → nodes ++ [] ≡ nodes
empty-append [] = refl
empty-append (n ∷ ns) = ap (λ rest. n ∷ rest) (empty-append ns)

pub given_back : (x : Sketch) → first_of (run (postfix x) []) ≡ x
given_back x =
    ap (λ nodes. first_of (run nodes [])) (sym (empty-append (postfix x))) ∙ ap first_of (run-postfix x [] [])

abbrev pub sketch_code : Coded Sketch
sketch_code = code_by (List Node) (coded_list node_code) postfix (λ nodes. first_of (run nodes [])) given_back
