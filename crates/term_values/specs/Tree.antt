-- Trees of tagged values, as contracts see `Tree` and `Trees`: X.690, section 8.1.
use Rattle.std.specs.Prelude.{◌≡◌, ℕ, ◌+◌, ◌≤◌, List, [], ◌∷◌, ◌++◌, ◌⊎◌, Bool, true, false, refl}
use Rattle.std.specs.Coded.{Coded, code_by, coded×, coded⊎, coded_ℕ, coded_bool, coded_list}
use denote.Param.Weighed.{most}
use Rattle.std.proofs.Common.{arith, inl, inr, append_assoc, ◌∙◌, ap, sym}
use Rattle.term_values.specs.declared.tag.Tag.{Tag}

-- A tagged value: contents octets, or the values inside it in their order.
mutual
  pub data TreeValue : Type 0 where
    Primitive : Tag → List ℕ → TreeValue
    Constructed : Tag → TreeValues → TreeValue

  pub data TreeValues : Type 0 where
    Nothing : TreeValues
    Then : TreeValue → TreeValues → TreeValues

-- the values of a list
abbrev pub listed : List TreeValue → TreeValues
listed [] = Nothing
listed (x ∷ xs) = Then x (listed xs)

-- A code, by which a value is told from another: postfix notation, and a stack that gives the value back.
-- primitive: tag and contents; constructed: tag; else true for Nothing, false for Then
abbrev Node : Type 0
Node = ((ℕ × ℕ) × List ℕ) ⊎ ((ℕ × ℕ) ⊎ Bool)

abbrev node_code : Coded Node
node_code = coded⊎ (coded× (coded× coded_ℕ coded_ℕ) (coded_list coded_ℕ)) (coded⊎ (coded× coded_ℕ coded_ℕ) coded_bool)

abbrev mutual
  postfix : TreeValue → List Node
  postfix (Primitive tag contents) = inl ((tag.class, tag.number), contents) ∷ []
  postfix (Constructed tag inside) = postfix_all inside ++ inr (inl (tag.class, tag.number)) ∷ []

  postfix_all : TreeValues → List Node
  postfix_all Nothing = inr (inr true) ∷ []
  postfix_all (Then x xs) = postfix x ++ (postfix_all xs ++ inr (inr false) ∷ [])

abbrev Stack : Type 0
Stack = List TreeValue × List TreeValues

abbrev pushed : Node → Stack → Stack
pushed (inl (tag, contents)) (xs, ys) = (Primitive (record { class = tag.0; number = tag.1 }) contents ∷ xs, ys)
pushed (inr (inl tag)) (xs, y ∷ ys) = (Constructed (record { class = tag.0; number = tag.1 }) y ∷ xs, ys)
pushed (inr (inr true)) (xs, ys) = (xs, Nothing ∷ ys)
pushed (inr (inr false)) (x ∷ xs, y ∷ ys) = (xs, Then x y ∷ ys)
pushed (inr (inl tag)) (xs, []) = (xs, [])
pushed (inr (inr false)) ([], ys) = ([], ys)
pushed (inr (inr false)) (x ∷ xs, []) = (x ∷ xs, [])

abbrev run : List Node → Stack → Stack
run [] stack = stack
run (node ∷ nodes) stack = run nodes (pushed node stack)

mutual
  run-postfix : (x : TreeValue) (rest : List Node) (xs : List TreeValue) (ys : List TreeValues)
      → run (postfix x ++ rest) (xs, ys) ≡ run rest (x ∷ xs, ys)
  run-postfix (Primitive tag contents) rest xs ys = refl
  run-postfix (Constructed tag inside) rest xs ys =
      ap (λ nodes. run nodes (xs, ys)) (append_assoc (postfix_all inside) (inr (inl (tag.class, tag.number)) ∷ []) rest)
      ∙ run-postfix_all inside (inr (inl (tag.class, tag.number)) ∷ rest) xs ys

  run-postfix_all : (x : TreeValues) (rest : List Node) (xs : List TreeValue) (ys : List TreeValues)
      → run (postfix_all x ++ rest) (xs, ys) ≡ run rest (xs, x ∷ ys)
  run-postfix_all Nothing rest xs ys = refl
  run-postfix_all (Then a others) rest xs ys =
      ap (λ nodes. run nodes (xs, ys)) (append_assoc (postfix a) (postfix_all others ++ inr (inr false) ∷ []) rest
      ∙ ap (λ nodes. postfix a ++ nodes) (append_assoc (postfix_all others) (inr (inr false) ∷ []) rest))
      ∙ (run-postfix a (postfix_all others ++ (inr (inr false) ∷ rest)) xs ys
      ∙ run-postfix_all others (inr (inr false) ∷ rest) (a ∷ xs) ys)

abbrev first_tree : Stack → TreeValue
first_tree (x ∷ xs, ys) = x
first_tree ([], ys) = Constructed (record { class = 0; number = 0 }) Nothing

abbrev first_trees : Stack → TreeValues
first_trees (xs, y ∷ ys) = y
first_trees (xs, []) = Nothing

empty-append : (nodes : List Node) → nodes ++ [] ≡ nodes
empty-append [] = refl
empty-append (n ∷ ns) = ap (λ rest. n ∷ rest) (empty-append ns)

pub given_back : (x : TreeValue) → first_tree (run (postfix x) ([], [])) ≡ x
given_back x = ap (λ nodes. first_tree (run nodes ([], []))) (sym (empty-append (postfix x)))
    ∙ ap first_tree (run-postfix x [] [] [])

pub given_back_all : (x : TreeValues) → first_trees (run (postfix_all x) ([], [])) ≡ x
given_back_all x = ap (λ nodes. first_trees (run nodes ([], []))) (sym (empty-append (postfix_all x)))
    ∙ ap first_trees (run-postfix_all x [] [] [])

abbrev pub tree_code : Coded TreeValue
tree_code = code_by (List Node) (coded_list node_code) postfix (λ nodes. first_tree (run nodes ([], []))) given_back

abbrev pub trees_code : Coded TreeValues
trees_code = code_by (List Node) (coded_list node_code) postfix_all (λ nodes. first_trees (run nodes ([], [])))
    given_back_all

-- how many values a tree has, itself among them, and one more for each list
abbrev mutual
  pub nodes : TreeValue → ℕ
  nodes (Primitive tag contents) = 1
  nodes (Constructed tag inside) = nodes_all inside + 1

  pub nodes_all : TreeValues → ℕ
  nodes_all Nothing = 1
  nodes_all (Then x xs) = nodes x + 1 + nodes_all xs

-- no value of a list has as many nodes as the list
pub most_below_nodes : (xs : List TreeValue) → most (λ x. nodes x + 1) xs ≤ nodes_all (listed xs)
most_below_nodes [] = omega arith
most_below_nodes (x ∷ xs) = omega (arith, most_below_nodes xs)
