-- A code, by which a filter is told from another, from one of items: postfix notation, and a stack that gives it back.
use Rattle.std.specs.Prelude.{◌≡◌, ℕ, zero, suc, List, [], ◌∷◌, ◌++◌, ◌⊎◌, refl}
use Rattle.std.specs.Coded.{Coded, code_by, coded⊎, coded_ℕ, coded_list}
use Rattle.std.proofs.Common.{inl, inr, append_assoc, ◌∙◌, ap, sym}
use Rattle.term_model.specs.declared.filter_item.Item.{Item}
use Rattle.term_model.specs.FilterTrees.{FilterTree, FilterTrees}
use Rattle.term_model.specs.FilterTrees.FilterTree.{OfItem, And, Or, Not}
use Rattle.term_model.specs.FilterTrees.FilterTrees.{Nothing, Then}

-- what stands at one place: an item, an end, or what is joined
pub data Sketch : Type 0 where
  Leaf : Item → Sketch
  End : Sketch
  Join : ℕ → Sketch → Sketch → Sketch

abbrev Node : Type 0
Node = Item ⊎ ℕ

abbrev postfix : Sketch → List Node
postfix (Leaf item) = inl item ∷ []
postfix End = inr 0 ∷ []
postfix (Join kind x y) = postfix x ++ (postfix y ++ inr (suc kind) ∷ [])

abbrev pushed : Node → List Sketch → List Sketch
pushed (inl item) xs = Leaf item ∷ xs
pushed (inr zero) xs = End ∷ xs
pushed (inr (suc kind)) (y ∷ (x ∷ xs)) = Join kind x y ∷ xs
pushed (inr (suc kind)) (y ∷ []) = []
pushed (inr (suc kind)) [] = []

abbrev run : List Node → List Sketch → List Sketch
run [] stack = stack
run (node ∷ nodes) stack = run nodes (pushed node stack)

run-postfix : (x : Sketch) (rest : List Node) (xs : List Sketch) → run (postfix x ++ rest) xs ≡ run rest (x ∷ xs)
run-postfix (Leaf item) rest xs = refl
run-postfix End rest xs = refl
run-postfix (Join kind x y) rest xs =
    ap (λ nodes. run nodes xs) (append_assoc (postfix x) (postfix y ++ inr (suc kind) ∷ []) rest
    ∙ ap (λ nodes. postfix x ++ nodes) (append_assoc (postfix y) (inr (suc kind) ∷ []) rest))
    ∙ (run-postfix x (postfix y ++ (inr (suc kind) ∷ rest)) xs
    ∙ run-postfix y (inr (suc kind) ∷ rest) (x ∷ xs))

abbrev first_of : List Sketch → Sketch
first_of (x ∷ xs) = x
first_of [] = End

empty-append : (nodes : List Node) → nodes ++ [] ≡ nodes
empty-append [] = refl
empty-append (n ∷ ns) = ap (λ rest. n ∷ rest) (empty-append ns)

pub given_back : (x : Sketch) → first_of (run (postfix x) []) ≡ x
given_back x =
    ap (λ nodes. first_of (run nodes [])) (sym (empty-append (postfix x))) ∙ ap first_of (run-postfix x [] [])

abbrev sketch_code : Coded Item → Coded Sketch
sketch_code item_code =
    code_by (List Node) (coded_list (coded⊎ item_code coded_ℕ)) postfix (λ nodes. first_of (run nodes [])) given_back

abbrev mutual
  filter_sketch : FilterTree → Sketch
  filter_sketch (OfItem item) = Leaf item
  filter_sketch (And filters) = Join 0 End (filters_sketch filters)
  filter_sketch (Or filters) = Join 1 End (filters_sketch filters)
  filter_sketch (Not filter) = Join 2 End (filter_sketch filter)

  filters_sketch : FilterTrees → Sketch
  filters_sketch Nothing = End
  filters_sketch (Then x xs) = Join 0 (filter_sketch x) (filters_sketch xs)

abbrev mutual
  filter_back : Sketch → FilterTree
  filter_back (Leaf item) = OfItem item
  filter_back (Join zero x y) = And (filters_back y)
  filter_back (Join (suc zero) x y) = Or (filters_back y)
  filter_back (Join (suc (suc kind)) x y) = Not (filter_back y)
  filter_back End = Or Nothing

  filters_back : Sketch → FilterTrees
  filters_back (Join kind x y) = Then (filter_back x) (filters_back y)
  filters_back (Leaf item) = Nothing
  filters_back End = Nothing

mutual
  pub filter_again : (x : FilterTree) → filter_back (filter_sketch x) ≡ x
  filter_again (OfItem item) = refl
  filter_again (And filters) = ap And (filters_again filters)
  filter_again (Or filters) = ap Or (filters_again filters)
  filter_again (Not filter) = ap Not (filter_again filter)

  pub filters_again : (xs : FilterTrees) → filters_back (filters_sketch xs) ≡ xs
  filters_again Nothing = refl
  filters_again (Then x xs) = rw (filter_again x, filters_again xs) refl

abbrev pub filter_code : Coded Item → Coded FilterTree
filter_code item_code = code_by Sketch (sketch_code item_code) filter_sketch filter_back filter_again

abbrev pub filters_code : Coded Item → Coded FilterTrees
filters_code item_code = code_by Sketch (sketch_code item_code) filters_sketch filters_back filters_again
