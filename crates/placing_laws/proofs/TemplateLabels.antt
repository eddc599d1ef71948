-- TemplateLabels: templates that stand in a tree, with the labels of those in line: no place has more labels of these
-- templates than tokens of the tree.
use Rattle.std.proofs.Common.{◌≡◌, ℕ, ◌+◌, ◌≤◌, List, [], ◌∷◌, ◌++◌, Option, None, Some, arith}
use Rattle.std.specs.declared.alloc.Global.{Global}
use Rattle.std.specs.declared.vec.Vec.{Vec}
use Rattle.token_grammar.specs.declared.token.Token.{Token}
use Rattle.token_grammar.specs.Form.{Tree, Bare, Pair, First, Second, Present, Empty, After}
use Rattle.token_grammar.specs.Parts.{list_tree, optional_tree, vector_tree}
use Rattle.gdmo_members.specs.Trees.{clause_tree}
use Rattle.gdmo_members.specs.MemberTrees.{template_tree}
use Rattle.gdmo_names.specs.DocumentTemplates.{in_body, in_reference, in_references, in_template}
use Rattle.gdmo_names.specs.MemberViews.{clause_terms, reference_terms}
use Rattle.gdmo_names.specs.PartTerms.{label_of}
use Rattle.gdmo_names.specs.TemplateTerms.{BodyTerm, IdentifierTerm, ReferenceTerm, TemplateTerm}
use Rattle.gdmo_names.specs.TemplateTerms.TemplateTerm.{Template}
use Rattle.placing_laws.proofs.PlaceCounts.{leaves, one_at}

-- how many templates have their label at a place
abbrev pub labels : ℕ → List TemplateTerm → ℕ
labels p [] = 0
labels p (x ∷ xs) = one_at p (label_of x) + labels p xs

pub labels_append : (p : ℕ) (xs ys : List TemplateTerm) → labels p (xs ++ ys) ≡ labels p xs + labels p ys
labels_append p [] ys = omega arith
labels_append p (x ∷ xs) ys = let more = labels_append p xs ys in omega arith

pub record Below (p : ℕ) (xs : List TemplateTerm) (a : Tree) : Type 0 where
  pub fits : labels p xs ≤ leaves p a

module _ {p : ℕ} where
  pub nothing_below : (a : Tree) → Below p [] a
  nothing_below a = record { fits = omega arith }

  pub both_below : {xs ys : List TemplateTerm} {a b : Tree} → Below p xs a → Below p ys b →
      Below p (xs ++ ys) (Pair a b)
  both_below {xs} {ys} one two = record {
    fits = let all = labels_append p xs ys in let first = one.fits in let second = two.fits in omega arith;
  }

  pub left_below : {xs : List TemplateTerm} {a b : Tree} → Below p xs a → Below p xs (Pair a b)
  left_below one = record { fits = let first = one.fits in omega arith }

  pub right_below : {xs : List TemplateTerm} {a b : Tree} → Below p xs b → Below p xs (Pair a b)
  right_below one = record { fits = let first = one.fits in omega arith }

  pub first_below : {xs : List TemplateTerm} {a : Tree} → Below p xs a → Below p xs (First a)
  first_below one = record { fits = one.fits }

  pub second_below : {xs : List TemplateTerm} {a : Tree} → Below p xs a → Below p xs (Second a)
  second_below one = record { fits = one.fits }

  pub present_below : {xs : List TemplateTerm} {a : Tree} → Below p xs a → Below p xs (Present a)
  present_below one = record { fits = one.fits }

  -- keywords before a part, and a semicolon behind it
  pub clause_part : {xs : List TemplateTerm} {a : Tree} → Below p xs a → Below p xs (Pair Bare (Pair a Bare))
  clause_part one = record { fits = let first = one.fits in omega arith }

  -- a template of which the others stand in its clauses
  pub template_below : (document : ℕ) (label : Token) (identifier : Option IdentifierTerm) (body : BodyTerm)
      {clauses : Tree} (end : Tree) → Below p (in_body body) clauses →
      Below p (in_template (Template label identifier body)) (template_tree document label clauses end)
  template_below document label identifier body end one = record { fits = let first = one.fits in omega arith }

  module _ {X : Type 0} (reference : X → ReferenceTerm) (view : X → Tree)
      (one : (x : X) → Below p (in_reference (reference x)) (view x)) where
    list_below : (before : Tree) (xs : List X) →
        leaves p before + labels p (in_references (reference_terms reference xs)) ≤ leaves p (list_tree view before xs)
    list_below before [] = omega arith
    list_below before (x ∷ xs) =
        let first = (one x).fits in
        let all = labels_append p (in_reference (reference x)) (in_references (reference_terms reference xs)) in
        let rest = list_below (After before (view x)) xs in
        omega arith

    pub vector_below : (xs : Vec X Global) →
        Below p (in_references (reference_terms reference xs.items)) (vector_tree view xs)
    vector_below xs = record { fits = let all = list_below Empty xs.items in omega arith }

    pub references_below : (xs : Option (Vec X Global)) →
        Below p (in_references (clause_terms reference xs)) (optional_tree (clause_tree (vector_tree view)) xs)
    references_below None = nothing_below _
    references_below (Some xs) = present_below (clause_part (vector_below xs))
