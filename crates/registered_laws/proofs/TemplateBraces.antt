-- TemplateBraces: templates that stand in a tree, with the identifiers of those in line: no place has more braces
-- of the identifiers of these templates than tokens of the tree.
use Rattle.std.proofs.Common.{◌≡◌, ℕ, ◌+◌, ◌≤◌, List, [], ◌∷◌, ◌++◌, Option, None, Some, arith, option_map}
use Rattle.std.specs.declared.alloc.Global.{Global}
use Rattle.std.specs.declared.vec.Vec.{Vec}
use Rattle.token_grammar.specs.declared.object_identifier.ObjectIdentifier.{ObjectIdentifier}
use Rattle.token_grammar.specs.declared.token.Token.{Token}
use Rattle.token_grammar.specs.Form.{Tree, Bare, Pair, First, Second, Present, Empty, After}
use Rattle.token_grammar.specs.Parts.{list_tree, optional_tree, vector_tree}
use Rattle.gdmo_members.specs.Trees.{clause_tree, ending_tree, registered_ending_tree}
use Rattle.gdmo_members.specs.MemberTrees.{template_tree}
use Rattle.gdmo_names.specs.DocumentTemplates.{in_body, in_reference, in_references, in_template}
use Rattle.gdmo_names.specs.MemberViews.{clause_terms, identifier_term, reference_terms}
use Rattle.gdmo_names.specs.PartTerms.{identifier_of}
use Rattle.gdmo_names.specs.TemplateTerms.{BodyTerm, IdentifierTerm, ReferenceTerm, TemplateTerm}
use Rattle.gdmo_names.specs.TemplateTerms.TemplateTerm.{Template}
use Rattle.placing_laws.proofs.PlaceCounts.{leaves, one_at}

-- how many templates are registered at a place
abbrev pub brace_at : ℕ → Option IdentifierTerm → ℕ
brace_at p None = 0
brace_at p (Some x) = one_at p x.brace

abbrev pub braces : ℕ → List TemplateTerm → ℕ
braces p [] = 0
braces p (x ∷ xs) = brace_at p (identifier_of x) + braces p xs

pub braces_append : (p : ℕ) (xs ys : List TemplateTerm) → braces p (xs ++ ys) ≡ braces p xs + braces p ys
braces_append p [] ys = omega arith
braces_append p (x ∷ xs) ys = let more = braces_append p xs ys in omega arith

pub record Below (p : ℕ) (xs : List TemplateTerm) (a : Tree) : Type 0 where
  pub fits : braces p xs ≤ leaves p a

-- the end of a template has its identifier
pub registered_end : (p : ℕ) (x : ObjectIdentifier) →
    brace_at p (Some (identifier_term x)) ≤ leaves p (registered_ending_tree x)
registered_end p x = omega arith

pub maybe_end : (p : ℕ) (x : Option ObjectIdentifier) →
    brace_at p (option_map identifier_term x) ≤ leaves p (ending_tree x)
maybe_end p None = omega arith
maybe_end p (Some x) = omega arith

module _ {p : ℕ} where
  pub nothing_below : (a : Tree) → Below p [] a
  nothing_below a = record { fits = omega arith }

  pub both_below : {xs ys : List TemplateTerm} {a b : Tree} → Below p xs a → Below p ys b →
      Below p (xs ++ ys) (Pair a b)
  both_below {xs} {ys} one two = record {
    fits = let all = braces_append p xs ys in let first = one.fits in let second = two.fits in omega arith;
  }

  pub left_below : {xs : List TemplateTerm} {a b : Tree} → Below p xs a → Below p xs (Pair a b)
  left_below one = record { fits = let first = one.fits in omega arith }

  pub right_below : {xs : List TemplateTerm} {a b : Tree} → Below p xs b → Below p xs (Pair a b)
  right_below one = record { fits = let first = one.fits in omega arith }

  pub first_below : {xs : List TemplateTerm} {a : Tree} → Below p xs a → Below p xs (First a)
  first_below one = record { fits = one.fits }

  pub second_below : {xs : List TemplateTerm} {a : Tree} → Below p xs a → Below p xs (Second a)
  second_below one = record { fits = one.fits }

  pub present_below : {xs : List TemplateTerm} {a : Tree} → Below p xs a → Below p xs (Present a)
  present_below one = record { fits = one.fits }

  -- keywords before a part, and a semicolon behind it
  pub clause_part : {xs : List TemplateTerm} {a : Tree} → Below p xs a → Below p xs (Pair Bare (Pair a Bare))
  clause_part one = record { fits = let first = one.fits in omega arith }

  -- a template of which the others stand in its clauses
  pub template_below : (document : ℕ) (label : Token) (identifier : Option IdentifierTerm) (body : BodyTerm)
      {clauses : Tree} (end : Tree) → brace_at p identifier ≤ leaves p end → Below p (in_body body) clauses →
      Below p (in_template (Template label identifier body)) (template_tree document label clauses end)
  template_below document label identifier body end own one = record {
    fits = let first = one.fits in omega (arith, first, own);
  }

  module _ {X : Type 0} (reference : X → ReferenceTerm) (view : X → Tree)
      (one : (x : X) → Below p (in_reference (reference x)) (view x)) where
    list_below : (before : Tree) (xs : List X) →
        leaves p before + braces p (in_references (reference_terms reference xs)) ≤ leaves p (list_tree view before xs)
    list_below before [] = omega arith
    list_below before (x ∷ xs) =
        let first = (one x).fits in
        let all = braces_append p (in_reference (reference x)) (in_references (reference_terms reference xs)) in
        let rest = list_below (After before (view x)) xs in
        omega arith

    pub vector_below : (xs : Vec X Global) →
        Below p (in_references (reference_terms reference xs.items)) (vector_tree view xs)
    vector_below xs = record { fits = let all = list_below Empty xs.items in omega arith }

    pub references_below : (xs : Option (Vec X Global)) →
        Below p (in_references (clause_terms reference xs)) (optional_tree (clause_tree (vector_tree view)) xs)
    references_below None = nothing_below _
    references_below (Some xs) = present_below (clause_part (vector_below xs))
