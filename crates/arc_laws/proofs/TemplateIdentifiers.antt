-- TemplateIdentifiers: parts that the forms of several templates have: what stands in line in them has identifiers of
-- whole arcs.
use Rattle.std.proofs.Common.{◌≡◌, ℕ, Bool, List, [], ◌∷◌, ◌++◌, Option, None, Some, option_map}
use Rattle.std.specs.List.{AllByRecursion}
use Rattle.std.specs.Prelude.{All}
use Rattle.std.specs.declared.alloc.Global.{Global}
use Rattle.std.specs.declared.vec.Vec.{Vec}
use Rattle.std.proofs.lemmas.List.Elements.{All-append, All-cons, All-nil}
use Rattle.token_grammar.specs.Form.{AnyOrder, Bare, Empty, Form, Keep, Leaf, Listed, Marks, Pair, Slots, Then, Tree}
use Rattle.token_grammar.specs.Kinds.{number_kind}
use Rattle.token_grammar.specs.Parts.{optional_tree, vector_tree}
use Rattle.token_grammar.specs.declared.object_identifier.ObjectIdentifier.{ObjectIdentifier}
use Rattle.token_grammar.specs.declared.token.Token.{Token}
use Rattle.gdmo_first_names.specs.ReadModules.{HasWholeArcs, IsWhole}
use Rattle.gdmo_members.specs.Clauses.{clause, comma, ending, registered_ending, registration}
use Rattle.gdmo_members.specs.Trees.{clause_tree, ending_tree, registered_ending_tree, registration_tree}
use Rattle.gdmo_names.specs.DocumentTemplates.{in_body, in_reference, in_references, in_template}
use Rattle.gdmo_names.specs.MemberViews.{clause_terms, identifier_term, reference_terms}
use Rattle.gdmo_names.specs.PartTerms.{identifier_of}
use Rattle.gdmo_names.specs.TemplateTerms.{BodyTerm, IdentifierTerm, ReferenceTerm, TemplateTerm}
use Rattle.gdmo_names.specs.TemplateTerms.TemplateTerm.{Template}
use Rattle.arc_laws.proofs.Identifiers.{WholeOption, identifier_whole}
use Rattle.arc_laws.proofs.Saying.{AllSaid, CameSaid, ListSaid, MaybeSaid, Spelt, clauses_said, each_said, forms}
use Rattle.arc_laws.proofs.Saying.{listed_said, maybe_said, pair_said}

-- the identifier of a template has whole arcs, where it has one
pub IsWholeTemplate : TemplateTerm → Type 0
IsWholeTemplate x = WholeOption (identifier_of x)

pub whole_template : (x : TemplateTerm) → IsWholeTemplate x → WholeOption (identifier_of x)
unfolding IsWholeTemplate
whole_template x whole = whole

pub record AreWholeTemplates (xs : List TemplateTerm) : Type 0 where
  pub all : All IsWholeTemplate xs

pub no_template : AreWholeTemplates []
no_template = record { all = All-nil IsWholeTemplate }

pub both_whole : {xs ys : List TemplateTerm} → AreWholeTemplates xs → AreWholeTemplates ys →
    AreWholeTemplates (xs ++ ys)
both_whole {xs} {ys} one two = record { all = All-append IsWholeTemplate xs ys one.all two.all }

-- a template before those in line in it
pub first_whole : (label : Token) (identifier : Option IdentifierTerm) (body : BodyTerm) → WholeOption identifier →
    AreWholeTemplates (in_body body) → AreWholeTemplates (in_template (Template label identifier body))
unfolding IsWholeTemplate
first_whole label identifier body one others = record {
  all = All-cons IsWholeTemplate (Template label identifier body) (in_body body) one others.all;
}

module _ (tokens : List Token) (grammar : ℕ → Form) where
  -- label, keywords, clauses in any order, and the end
  pub body_said : (s : Slots) {test : Token → Bool} {tests : List (Token → Bool)} {end : Form} {label : Token}
      {clauses last : Tree} → CameSaid tokens grammar s →
      Spelt tokens grammar (Then (Keep test) (Then (Marks tests) (Then (AnyOrder s) end)))
      (Pair (Leaf label) (Pair Bare (Pair clauses last))) →
      AllSaid tokens grammar (forms tokens grammar s) clauses × Spelt tokens grammar end last
  body_said s none_came said =
      let parts = pair_said tokens grammar (pair_said tokens grammar (pair_said tokens grammar said).1).1 in
      (clauses_said tokens grammar s none_came parts.0, parts.1)

  -- keywords, a part, and what ends the clause
  pub clause_said : {tests : List (Token → Bool)} {f end : Form} {a b : Tree} →
      Spelt tokens grammar (Then (Marks tests) (Then f end)) (Pair Bare (Pair a b)) → Spelt tokens grammar f a
  clause_said said = (pair_said tokens grammar (pair_said tokens grammar said).1).0

  -- references in a row
  module _ {X : Type 0} (f : Form) (reference : X → ReferenceTerm) (view : X → Tree)
      (each : (x : X) → Spelt tokens grammar f (view x) → AreWholeTemplates (in_reference (reference x))) where
    joined : (xs : List X) → AllByRecursion (λ x. AreWholeTemplates (in_reference (reference x))) xs →
        AreWholeTemplates (in_references (reference_terms reference xs))
    joined [] all = no_template
    joined (x ∷ xs) all = both_whole all.0 (joined xs all.1)

    pub row_whole : (xs : Vec X Global) → ListSaid tokens grammar f (vector_tree view xs) →
        AreWholeTemplates (in_references (reference_terms reference xs.items))
    row_whole xs said = joined xs.items
        (each_said tokens grammar f view (λ x. AreWholeTemplates (in_reference (reference x))) Empty xs.items each
        said).1

    -- those of a clause with these keywords
    pub references_whole : (texts : List (List ℕ)) (xs : Option (Vec X Global)) →
        MaybeSaid tokens grammar (clause texts (Listed comma Empty f))
        (optional_tree (clause_tree (vector_tree view)) xs) →
        AreWholeTemplates (in_references (clause_terms reference xs))
    references_whole texts None said = no_template
    references_whole texts (Some xs) said = row_whole xs (listed_said tokens grammar (clause_said said))

  module _ (whole : All (λ x. x.kind ≡ number_kind → IsWhole x) tokens) where
    registration_whole : (x : ObjectIdentifier) → Spelt tokens grammar registration (registration_tree x) →
        HasWholeArcs (identifier_term x)
    registration_whole x said = identifier_whole tokens grammar whole x (pair_said tokens grammar said).1

    pub registered_whole : (x : ObjectIdentifier) → Spelt tokens grammar registered_ending (registered_ending_tree x) →
        HasWholeArcs (identifier_term x)
    registered_whole x said = registration_whole x (pair_said tokens grammar said).0

    pub ending_whole : (x : Option ObjectIdentifier) → Spelt tokens grammar ending (ending_tree x) →
        WholeOption (option_map identifier_term x)
    ending_whole None said = tt
    ending_whole (Some x) said =
        registration_whole x (maybe_said tokens grammar (pair_said tokens grammar said).0)
