-- Identifiers: in an identifier that tokens spell the arcs that are stated in digits are numbers of 64 bits.
use Rattle.std.proofs.Common.{◌≡◌, ℕ, List, [], ◌∷◌, Option, None, Some, map}
use Rattle.std.specs.List.{AllByRecursion}
use Rattle.std.specs.Prelude.{All}
use Rattle.std.proofs.lemmas.Bool.{eqb-true}
use Rattle.std.proofs.lemmas.List.Elements.{All-cons, All-nil}
use Rattle.token_grammar.specs.Form.{Form, Keep, Leaf, Empty}
use Rattle.token_grammar.specs.Kinds.{number_kind}
use Rattle.token_grammar.specs.Parts.{arc, arc_tree, first_arc, first_arc_tree, list_tree, object_identifier}
use Rattle.token_grammar.specs.Parts.{object_identifier_tree}
use Rattle.token_grammar.specs.TokenTests.{is_number}
use Rattle.token_grammar.specs.declared.object_identifier.Arc.{Arc}
use Rattle.token_grammar.specs.declared.object_identifier.Arc.TheVariants.{Number, Named}
use Rattle.token_grammar.specs.declared.object_identifier.FirstArc.{FirstArc}
use Rattle.token_grammar.specs.declared.object_identifier.FirstArc.TheVariants.{OfArc, Name}
use Rattle.token_grammar.specs.declared.object_identifier.ObjectIdentifier.{ObjectIdentifier}
use Rattle.token_grammar.specs.declared.token.Token.{Token}
use Rattle.gdmo_first_names.specs.ReadModules.{HasWholeArcs, IsWhole, IsWholeFirst}
use Rattle.gdmo_names.specs.MemberViews.{arc_number, first_term, identifier_term}
use Rattle.gdmo_names.specs.TemplateTerms.{IdentifierTerm}
use Rattle.placing_laws.proofs.ModuleTypes.{at_place}
use Rattle.arc_laws.proofs.Saying.{ListSaid, Spelt, each_said, either_said, keep_said, many_said, pair_said}

-- the arcs of an identifier that may be missing
abbrev pub WholeOption : Option IdentifierTerm → Type 0
WholeOption None = Unit {0}
WholeOption (Some x) = HasWholeArcs x

module _ (tokens : List Token) (grammar : ℕ → Form) (whole : All (λ x. x.kind ≡ number_kind → IsWhole x) tokens) where
  pub number_whole : {token : Token} → Spelt tokens grammar (Keep is_number) (Leaf token) → IsWhole token
  number_whole {token} x =
      let kept = keep_said tokens grammar x in
      at_place (λ (y : Token). y.kind ≡ number_kind → IsWhole y) tokens kept.index token whole kept.there
      (eqb-true token.kind number_kind kept.passed)

  pub arc_whole : (x : Arc) → Spelt tokens grammar arc (arc_tree x) → IsWhole (arc_number x)
  arc_whole (Number number) x = number_whole (either_said tokens grammar x)
  arc_whole (Named name number) x =
      let named = pair_said tokens grammar (either_said tokens grammar x) in
      let behind = pair_said tokens grammar named.1 in
      number_whole (pair_said tokens grammar behind.1).0

  all_numbers : (xs : List Arc) → AllByRecursion (λ x. IsWhole (arc_number x)) xs → All IsWhole (map arc_number xs)
  all_numbers [] all = All-nil IsWhole
  all_numbers (x ∷ xs) all = All-cons IsWhole (arc_number x) (map arc_number xs) all.0 (all_numbers xs all.1)

  pub arcs_whole : (xs : List Arc) → ListSaid tokens grammar arc (list_tree arc_tree Empty xs) →
      All IsWhole (map arc_number xs)
  arcs_whole xs said = all_numbers xs
      (each_said tokens grammar arc arc_tree (λ x. IsWhole (arc_number x)) Empty xs arc_whole said).1

  first_whole : (x : FirstArc) → Spelt tokens grammar first_arc (first_arc_tree x) → IsWholeFirst (first_term x)
  first_whole (OfArc x) said = arc_whole x (either_said tokens grammar said)
  first_whole (Name name) said = tt

  pub identifier_whole : (x : ObjectIdentifier) → Spelt tokens grammar object_identifier (object_identifier_tree x) →
      HasWholeArcs (identifier_term x)
  identifier_whole x said =
      let arcs = pair_said tokens grammar (pair_said tokens grammar said).1 in
      let others = pair_said tokens grammar arcs.1 in
      (first_whole x.first arcs.0, arcs_whole x.others.items (many_said tokens grammar others.0))
