-- WalkLaws: what stands in values of a syntax, and the components of a name and without one.
use Rattle.std.proofs.Common.{◌≡◌, ◌≢◌, ◌⊎◌, ◌∙◌, ℕ, List, [], ◌∷◌, Bool, true, false, Some, refl, sym}
use Rattle.std.proofs.Common.{ap, inl, inr, length}
use Rattle.std.specs.Prelude.{◌↔◌, ◌==◌}
use Rattle.std.proofs.Math.Path.{subst}
use Rattle.std.proofs.lemmas.Bool.{eqb-true, false≢true}
use Rattle.std.proofs.lemmas.List.{nil_from_length}
use Rattle.token_grammar.specs.declared.token.Token.{Token}
use Rattle.token_grammar.specs.Form.{Tree, Empty}
use Rattle.token_grammar.specs.Parts.{list_tree}
use Rattle.term_values.specs.Syntaxes.{TypeSyntax, TypeParts}
use Rattle.asn1_values_syntax.specs.declared.value.ValuePart.{ValuePart}
use Rattle.asn1_values_syntax.specs.ValueTrees.{part_tree}
use Rattle.term_values.specs.declared.syntax.Part.{Part as Component}
use Rattle.term_values.specs.PartsView.{parts_listed}
use Rattle.gdmo_names.specs.ValueNames.{BeginsIn, IsCalled, part_value, parts_in}
use Rattle.gdmo_names.specs.ValueNames.IsCalled.{first_called}
use Rattle.gdmo_begun_names.specs.declared.begun_names.BegunNames.{BegunNames}
use Rattle.gdmo_begun_names.specs.BegunMarks.{AnyFirst, FirstSet, Marks}
use Rattle.gdmo_begun_names.specs.PartNames.{BeginsPart, BeginsWithin, IsComponent, IsNamedComponent}
use Rattle.gdmo_begun_names.specs.PartNames.{IsUnnamedComponent}
use Rattle.gdmo_begun_names.specs.PartNames.{Unnamed, syntax_called}
use Rattle.gdmo_begun_names.specs.Walks.{IsUnnamedOne}
use Rattle.gdmo_begun_names.proofs.FilterLaws.{in_part, part_in}
use Rattle.gdmo_begun_names.proofs.MarkLaws.{both_marked, marked_by, none_marked}
use Rattle.gdmo_begun_names.proofs.PartLaws.{parts_within, within_parts}
use Rattle.gdmo_begun_names.proofs.SyntaxLaws.{called_cases, called_unnamed, from_unnamed, is_placed}

-- a list that is tested for being empty
pub is_nil : (name : List ℕ) (b : Bool) → b ≡ (length name == 0) → b ≡ true → name ≡ []
is_nil name b told is = nil_from_length name (eqb-true (length name) 0 (sym told ∙ is))

pub not_nil : (name : List ℕ) (b : Bool) → b ≡ (length name == 0) → b ≡ false → name ≢ []
not_nil name b told is e = false≢true (sym is ∙ told ∙ ap (λ n. length n == 0) e)

-- further down the same syntax
pub walked : (One : Tree → FirstSet) (left whole w : TypeSyntax) →
    ((text : Tree) (t : Token) → BeginsIn t left text ↔ BeginsIn t whole text) → left ≡ w →
    ((text : Tree) (t : Token) → One text t → BeginsIn t w text) →
    ((text : Tree) (t : Token) → BeginsIn t w text → One text t) →
    (text : Tree) (t : Token) → One text t ↔ BeginsIn t whole text
walked One left whole w same is to from text t = (
  λ o. (same text t).0 (subst (λ z. BeginsIn t z text) (sym is) (to text t o)),
  λ h. from text t (subst (λ z. BeginsIn t z text) is ((same text t).1 h)),
)

-- the parts of a value in braces are all marked
pub parts_marked : (Can : List ℕ → TypeSyntax → Type 0) (Whole : FirstSet) (text : Tree) (xs : List ValuePart)
    {before after : BegunNames} → parts_in text ≡ Some (list_tree part_tree Empty xs) →
    ((t : Token) → BeginsWithin Can text t ↔ Whole t) →
    Marks (AnyFirst (λ part. BeginsPart Can (part_tree part)) xs) before after → Marks Whole before after
parts_marked Can Whole text xs braces told h =
    marked_by (AnyFirst (λ part. BeginsPart Can (part_tree part)) xs) Whole
    (λ t a. (told t).0 (within_parts Can t text xs braces a))
    (λ t w. parts_within Can t text xs braces ((told t).1 w)) h

-- a part that has a name, and one that has none
name_cases : (name : List ℕ) (s : TypeSyntax) (parts : TypeParts) → IsCalled name s parts →
    IsNamedComponent parts name s ⊎ IsUnnamedComponent parts name s
name_cases [] s parts h = inr (
  refl,
  elim (called_cases [] s parts h) as (λ _. Unnamed s parts) [
    | inl e ↦ called_unnamed s parts e
    | inr u ↦ u.1
  ],
)
name_cases (x ∷ xs) s parts h = inl (
  λ e. absurd (cc),
  elim (called_cases (x ∷ xs) s parts h) as (λ _. syntax_called (x ∷ xs) parts ≡ Some s) [
    | inl e ↦ e
    | inr u ↦ absurd (let e = u.0 in cc)
  ],
)

named_or_not : (parts : TypeParts) (part : Tree) (t : Token) → BeginsPart (IsComponent parts) part t →
    BeginsPart (IsNamedComponent parts) part t ⊎ BeginsPart (IsUnnamedComponent parts) part t
named_or_not parts part t b = elim (name_cases b.name b.syntax parts b.can) as
    (λ _. BeginsPart (IsNamedComponent parts) part t ⊎ BeginsPart (IsUnnamedComponent parts) part t) [
      | inl n ↦ inl (in_part (IsNamedComponent parts) b.name b.value part t b.syntax b.is n b.begins)
      | inr u ↦ inr (in_part (IsUnnamedComponent parts) b.name b.value part t b.syntax b.is u b.begins)
    ]

component_of : (parts : TypeParts) (part : Tree) (t : Token) →
    BeginsPart (IsNamedComponent parts) part t ⊎ BeginsPart (IsUnnamedComponent parts) part t →
    BeginsPart (IsComponent parts) part t
component_of parts part t (inl b) = in_part (IsComponent parts) b.name b.value part t b.syntax b.is
    (first_called (is_placed b.name parts b.syntax b.can.1).1) b.begins
component_of parts part t (inr b) = in_part (IsComponent parts) b.name b.value part t b.syntax b.is
    (subst (λ name. IsCalled name b.syntax parts) (sym b.can.0) (from_unnamed b.syntax parts b.can.1)) b.begins

pub component_marked : (parts : TypeParts) (part : Tree) {before between after : BegunNames} →
    Marks (BeginsPart (IsNamedComponent parts) part) before between →
    Marks (BeginsPart (IsUnnamedComponent parts) part) between after →
    Marks (BeginsPart (IsComponent parts) part) before after
component_marked parts part h i =
    let One : FirstSet = BeginsPart (IsNamedComponent parts) part in
    let Other : FirstSet = BeginsPart (IsUnnamedComponent parts) part in
    marked_by (λ t. One t ⊎ Other t) (BeginsPart (IsComponent parts) part) (component_of parts part)
    (named_or_not parts part) (both_marked One Other h i)

-- ---- components without a name, one after the other

any_unnamed : (part : Tree) (t : Token) (xs : List Component) →
    AnyFirst (λ component. BeginsPart (IsUnnamedOne component) part) xs t →
    BeginsPart (IsUnnamedComponent (parts_listed xs)) part t
any_unnamed part t [] h = absurd h
any_unnamed part t (x ∷ xs) (inl b) =
    in_part (IsUnnamedComponent (parts_listed (x ∷ xs))) b.name b.value part t b.syntax b.is
    (b.can.1, inl (b.can.0, b.can.2)) b.begins
any_unnamed part t (x ∷ xs) (inr h) = let b = any_unnamed part t xs h in
    in_part (IsUnnamedComponent (parts_listed (x ∷ xs))) b.name b.value part t b.syntax b.is
    (b.can.0, inr b.can.1) b.begins

unnamed_any : (part : Tree) (t : Token) (name : List ℕ) (value : Tree) (syntax : TypeSyntax) →
    part_value part ≡ Some (name, value) → name ≡ [] → BeginsIn t syntax value → (xs : List Component) →
    Unnamed syntax (parts_listed xs) → AnyFirst (λ component. BeginsPart (IsUnnamedOne component) part) xs t
unnamed_any part t name value syntax is no_name h [] u = absurd u
unnamed_any part t name value syntax is no_name h (x ∷ xs) (inl u) =
    inl (in_part (IsUnnamedOne x) name value part t syntax is (u.0, no_name, u.1) h)
unnamed_any part t name value syntax is no_name h (x ∷ xs) (inr u) =
    inr (unnamed_any part t name value syntax is no_name h xs u)

pub unnamed_marked : (part : Tree) (xs : List Component) {before after : BegunNames} →
    Marks (AnyFirst (λ component. BeginsPart (IsUnnamedOne component) part) xs) before after →
    Marks (BeginsPart (IsUnnamedComponent (parts_listed xs)) part) before after
unnamed_marked part xs h =
    marked_by (AnyFirst (λ component. BeginsPart (IsUnnamedOne component) part) xs)
    (BeginsPart (IsUnnamedComponent (parts_listed xs)) part) (λ t a. any_unnamed part t xs a)
    (λ t b. unnamed_any part t b.name b.value b.syntax b.is b.can.0 b.begins xs b.can.1) h

-- one component
pub other_marked : (component : Component) (part : Tree) (names : BegunNames) → component.name ≢ [] →
    Marks (BeginsPart (IsUnnamedOne component) part) names names
other_marked component part names named =
    none_marked (BeginsPart (IsUnnamedOne component) part) names (λ t b. named b.can.0)

pub named_marked : (component : Component) (name : List ℕ) (v part : Tree) (names : BegunNames) →
    part_value part ≡ Some (name, v) → name ≢ [] → Marks (BeginsPart (IsUnnamedOne component) part) names names
named_marked component name v part names is named =
    none_marked (BeginsPart (IsUnnamedOne component) part) names
    (λ t b. named ((part_in (IsUnnamedOne component) name v part t is b).1.1))

pub one_marked : (component : Component) (name : List ℕ) (v part : Tree) {before after : BegunNames} →
    part_value part ≡ Some (name, v) → name ≡ [] → component.name ≡ [] →
    Marks (λ t. BeginsIn t component.syntax v) before after →
    Marks (BeginsPart (IsUnnamedOne component) part) before after
one_marked component name v part is no_name unnamed_is h =
    marked_by (λ t. BeginsIn t component.syntax v) (BeginsPart (IsUnnamedOne component) part)
    (λ t b. in_part (IsUnnamedOne component) name v part t component.syntax is (unnamed_is, no_name, refl) b)
    (λ t b. let p = part_in (IsUnnamedOne component) name v part t is b in
    subst (λ s. BeginsIn t s v) (sym p.1.2) p.2) h
