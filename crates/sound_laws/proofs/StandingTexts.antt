-- StandingTexts: that texts of DEFAULT stand at components which may be left out, component by component (X.680,
-- section 25).
use Rattle.std.proofs.Common.{◌≡◌, ◌∙◌, ◌+◌, ℕ, suc, List, [], ◌∷◌, ◌++◌, Bool, true, Option, refl, sym, arith}
use Rattle.std.proofs.Common.{append_assoc, subst}
use Rattle.token_grammar.specs.Form.{Tree}
use Rattle.term_values.specs.Syntaxes.{TypeSyntax, TypeParts}
use Rattle.term_values.specs.Syntaxes.TypeParts.{Part}
use Rattle.term_values.specs.Typed.{TypedValue}
use Rattle.filled_syntaxes.specs.BadDefaults.{member_may_miss, within_may_miss}
use Rattle.filled_syntaxes.specs.FilledSyntaxes.{TextsAt}

-- each text behind a path stands where a component may be left out
abbrev pub StandAt : TextsAt → List ℕ → TypeSyntax → Type 0
StandAt T path syntax = (rest : List ℕ) (text : Tree) → T (path ++ rest) text → within_may_miss syntax rest ≡ true

-- the same of components, of which the first has the number k
abbrev pub StandAmong : TextsAt → List ℕ → ℕ → TypeParts → Type 0
StandAmong T path k parts = (j : ℕ) (rest : List ℕ) (text : Tree) → T (path ++ (k + j) ∷ rest) text →
    member_may_miss parts j rest ≡ true

pub stand_in : (T : TextsAt) (path : List ℕ) (parts : TypeParts) (whole : TypeSyntax) →
    ((j : ℕ) (rest : List ℕ) → within_may_miss whole (j ∷ rest) ≡ member_may_miss parts j rest) →
    StandAt T path whole → StandAmong T path 0 parts
stand_in T path parts whole same stand = λ j rest text there.
    let place : 0 + j ≡ j = omega arith in
    sym (same j rest) ∙ stand (j ∷ rest) text (subst (λ n. T (path ++ n ∷ rest) text) place there)

pub stand_own : (T : TextsAt) (path : List ℕ) (k : ℕ) (name : List ℕ) (syntax : TypeSyntax) (optional : Bool)
    (default : Option TypedValue) (rest : TypeParts) → StandAmong T path k (Part name syntax optional default rest) →
    (text : Tree) → T (path ++ k ∷ []) text → optional ≡ true
stand_own T path k name syntax optional default rest stand text there =
    let place : k ≡ k + 0 = omega arith in
    stand 0 [] text (subst (λ n. T (path ++ n ∷ []) text) place there)

pub stand_inner : (T : TextsAt) (path : List ℕ) (k : ℕ) (name : List ℕ) (syntax : TypeSyntax) (optional : Bool)
    (default : Option TypedValue) (rest : TypeParts) → StandAmong T path k (Part name syntax optional default rest) →
    StandAt T (path ++ k ∷ []) syntax
stand_inner T path k name syntax optional default rest stand [] text there = refl
stand_inner T path k name syntax optional default rest stand (j ∷ further) text there =
    let place : k ≡ k + 0 = omega arith in
    stand 0 (j ∷ further) text (subst (λ n. T (path ++ n ∷ (j ∷ further)) text) place
    (subst (λ p. T p text) (append_assoc path (k ∷ []) (j ∷ further)) there))

pub stand_others : (T : TextsAt) (path : List ℕ) (k : ℕ) (name : List ℕ) (syntax : TypeSyntax) (optional : Bool)
    (default : Option TypedValue) (rest : TypeParts) → StandAmong T path k (Part name syntax optional default rest) →
    StandAmong T path (k + 1) rest
stand_others T path k name syntax optional default rest stand = λ j further text there.
    let place : (k + 1) + j ≡ k + suc j = omega arith in
    stand (suc j) further text (subst (λ n. T (path ++ n ∷ further) text) place there)

pub stand_within : (T : TextsAt) (path : List ℕ) (whole inner : TypeSyntax) →
    ((j : ℕ) (rest : List ℕ) → within_may_miss whole (j ∷ rest) ≡ within_may_miss inner (j ∷ rest)) →
    StandAt T path whole → StandAt T path inner
stand_within T path whole inner same stand [] text there = refl
stand_within T path whole inner same stand (j ∷ rest) text there = sym (same j rest) ∙ stand (j ∷ rest) text there
