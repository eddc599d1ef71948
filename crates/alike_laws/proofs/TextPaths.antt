-- TextPaths: that DEFAULT stands at the same components behind two paths, and that what is said of each text of DEFAULT
-- in a filled syntax is said of those in its components (X.680, section 25).
use Rattle.std.proofs.Common.{◌≡◌, ◌∙◌, ◌+◌, ℕ, suc, List, [], ◌∷◌, ◌++◌, Bool, Option, Some, refl, sym, arith}
use Rattle.std.proofs.Common.{append_assoc, subst}
use Rattle.std.proofs.lemmas.Option.{none-some}
use Rattle.token_grammar.specs.Form.{Tree}
use Rattle.term_values.specs.Syntaxes.{TypeSyntax, TypeParts}
use Rattle.term_values.specs.Syntaxes.TypeParts.{Part}
use Rattle.term_values.specs.Typed.{TypedValue}
use Rattle.asn1_names.specs.DefaultTexts.{member_at, part_at}
use Rattle.filled_syntaxes.specs.FilledSyntaxes.{TextsAt}
use Rattle.filled_syntaxes.proofs.BadLaws.{no_part}

-- ---- the same components

-- where a text stands behind one path, some text stands behind the other one
abbrev pub LeadTo : TextsAt → TextsAt → List ℕ → List ℕ → Type 0
LeadTo T U one other =
    (k : ℕ) (rest : List ℕ) (tree : Tree) → T (one ++ k ∷ rest) tree → (its : Tree) × U (other ++ k ∷ rest) its

pub record StandAlike (T U : TextsAt) (one other : List ℕ) : Type 0 where
  pub to : LeadTo T U one other
  pub from : LeadTo U T other one

lead_at : (T U : TextsAt) (one other : List ℕ) (k : ℕ) → LeadTo T U one other →
    LeadTo T U (one ++ k ∷ []) (other ++ k ∷ [])
lead_at T U one other k to = λ j rest tree there.
    let found = to k (j ∷ rest) tree (subst (λ p. T p tree) (append_assoc one (k ∷ []) (j ∷ rest)) there) in
    (found.0, subst (λ p. U p found.0) (sym (append_assoc other (k ∷ []) (j ∷ rest))) found.1)

-- so it is behind the path of a component
pub alike_at : (T U : TextsAt) (one other : List ℕ) (k : ℕ) → StandAlike T U one other →
    StandAlike T U (one ++ k ∷ []) (other ++ k ∷ [])
alike_at T U one other k alike = record {
  to = lead_at T U one other k alike.to;
  from = lead_at U T other one k alike.from;
}

-- ---- what is said of each text

-- each text of DEFAULT behind a path is as is asked, with the syntax of its component
abbrev pub AreEachAt : (TypeSyntax → Tree → Type 0) → TextsAt → List ℕ → TypeSyntax → Type 0
AreEachAt Is T path syntax = (rest : List ℕ) (component : TypeSyntax) → part_at syntax rest ≡ Some component →
    (text : Tree) → T (path ++ rest) text → Is component text

-- the same of components, of which the first has the number k
abbrev pub AreEachAmong : (TypeSyntax → Tree → Type 0) → TextsAt → List ℕ → ℕ → TypeParts → Type 0
AreEachAmong Is T path k parts = (j : ℕ) (rest : List ℕ) (component : TypeSyntax) →
    member_at parts j rest ≡ Some component → (text : Tree) → T (path ++ (k + j) ∷ rest) text → Is component text

module _ (Is : TypeSyntax → Tree → Type 0) (T : TextsAt) where
  pub each_in : (path : List ℕ) (parts : TypeParts) (whole after : TypeSyntax) →
      ((j : ℕ) (rest : List ℕ) → part_at whole (j ∷ rest) ≡ member_at parts j rest) → after ≡ whole →
      AreEachAt Is T path after → AreEachAmong Is T path 0 parts
  each_in path parts whole after same is each = λ j rest component part text there.
      let place : 0 + j ≡ j = omega arith in
      each (j ∷ rest) component ((λ i. part_at (is i) (j ∷ rest)) ∙ same j rest ∙ part) text
      (subst (λ n. T (path ++ n ∷ rest) text) place there)

  pub each_within : (path : List ℕ) (inner whole after : TypeSyntax) →
      ((rest : List ℕ) → part_at whole rest ≡ part_at inner rest) → after ≡ whole → AreEachAt Is T path after →
      AreEachAt Is T path inner
  each_within path inner whole after same is each = λ rest component part.
      each rest component ((λ i. part_at (is i) rest) ∙ same rest ∙ part)

  module _ (path : List ℕ) (k : ℕ) (name : List ℕ) (syntax : TypeSyntax) (optional : Bool)
      (default : Option TypedValue) (rest : TypeParts)
      (each : AreEachAmong Is T path k (Part name syntax optional default rest)) where
    pub each_own : (text : Tree) → T (path ++ k ∷ []) text → Is syntax text
    each_own text there =
        let place : k ≡ k + 0 = omega arith in
        each 0 [] syntax refl text (subst (λ n. T (path ++ n ∷ []) text) place there)

    pub each_inner : AreEachAt Is T (path ++ k ∷ []) syntax
    each_inner [] component part text there = absurd (none-some _ (sym (no_part syntax) ∙ part))
    each_inner (j ∷ further) component part text there =
        let place : k ≡ k + 0 = omega arith in
        each 0 (j ∷ further) component part text (subst (λ n. T (path ++ n ∷ (j ∷ further)) text) place
        (subst (λ p. T p text) (append_assoc path (k ∷ []) (j ∷ further)) there))

    pub each_other : AreEachAmong Is T path (k + 1) rest
    each_other = λ j further component part text there.
        let place : (k + 1) + j ≡ k + suc j = omega arith in
        each (suc j) further component part text (subst (λ n. T (path ++ n ∷ further) text) place there)
