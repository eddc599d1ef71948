-- ComponentLaws: a component that is of an attribute's type is a field of the filled syntax, alike the attribute's; and
-- whether there is such a field is decided (X.722, section 8.11; X.680, section 25; docs/PROFILE.md, section 12).
use Rattle.std.specs.Prelude.{◌≡◌, ◌⊎◌, ◌+◌, ◌∷◌, [], ℕ, List, Bool, true, false, Option, Some}
use Rattle.std.specs.Prelude.{if◌then◌else◌, refl}
use Rattle.std.specs.Cmp.Lexicographic.{bytes_decides}
use Rattle.std.proofs.Common.{◌∙◌, ap, inl, inr, sym, true≢false}
use Rattle.std.proofs.Math.Path.{subst}
use Rattle.std.proofs.lemmas.Option.{same_Some}
use Rattle.term_values.specs.MatchingKinds.{beneath_tags}
use Rattle.term_values.specs.Syntaxes.{TypeSyntax, TypeParts}
use Rattle.term_values.specs.Syntaxes.TypeSyntax.{Sequence, SetType, Tagged}
use Rattle.term_values.specs.Syntaxes.TypeParts.{NoParts, Part}
use Rattle.term_model.specs.AlikeSyntaxes.{AreAlike}
use Rattle.term_model.specs.WholeRecords.{HasComponent, HasField}
use Rattle.asn1_names.specs.StandardModule.{is_same_name}
use Rattle.asn1_leaf_values.specs.Arcs.{NamedArcs}
use Rattle.gdmo_names.specs.AttributeSyntaxes.{component_called, part_called}
use Rattle.filled_syntaxes.specs.FilledSyntaxes.{AreFilled, IsFilled, TextsAt}
use Rattle.alike_laws.proofs.DecidingLaws.{alike_or_not}
use Rattle.alike_laws.proofs.FilledAlike.{IsSaid, filled_alike}
use Rattle.alike_laws.proofs.TextPaths.{AreEachAmong, AreEachAt, StandAlike, each_in, each_inner, each_other}
use Rattle.alike_laws.proofs.TextPaths.{each_within}

-- ---- whether there is a field

name_or_not : (one other : List ℕ) → (one ≡ other) ⊎ (¬ (one ≡ other))
name_or_not one other = by (is_same_name one other) refl
  where
    by : (test : Bool) → is_same_name one other ≡ test → (one ≡ other) ⊎ (¬ (one ≡ other))
    by true is = inl ((bytes_decides one other).0 is)
    by false is = inr (λ same. true≢false (sym ((bytes_decides one other).1 same) ∙ is))

both_or_not : {A B : Type 0} → A ⊎ (¬ A) → B ⊎ (¬ B) → (A × B) ⊎ (¬ (A × B))
both_or_not (inl is) (inl also) = inl (is, also)
both_or_not (inl is) (inr not_so) = inr (λ both. not_so both.1)
both_or_not (inr not_so) _ = inr (λ both. not_so both.0)

either_or_not : {A B : Type 0} → A ⊎ (¬ A) → B ⊎ (¬ B) → (A ⊎ B) ⊎ (¬ (A ⊎ B))
either_or_not (inl is) _ = inl (inl is)
either_or_not (inr not_so) (inl is) = inl (inr is)
either_or_not {A} {B} (inr not_one) (inr not_other) = inr neither
  where
    neither : A ⊎ B → ⊥
    neither (inl is) = not_one is
    neither (inr is) = not_other is

component_or_not : (parts : TypeParts) (name : List ℕ) (wanted : TypeSyntax) →
    HasComponent parts name wanted ⊎ (¬ HasComponent parts name wanted)
component_or_not NoParts name wanted = inr (λ has. has)
component_or_not (Part own syntax optional default rest) name wanted =
    either_or_not (both_or_not (name_or_not own name) (alike_or_not syntax wanted)) (component_or_not rest name wanted)

pub field_or_not : (syntax : TypeSyntax) (name : List ℕ) (wanted : TypeSyntax) →
    HasField syntax name wanted ⊎ (¬ HasField syntax name wanted)
field_or_not (Sequence parts) name wanted = component_or_not parts name wanted
field_or_not (SetType parts) name wanted = component_or_not parts name wanted
field_or_not _ name wanted = inr (λ has. has)

-- ---- the component of a name

-- DEFAULT stands in a component as in another syntax, which is filled, and each one of both has a value
pub record IsOfType (names : NamedArcs) (T U : TextsAt) (place : ℕ) (syntax wanted : TypeSyntax) : Type 0 where
  pub stand : StandAlike T U (place ∷ []) []
  pub filled : IsFilled names U [] syntax wanted
  pub said : AreEachAt (IsSaid names) U [] wanted

-- one component, if it is the one, else what is found among others
abbrev first_or : Bool → ℕ × TypeSyntax → Option (ℕ × TypeSyntax) → Option (ℕ × TypeSyntax)
first_or test part others = if test then Some part else others

module _ (names : NamedArcs) (T U : TextsAt) (name : List ℕ) (place : ℕ) (syntax wanted : TypeSyntax)
    (of : IsOfType names T U place syntax wanted) where
  here_alike : (k : ℕ) (plain after : TypeSyntax) → k ≡ place → plain ≡ syntax → IsFilled names T (k ∷ []) plain after →
      AreEachAt (IsSaid names) T (k ∷ []) after → AreAlike after wanted
  here_alike k plain after at same filled said =
      filled_alike names T U (k ∷ []) [] (subst (λ n. StandAlike T U (n ∷ []) []) (sym at) of.stand) plain after wanted
      filled (subst (λ s. IsFilled names U [] s wanted) (sym same) of.filled) said of.said

  component_there : (k : ℕ) (parts inner : TypeParts) → part_called name k parts ≡ Some (place, syntax) →
      AreFilled names T [] k parts inner → AreEachAmong (IsSaid names) T [] k inner → HasComponent inner name wanted
  component_there k NoParts inner called filled said = absurd (cc)
  component_there k (Part n s o d r) NoParts called filled said = absurd filled
  component_there k (Part n s o d r) (Part n1 s1 o1 d1 r1) called filled said =
      by (is_same_name n name) refl called (λ further. component_there (k + 1) r r1 further filled.3
      (each_other (IsSaid names) T [] k n1 s1 o1 d1 r1 said))
    where
      by : (test : Bool) → is_same_name n name ≡ test →
          first_or test (k, s) (part_called name (k + 1) r) ≡ Some (place, syntax) →
          (part_called name (k + 1) r ≡ Some (place, syntax) → HasComponent r1 name wanted) →
          HasComponent (Part n1 s1 o1 d1 r1) name wanted
      by true is e behind =
          let same = same_Some (k, s) (place, syntax) e in
          inl (
            filled.0 ∙ (bytes_decides n name).0 is,
            here_alike k s s1 (ap (λ (p : ℕ × TypeSyntax). p.0) same) (ap (λ (p : ℕ × TypeSyntax). p.1) same) filled.1
                (each_inner (IsSaid names) T [] k n1 s1 o1 d1 r1 said),
          )
      by false is e behind = inr (behind e)

  pub field_there : (whole after : TypeSyntax) → component_called name whole ≡ Some (place, syntax) →
      IsFilled names T [] whole after → AreEachAt (IsSaid names) T [] after → HasField (beneath_tags after) name wanted
  field_there (Sequence parts) after called h said =
      subst (λ s. HasField (beneath_tags s) name wanted) (sym h.1) (component_there 0 parts h.0 called h.2
      (each_in (IsSaid names) T [] h.0 (Sequence h.0) after (λ j rest. refl) h.1 said))
  field_there (SetType parts) after called h said =
      subst (λ s. HasField (beneath_tags s) name wanted) (sym h.1) (component_there 0 parts h.0 called h.2
      (each_in (IsSaid names) T [] h.0 (SetType h.0) after (λ j rest. refl) h.1 said))
  field_there (Tagged tag explicit inner) after called h said =
      subst (λ s. HasField (beneath_tags s) name wanted) (sym h.1) (field_there inner h.0 called h.2
      (each_within (IsSaid names) T [] h.0 (Tagged tag explicit h.0) after (λ rest. refl) h.1 said))
  field_there _ after called h said = absurd (cc)
