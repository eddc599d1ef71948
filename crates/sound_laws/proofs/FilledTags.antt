-- FilledTags: a syntax with the values of its DEFAULTs begins with the tags of the one without (X.680, section 25;
-- X.690, section 8.1.2).
use Rattle.std.proofs.Common.{◌≡◌, ◌∙◌, ◌+◌, ℕ, List, [], ◌∷◌, ◌++◌, refl, sym, ap}
use Rattle.term_values.specs.Beginnings.{either_tags, first_tags, parts_tags}
use Rattle.term_values.specs.Soundness.{has_own_tag}
use Rattle.term_values.specs.Syntaxes.{TypeSyntax, TypeParts}
use Rattle.term_values.specs.Syntaxes.TypeSyntax.{Boolean, Integer, Enumerated, BitString, OctetString, NullType}
use Rattle.term_values.specs.Syntaxes.TypeSyntax.{ObjectIdentifier, TextString, GeneralizedTime, Sequence, SetType}
use Rattle.term_values.specs.Syntaxes.TypeSyntax.{SequenceOf, SetOf, Choice, Tagged, Any, Filter}
use Rattle.term_values.specs.Syntaxes.TypeParts.{NoParts, Part}
use Rattle.asn1_leaf_values.specs.Arcs.{NamedArcs}
use Rattle.filled_syntaxes.specs.FilledSyntaxes.{AreFilled, IsFilled, TextsAt}

mutual
  pub filled_tags : (names : NamedArcs) (T : TextsAt) (path : List ℕ) (syntax after : TypeSyntax) →
      IsFilled names T path syntax after → first_tags syntax ≡ first_tags after
  filled_tags names T path (Sequence parts) after h = ap first_tags (sym h.1)
  filled_tags names T path (SetType parts) after h = ap first_tags (sym h.1)
  filled_tags names T path (Choice parts) after h =
      filled_parts_tags names T path 0 parts h.0 h.2 ∙ ap first_tags (sym h.1)
  filled_tags names T path (SequenceOf one_of sizes) after h = ap first_tags (sym h.1)
  filled_tags names T path (SetOf one_of sizes) after h = ap first_tags (sym h.1)
  filled_tags names T path (Tagged tag explicit of) after h = ap first_tags (sym h.1)
  filled_tags names T path Boolean after h = ap first_tags (sym h)
  filled_tags names T path (Integer n r) after h = ap first_tags (sym h)
  filled_tags names T path (Enumerated n) after h = ap first_tags (sym h)
  filled_tags names T path (BitString n r) after h = ap first_tags (sym h)
  filled_tags names T path (OctetString r) after h = ap first_tags (sym h)
  filled_tags names T path NullType after h = ap first_tags (sym h)
  filled_tags names T path ObjectIdentifier after h = ap first_tags (sym h)
  filled_tags names T path (TextString c r) after h = ap first_tags (sym h)
  filled_tags names T path GeneralizedTime after h = ap first_tags (sym h)
  filled_tags names T path Any after h = ap first_tags (sym h)
  filled_tags names T path Filter after h = ap first_tags (sym h)

  filled_parts_tags : (names : NamedArcs) (T : TextsAt) (path : List ℕ) (k : ℕ) (parts after : TypeParts) →
      AreFilled names T path k parts after → parts_tags parts ≡ parts_tags after
  filled_parts_tags names T path k NoParts NoParts h = refl
  filled_parts_tags names T path k NoParts (Part n1 s1 o1 d1 r1) h = absurd h
  filled_parts_tags names T path k (Part n s o d r) NoParts h = absurd h
  filled_parts_tags names T path k (Part n s o d r) (Part n1 s1 o1 d1 r1) h =
      let own = filled_tags names T (path ++ k ∷ []) s s1 h.1 in
      let rest = filled_parts_tags names T path (k + 1) r r1 h.3 in
      λ i. either_tags (own i) (rest i)

pub filled_own : (names : NamedArcs) (T : TextsAt) (path : List ℕ) (syntax after : TypeSyntax) →
    IsFilled names T path syntax after → has_own_tag syntax ≡ has_own_tag after
filled_own names T path (Sequence parts) after h = ap has_own_tag (sym h.1)
filled_own names T path (SetType parts) after h = ap has_own_tag (sym h.1)
filled_own names T path (Choice parts) after h = ap has_own_tag (sym h.1)
filled_own names T path (SequenceOf one_of sizes) after h = ap has_own_tag (sym h.1)
filled_own names T path (SetOf one_of sizes) after h = ap has_own_tag (sym h.1)
filled_own names T path (Tagged tag explicit of) after h = ap has_own_tag (sym h.1)
filled_own names T path Boolean after h = ap has_own_tag (sym h)
filled_own names T path (Integer n r) after h = ap has_own_tag (sym h)
filled_own names T path (Enumerated n) after h = ap has_own_tag (sym h)
filled_own names T path (BitString n r) after h = ap has_own_tag (sym h)
filled_own names T path (OctetString r) after h = ap has_own_tag (sym h)
filled_own names T path NullType after h = ap has_own_tag (sym h)
filled_own names T path ObjectIdentifier after h = ap has_own_tag (sym h)
filled_own names T path (TextString c r) after h = ap has_own_tag (sym h)
filled_own names T path GeneralizedTime after h = ap has_own_tag (sym h)
filled_own names T path Any after h = ap has_own_tag (sym h)
filled_own names T path Filter after h = ap has_own_tag (sym h)
