-- AlikeLaws: a syntax is filled by the texts behind its path alone, and constraints change nothing in its components
-- (X.680, sections 25 and 49 to 51).
use Rattle.std.proofs.Common.{◌≡◌, ◌∙◌, ◌+◌, ℕ, List, [], ◌∷◌, ◌++◌, Bool, Option, refl, sym, ap, append_assoc}
use Rattle.std.specs.Prelude.{ℤ}
use Rattle.std.proofs.Math.Path.{subst}
use Rattle.token_grammar.specs.Form.{Tree}
use Rattle.term_values.specs.Syntaxes.{TypeSyntax, TypeParts}
use Rattle.term_values.specs.Syntaxes.TypeSyntax.{Boolean, Integer, Enumerated, BitString, OctetString, NullType}
use Rattle.term_values.specs.Syntaxes.TypeSyntax.{ObjectIdentifier, TextString, GeneralizedTime, Sequence, SetType}
use Rattle.term_values.specs.Syntaxes.TypeSyntax.{SequenceOf, SetOf, Choice, Tagged, Any, Filter}
use Rattle.term_values.specs.Syntaxes.TypeParts.{NoParts, Part}
use Rattle.term_values.specs.Typed.{TypedValue}
use Rattle.asn1_names.specs.Constraining.{Constrains, Narrows}
use Rattle.asn1_names.specs.Constraining.Constrains.{no_more, another}
use Rattle.asn1_names.specs.Constraining.Narrows.{values, bits, octets, characters, elements, members as set_members}
use Rattle.asn1_names.specs.Constraining.Narrows.{tagged as narrows_tagged}
use Rattle.asn1_names.specs.DefaultTexts.{part_at}
use Rattle.asn1_names.specs.ModuleTerms.{LimitTerm, ModuleTerm, TypeTerm}
use Rattle.asn1_leaf_values.specs.Arcs.{NamedArcs}
use Rattle.filled_syntaxes.specs.FilledSyntaxes.{AreFilled, IsFilled, IsPresence, TextsAt}
use Rattle.filled_syntaxes.specs.FilledSyntaxes.IsPresence.{with_none, with_value, without}

-- ---- the texts behind a path

-- the same texts stand behind two paths
pub record Alike (T U : TextsAt) (one other : List ℕ) : Type 0 where
  pub to : (k : ℕ) (rest : List ℕ) (tree : Tree) → T (one ++ k ∷ rest) tree → U (other ++ k ∷ rest) tree
  pub from : (k : ℕ) (rest : List ℕ) (tree : Tree) → U (other ++ k ∷ rest) tree → T (one ++ k ∷ rest) tree

pub alike_back : (T U : TextsAt) (one other : List ℕ) → Alike T U one other → Alike U T other one
alike_back T U one other a = record { to = a.from; from = a.to }

alike_at : (T U : TextsAt) (one other : List ℕ) (k : ℕ) → Alike T U one other →
    Alike T U (one ++ k ∷ []) (other ++ k ∷ [])
alike_at T U one other k a = record {
  to = λ j rest tree h. subst (λ p. U p tree) (sym (append_assoc other (k ∷ []) (j ∷ rest)))
      (a.to k (j ∷ rest) tree (subst (λ p. T p tree) (append_assoc one (k ∷ []) (j ∷ rest)) h));
  from = λ j rest tree h. subst (λ p. T p tree) (sym (append_assoc one (k ∷ []) (j ∷ rest)))
      (a.from k (j ∷ rest) tree (subst (λ p. U p tree) (append_assoc other (k ∷ []) (j ∷ rest)) h));
}

presence_alike : (names : NamedArcs) (One Other : Tree → Type 0) → ((tree : Tree) → One tree → Other tree) →
    ((tree : Tree) → Other tree → One tree) → {syntax : TypeSyntax} {optional may : Bool} {value : Option TypedValue} →
    IsPresence names One syntax optional may value → IsPresence names Other syntax optional may value
presence_alike names One Other to from (without n) = without (λ tree h. n tree (from tree h))
presence_alike names One Other to from (with_value {tree = tree} h d) = with_value (to tree h) d
presence_alike names One Other to from (with_none {tree = tree} h d) = with_none (to tree h) d

mutual
  pub filled_alike : (names : NamedArcs) (T U : TextsAt) (one other : List ℕ) → Alike T U one other →
      (syntax whole : TypeSyntax) → IsFilled names T one syntax whole → IsFilled names U other syntax whole
  filled_alike names T U one other a (Sequence parts) whole h =
      (h.0, h.1, parts_alike names T U one other a 0 parts h.0 h.2)
  filled_alike names T U one other a (SetType parts) whole h =
      (h.0, h.1, parts_alike names T U one other a 0 parts h.0 h.2)
  filled_alike names T U one other a (Choice parts) whole h =
      (h.0, h.1, parts_alike names T U one other a 0 parts h.0 h.2)
  filled_alike names T U one other a (SequenceOf member sizes) whole h =
      (h.0, h.1, filled_alike names T U one other a member h.0 h.2)
  filled_alike names T U one other a (SetOf member sizes) whole h =
      (h.0, h.1, filled_alike names T U one other a member h.0 h.2)
  filled_alike names T U one other a (Tagged tag explicit of) whole h =
      (h.0, h.1, filled_alike names T U one other a of h.0 h.2)
  filled_alike names T U one other a Boolean whole h = h
  filled_alike names T U one other a (Integer n r) whole h = h
  filled_alike names T U one other a (Enumerated n) whole h = h
  filled_alike names T U one other a (BitString n r) whole h = h
  filled_alike names T U one other a (OctetString r) whole h = h
  filled_alike names T U one other a NullType whole h = h
  filled_alike names T U one other a ObjectIdentifier whole h = h
  filled_alike names T U one other a (TextString c r) whole h = h
  filled_alike names T U one other a GeneralizedTime whole h = h
  filled_alike names T U one other a Any whole h = h
  filled_alike names T U one other a Filter whole h = h

  parts_alike : (names : NamedArcs) (T U : TextsAt) (one other : List ℕ) → Alike T U one other → (k : ℕ)
      (parts inner : TypeParts) → AreFilled names T one k parts inner → AreFilled names U other k parts inner
  parts_alike names T U one other a k NoParts NoParts h = tt
  parts_alike names T U one other a k NoParts (Part n s o d r) h = absurd h
  parts_alike names T U one other a k (Part n s o d r) NoParts h = absurd h
  parts_alike names T U one other a k (Part n s o d r) (Part n1 s1 o1 d1 r1) h = (
    h.0,
    filled_alike names T U (one ++ k ∷ []) (other ++ k ∷ []) (alike_at T U one other k a) s s1 h.1,
    presence_alike names (T (one ++ k ∷ [])) (U (other ++ k ∷ [])) (a.to k []) (a.from k []) h.2,
    parts_alike names T U one other a (k + 1) r r1 h.3,
  )

-- ---- constraints

-- a syntax is filled as another one is that has the same components
pub record FilledBeside (names : NamedArcs) (T : TextsAt) (path : List ℕ) (syntax whole : TypeSyntax) : Type 0 where
  pub other : TypeSyntax
  pub is : IsFilled names T path syntax other
  pub parts : (rest : List ℕ) → part_at whole rest ≡ part_at other rest

narrowed_filled : {names : NamedArcs} {T : TextsAt} {path : List ℕ} {ranges : List (ℤ × ℤ)} {is_size : Bool}
    {before after : TypeSyntax} → Narrows ranges is_size before after → (whole : TypeSyntax) →
    IsFilled names T path after whole → FilledBeside names T path before whole
narrowed_filled (values {names = n} {before = b} h) whole f =
    record { other = Integer n b; is = refl; parts = λ rest. ap (λ s. part_at s rest) f }
narrowed_filled (bits {names = n} {before = b} h) whole f =
    record { other = BitString n b; is = refl; parts = λ rest. ap (λ s. part_at s rest) f }
narrowed_filled (octets {before = b} h) whole f =
    record { other = OctetString b; is = refl; parts = λ rest. ap (λ s. part_at s rest) f }
narrowed_filled (characters {charset = c} {before = b} h) whole f =
    record { other = TextString c b; is = refl; parts = λ rest. ap (λ s. part_at s rest) f }
narrowed_filled (elements {before = b} h) whole f =
    record { other = SequenceOf f.0 b; is = (f.0, refl, f.2); parts = λ rest. ap (λ s. part_at s rest) f.1 }
narrowed_filled (set_members {before = b} h) whole f =
    record { other = SetOf f.0 b; is = (f.0, refl, f.2); parts = λ rest. ap (λ s. part_at s rest) f.1 }
narrowed_filled (narrows_tagged {explicit = explicit} {tag = tag} h) whole f =
    let further = narrowed_filled h f.0 f.2 in record {
      other = Tagged tag explicit further.other;
      is = (further.other, refl, further.is);
      parts = λ rest. ap (λ s. part_at s rest) f.1 ∙ further.parts rest;
    }

pub constrained_filled : {names : NamedArcs} {T : TextsAt} {path : List ℕ} {ms : List ModuleTerm} {m : ℕ}
    {of : TypeTerm} {limits : List LimitTerm} {before after : TypeSyntax} → Constrains ms m of limits before after →
    (whole : TypeSyntax) → IsFilled names T path after whole → FilledBeside names T path before whole
constrained_filled no_more whole f = record { other = whole; is = f; parts = λ rest. refl }
constrained_filled (another ranges narrows rest) whole f =
    let later = constrained_filled rest whole f in
    let one = narrowed_filled narrows later.other later.is in
    record { other = one.other; is = one.is; parts = λ path. later.parts path ∙ one.parts path }
