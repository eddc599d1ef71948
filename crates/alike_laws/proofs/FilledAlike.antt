-- FilledAlike: two syntaxes that are one with the values of DEFAULTs are alike, where DEFAULT stands at the same
-- components of both, and each one has a value (X.680, section 25; docs/PROFILE.md, sections 11 and 12).
use Rattle.std.proofs.Common.{◌≡◌, ◌∙◌, ◌+◌, ℕ, List, [], ◌∷◌, ◌++◌, Bool, Option, refl, sym, ap}
use Rattle.std.specs.Prelude.{option_map}
use Rattle.token_grammar.specs.Form.{Tree}
use Rattle.term_values.specs.Syntaxes.{TypeSyntax, TypeParts}
use Rattle.term_values.specs.Syntaxes.TypeSyntax.{Boolean, Integer, Enumerated, BitString, OctetString, NullType}
use Rattle.term_values.specs.Syntaxes.TypeSyntax.{ObjectIdentifier, TextString, GeneralizedTime, Sequence, SetType}
use Rattle.term_values.specs.Syntaxes.TypeSyntax.{SequenceOf, SetOf, Choice, Tagged, Any, Filter}
use Rattle.term_values.specs.Syntaxes.TypeParts.{NoParts, Part}
use Rattle.term_values.specs.Typed.{TypedValue}
use Rattle.term_values.specs.Typed.TypedValue.{Null}
use Rattle.term_model.specs.AlikeSyntaxes.{AreAlike, parts_without_values, without_values}
use Rattle.asn1_leaf_values.specs.Arcs.{NamedArcs}
use Rattle.filled_syntaxes.specs.FilledSyntaxes.{AreFilled, IsFilled, IsPresence, TextsAt}
use Rattle.filled_syntaxes.specs.FilledSyntaxes.IsPresence.{with_none, with_value, without}
use Rattle.filled_syntaxes.specs.SaidTexts.{DenotesNone}
use Rattle.alike_laws.proofs.TextPaths.{AreEachAmong, AreEachAt, StandAlike, alike_at, each_in, each_inner, each_other}
use Rattle.alike_laws.proofs.TextPaths.{each_own, each_within}

-- a text denotes a value of the syntax of its component: it doesn't denote none
abbrev pub IsSaid : NamedArcs → TypeSyntax → Tree → Type 0
IsSaid names syntax text = (at : ℕ) → ¬ DenotesNone names syntax text at

-- whether there is a value, whatever it is
abbrev has_value : Option TypedValue → Option TypedValue
has_value default = option_map (λ value. Null) default

-- ---- components

module _ (names : NamedArcs) (One Other : Tree → Type 0) (to : (tree : Tree) → One tree → (its : Tree) × Other its)
    (from : (tree : Tree) → Other tree → (its : Tree) × One its) (optional : Bool) where
  presence_alike : {syntax its : TypeSyntax} {may its_may : Bool} {value its_value : Option TypedValue} →
      IsPresence names One syntax optional may value → IsPresence names Other its optional its_may its_value →
      ((text : Tree) → One text → IsSaid names syntax text) → ((text : Tree) → Other text → IsSaid names its text) →
      (may ≡ its_may) × (has_value value ≡ has_value its_value)
  presence_alike (without none_there) (without none_here) said also = (refl, refl)
  presence_alike (with_value there denotes) (with_value here its_denotes) said also = (refl, refl)
  presence_alike (without none_there) (with_value {tree = text} here denotes) said also =
      let found = from text here in absurd (none_there found.0 found.1)
  presence_alike (with_value {tree = text} there denotes) (without none_here) said also =
      let found = to text there in absurd (none_here found.0 found.1)
  presence_alike (with_none {tree = text} {at = at} there denotes) _ said also =
      absurd (said text there at denotes)
  presence_alike _ (with_none {tree = text} {at = at} here denotes) said also =
      absurd (also text here at denotes)

-- ---- syntaxes

mutual
  pub filled_alike : (names : NamedArcs) (T U : TextsAt) (path its_path : List ℕ) → StandAlike T U path its_path →
      (syntax one other : TypeSyntax) → IsFilled names T path syntax one → IsFilled names U its_path syntax other →
      AreEachAt (IsSaid names) T path one → AreEachAt (IsSaid names) U its_path other → AreAlike one other
  filled_alike names T U path its alike (Sequence parts) one other h k said also =
      ap without_values h.1 ∙ ap Sequence (parts_alike names T U path its alike 0 parts h.0 k.0 h.2 k.2
      (each_in (IsSaid names) T path h.0 (Sequence h.0) one (λ j rest. refl) h.1 said)
      (each_in (IsSaid names) U its k.0 (Sequence k.0) other (λ j rest. refl) k.1 also))
      ∙ sym (ap without_values k.1)
  filled_alike names T U path its alike (SetType parts) one other h k said also =
      ap without_values h.1 ∙ ap SetType (parts_alike names T U path its alike 0 parts h.0 k.0 h.2 k.2
      (each_in (IsSaid names) T path h.0 (SetType h.0) one (λ j rest. refl) h.1 said)
      (each_in (IsSaid names) U its k.0 (SetType k.0) other (λ j rest. refl) k.1 also))
      ∙ sym (ap without_values k.1)
  filled_alike names T U path its alike (Choice parts) one other h k said also =
      ap without_values h.1 ∙ ap Choice (parts_alike names T U path its alike 0 parts h.0 k.0 h.2 k.2
      (each_in (IsSaid names) T path h.0 (Choice h.0) one (λ j rest. refl) h.1 said)
      (each_in (IsSaid names) U its k.0 (Choice k.0) other (λ j rest. refl) k.1 also))
      ∙ sym (ap without_values k.1)
  filled_alike names T U path its alike (SequenceOf member sizes) one other h k said also =
      ap without_values h.1 ∙ ap (λ (x : TypeSyntax). SequenceOf x sizes)
      (filled_alike names T U path its alike member h.0 k.0 h.2 k.2
      (each_within (IsSaid names) T path h.0 (SequenceOf h.0 sizes) one (λ rest. refl) h.1 said)
      (each_within (IsSaid names) U its k.0 (SequenceOf k.0 sizes) other (λ rest. refl) k.1 also))
      ∙ sym (ap without_values k.1)
  filled_alike names T U path its alike (SetOf member sizes) one other h k said also =
      ap without_values h.1 ∙ ap (λ (x : TypeSyntax). SetOf x sizes)
      (filled_alike names T U path its alike member h.0 k.0 h.2 k.2
      (each_within (IsSaid names) T path h.0 (SetOf h.0 sizes) one (λ rest. refl) h.1 said)
      (each_within (IsSaid names) U its k.0 (SetOf k.0 sizes) other (λ rest. refl) k.1 also))
      ∙ sym (ap without_values k.1)
  filled_alike names T U path its alike (Tagged tag explicit of) one other h k said also =
      ap without_values h.1 ∙ ap (Tagged tag explicit)
      (filled_alike names T U path its alike of h.0 k.0 h.2 k.2
      (each_within (IsSaid names) T path h.0 (Tagged tag explicit h.0) one (λ rest. refl) h.1 said)
      (each_within (IsSaid names) U its k.0 (Tagged tag explicit k.0) other (λ rest. refl) k.1 also))
      ∙ sym (ap without_values k.1)
  filled_alike names T U path its alike Boolean one other h k said also = ap without_values (h ∙ sym k)
  filled_alike names T U path its alike (Integer n r) one other h k said also = ap without_values (h ∙ sym k)
  filled_alike names T U path its alike (Enumerated n) one other h k said also = ap without_values (h ∙ sym k)
  filled_alike names T U path its alike (BitString n r) one other h k said also = ap without_values (h ∙ sym k)
  filled_alike names T U path its alike (OctetString r) one other h k said also = ap without_values (h ∙ sym k)
  filled_alike names T U path its alike NullType one other h k said also = ap without_values (h ∙ sym k)
  filled_alike names T U path its alike ObjectIdentifier one other h k said also = ap without_values (h ∙ sym k)
  filled_alike names T U path its alike (TextString c r) one other h k said also = ap without_values (h ∙ sym k)
  filled_alike names T U path its alike GeneralizedTime one other h k said also = ap without_values (h ∙ sym k)
  filled_alike names T U path its alike Any one other h k said also = ap without_values (h ∙ sym k)
  filled_alike names T U path its alike Filter one other h k said also = ap without_values (h ∙ sym k)

  parts_alike : (names : NamedArcs) (T U : TextsAt) (path its_path : List ℕ) → StandAlike T U path its_path → (k : ℕ)
      (parts one other : TypeParts) → AreFilled names T path k parts one → AreFilled names U its_path k parts other →
      AreEachAmong (IsSaid names) T path k one → AreEachAmong (IsSaid names) U its_path k other →
      parts_without_values one ≡ parts_without_values other
  parts_alike names T U path its alike k NoParts NoParts NoParts h g said also = refl
  parts_alike names T U path its alike k NoParts NoParts (Part n s o d r) h g said also = absurd g
  parts_alike names T U path its alike k NoParts (Part n s o d r) other h g said also = absurd h
  parts_alike names T U path its alike k (Part n s o d r) NoParts other h g said also = absurd h
  parts_alike names T U path its alike k (Part n s o d r) (Part n1 s1 o1 d1 r1) NoParts h g said also = absurd g
  parts_alike names T U path its alike k (Part n s o d r) (Part n1 s1 o1 d1 r1) (Part n2 s2 o2 d2 r2) h g said also =
      let name = h.0 ∙ sym g.0 in
      let inner = filled_alike names T U (path ++ k ∷ []) (its ++ k ∷ []) (alike_at T U path its k alike) s s1 s2
      h.1 g.1 (each_inner (IsSaid names) T path k n1 s1 o1 d1 r1 said)
      (each_inner (IsSaid names) U its k n2 s2 o2 d2 r2 also) in
      let presence = presence_alike names (T (path ++ k ∷ [])) (U (its ++ k ∷ [])) (alike.to k []) (alike.from k []) o
      h.2 g.2 (each_own (IsSaid names) T path k n1 s1 o1 d1 r1 said)
      (each_own (IsSaid names) U its k n2 s2 o2 d2 r2 also) in
      let rest = parts_alike names T U path its alike (k + 1) r r1 r2 h.3 g.3
      (each_other (IsSaid names) T path k n1 s1 o1 d1 r1 said)
      (each_other (IsSaid names) U its k n2 s2 o2 d2 r2 also) in
      λ i. Part (name i) (inner i) (presence.0 i) (presence.1 i) (rest i)
