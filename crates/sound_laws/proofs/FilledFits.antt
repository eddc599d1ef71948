-- FilledFits: each DEFAULT of a filled syntax fits its component, where the values of DEFAULTs are short (X.680,
-- section 25; docs/PROFILE.md, section 11).
use Rattle.std.proofs.Common.{◌≡◌, ◌∙◌, ◌+◌, ℕ, suc, List, [], ◌∷◌, ◌++◌, Bool, Option, None, Some, refl, sym, arith}
use Rattle.std.proofs.Common.{append_assoc, subst}
use Rattle.std.proofs.lemmas.Option.{none-some}
use Rattle.token_grammar.specs.Form.{Tree}
use Rattle.term_values.specs.Soundness.{DefaultFits, HasFittingDefaults, HaveFittingDefaults}
use Rattle.term_values.specs.Syntaxes.{TypeSyntax, TypeParts}
use Rattle.term_values.specs.Syntaxes.TypeSyntax.{Boolean, Integer, Enumerated, BitString, OctetString, NullType}
use Rattle.term_values.specs.Syntaxes.TypeSyntax.{ObjectIdentifier, TextString, GeneralizedTime, Sequence, SetType}
use Rattle.term_values.specs.Syntaxes.TypeSyntax.{SequenceOf, SetOf, Choice, Tagged, Any, Filter}
use Rattle.term_values.specs.Syntaxes.TypeParts.{NoParts, Part}
use Rattle.term_values.specs.Typed.{TypedValue}
use Rattle.asn1_names.specs.DefaultTexts.{member_at, part_at}
use Rattle.asn1_names.specs.ModuleTerms.{ModuleTerm}
use Rattle.asn1_names.specs.NameMeaning.{Meaning, standard_meaning}
use Rattle.asn1_names.specs.ResolvedTypes.{HasDefaultText}
use Rattle.asn1_names.specs.StandardModule.{standard_type}
use Rattle.asn1_leaf_values.specs.Arcs.{NamedArcs}
use Rattle.asn1_leaf_values.specs.TextValues.{said}
use Rattle.filled_syntaxes.specs.FilledSyntaxes.{AreFilled, HasFilled, IsFilled, IsPresence, TextsAt, texts_beside}
use Rattle.filled_syntaxes.specs.FilledSyntaxes.IsPresence.{with_none, with_value, without}
use Rattle.filled_syntaxes.specs.SaidTexts.{DenotesValue}
use Rattle.filled_syntaxes.proofs.BadLaws.{no_part}
use Rattle.sound_laws.specs.GivenMeanings.{IsGiven}
use Rattle.sound_laws.specs.GivenMeanings.IsGiven.{of_assignment, of_standard}
use Rattle.sound_laws.specs.ShortDefaults.{AreShortDefaults, HasShortDefaults, IsShort, ValuesFit}

-- ---- short values of DEFAULTs, component by component

-- each value of a DEFAULT behind a path is short
abbrev ShortAt : NamedArcs → TextsAt → List ℕ → TypeSyntax → Type 0
ShortAt names T path syntax = (rest : List ℕ) (component : TypeSyntax) → part_at syntax rest ≡ Some component →
    (text : Tree) → T (path ++ rest) text → (value : TypedValue) → DenotesValue names component text value →
    IsShort component value

-- the same of components, of which the first has the number k
abbrev ShortAmong : NamedArcs → TextsAt → List ℕ → ℕ → TypeParts → Type 0
ShortAmong names T path k parts = (j : ℕ) (rest : List ℕ) (component : TypeSyntax) →
    member_at parts j rest ≡ Some component → (text : Tree) → T (path ++ (k + j) ∷ rest) text →
    (value : TypedValue) → DenotesValue names component text value → IsShort component value

short_in : (names : NamedArcs) (T : TextsAt) (path : List ℕ) (parts : TypeParts) (whole after : TypeSyntax) →
    ((j : ℕ) (rest : List ℕ) → part_at whole (j ∷ rest) ≡ member_at parts j rest) → after ≡ whole →
    ShortAt names T path after → ShortAmong names T path 0 parts
short_in names T path parts whole after same is short = λ j rest component part text there.
    let place : 0 + j ≡ j = omega arith in
    short (j ∷ rest) component ((λ i. part_at (is i) (j ∷ rest)) ∙ same j rest ∙ part) text
    (subst (λ n. T (path ++ n ∷ rest) text) place there)

short_own : (names : NamedArcs) (T : TextsAt) (path : List ℕ) (k : ℕ) (name : List ℕ) (syntax : TypeSyntax)
    (optional : Bool) (default : Option TypedValue) (rest : TypeParts) →
    ShortAmong names T path k (Part name syntax optional default rest) →
    (text : Tree) → T (path ++ k ∷ []) text → (value : TypedValue) → DenotesValue names syntax text value →
    IsShort syntax value
short_own names T path k name syntax optional default rest short text there =
    let place : k ≡ k + 0 = omega arith in
    short 0 [] syntax refl text (subst (λ n. T (path ++ n ∷ []) text) place there)

short_inner : (names : NamedArcs) (T : TextsAt) (path : List ℕ) (k : ℕ) (name : List ℕ) (syntax : TypeSyntax)
    (optional : Bool) (default : Option TypedValue) (rest : TypeParts) →
    ShortAmong names T path k (Part name syntax optional default rest) → ShortAt names T (path ++ k ∷ []) syntax
short_inner names T path k name syntax optional default rest short [] component part text there =
    absurd (none-some _ (sym (no_part syntax) ∙ part))
short_inner names T path k name syntax optional default rest short (j ∷ further) component part text there =
    let place : k ≡ k + 0 = omega arith in
    short 0 (j ∷ further) component part text (subst (λ n. T (path ++ n ∷ (j ∷ further)) text) place
    (subst (λ p. T p text) (append_assoc path (k ∷ []) (j ∷ further)) there))

short_others : (names : NamedArcs) (T : TextsAt) (path : List ℕ) (k : ℕ) (name : List ℕ) (syntax : TypeSyntax)
    (optional : Bool) (default : Option TypedValue) (rest : TypeParts) →
    ShortAmong names T path k (Part name syntax optional default rest) → ShortAmong names T path (k + 1) rest
short_others names T path k name syntax optional default rest short = λ j further component part text there.
    let place : (k + 1) + j ≡ k + suc j = omega arith in
    short (suc j) further component part text (subst (λ n. T (path ++ n ∷ further) text) place there)

short_within : (names : NamedArcs) (T : TextsAt) (path : List ℕ) (inner whole after : TypeSyntax) →
    ((rest : List ℕ) → part_at whole rest ≡ part_at inner rest) → after ≡ whole → ShortAt names T path after →
    ShortAt names T path inner
short_within names T path inner whole after same is short = λ rest component part.
    short rest component ((λ i. part_at (is i) rest) ∙ same rest ∙ part)

-- ---- each fits

default_fits : (names : NamedArcs) (Text : Tree → Type 0) (syntax : TypeSyntax) (optional : Bool) {may : Bool}
    {value : Option TypedValue} → ValuesFit names → IsPresence names Text syntax optional may value →
    HasFittingDefaults syntax →
    ((text : Tree) → Text text → (its : TypedValue) → DenotesValue names syntax text its → IsShort syntax its) →
    DefaultFits syntax value
default_fits names Text syntax optional fit (without none_there) inner short = tt
default_fits names Text syntax optional fit (with_value {tree = text} {value = its} there denotes) inner short =
    fit syntax (said denotes.text) its denotes.denotes inner (short text there its denotes)
default_fits names Text syntax optional fit (with_none there denotes) inner short = tt

mutual
  fitting : (names : NamedArcs) (T : TextsAt) → ValuesFit names → (path : List ℕ) (syntax after : TypeSyntax) →
      IsFilled names T path syntax after → ShortAt names T path after → HasFittingDefaults after
  fitting names T fit path (Sequence parts) after h short = subst HasFittingDefaults (sym h.1)
      (parts_fitting names T fit path 0 parts h.0 h.2
      (short_in names T path h.0 (Sequence h.0) after (λ j rest. refl) h.1 short))
  fitting names T fit path (SetType parts) after h short = subst HasFittingDefaults (sym h.1)
      (parts_fitting names T fit path 0 parts h.0 h.2
      (short_in names T path h.0 (SetType h.0) after (λ j rest. refl) h.1 short))
  fitting names T fit path (Choice parts) after h short = subst HasFittingDefaults (sym h.1)
      (parts_fitting names T fit path 0 parts h.0 h.2
      (short_in names T path h.0 (Choice h.0) after (λ j rest. refl) h.1 short))
  fitting names T fit path (SequenceOf one_of sizes) after h short = subst HasFittingDefaults (sym h.1)
      (fitting names T fit path one_of h.0 h.2
      (short_within names T path h.0 (SequenceOf h.0 sizes) after (λ rest. refl) h.1 short))
  fitting names T fit path (SetOf one_of sizes) after h short = subst HasFittingDefaults (sym h.1)
      (fitting names T fit path one_of h.0 h.2
      (short_within names T path h.0 (SetOf h.0 sizes) after (λ rest. refl) h.1 short))
  fitting names T fit path (Tagged tag explicit of) after h short = subst HasFittingDefaults (sym h.1)
      (fitting names T fit path of h.0 h.2
      (short_within names T path h.0 (Tagged tag explicit h.0) after (λ rest. refl) h.1 short))
  fitting names T fit path Boolean after h short = subst HasFittingDefaults (sym h) tt
  fitting names T fit path (Integer n r) after h short = subst HasFittingDefaults (sym h) tt
  fitting names T fit path (Enumerated n) after h short = subst HasFittingDefaults (sym h) tt
  fitting names T fit path (BitString n r) after h short = subst HasFittingDefaults (sym h) tt
  fitting names T fit path (OctetString r) after h short = subst HasFittingDefaults (sym h) tt
  fitting names T fit path NullType after h short = subst HasFittingDefaults (sym h) tt
  fitting names T fit path ObjectIdentifier after h short = subst HasFittingDefaults (sym h) tt
  fitting names T fit path (TextString c r) after h short = subst HasFittingDefaults (sym h) tt
  fitting names T fit path GeneralizedTime after h short = subst HasFittingDefaults (sym h) tt
  fitting names T fit path Any after h short = subst HasFittingDefaults (sym h) tt
  fitting names T fit path Filter after h short = subst HasFittingDefaults (sym h) tt

  parts_fitting : (names : NamedArcs) (T : TextsAt) → ValuesFit names → (path : List ℕ) (k : ℕ)
      (parts after : TypeParts) → AreFilled names T path k parts after → ShortAmong names T path k after →
      HaveFittingDefaults after
  parts_fitting names T fit path k NoParts NoParts h short = tt
  parts_fitting names T fit path k NoParts (Part n1 s1 o1 d1 r1) h short = absurd h
  parts_fitting names T fit path k (Part n s o d r) NoParts h short = absurd h
  parts_fitting names T fit path k (Part n s o d r) (Part n1 s1 o1 d1 r1) h short =
      let own = fitting names T fit (path ++ k ∷ []) s s1 h.1 (short_inner names T path k n1 s1 o1 d1 r1 short) in (
        default_fits names (T (path ++ k ∷ [])) s1 o fit h.2 own (short_own names T path k n1 s1 o1 d1 r1 short),
        own,
        parts_fitting names T fit path (k + 1) r r1 h.3 (short_others names T path k n1 s1 o1 d1 r1 short),
      )

-- ---- the filled syntax of a meaning

-- beside a type of CMIP-1 stands no text of DEFAULT
no_text : {ms : List ModuleTerm} (found : Option TypeSyntax) {path : List ℕ} {v : ℕ} {text : Tree} →
    HasDefaultText ms (standard_meaning found) path v text → ⊥
no_text None there = elim there [ ]
no_text (Some syntax) there = elim there [ ]

short_given : (ms : List ModuleTerm) (names : NamedArcs) (meant : Meaning) → IsGiven ms meant →
    AreShortDefaults ms names → HasShortDefaults ms names meant
short_given ms names meant (of_assignment m i is) short = subst (HasShortDefaults ms names) is (short m i)
short_given ms names meant (of_standard name is) short = subst (HasShortDefaults ms names) is
    (λ syntax has path component part v text there value denotes. absurd (no_text (standard_type name) there))

-- where values are short, each DEFAULT of a filled syntax fits
pub filled_fits : (ms : List ModuleTerm) (names : NamedArcs) (meant : Meaning) (syntax : TypeSyntax) →
    ValuesFit names → AreShortDefaults ms names → IsGiven ms meant → HasFilled ms names meant syntax →
    HasFittingDefaults syntax
filled_fits ms names meant syntax fit short given filled =
    fitting names (texts_beside ms meant) fit [] filled.plain syntax filled.filled
    (λ rest component part text there value denotes.
    short_given ms names meant given short syntax filled rest component part there.0 text there.1 value denotes)
