-- WalkLaws: a syntax that holds others is filled where these are, and its texts are theirs (X.680, section 25).
use Rattle.std.proofs.Common.{◌≡◌, ◌∙◌, ℕ, List, [], ◌∷◌, ◌++◌, Bool, true, false, Option, None, Some, refl, sym, ap}
use Rattle.std.specs.Prelude.{slice_get, unwrap_or}
use Rattle.std.proofs.lemmas.Bool.{false≢true}
use Rattle.token_grammar.specs.Form.{Tree}
use Rattle.term_values.specs.Typed.{TypedValue}
use Rattle.term_values.specs.declared.syntax.Part.{Part as PartOfSyntax}
use Rattle.std.proofs.Math.Path.{subst}
use Rattle.std.specs.Borrow.{Bor}
use Rattle.asn1_names.specs.TermViews.{module_terms}
use Rattle.term_values.specs.Syntaxes.{Bounds, TypeSyntax, TypeParts}
use Rattle.term_values.specs.Syntaxes.TypeSyntax.{Boolean, Integer, Enumerated, BitString, OctetString, NullType}
use Rattle.term_values.specs.Syntaxes.TypeSyntax.{ObjectIdentifier, TextString, GeneralizedTime, Sequence, SetType}
use Rattle.term_values.specs.Syntaxes.TypeSyntax.{SequenceOf, SetOf, Choice, Tagged, Any, Filter}
use Rattle.term_values.specs.declared.tag.Tag.{Tag}
use Rattle.asn1_names.specs.declared.name_tables.Meaning.{Meaning as CodeMeaning}
use Rattle.asn1_names.specs.declared.name_tables.Meaning.TheVariants as code
use Rattle.asn1_names.specs.CodeMeanings.{Means}
use Rattle.asn1_names.specs.DefaultTexts.{HasDefault, part_at}
use Rattle.asn1_names.specs.DefaultTexts.HasDefault.{alternative, component, element, here, named as by_name}
use Rattle.asn1_names.specs.DefaultTexts.HasDefault.{tagged as in_tag_text}
use Rattle.asn1_names.specs.ModuleTerms.{ModuleTerm, NumberTerm, TypeTerm}
use Rattle.asn1_names.specs.NameMeaning.{Meaning, assigned_type, type_at}
use Rattle.asn1_names.specs.NameMeaning.Meaning.{Nothing, StandardType, TypeAt, ValueAt}
use Rattle.asn1_names.specs.ResolvedTypes.{HasDefaultText, HasSyntax}
use Rattle.asn1_names.specs.ResolvedTypes.HasDefaultText.{of_type as text_of_type, of_value as text_of_value}
use Rattle.asn1_numbers.proofs.MeantLaws.{reference_type}
use Rattle.asn1_types.proofs.DefaultOnce.{one_default_text}
use Rattle.asn1_types.proofs.NumberedLaws.{home_of}
use Rattle.asn1_leaf_values.specs.Arcs.{NamedArcs}
use Rattle.linked_parts.specs.declared.linked.Linked.{Linked}
use Rattle.asn1_values_syntax.specs.declared.value.ValueText.{ValueText}
use Rattle.asn1_types.specs.ToldMeanings.{TellsDefaultText, TellsSyntax}
use Rattle.filled_syntaxes.specs.KnownThings.{AreNamedThings, IsFilling}
use Rattle.filled_syntaxes.specs.declared.named_things.NamedThings.{NamedThings}
use Rattle.filled_syntaxes.proofs.FilledLaws.{has_once, text_misses}
use Rattle.filled_syntaxes.specs.BadDefaults.{BadAmong, BadBeside, BadOne, BadOwn, BadWithin, IsFilledPart}
use Rattle.filled_syntaxes.specs.BadDefaults.{IsOfDocument, StandWhere}
use Rattle.filled_syntaxes.specs.BadDefaults.{TellsPresence, among_at, among_may_miss, one_may_miss, within_may_miss}
use Rattle.filled_syntaxes.specs.FilledSyntaxes.{AreFilled, HasFilled, IsFilled, texts_beside}
use Rattle.filled_syntaxes.specs.FilledSyntaxes.IsPresence.{with_none, with_value, without}
use Rattle.filled_syntaxes.specs.SaidTexts.{BadText, DenotesNone, TellsValue}
use Rattle.filled_syntaxes.specs.NotedTexts.{NotesTexts}
use Rattle.filled_syntaxes.specs.declared.bad_texts.TextPlace.{TextPlace}
use Rattle.filled_syntaxes.proofs.BadLaws.{component_noted, none_within, noted_alike, one_within, stands_by}
use Rattle.filled_syntaxes.proofs.NotingTexts.{none_noted, noted_by}

-- a form that holds components, or alternatives
pub record HoldsParts (form : TypeParts → TypeSyntax) : Type 0 where
  pub filled : (ms : List ModuleTerm) (names : NamedArcs) (meant : Meaning) (path : List ℕ) (parts inner : TypeParts) →
      AreFilled names (texts_beside ms meant) path 0 parts inner →
      IsFilled names (texts_beside ms meant) path (form parts) (form inner)
  pub at : (parts : TypeParts) (rest : List ℕ) → among_at parts rest ≡ part_at (form parts) rest
  pub misses : (parts : TypeParts) (rest : List ℕ) → within_may_miss (form parts) rest ≡ true →
      among_may_miss parts rest ≡ true

pub in_sequence : HoldsParts Sequence
in_sequence = record {
  filled = λ ms names meant path parts inner h. (inner, refl, h);
  at = at;
  misses = misses;
}
  where
    at : (parts : TypeParts) (rest : List ℕ) → among_at parts rest ≡ part_at (Sequence parts) rest
    at parts [] = refl
    at parts (k ∷ rest) = refl

    misses : (parts : TypeParts) (rest : List ℕ) → within_may_miss (Sequence parts) rest ≡ true →
        among_may_miss parts rest ≡ true
    misses parts [] h = refl
    misses parts (k ∷ rest) h = h

pub in_set : HoldsParts SetType
in_set = record {
  filled = λ ms names meant path parts inner h. (inner, refl, h);
  at = at;
  misses = misses;
}
  where
    at : (parts : TypeParts) (rest : List ℕ) → among_at parts rest ≡ part_at (SetType parts) rest
    at parts [] = refl
    at parts (k ∷ rest) = refl

    misses : (parts : TypeParts) (rest : List ℕ) → within_may_miss (SetType parts) rest ≡ true →
        among_may_miss parts rest ≡ true
    misses parts [] h = refl
    misses parts (k ∷ rest) h = h

pub in_choice : HoldsParts Choice
in_choice = record {
  filled = λ ms names meant path parts inner h. (inner, refl, h);
  at = at;
  misses = misses;
}
  where
    at : (parts : TypeParts) (rest : List ℕ) → among_at parts rest ≡ part_at (Choice parts) rest
    at parts [] = refl
    at parts (k ∷ rest) = refl

    misses : (parts : TypeParts) (rest : List ℕ) → within_may_miss (Choice parts) rest ≡ true →
        among_may_miss parts rest ≡ true
    misses parts [] h = refl
    misses parts (k ∷ rest) h = h

pub parts_stand : {form : TypeParts → TypeSyntax} → HoldsParts form → (ms : List ModuleTerm) (meant : Meaning)
    (path : List ℕ) (syntax : TypeSyntax) (parts : TypeParts) → syntax ≡ form parts →
    StandWhere ms meant path (within_may_miss syntax) → StandWhere ms meant path (among_may_miss parts)
parts_stand {form = form} holds ms meant path syntax parts is h =
    stands_by ms meant path (within_may_miss (form parts)) (among_may_miss parts) (holds.misses parts)
    (subst (λ s. StandWhere ms meant path (within_may_miss s)) is h)

pub parts_filled : {form : TypeParts → TypeSyntax} → HoldsParts form → (ms : List ModuleTerm) (names : NamedArcs)
    (meant : Meaning) (path : List ℕ) (syntax : TypeSyntax) (parts inner : TypeParts) → syntax ≡ form parts →
    AreFilled names (texts_beside ms meant) path 0 parts inner →
    IsFilled names (texts_beside ms meant) path syntax (form inner)
parts_filled {form = form} holds ms names meant path syntax parts inner is h =
    subst (λ s. IsFilled names (texts_beside ms meant) path s (form inner)) (sym is)
    (holds.filled ms names meant path parts inner h)

pub parts_noted : {form : TypeParts → TypeSyntax} → HoldsParts form → (ms : List ModuleTerm) (names : NamedArcs)
    (meant : Meaning) (path : List ℕ) (inner : TypeParts) {before after : Option TextPlace} →
    NotesTexts (BadAmong ms names meant path inner) before after →
    NotesTexts (BadWithin ms names meant path (form inner)) before after
parts_noted {form = form} holds ms names meant path inner h =
    noted_alike ms names meant path (among_at inner) (part_at (form inner)) (holds.at inner) h

-- a form that holds one syntax: a tagged type, or a list
pub record HoldsOne (form : TypeSyntax → TypeSyntax) : Type 0 where
  pub filled : (ms : List ModuleTerm) (names : NamedArcs) (meant : Meaning) (path : List ℕ) (of inner : TypeSyntax) →
      IsFilled names (texts_beside ms meant) path of inner →
      IsFilled names (texts_beside ms meant) path (form of) (form inner)
  pub at : (of : TypeSyntax) (rest : List ℕ) → part_at of rest ≡ part_at (form of) rest
  pub misses : (of : TypeSyntax) (rest : List ℕ) → within_may_miss (form of) rest ≡ true →
      within_may_miss of rest ≡ true

pub in_list : (sizes : Bounds) → HoldsOne (λ of. SequenceOf of sizes)
in_list sizes = record {
  filled = λ ms names meant path of inner h. (inner, refl, h);
  at = λ of rest. refl;
  misses = misses;
}
  where
    misses : (of : TypeSyntax) (rest : List ℕ) → within_may_miss (SequenceOf of sizes) rest ≡ true →
        within_may_miss of rest ≡ true
    misses of [] h = refl
    misses of (k ∷ rest) h = h

pub in_set_of : (sizes : Bounds) → HoldsOne (λ of. SetOf of sizes)
in_set_of sizes = record {
  filled = λ ms names meant path of inner h. (inner, refl, h);
  at = λ of rest. refl;
  misses = misses;
}
  where
    misses : (of : TypeSyntax) (rest : List ℕ) → within_may_miss (SetOf of sizes) rest ≡ true →
        within_may_miss of rest ≡ true
    misses of [] h = refl
    misses of (k ∷ rest) h = h

pub in_tag : (tag : Tag) (explicit : Bool) → HoldsOne (Tagged tag explicit)
in_tag tag explicit = record {
  filled = λ ms names meant path of inner h. (inner, refl, h);
  at = λ of rest. refl;
  misses = misses;
}
  where
    misses : (of : TypeSyntax) (rest : List ℕ) → within_may_miss (Tagged tag explicit of) rest ≡ true →
        within_may_miss of rest ≡ true
    misses of [] h = refl
    misses of (k ∷ rest) h = h

pub one_stands : {form : TypeSyntax → TypeSyntax} → HoldsOne form → (ms : List ModuleTerm) (meant : Meaning)
    (path : List ℕ) (syntax of : TypeSyntax) → syntax ≡ form of →
    StandWhere ms meant path (within_may_miss syntax) → StandWhere ms meant path (within_may_miss of)
one_stands {form = form} holds ms meant path syntax of is h =
    stands_by ms meant path (within_may_miss (form of)) (within_may_miss of) (holds.misses of)
    (subst (λ s. StandWhere ms meant path (within_may_miss s)) is h)

pub one_filled : {form : TypeSyntax → TypeSyntax} → HoldsOne form → (ms : List ModuleTerm) (names : NamedArcs)
    (meant : Meaning) (path : List ℕ) (syntax of inner : TypeSyntax) → syntax ≡ form of →
    IsFilled names (texts_beside ms meant) path of inner →
    IsFilled names (texts_beside ms meant) path syntax (form inner)
one_filled {form = form} holds ms names meant path syntax of inner is h =
    subst (λ s. IsFilled names (texts_beside ms meant) path s (form inner)) (sym is)
    (holds.filled ms names meant path of inner h)

pub one_noted : {form : TypeSyntax → TypeSyntax} → HoldsOne form → (ms : List ModuleTerm) (names : NamedArcs)
    (meant : Meaning) (path : List ℕ) (inner : TypeSyntax) {before after : Option TextPlace} →
    NotesTexts (BadWithin ms names meant path inner) before after →
    NotesTexts (BadWithin ms names meant path (form inner)) before after
one_noted {form = form} holds ms names meant path inner h =
    noted_alike ms names meant path (part_at inner) (part_at (form inner)) (holds.at inner) h

-- a syntax that holds no other
abbrev pub HoldsNone : TypeSyntax → Type 0
HoldsNone (Sequence parts) = ⊥
HoldsNone (SetType parts) = ⊥
HoldsNone (Choice parts) = ⊥
HoldsNone (SequenceOf member sizes) = ⊥
HoldsNone (SetOf member sizes) = ⊥
HoldsNone (Tagged tag explicit of) = ⊥
HoldsNone _ = Unit {0}

pub leaf_filled : (ms : List ModuleTerm) (names : NamedArcs) (meant : Meaning) (path : List ℕ)
    (syntax copy : TypeSyntax) → HoldsNone syntax → copy ≡ syntax →
    IsFilled names (texts_beside ms meant) path syntax copy
leaf_filled ms names meant path (Sequence parts) copy h is = absurd h
leaf_filled ms names meant path (SetType parts) copy h is = absurd h
leaf_filled ms names meant path (Choice parts) copy h is = absurd h
leaf_filled ms names meant path (SequenceOf member sizes) copy h is = absurd h
leaf_filled ms names meant path (SetOf member sizes) copy h is = absurd h
leaf_filled ms names meant path (Tagged tag explicit of) copy h is = absurd h
leaf_filled ms names meant path Boolean copy h is = is
leaf_filled ms names meant path (Integer n r) copy h is = is
leaf_filled ms names meant path (Enumerated n) copy h is = is
leaf_filled ms names meant path (BitString n r) copy h is = is
leaf_filled ms names meant path (OctetString r) copy h is = is
leaf_filled ms names meant path NullType copy h is = is
leaf_filled ms names meant path ObjectIdentifier copy h is = is
leaf_filled ms names meant path (TextString c r) copy h is = is
leaf_filled ms names meant path GeneralizedTime copy h is = is
leaf_filled ms names meant path Any copy h is = is
leaf_filled ms names meant path Filter copy h is = is

leaf_parts : (syntax : TypeSyntax) → HoldsNone syntax → (rest : List ℕ) → part_at syntax rest ≡ None
leaf_parts (Sequence parts) h rest = absurd h
leaf_parts (SetType parts) h rest = absurd h
leaf_parts (Choice parts) h rest = absurd h
leaf_parts (SequenceOf member sizes) h rest = absurd h
leaf_parts (SetOf member sizes) h rest = absurd h
leaf_parts (Tagged tag explicit of) h rest = absurd h
leaf_parts Boolean h rest = refl
leaf_parts (Integer n r) h rest = refl
leaf_parts (Enumerated n) h rest = refl
leaf_parts (BitString n r) h rest = refl
leaf_parts (OctetString r) h rest = refl
leaf_parts NullType h rest = refl
leaf_parts ObjectIdentifier h rest = refl
leaf_parts (TextString c r) h rest = refl
leaf_parts GeneralizedTime h rest = refl
leaf_parts Any h rest = refl
leaf_parts Filter h rest = refl

pub leaf_noted : (ms : List ModuleTerm) (names : NamedArcs) (meant : Meaning) (path : List ℕ)
    (syntax copy : TypeSyntax) (before : Option TextPlace) → HoldsNone syntax → copy ≡ syntax →
    NotesTexts (BadWithin ms names meant path copy) before before
leaf_noted ms names meant path syntax copy before h is =
    subst (λ s. NotesTexts (BadWithin ms names meant path s) before before) (sym is)
    (none_within ms names meant path syntax before (leaf_parts syntax h))

-- ---- one component, at a path that is lengthened and shortened again

pub part_filled : (ms : List ModuleTerm) (names : NamedArcs) (meant : Meaning) (at pushed shown : List ℕ)
    (part filled : PartOfSyntax) (inner : TypeSyntax) → pushed ≡ at → shown ≡ at →
    (StandWhere ms meant pushed (within_may_miss part.syntax) →
    IsFilled names (texts_beside ms meant) pushed part.syntax inner) →
    (StandWhere ms meant shown (one_may_miss part.optional part.syntax) →
    IsFilled names (texts_beside ms meant) shown part.syntax inner → IsFilledPart ms names meant shown part filled) →
    StandWhere ms meant at (one_may_miss part.optional part.syntax) → IsFilledPart ms names meant at part filled
part_filled ms names meant at pushed shown part filled inner same later fill own stands =
    let within : StandWhere ms meant at (within_may_miss part.syntax) =
    stands_by ms meant at (one_may_miss part.optional part.syntax) (within_may_miss part.syntax)
    (one_within part.optional part.syntax) stands in
    let is_filled = fill (subst (λ p. StandWhere ms meant p (within_may_miss part.syntax)) (sym same) within) in
    subst (λ p. IsFilledPart ms names meant p part filled) later
    (own (subst (λ p. StandWhere ms meant p (one_may_miss part.optional part.syntax)) (sym later) stands)
    (subst (λ p. IsFilled names (texts_beside ms meant) p part.syntax inner) (same ∙ sym later) is_filled))

pub part_noted : (ms : List ModuleTerm) (names : NamedArcs) (meant : Meaning) (at pushed shown : List ℕ)
    (part filled : PartOfSyntax) (inner : TypeSyntax) {before between after : Option TextPlace} → pushed ≡ at →
    shown ≡ at → filled.syntax ≡ inner → (StandWhere ms meant pushed (within_may_miss part.syntax) →
    NotesTexts (BadWithin ms names meant pushed inner) before between) →
    (StandWhere ms meant shown (one_may_miss part.optional part.syntax) →
    NotesTexts (BadOwn ms names meant shown inner) between after) →
    StandWhere ms meant at (one_may_miss part.optional part.syntax) →
    NotesTexts (BadOne ms names meant at filled.syntax) before after
part_noted ms names meant at pushed shown part filled inner {before = before} {between = between} {after = after} same
    later kept fill own stands =
    let within : StandWhere ms meant at (within_may_miss part.syntax) =
    stands_by ms meant at (one_may_miss part.optional part.syntax) (within_may_miss part.syntax)
    (one_within part.optional part.syntax) stands in
    subst (λ s. NotesTexts (BadOne ms names meant at s) before after) (sym kept)
    (component_noted ms names meant at inner
    (subst (λ p. NotesTexts (BadWithin ms names meant p inner) before between) same
    (fill (subst (λ p. StandWhere ms meant p (within_may_miss part.syntax)) (sym same) within)))
    (subst (λ p. NotesTexts (BadOwn ms names meant p inner) between after) later
    (own (subst (λ p. StandWhere ms meant p (one_may_miss part.optional part.syntax)) (sym later) stands))))

-- ---- the text at a path

append_none : (xs : List ℕ) → xs ++ [] ≡ xs
append_none [] = refl
append_none (x ∷ xs) = ap (λ ys. x ∷ ys) (append_none xs)

pub no_text : (ms : List ModuleTerm) (meant : Meaning) (path : List ℕ) (optional : Bool) (inner : TypeSyntax) →
    optional ≡ false → StandWhere ms meant path (one_may_miss optional inner) → (v : ℕ) (text : Tree) →
    HasDefaultText ms meant path v text → ⊥
no_text ms meant path optional inner is stands v text h =
    false≢true (sym is ∙ stands [] v text (subst (λ p. HasDefaultText ms meant p v text) (sym (append_none path)) h))

pub no_presence : (ms : List ModuleTerm) (names : NamedArcs) (meant : Meaning) (path : List ℕ) (syntax : TypeSyntax)
    (optional : Bool) (told : Option TypedValue) → told ≡ None →
    ((v : ℕ) (text : Tree) → ¬ HasDefaultText ms meant path v text) →
    TellsPresence ms names meant path syntax optional told
no_presence ms names meant path syntax optional told is none_there =
    subst (λ x. TellsPresence ms names meant path syntax optional x) (sym is)
    (without (λ tree h. none_there h.0 tree h.1))

pub none_own : (ms : List ModuleTerm) (names : NamedArcs) (meant : Meaning) (path : List ℕ) (syntax : TypeSyntax)
    (before : Option TextPlace) → ((v : ℕ) (text : Tree) → ¬ HasDefaultText ms meant path v text) →
    NotesTexts (BadOwn ms names meant path syntax) before before
none_own ms names meant path syntax before none_there =
    none_noted (BadOwn ms names meant path syntax) before (λ place h. none_there h.v h.text h.stands)

pub told_presence : (ms : List ModuleTerm) (names : NamedArcs) (meant : Meaning) (path : List ℕ) (syntax : TypeSyntax)
    (optional : Bool) (told : Option TypedValue) (v : ℕ) (text : Tree) → HasDefaultText ms meant path v text →
    TellsValue names syntax text told → TellsPresence ms names meant path syntax optional told
told_presence ms names meant path syntax optional None v text stands d = with_none (v, stands) d.1
told_presence ms names meant path syntax optional (Some value) v text stands d = with_value (v, stands) d

pub own_noted : (ms : List ModuleTerm) (names : NamedArcs) (meant : Meaning) (path : List ℕ) (syntax : TypeSyntax)
    (v document : ℕ) (text : Tree) {before after : Option TextPlace} → HasDefaultText ms meant path v text →
    IsOfDocument ms v document → NotesTexts (BadText names syntax text document) before after →
    NotesTexts (BadOwn ms names meant path syntax) before after
own_noted ms names meant path syntax v document text stands is n =
    noted_by (BadText names syntax text document) (BadOwn ms names meant path syntax)
    (λ place bad. record {
      v = v;
      text = text;
      stands = stands;
      is_of = subst (IsOfDocument ms v) bad.0 is;
      none = bad.1;
    })
    (λ place own.
    let same = one_default_text own.stands stands in
    let its = subst (λ w. IsOfDocument ms w place.document) same.0 own.is_of in (
      one_document is its,
      subst (λ t. DenotesNone names syntax t place.token) same.1 own.none,
    ))
    n
  where
    one_document : {one other : ℕ} → IsOfDocument ms v one → IsOfDocument ms v other → one ≡ other
    one_document a b = sym a.2 ∙ ap (λ o. (unwrap_or o a.0).document) (sym a.1 ∙ b.1) ∙ b.2

-- ---- a text stands in a module

abbrev IsModule : List ModuleTerm → ℕ → Type 0
IsModule ms m = (x : ModuleTerm) × (slice_get ms m ≡ Some x)

type_home : (ms : List ModuleTerm) (m i : ℕ) (of : TypeTerm) → type_at ms m i ≡ Some of → IsModule ms m
unfolding type_at
type_home ms m i of is = by (slice_get ms m) refl is
  where
    by : (found : Option ModuleTerm) → slice_get ms m ≡ found → (elim found as (λ _. Option TypeTerm) [
      | None ↦ None
      | Some x ↦ assigned_type (slice_get x.assignments i)
    ]) ≡ Some of → IsModule ms m
    by None at e = absurd (cc)
    by (Some x) at e = (x, at)

default_home : {ms : List ModuleTerm} {m v : ℕ} {of : TypeTerm} {path : List ℕ} {text : Tree} →
    HasDefault ms m of path v text → IsModule ms m → IsModule ms v
default_home (here is) home = home
default_home (component is h) home = default_home h home
default_home (alternative is h) home = default_home h home
default_home (in_tag_text h) home = default_home h home
default_home (element h) home = default_home h home
default_home {ms = ms} {m = m} (by_name {v = v} {i = i} {module_name = module_name} {name = name} {of = of} e h) home =
    default_home h (type_home ms v i of (reference_type ms m v i module_name name of e))

meant_home : {ms : List ModuleTerm} {meant : Meaning} {path : List ℕ} {v : ℕ} {text : Tree} (meaning : CodeMeaning) →
    Means ms meaning meant → HasDefaultText ms meant path v text → IsModule ms v
meant_home {ms = ms} (code.TypeAt number) is h =
    let home = home_of ms number is.numbered is.at in
    by is.is h (home.text, home.module_at)
  where
    by : {meant : Meaning} {path : List ℕ} {v m i : ℕ} {of : TypeTerm} {text : Tree} → meant ≡ TypeAt m i of →
        HasDefaultText ms meant path v text → IsModule ms m → IsModule ms v
    by {m = m} e (text_of_type {m = its} k) home = default_home k (subst (IsModule ms) (sym (same e)) home)
      where
        same : {m its i j : ℕ} {of other : TypeTerm} → TypeAt its j other ≡ TypeAt m i of → its ≡ m
        same e = cc
    by e (text_of_value k) home = absurd (apart e)
      where
        apart : {m its i j : ℕ} {of other : TypeTerm} {n : Option NumberTerm} {t : Tree} →
            ValueAt its j other n t ≡ TypeAt m i of → ⊥
        apart e = absurd (cc)
meant_home {ms = ms} (code.ValueAt number) is h =
    let home = home_of ms number is.numbered is.at in
    by is.is h (home.text, home.module_at)
  where
    by : {meant : Meaning} {path : List ℕ} {v m i : ℕ} {of : TypeTerm} {n : Option NumberTerm} {t text : Tree} →
        meant ≡ ValueAt m i of n t → HasDefaultText ms meant path v text → IsModule ms m → IsModule ms v
    by e (text_of_value k) home = default_home k (subst (IsModule ms) (sym (same e)) home)
      where
        same : {m its i j : ℕ} {of other : TypeTerm} {n k : Option NumberTerm} {t u : Tree} →
            ValueAt its j other k u ≡ ValueAt m i of n t → its ≡ m
        same e = cc
    by e (text_of_type k) home = absurd (apart e)
      where
        apart : {m its i j : ℕ} {of other : TypeTerm} {n : Option NumberTerm} {t : Tree} →
            TypeAt its j other ≡ ValueAt m i of n t → ⊥
        apart e = absurd (cc)
meant_home (code.Standard standard) is h = absurd (no_default is h)
  where
    no_default : {ms : List ModuleTerm} {meant : Meaning} {path : List ℕ} {v : ℕ} {text : Tree} {syntax : TypeSyntax} →
        meant ≡ StandardType syntax → HasDefaultText ms meant path v text → ⊥
    no_default e (text_of_type k) = absurd (cc)
    no_default e (text_of_value k) = absurd (cc)
meant_home code.Nothing is h = absurd (no_default is h)
  where
    no_default : {ms : List ModuleTerm} {meant : Meaning} {path : List ℕ} {v : ℕ} {text : Tree} → meant ≡ Nothing →
        HasDefaultText ms meant path v text → ⊥
    no_default e (text_of_type k) = absurd (cc)
    no_default e (text_of_value k) = absurd (cc)

pub text_home : {ms : List ModuleTerm} {meant : Meaning} {path : List ℕ} {v : ℕ} {text : Tree} (meaning : CodeMeaning) →
    Means ms meaning meant → HasDefaultText ms meant path v text → (document : ℕ) →
    ((x : ModuleTerm) → slice_get ms v ≡ Some x → document ≡ x.document) → IsOfDocument ms v document
text_home meaning is h document told =
    let home = meant_home meaning is h in (home.0, home.1, sym (told home.0 home.1))

-- what is told of the text at a path of these modules' types
pub text_told : {ms : List ModuleTerm} {linked : Linked} {meant : Meaning} {things : NamedThings} {meaning : CodeMeaning} →
    IsFilling ms linked meant things meaning → (path : List ℕ) (told : Option (ℕ × Bor ValueText)) →
    ((other : Meaning) → Means (module_terms things.types.now) meaning other →
    TellsDefaultText (module_terms things.types.now) other path told) → TellsDefaultText ms meant path told
text_told {meant = meant} {meaning = meaning} f path told h =
    subst (λ x. TellsDefaultText x meant path told) f.known.types
    (h meant (subst (λ x. Means x meaning meant) (sym f.known.types) f.means))

-- the same of a syntax
pub syntax_told : {ms : List ModuleTerm} {linked : Linked} {things : NamedThings} → AreNamedThings ms linked things →
    (meant : Meaning) (meaning : CodeMeaning) → Means ms meaning meant → (told : Option TypeSyntax) →
    ((other : Meaning) → Means (module_terms things.types.now) meaning other →
    TellsSyntax (module_terms things.types.now) other told) → TellsSyntax ms meant told
syntax_told known meant meaning means told h =
    subst (λ x. TellsSyntax x meant told) known.types
    (h meant (subst (λ x. Means x meaning meant) (sym known.types) means))

-- ---- the syntax of a meaning

pub meaning_filled : (ms : List ModuleTerm) (names : NamedArcs) (meant : Meaning) (plain filled : TypeSyntax)
    (path : List ℕ) → path ≡ [] → HasSyntax ms meant plain →
    (StandWhere ms meant path (within_may_miss plain) → IsFilled names (texts_beside ms meant) path plain filled) →
    HasFilled ms names meant filled
meaning_filled ms names meant plain filled path none has h = record {
  plain = plain;
  has = has;
  filled = subst (λ p. IsFilled names (texts_beside ms meant) p plain filled) none
      (h (subst (λ p. StandWhere ms meant p (within_may_miss plain)) (sym none) (text_misses ms meant plain has)));
}

pub meaning_noted : (ms : List ModuleTerm) (names : NamedArcs) (meant : Meaning) (plain filled : TypeSyntax)
    (path : List ℕ) {before after : Option TextPlace} → path ≡ [] → HasSyntax ms meant plain →
    HasFilled ms names meant filled →
    (StandWhere ms meant path (within_may_miss plain) →
    NotesTexts (BadWithin ms names meant path filled) before after) →
    NotesTexts (BadBeside ms names meant) before after
meaning_noted ms names meant plain filled path {before = before} {after = after} none has is h =
    noted_by (BadWithin ms names meant [] filled) (BadBeside ms names meant)
    (λ place bad. (filled, is, bad))
    (λ place bad. subst (λ s. BadWithin ms names meant [] s place) (has_once ms names meant bad.1 is) bad.2)
    (subst (λ p. NotesTexts (BadWithin ms names meant p filled) before after) none
    (h (subst (λ p. StandWhere ms meant p (within_may_miss plain)) (sym none) (text_misses ms meant plain has))))
