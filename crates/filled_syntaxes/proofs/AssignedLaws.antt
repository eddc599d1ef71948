-- AssignedLaws: the assignments of all modules in the order of their numbers, their values, and exactly those of their
-- texts that denote none (X.680, sections 13.1, 16 and 25).
use Rattle.std.proofs.Common.{◌≡◌, ◌⊎◌, ◌∙◌, ◌+◌, ℕ, List, [], ◌∷◌, ◌++◌, false, Option, None, Some}
use Rattle.std.proofs.Common.{refl, sym, ap, inl, inr, length, append_assoc}
use Rattle.std.specs.Prelude.{slice_get}
use Rattle.std.proofs.Math.Path.{subst}
use Rattle.std.proofs.lemmas.Bool.{false≢true}
use Rattle.std.proofs.lemmas.List.{length_push}
use Rattle.token_grammar.specs.Form.{Tree}
use Rattle.term_values.specs.Syntaxes.{TypeSyntax}
use Rattle.term_values.specs.Typed.{TypedValue}
use Rattle.asn1_names.specs.AssignmentNumbers.{Numbered, all_numbered, assignment_count, numbered_at}
use Rattle.asn1_names.specs.DefaultTexts.{HasDefault, part_at}
use Rattle.asn1_names.specs.DenotedSyntax.{Denotes}
use Rattle.asn1_names.specs.ModuleTerms.{AssignedTerm, AssignmentTerm, ModuleTerm, TypeTerm}
use Rattle.asn1_names.specs.ModuleTerms.AssignedTerm.{AssignsType, AssignsValue}
use Rattle.asn1_names.specs.NameMeaning.{Meaning, assigned_meaning, type_at}
use Rattle.asn1_names.specs.NameMeaning.Meaning.{Nothing, TypeAt}
use Rattle.asn1_names.specs.ResolvedTypes.{HasDefaultText, HasSyntax}
use Rattle.asn1_names.specs.ResolvedTypes.HasDefaultText.{of_type as text_of_type}
use Rattle.asn1_names.specs.ResolvedTypes.HasSyntax.{of_standard, of_type, of_value}
use Rattle.asn1_numbers.proofs.MeantLaws.{assigns_type, numbered_type, placed_number}
use Rattle.asn1_numbers.proofs.StandingLaws.{number_there}
use Rattle.asn1_types.proofs.NumberedLaws.{home_of}
use Rattle.asn1_leaf_values.specs.Arcs.{NamedArcs}
use Rattle.linked_parts.specs.declared.linked.Linked.{Linked}
use Rattle.filled_syntaxes.specs.AssignedValues.{AreAssignedValues, IsToldOf, TellsAssigned, numbered_meaning}
use Rattle.filled_syntaxes.specs.BadAssignments.{BadAssignedAt, BadDefaultAt, BadOfAssignments}
use Rattle.filled_syntaxes.specs.BadDefaults.{BadBeside, IsOfDocument}
use Rattle.filled_syntaxes.specs.FilledSyntaxes.{HasFilled}
use Rattle.filled_syntaxes.specs.JudgedAssignments.{AreJudged, BadOfOne, BadOfSome, BadValueOf}
use Rattle.filled_syntaxes.specs.JudgedAssignments.{shows_defaults}
use Rattle.filled_syntaxes.specs.LinkedMeanings.{AssignsNone, assignment_meaning, linked_arcs, meaning_in}
use Rattle.filled_syntaxes.specs.LinkedMeanings.{meaning_of_assignment}
use Rattle.filled_syntaxes.specs.LinkedMeanings.AssignsNone.{assigned}
use Rattle.filled_syntaxes.specs.NotedTexts.{NotesTexts}
use Rattle.filled_syntaxes.specs.SaidTexts.{DenotesNone}
use Rattle.filled_syntaxes.specs.WrittenDefaults.{writes_default}
use Rattle.filled_syntaxes.specs.declared.bad_texts.TextPlace.{TextPlace}
use Rattle.filled_syntaxes.proofs.NotingTexts.{each_push, get_cases, get_front, get_last, none_each, noted_by}
use Rattle.filled_syntaxes.proofs.WrittenLaws.{WrittenAt, either_way, written_beside}

-- ---- the assignments so far

append_none : {X : Type 0} (xs : List X) → xs ++ [] ≡ xs
append_none [] = refl
append_none (x ∷ xs) = ap (λ ys. x ∷ ys) (append_none xs)

none_got : {X P : Type 0} (k : ℕ) (x : X) → slice_get [] k ≡ Some x → P
none_got k x is = absurd (cc)

at_front : {X : Type 0} (front : List X) (x : X) (behind : List X) →
    slice_get (front ++ x ∷ behind) (length front) ≡ Some x
at_front [] x behind = refl
at_front (y ∷ ys) x behind = at_front ys x behind

pub judged_none : (ms : List ModuleTerm) (linked : Linked) (before : Option TextPlace) →
    AreJudged ms linked (all_numbered 0 ms) [] before before
judged_none ms linked before = record {
  front = [];
  whole = refl;
  count = refl;
  each = λ k x is. none_got k x is;
  noted = none_each (λ k x. BadOfOne ms (linked_arcs linked) x) before;
}

-- the next one has the number of the values so far
pub judged_at : (ms : List ModuleTerm) (linked : Linked) (x : Numbered) (behind : List Numbered)
    (values : List (Option TypedValue)) {before after : Option TextPlace} →
    AreJudged ms linked (x ∷ behind) values before after → numbered_at ms (length values) ≡ Some x
unfolding numbered_at
judged_at ms linked x behind values h = ap (slice_get (all_numbered 0 ms)) h.count ∙
    ap (λ xs. slice_get xs (length h.front)) h.whole ∙ at_front h.front x behind

pub judged_next : (ms : List ModuleTerm) (linked : Linked) (x : Numbered) (behind : List Numbered)
    (values : List (Option TypedValue)) (told : Option TypedValue) {before between after : Option TextPlace} →
    AreJudged ms linked (x ∷ behind) values before between →
    TellsAssigned ms (linked_arcs linked) (numbered_meaning x) told →
    NotesTexts (BadOfOne ms (linked_arcs linked) x) between after →
    AreJudged ms linked behind (values ++ told ∷ []) before after
judged_next ms linked x behind values told h tells n = record {
  front = h.front ++ x ∷ [];
  whole = h.whole ∙ sym (append_assoc h.front (x ∷ []) behind);
  count = length_push values told ∙ ap (λ k. k + 1) h.count ∙ sym (length_push h.front x);
  each = λ k y is. by k y (get_cases h.front x k y is);
  noted = each_push (λ k y. BadOfOne ms (linked_arcs linked) y) h.front x h.noted n;
}
  where
    by : (k : ℕ) (y : Numbered) → (slice_get h.front k ≡ Some y) ⊎ ((k ≡ length h.front) × (x ≡ y)) →
        IsToldOf ms (linked_arcs linked) (values ++ told ∷ []) k y
    by k y (inl is) =
        let it = h.each k y is in
        record { value = it.value; at = get_front values told k it.value it.at; tells = it.tells }
    by k y (inr last) = record {
      value = told;
      at = ap (slice_get (values ++ told ∷ [])) (last.0 ∙ sym h.count) ∙ get_last values told;
      tells = subst (λ z. TellsAssigned ms (linked_arcs linked) (numbered_meaning z) told) last.1 tells;
    }

all_in_front : (ms : List ModuleTerm) (linked : Linked) (values : List (Option TypedValue))
    {before after : Option TextPlace} (h : AreJudged ms linked [] values before after) → h.front ≡ all_numbered 0 ms
all_in_front ms linked values h = sym (append_none h.front) ∙ sym h.whole

pub judged_values : (ms : List ModuleTerm) (linked : Linked) (values : List (Option TypedValue))
    {before after : Option TextPlace} → AreJudged ms linked [] values before after → AreAssignedValues ms linked values
unfolding numbered_at assignment_count
judged_values ms linked values h = record {
  count = h.count ∙ ap length (all_in_front ms linked values h);
  each = λ number x at. h.each number x (ap (λ xs. slice_get xs number) (all_in_front ms linked values h) ∙ at);
}

-- ---- an assignment has a number

meaning_at : (ms : List ModuleTerm) (number : ℕ) (x : Numbered) → numbered_at ms number ≡ Some x →
    assignment_meaning ms x.in_module x.place ≡ numbered_meaning x
meaning_at ms number x at =
    let home = home_of ms number x at in
    ap (meaning_in x.in_module x.place) home.module_at ∙ ap (meaning_of_assignment x.in_module x.place) home.at

-- what is assigned at a place has a number
record HasNumber (ms : List ModuleTerm) (m i : ℕ) : Type 0 where
  number : ℕ
  x : Numbered
  at : numbered_at ms number ≡ Some x
  module_is : x.in_module ≡ m
  meant : assignment_meaning ms m i ≡ numbered_meaning x

has_number : (ms : List ModuleTerm) (m i : ℕ) → (assignment_meaning ms m i ≡ Nothing → ⊥) → HasNumber ms m i
has_number ms m i there = in_module (slice_get ms m) refl
  where
    in_place : (y : ModuleTerm) → slice_get ms m ≡ Some y → (found : Option AssignmentTerm) →
        slice_get y.assignments i ≡ found → HasNumber ms m i
    in_place y home None at = absurd (there (ap (meaning_in m i) home ∙ ap (meaning_of_assignment m i) at))
    in_place y home (Some a) at =
        let number = number_there ms m i y a home at in record {
          number = number.0;
          x = record { in_module = m; place = i; assignment = a };
          at = number.1;
          module_is = refl;
          meant = ap (meaning_in m i) home ∙ ap (meaning_of_assignment m i) at;
        }

    in_module : (found : Option ModuleTerm) → slice_get ms m ≡ found → HasNumber ms m i
    in_module None at = absurd (there (ap (meaning_in m i) at))
    in_module (Some y) at = in_place y at (slice_get y.assignments i) refl

none_there : {ms : List ModuleTerm} {names : NamedArcs} {meant : Meaning} {at : ℕ} → AssignsNone ms names meant at →
    meant ≡ Nothing → ⊥
none_there (assigned h d) e = absurd (cc)

syntax_there : {ms : List ModuleTerm} {meant : Meaning} {syntax : TypeSyntax} → HasSyntax ms meant syntax →
    meant ≡ Nothing → ⊥
syntax_there (of_type d) e = absurd (cc)
syntax_there (of_value d) e = absurd (cc)
syntax_there of_standard e = absurd (cc)

-- ---- the texts of all assignments

among_all : (ms : List ModuleTerm) (names : NamedArcs) (number : ℕ) (x : Numbered) (place : TextPlace) →
    numbered_at ms number ≡ Some x → BadOfOne ms names x place → BadOfSome ms names (all_numbered 0 ms) place
unfolding numbered_at
among_all ms names number x place at bad = (number, (x, at, bad))

beside_there : (ms : List ModuleTerm) (linked : Linked) (number : ℕ) (x : Numbered) (place : TextPlace) →
    numbered_at ms number ≡ Some x → BadBeside ms (linked_arcs linked) (numbered_meaning x) place →
    BadDefaultAt ms linked place.document place.token
beside_there ms linked number x place at bad =
    let same = sym (meaning_at ms number x at) in
    let behind = bad.2 in
    let own = behind.bad in record {
      m = x.in_module;
      i = x.place;
      syntax = bad.0;
      has = subst (λ z. HasFilled ms (linked_arcs linked) z bad.0) same bad.1;
      path = behind.rest;
      component = behind.component;
      is_part = behind.is_part;
      v = own.v;
      text = own.text;
      stands = subst (λ z. HasDefaultText ms z behind.rest own.v own.text) same own.stands;
      is_of = own.is_of;
      none = own.none;
    }

value_there : (ms : List ModuleTerm) (linked : Linked) (number : ℕ) (x : Numbered) (place : TextPlace) →
    numbered_at ms number ≡ Some x → BadValueOf ms (linked_arcs linked) x place →
    BadAssignedAt ms linked place.document place.token
value_there ms linked number x place at bad = record {
  m = x.in_module;
  i = x.place;
  is_of = bad.0;
  none = subst (λ z. AssignsNone ms (linked_arcs linked) z place.token) (sym (meaning_at ms number x at)) bad.1;
}

one_there : (ms : List ModuleTerm) (linked : Linked) (number : ℕ) (x : Numbered) (place : TextPlace) →
    numbered_at ms number ≡ Some x → BadOfOne ms (linked_arcs linked) x place → BadOfAssignments ms linked place
one_there ms linked number x place at bad = elim bad as (λ _. BadOfAssignments ms linked place) [
  | inl h ↦ inr (beside_there ms linked number x place at h.1)
  | inr h ↦ inl (value_there ms linked number x place at h)
]

some_there : (ms : List ModuleTerm) (linked : Linked) (place : TextPlace) →
    BadOfSome ms (linked_arcs linked) (all_numbered 0 ms) place → BadOfAssignments ms linked place
unfolding numbered_at
some_there ms linked place bad = one_there ms linked bad.0 bad.1.0 place bad.1.1 bad.1.2

value_among : (ms : List ModuleTerm) (linked : Linked) (place : TextPlace) →
    BadAssignedAt ms linked place.document place.token → BadOfSome ms (linked_arcs linked) (all_numbered 0 ms) place
value_among ms linked place b =
    let own = has_number ms b.m b.i (none_there b.none) in
    among_all ms (linked_arcs linked) own.number own.x place own.at
    (inr (
      subst (λ z. IsOfDocument ms z place.document) (sym own.module_is) b.is_of,
      subst (λ z. AssignsNone ms (linked_arcs linked) z place.token) own.meant b.none,
    ))

-- a text of DEFAULT beside a type that is assigned, where one is written in this
written_among : (ms : List ModuleTerm) (linked : Linked) (place : TextPlace) (v : ℕ) (text : Tree) (part : TypeSyntax) →
    WrittenAt ms (linked_arcs linked) v text part → IsOfDocument ms v place.document →
    DenotesNone (linked_arcs linked) part text place.token →
    BadOfSome ms (linked_arcs linked) (all_numbered 0 ms) place
written_among ms linked place v text part w is_of none_of =
    let names = linked_arcs linked in
    let it = placed_number ms w.m w.i w.of w.at in
    let x = it.1 in
    let here : type_at ms x.in_module x.place ≡ Some w.of =
    ap (λ z. type_at ms z x.place) it.3 ∙ ap (type_at ms w.m) it.4 ∙ w.at in
    let assigns : x.assignment.assigned ≡ AssignsType w.of =
    assigns_type x.assignment w.of (sym (numbered_type ms it.0 x it.2) ∙ here) in
    let same : TypeAt w.m w.i w.of ≡ numbered_meaning x =
    sym (ap (assigned_meaning x.in_module x.place) assigns ∙ ap (λ z. TypeAt z x.place w.of) it.3 ∙
    ap (λ z. TypeAt w.m z w.of) it.4) in
    among_all ms names it.0 x place it.2 (inl (
      ap shows_defaults assigns ∙ w.writes,
      (
        w.syntax,
        subst (λ z. HasFilled ms names z w.syntax) same w.has,
        record {
          rest = w.path;
          component = part;
          is_part = w.is_part;
          bad = record {
            v = v;
            text = text;
            stands = subst (λ z. HasDefaultText ms z w.path v text) same (text_of_type w.stands);
            is_of = is_of;
            none = none_of;
          };
        },
      ),
    ))

denoted : {ms : List ModuleTerm} {m i : ℕ} {of : TypeTerm} {syntax : TypeSyntax} →
    HasSyntax ms (TypeAt m i of) syntax → Denotes ms m of syntax
denoted (of_type d) = d

stands_in : {ms : List ModuleTerm} {m i v : ℕ} {of : TypeTerm} {path : List ℕ} {text : Tree} →
    HasDefaultText ms (TypeAt m i of) path v text → HasDefault ms m of path v text
stands_in (text_of_type h) = h

-- one beside a type in which none is written
named_among : (ms : List ModuleTerm) (linked : Linked) (place : TextPlace) {m i v : ℕ} {of : TypeTerm} {meant : Meaning}
    {syntax part : TypeSyntax} {path : List ℕ} {text : Tree} → meant ≡ TypeAt m i of →
    HasFilled ms (linked_arcs linked) meant syntax → part_at syntax path ≡ Some part →
    HasDefaultText ms meant path v text → writes_default of ≡ false → IsOfDocument ms v place.document →
    DenotesNone (linked_arcs linked) part text place.token →
    BadOfSome ms (linked_arcs linked) (all_numbered 0 ms) place
named_among ms linked place {i = i} {v = v} {syntax = syntax} {part = part} {path = path} {text = text} same has is stands
    unwritten is_of none_of =
    let own = subst (λ z. HasFilled ms (linked_arcs linked) z syntax) same has in
    let here = stands_in (subst (λ z. HasDefaultText ms z path v text) same stands) in
    written_among ms linked place v text part
    (written_beside i here (denoted own.has) syntax part own.filled is unwritten) is_of none_of

default_among : (ms : List ModuleTerm) (linked : Linked) (place : TextPlace) →
    BadDefaultAt ms linked place.document place.token → BadOfSome ms (linked_arcs linked) (all_numbered 0 ms) place
default_among ms linked place b =
    either_way (shows_defaults own.x.assignment.assigned)
    (λ shows. among_all ms (linked_arcs linked) own.number own.x place own.at (inl (
      shows,
      (
        b.syntax,
        subst (λ z. HasFilled ms (linked_arcs linked) z b.syntax) own.meant b.has,
        record {
          rest = b.path;
          component = b.component;
          is_part = b.is_part;
          bad = record {
            v = b.v;
            text = b.text;
            stands = subst (λ z. HasDefaultText ms z b.path b.v b.text) own.meant b.stands;
            is_of = b.is_of;
            none = b.none;
          };
        },
      ),
    )))
    (λ shows. by own.x.assignment.assigned refl shows)
  where
    own : HasNumber ms b.m b.i
    own = has_number ms b.m b.i (syntax_there b.has.has)

    by : (a : AssignedTerm) → own.x.assignment.assigned ≡ a → shows_defaults a ≡ false →
        BadOfSome ms (linked_arcs linked) (all_numbered 0 ms) place
    by (AssignsType of) is unwritten =
        named_among ms linked place (own.meant ∙ ap (assigned_meaning own.x.in_module own.x.place) is) b.has b.is_part
        b.stands unwritten b.is_of b.none
    by (AssignsValue of number text) is shown = absurd (false≢true (sym shown))

pub judged_noted : (ms : List ModuleTerm) (linked : Linked) (values : List (Option TypedValue))
    {before after : Option TextPlace} → AreJudged ms linked [] values before after →
    NotesTexts (BadOfAssignments ms linked) before after
judged_noted ms linked values {before = before} {after = after} h =
    noted_by (BadOfSome ms (linked_arcs linked) (all_numbered 0 ms)) (BadOfAssignments ms linked)
    (some_there ms linked)
    (λ place bad. elim bad as (λ _. BadOfSome ms (linked_arcs linked) (all_numbered 0 ms) place) [
      | inl h ↦ value_among ms linked place h
      | inr h ↦ default_among ms linked place h
    ])
    (subst (λ xs. NotesTexts (BadOfSome ms (linked_arcs linked) xs) before after) (all_in_front ms linked values h)
    h.noted)
