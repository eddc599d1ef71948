-- JudgedLaws: the value of one assignment, and exactly those of its texts that denote none (X.680, sections 16 and 25).
use Rattle.std.proofs.Common.{◌≡◌, ◌∙◌, ◌+◌, ◌++◌, ℕ, List, [], ◌∷◌, true, false, Option, None, Some, refl, sym, ap}
use Rattle.std.proofs.Common.{◌≤◌, arith, length, map, drop, suc, zero}
use Rattle.std.specs.Prelude.{slice_get, unwrap_or}
use Rattle.std.proofs.Math.Path.{subst}
use Rattle.std.proofs.lemmas.Bool.{false≢true}
use Rattle.std.proofs.lemmas.List.{drop_all, length-map}
use Rattle.token_grammar.specs.Form.{Tree}
use Rattle.term_values.specs.Syntaxes.{TypeSyntax}
use Rattle.term_values.specs.Typed.{TypedValue}
use Rattle.asn1_syntax.specs.declared.module.Assignment.{Assignment}
use Rattle.asn1_syntax.specs.declared.module.Module.{Module}
use Rattle.asn1_names.specs.AssignmentNumbers.{Numbered, all_numbered, numbered_at, numbered_from}
use Rattle.asn1_names.specs.CodeMeanings.{IsTypeNumber, IsValueNumber}
use Rattle.asn1_names.specs.ModuleTerms.{ModuleTerm, NumberTerm, TypeTerm}
use Rattle.asn1_names.specs.ModuleTerms.AssignedTerm.{AssignsType, AssignsValue}
use Rattle.asn1_names.specs.NameMeaning.{Meaning, assigned_meaning}
use Rattle.asn1_names.specs.NameMeaning.Meaning.{TypeAt, ValueAt}
use Rattle.asn1_names.specs.TermViews.{assigned_term, assignment_term, module_term, module_terms}
use Rattle.asn1_leaf_values.specs.Arcs.{NamedArcs}
use Rattle.linked_parts.specs.declared.linked.Linked.{Linked}
use Rattle.filled_syntaxes.specs.AssignedValues.{TellsAssigned, numbered_meaning}
use Rattle.filled_syntaxes.specs.BadDefaults.{BadBeside, IsOfDocument}
use Rattle.filled_syntaxes.specs.FilledSyntaxes.{HasFilled}
use Rattle.filled_syntaxes.specs.JudgedAssignments.{AreJudged, BadDefaultsOf, BadOfOne, BadValueOf, IsJudging}
use Rattle.filled_syntaxes.specs.JudgedAssignments.{shows_defaults}
use Rattle.filled_syntaxes.specs.KnownThings.{AreNamedThings}
use Rattle.filled_syntaxes.specs.LinkedMeanings.{AssignsNone, AssignsValue as IsAssigned, linked_arcs}
use Rattle.filled_syntaxes.specs.LinkedMeanings.AssignsNone.{assigned as assigned_none}
use Rattle.filled_syntaxes.specs.LinkedMeanings.AssignsValue.{assigned as assigned_value}
use Rattle.filled_syntaxes.specs.NotedTexts.{NotesTexts}
use Rattle.filled_syntaxes.specs.SaidTexts.{BadText, DenotesNone, DenotesValue, TellsValue}
use Rattle.filled_syntaxes.specs.declared.bad_texts.TextPlace.{TextPlace}
use Rattle.filled_syntaxes.specs.declared.named_things.NamedThings.{NamedThings}
use Rattle.filled_syntaxes.proofs.AssignedLaws.{judged_at, judged_next}
use Rattle.filled_syntaxes.proofs.FilledLaws.{has_once}
use Rattle.filled_syntaxes.proofs.NotingTexts.{both_noted, none_noted, noted_by}
use Rattle.filled_syntaxes.proofs.SaidLaws.{not_both}

-- ---- what is meant

pub type_judged : {ms : List ModuleTerm} {linked : Linked} {things : NamedThings} {number : ℕ} {x : Numbered}
    (of : TypeTerm) → IsJudging ms linked things number x (AssignsType of) →
    IsTypeNumber ms number (numbered_meaning x)
type_judged {x = x} of j = record {
  numbered = x;
  at = j.at;
  of = of;
  assigns = j.assigns;
  is = ap (assigned_meaning x.in_module x.place) j.assigns;
}

pub value_judged : {ms : List ModuleTerm} {linked : Linked} {things : NamedThings} {number : ℕ} {x : Numbered}
    (of : TypeTerm) (stated : Option NumberTerm) (text : Tree) →
    IsJudging ms linked things number x (AssignsValue of stated text) → IsValueNumber ms number (numbered_meaning x)
value_judged {x = x} of stated text j = record {
  numbered = x;
  at = j.at;
  of = of;
  stated = stated;
  text = text;
  assigns = j.assigns;
  is = ap (assigned_meaning x.in_module x.place) j.assigns;
}

-- ---- DEFAULTs beside the type

pub defaults_shown : (ms : List ModuleTerm) (names : NamedArcs) (x : Numbered) {before after : Option TextPlace} →
    shows_defaults x.assignment.assigned ≡ true → NotesTexts (BadBeside ms names (numbered_meaning x)) before after →
    NotesTexts (BadDefaultsOf ms names x) before after
defaults_shown ms names x shown n =
    noted_by (BadBeside ms names (numbered_meaning x)) (BadDefaultsOf ms names x) (λ place bad. (shown, bad))
    (λ place bad. bad.1) n

pub none_shown : (ms : List ModuleTerm) (names : NamedArcs) (x : Numbered) (before : Option TextPlace) →
    shows_defaults x.assignment.assigned ≡ false → NotesTexts (BadDefaultsOf ms names x) before before
none_shown ms names x before hidden =
    none_noted (BadDefaultsOf ms names x) before (λ place bad. false≢true (sym hidden ∙ bad.0))

-- ---- a type has no value

no_value : {ms : List ModuleTerm} {names : NamedArcs} {meant : Meaning} {m i : ℕ} {of : TypeTerm} {value : TypedValue} →
    IsAssigned ms names meant value → meant ≡ TypeAt m i of → ⊥
no_value (assigned_value h d) e = absurd (cc)

no_none : {ms : List ModuleTerm} {names : NamedArcs} {meant : Meaning} {m i at : ℕ} {of : TypeTerm} →
    AssignsNone ms names meant at → meant ≡ TypeAt m i of → ⊥
no_none (assigned_none h d) e = absurd (cc)

pub type_tells : (ms : List ModuleTerm) (names : NamedArcs) (x : Numbered) (of : TypeTerm) →
    x.assignment.assigned ≡ AssignsType of → TellsAssigned ms names (numbered_meaning x) None
type_tells ms names x of is = λ value a. no_value a (ap (assigned_meaning x.in_module x.place) is)

pub type_noted : (ms : List ModuleTerm) (names : NamedArcs) (x : Numbered) (of : TypeTerm)
    {before after : Option TextPlace} → x.assignment.assigned ≡ AssignsType of →
    NotesTexts (BadDefaultsOf ms names x) before after → NotesTexts (BadOfOne ms names x) before after
type_noted ms names x of {after = after} is n =
    both_noted (BadDefaultsOf ms names x) (BadValueOf ms names x) n
    (none_noted (BadValueOf ms names x) after
    (λ place bad. no_none bad.1 (ap (assigned_meaning x.in_module x.place) is)))

-- ---- the value of a text

tells_value : {ms : List ModuleTerm} {names : NamedArcs} {m i : ℕ} {of : TypeTerm} {stated : Option NumberTerm}
    {text : Tree} {syntax : TypeSyntax} → HasFilled ms names (ValueAt m i of stated text) syntax →
    (told : Option TypedValue) → TellsValue names syntax text told →
    TellsAssigned ms names (ValueAt m i of stated text) told
tells_value has (Some value) d = assigned_value has d
tells_value {ms = ms} {names = names} {m = m} {i = i} {of = of} {stated = stated} {text = text} {syntax = syntax} has
    None d = λ value a. by a
  where
    by : {value : TypedValue} → IsAssigned ms names (ValueAt m i of stated text) value → ⊥
    by {value = value} (assigned_value {syntax = its} h e) =
        not_both names syntax text
        (subst (λ s. DenotesValue names s text value) (has_once ms names (ValueAt m i of stated text) h has) e) d.1

pub value_tells : (ms : List ModuleTerm) (names : NamedArcs) (x : Numbered) (of : TypeTerm) (stated : Option NumberTerm)
    (text : Tree) (syntax : TypeSyntax) (told : Option TypedValue) →
    x.assignment.assigned ≡ AssignsValue of stated text → HasFilled ms names (numbered_meaning x) syntax →
    TellsValue names syntax text told → TellsAssigned ms names (numbered_meaning x) told
value_tells ms names x of stated text syntax told is has d =
    let same = ap (assigned_meaning x.in_module x.place) is in
    subst (λ z. TellsAssigned ms names z told) (sym same)
    (tells_value (subst (λ z. HasFilled ms names z syntax) same has) told d)

one_document : (ms : List ModuleTerm) (m one other : ℕ) → IsOfDocument ms m one → IsOfDocument ms m other → one ≡ other
one_document ms m one other a b = sym a.2 ∙ ap (λ o. (unwrap_or o a.0).document) (sym a.1 ∙ b.1) ∙ b.2

denotes_none : {ms : List ModuleTerm} {names : NamedArcs} {m i at : ℕ} {of : TypeTerm} {stated : Option NumberTerm}
    {text : Tree} {syntax : TypeSyntax} → HasFilled ms names (ValueAt m i of stated text) syntax →
    AssignsNone ms names (ValueAt m i of stated text) at → DenotesNone names syntax text at
denotes_none {ms = ms} {names = names} {m = m} {i = i} {at = at} {of = of} {stated = stated} {text = text} has
    (assigned_none h d) =
    subst (λ s. DenotesNone names s text at) (has_once ms names (ValueAt m i of stated text) h has) d

text_noted : (ms : List ModuleTerm) (names : NamedArcs) (x : Numbered) (of : TypeTerm) (stated : Option NumberTerm)
    (text : Tree) (syntax : TypeSyntax) (document : ℕ) {before after : Option TextPlace} →
    x.assignment.assigned ≡ AssignsValue of stated text → IsOfDocument ms x.in_module document →
    HasFilled ms names (numbered_meaning x) syntax → NotesTexts (BadText names syntax text document) before after →
    NotesTexts (BadValueOf ms names x) before after
text_noted ms names x of stated text syntax document is is_of has n =
    noted_by (BadText names syntax text document) (BadValueOf ms names x)
    (λ place bad. (
      subst (IsOfDocument ms x.in_module) bad.0 is_of,
      subst (λ z. AssignsNone ms names z place.token) (sym same) (assigned_none own bad.1),
    ))
    (λ place bad. (
      one_document ms x.in_module document place.document is_of bad.0,
      denotes_none own (subst (λ z. AssignsNone ms names z place.token) same bad.1),
    ))
    n
  where
    same : numbered_meaning x ≡ ValueAt x.in_module x.place of stated text
    same = ap (assigned_meaning x.in_module x.place) is

    own : HasFilled ms names (ValueAt x.in_module x.place of stated text) syntax
    own = subst (λ z. HasFilled ms names z syntax) same has

pub value_noted : (ms : List ModuleTerm) (names : NamedArcs) (x : Numbered) (of : TypeTerm) (stated : Option NumberTerm)
    (text : Tree) (syntax : TypeSyntax) (document : ℕ) {before between after : Option TextPlace} →
    x.assignment.assigned ≡ AssignsValue of stated text → IsOfDocument ms x.in_module document →
    HasFilled ms names (numbered_meaning x) syntax →
    NotesTexts (BadBeside ms names (numbered_meaning x)) before between →
    NotesTexts (BadText names syntax text document) between after → NotesTexts (BadOfOne ms names x) before after
value_noted ms names x of stated text syntax document is is_of has p q =
    both_noted (BadDefaultsOf ms names x) (BadValueOf ms names x)
    (defaults_shown ms names x (ap shows_defaults is) p)
    (text_noted ms names x of stated text syntax document is is_of has q)

-- ---- a type of a value that has no syntax

unfilled_none : {ms : List ModuleTerm} {names : NamedArcs} {meant : Meaning} {at : ℕ} →
    ((syntax : TypeSyntax) → ¬ HasFilled ms names meant syntax) → AssignsNone ms names meant at → ⊥
unfilled_none unfilled (assigned_none {syntax = syntax} h d) = unfilled syntax h

unfilled_value : {ms : List ModuleTerm} {names : NamedArcs} {meant : Meaning} {value : TypedValue} →
    ((syntax : TypeSyntax) → ¬ HasFilled ms names meant syntax) → IsAssigned ms names meant value → ⊥
unfilled_value unfilled (assigned_value {syntax = syntax} h d) = unfilled syntax h

pub unfilled_tells : (ms : List ModuleTerm) (names : NamedArcs) (meant : Meaning) →
    ((syntax : TypeSyntax) → ¬ HasFilled ms names meant syntax) → TellsAssigned ms names meant None
unfilled_tells ms names meant unfilled = λ value a. unfilled_value unfilled a

pub unfilled_noted : (ms : List ModuleTerm) (names : NamedArcs) (x : Numbered) (of : TypeTerm)
    (stated : Option NumberTerm) (text : Tree) {before after : Option TextPlace} →
    x.assignment.assigned ≡ AssignsValue of stated text →
    ((syntax : TypeSyntax) → ¬ HasFilled ms names (numbered_meaning x) syntax) →
    NotesTexts (BadBeside ms names (numbered_meaning x)) before after → NotesTexts (BadOfOne ms names x) before after
unfilled_noted ms names x of stated text {after = after} is unfilled n =
    both_noted (BadDefaultsOf ms names x) (BadValueOf ms names x)
    (defaults_shown ms names x (ap shows_defaults is) n)
    (none_noted (BadValueOf ms names x) after (λ place bad. unfilled_none unfilled bad.1))

-- ---- one more assignment of a module

pub assignment_added : (ms : List ModuleTerm) (linked : Linked) (things : NamedThings) (text : Module) (m i number : ℕ)
    (left more : List Assignment) (item : Assignment) (behind : List Numbered) (values : List (Option TypedValue))
    (told : Option TypedValue) {before between after : Option TextPlace} → AreNamedThings ms linked things →
    slice_get ms m ≡ Some (module_term text) → left ≡ item ∷ more → number ≡ length values →
    AreJudged ms linked (numbered_from m i (map assignment_term left) ++ behind) values before between →
    ((x : Numbered) → IsJudging ms linked things number x (assigned_term item.assigned) →
    TellsAssigned ms (linked_arcs linked) (numbered_meaning x) told) →
    ((x : Numbered) → IsJudging ms linked things number x (assigned_term item.assigned) →
    IsOfDocument ms x.in_module text.document → NotesTexts (BadOfOne ms (linked_arcs linked) x) between after) →
    AreJudged ms linked (numbered_from m (i + 1) (map assignment_term more) ++ behind) (values ++ told ∷ []) before after
assignment_added ms linked things text m i number left more item behind values told {before = before}
    {between = between} known home split counts judged tells noted =
    let x : Numbered = record { in_module = m; place = i; assignment = assignment_term item } in
    let rest = numbered_from m (i + 1) (map assignment_term more) ++ behind in
    let here : AreJudged ms linked (x ∷ rest) values before between =
    subst (λ ys. AreJudged ms linked (numbered_from m i (map assignment_term ys) ++ behind) values before between) split
    judged in
    let judging : IsJudging ms linked things number x (assigned_term item.assigned) = record {
      known = known;
      at = ap (numbered_at ms) counts ∙ judged_at ms linked x rest values here;
      assigns = refl;
    } in
    judged_next ms linked x rest values told here (tells x judging)
    (noted x judging (module_term text, home, refl))

-- ---- one more module

pub drop_at : {X : Type 0} (xs : List X) (i : ℕ) (x : X) → slice_get xs i ≡ Some x → drop i xs ≡ x ∷ drop (i + 1) xs
drop_at [] i x is = absurd (cc)
drop_at (y ∷ ys) zero x is = ap (λ o. unwrap_or o y ∷ ys) is
drop_at (y ∷ ys) (suc i) x is = drop_at ys i x is ∙ ap (λ k. x ∷ drop k (y ∷ ys)) (next i)
  where
    next : (i : ℕ) → suc (i + 1) ≡ suc i + 1
    next i = omega arith

-- behind the last module nothing is left
pub judged_past : (ms : List ModuleTerm) (linked : Linked) (modules : List Module) (i : ℕ)
    (values : List (Option TypedValue)) {before after : Option TextPlace} → module_terms modules ≡ ms →
    length modules ≤ i → AreJudged ms linked (all_numbered i (drop i ms)) values before after →
    AreJudged ms linked [] values before after
judged_past ms linked modules i values {before = before} {after = after} is past h =
    let size = length-map modules module_term in
    let many = ap length is in
    subst (λ ys. AreJudged ms linked (all_numbered i ys) values before after)
    (drop_all i ms (omega (arith, size, many, past))) h
