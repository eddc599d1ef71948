-- ValueLaws: the value of a name is that of the assignment with its number (X.680, sections 13.1 and 16).
use Rattle.std.proofs.Common.{◌≡◌, ◌∙◌, ℕ, List, Option, None, Some, sym, ap}
use Rattle.std.specs.Prelude.{option_and_then, slice_get}
use Rattle.std.proofs.Math.Path.{subst}
use Rattle.token_grammar.specs.Form.{Tree}
use Rattle.term_values.specs.Syntaxes.{TypeSyntax}
use Rattle.term_values.specs.Typed.{TypedValue}
use Rattle.asn1_names.specs.CodeMeanings.{IsValueNumber, Means}
use Rattle.asn1_names.specs.ModuleTerms.{ModuleTerm, TypeTerm}
use Rattle.asn1_names.specs.NameMeaning.{Meaning, assigned_meaning}
use Rattle.asn1_names.specs.NameMeaning.Meaning.{Nothing, StandardType, TypeAt}
use Rattle.asn1_names.specs.declared.name_tables.Meaning.{Meaning as CodeMeaning}
use Rattle.asn1_names.specs.declared.name_tables.Meaning.TheVariants as code
use Rattle.asn1_leaf_values.specs.Arcs.{NamedArcs}
use Rattle.linked_parts.specs.declared.linked.Linked.{Linked}
use Rattle.linked_parts.specs.declared.linked.LinkedName.{LinkedName}
use Rattle.filled_syntaxes.specs.AssignedValues.{AreAssignedValues, TellsAssigned, numbered_meaning}
use Rattle.filled_syntaxes.specs.LinkedMeanings.{AssignsValue, linked_arcs, linked_meaning}
use Rattle.filled_syntaxes.specs.LinkedMeanings.AssignsValue.{assigned}
use Rattle.filled_syntaxes.specs.SaidTexts.{DenotesValue}
use Rattle.filled_syntaxes.proofs.FilledLaws.{has_once}
use Rattle.filled_syntaxes.proofs.SaidLaws.{one_value}
use Rattle.joined_statements.specs.HeldValues.{value_at}
use Rattle.joined_statements.specs.JoinedStatements.{Values}
use Rattle.joined_statements.specs.declared.held.Held.TheVariants.{NoValue, One}
use Rattle.package_statements.specs.NamedValues.{TellsValueNumber, number_of}
use Rattle.package_statements.specs.PackageStatements.{TellsHeld}

-- ---- an assignment gives one value

text_once : (names : NamedArcs) (text : Tree) (one other : TypeSyntax) {value further : TypedValue} → one ≡ other →
    DenotesValue names one text value → DenotesValue names other text further → value ≡ further
text_once names text one other {value} {further} same d e =
    one_value names other text (subst (λ s. DenotesValue names s text value) same d) e

pub assigned_once : (ms : List ModuleTerm) (names : NamedArcs) (meant : Meaning) {value further : TypedValue} →
    AssignsValue ms names meant value → AssignsValue ms names meant further → value ≡ further
assigned_once ms names meant (assigned {text = text} {syntax = one} h d) (assigned {syntax = other} k e) =
    text_once names text one other (has_once ms names meant h k) d e

-- ---- what a name means that has no number

no_type : (ms : List ModuleTerm) (names : NamedArcs) (meant : Meaning) (m i : ℕ) (of : TypeTerm) (value : TypedValue) →
    meant ≡ TypeAt m i of → ¬ AssignsValue ms names meant value
no_type ms names meant m i of value is (assigned h d) = absurd (cc)

no_standard : (ms : List ModuleTerm) (names : NamedArcs) (meant : Meaning) (syntax : TypeSyntax) (value : TypedValue) →
    meant ≡ StandardType syntax → ¬ AssignsValue ms names meant value
no_standard ms names meant syntax value is (assigned h d) = absurd (cc)

no_meaning : (ms : List ModuleTerm) (names : NamedArcs) (meant : Meaning) (value : TypedValue) → meant ≡ Nothing →
    ¬ AssignsValue ms names meant value
no_meaning ms names meant value is (assigned h d) = absurd (cc)

pub number_told : (ms : List ModuleTerm) (linked : Linked) (name : LinkedName) (meaning : CodeMeaning) →
    Means ms meaning (linked_meaning ms name.meaning) → TellsValueNumber ms linked name (number_of meaning)
number_told ms linked name (code.TypeAt number) means = λ value.
    no_type ms (linked_arcs linked) (linked_meaning ms name.meaning) means.numbered.in_module means.numbered.place
    means.of value means.is
number_told ms linked name (code.ValueAt number) means = means
number_told ms linked name (code.Standard standard) means = λ value.
    no_standard ms (linked_arcs linked) (linked_meaning ms name.meaning) _ value means
number_told ms linked name code.Nothing means = λ value.
    no_meaning ms (linked_arcs linked) (linked_meaning ms name.meaning) value means

-- ---- the value with a number

pub value_told : (ms : List ModuleTerm) (linked : Linked) (values : Values) (number : ℕ) (meant : Meaning) →
    AreAssignedValues ms linked values → IsValueNumber ms number meant →
    TellsAssigned ms (linked_arcs linked) meant (value_at values number)
value_told ms linked values number meant known n =
    let told = known.each number n.numbered n.at in
    let same : numbered_meaning n.numbered ≡ meant =
    ap (assigned_meaning n.numbered.in_module n.numbered.place) n.assigns ∙ sym n.is in
    let found : told.value ≡ value_at values number = sym (ap (option_and_then (λ value. value)) told.at) in
    subst (λ o. TellsAssigned ms (linked_arcs linked) meant o) found
    (subst (λ m. TellsAssigned ms (linked_arcs linked) m told.value) same told.tells)

-- a value that is there is the one, and there is none but it
pub exactly : (ms : List ModuleTerm) (names : NamedArcs) (meant : Meaning) (found : Option TypedValue)
    (value : TypedValue) → found ≡ Some value → TellsAssigned ms names meant found → AssignsValue ms names meant value
exactly ms names meant found value is told = subst (λ o. TellsAssigned ms names meant o) is told

pub none_assigned : (ms : List ModuleTerm) (names : NamedArcs) (meant : Meaning) (found : Option TypedValue) →
    found ≡ None → TellsAssigned ms names meant found → (value : TypedValue) → ¬ AssignsValue ms names meant value
none_assigned ms names meant found is told = subst (λ o. TellsAssigned ms names meant o) is told

-- ---- what is held

stands_at : (o : Option (Option TypedValue)) (value : TypedValue) → option_and_then (λ x. x) o ≡ Some value →
    o ≡ Some (Some value)
stands_at None value is = absurd (cc)
stands_at (Some x) value is = ap Some is

pub held_one : (ms : List ModuleTerm) (linked : Linked) (values : Values) (name : LinkedName) (number : ℕ)
    (value : TypedValue) → value_at values number ≡ Some value →
    TellsAssigned ms (linked_arcs linked) (linked_meaning ms name.meaning) (value_at values number) →
    TellsHeld ms linked values (Some name) (One number)
held_one ms linked values name number value is told = (
  value,
  stands_at (slice_get values number) value is,
  exactly ms (linked_arcs linked) (linked_meaning ms name.meaning) (value_at values number) value is told,
)

pub held_none : (ms : List ModuleTerm) (linked : Linked) (values : Values) (name : LinkedName) (number : ℕ) →
    value_at values number ≡ None →
    TellsAssigned ms (linked_arcs linked) (linked_meaning ms name.meaning) (value_at values number) →
    TellsHeld ms linked values (Some name) NoValue
held_none ms linked values name number is told =
    none_assigned ms (linked_arcs linked) (linked_meaning ms name.meaning) (value_at values number) is told
