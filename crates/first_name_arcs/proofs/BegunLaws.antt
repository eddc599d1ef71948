-- BegunLaws: the assignment that is the first to define a name, where something begins with it; and what is told of the
-- arcs that an assignment gives.
use Rattle.std.proofs.Common.{◌≡◌, ◌∙◌, ◌⊎◌, ℕ, List, Bool, true, false, Option, None, Some, refl, sym, ap, inl, inr}
use Rattle.std.proofs.Common.{subst, get_or}
use Rattle.std.specs.Prelude.{◌≢◌, IfNone, IfSome, option_map, slice_get}
use Rattle.std.proofs.lemmas.Bool.{false≢true}
use Rattle.std.proofs.lemmas.Option.{none-some, slice_get-map}
use Rattle.token_grammar.specs.declared.token.Token.{Token}
use Rattle.asn1_syntax.specs.declared.module.Module.{Module}
use Rattle.asn1_names.specs.AssignmentNumbers.{Numbered, numbered_at}
use Rattle.asn1_names.specs.CodeMeanings.{IsAssignment}
use Rattle.asn1_names.specs.ModuleTerms.{AssignmentTerm}
use Rattle.asn1_names.specs.TermViews.{module_term, module_terms}
use Rattle.key_numbers.specs.NumberedLists.{IsList, Row}
use Rattle.gdmo_first_names.specs.DefinedNames.{DefinesAt, DefinesFirstAt, TellsDefined}
use Rattle.gdmo_first_names.specs.ReadModules.{HasModules}
use Rattle.gdmo_first_names.proofs.DefinedLaws.{defined_named}
use Rattle.gdmo_first_names.proofs.NameSteps.{own_numbered}
use Rattle.gdmo_first_names.proofs.OwnLaws.{stands_in}
use Rattle.gdmo_first_names.proofs.TextLaws.{arcs_there, read_terms, term_arcs}
use Rattle.gdmo_names.specs.BegunNames.{BeginsOne}
use Rattle.gdmo_names.specs.DoubleNames.{ValueHasArcs}
use Rattle.gdmo_names.specs.FirstNames.{DefinesName, root_arc}
use Rattle.gdmo_names.specs.PartTerms.{PartTerms, arcs_at, module_terms_of}
use Rattle.gdmo_names.specs.TemplateTerms.{IdentifierTerm}
use Rattle.identifier_arcs.specs.KnownArcs.{TellsArcs, TellsSaid}
use Rattle.first_name_arcs.specs.BegunFirst.{AreBegun, TellsBegun}
use Rattle.first_name_arcs.specs.GivenArcs.{Given}
use Rattle.first_name_arcs.specs.UnequalNames.{IsGiven, TellsGiven}
use Rattle.first_name_arcs.proofs.UnequalLaws.{one_name_first}

-- ---- the assignment of a name

pub marked_told : (parts : PartTerms) (name : List ℕ) (number : ℕ) (begun : List Bool) → AreBegun parts begun →
    DefinesFirstAt parts name number → get_or begun number false ≡ true → TellsBegun parts name (Some number)
marked_told parts name number begun are f marked =
    let b = (are number).0 marked in
    (f, subst (BeginsOne parts) (one_name_first parts b.name name number b.defines f) b.begins)

pub unmarked_told : (parts : PartTerms) (name : List ℕ) (number : ℕ) (begun : List Bool) → AreBegun parts begun →
    DefinesFirstAt parts name number → get_or begun number false ≡ false → TellsBegun parts name None
unmarked_told parts name number begun are f unmarked = λ no_root begins m i d.
    false≢true (sym unmarked ∙ (are number).1 (record { name = name; defines = f; begins = begins }))

pub undefined_told : (parts : PartTerms) (name : List ℕ) → TellsDefined parts name None → TellsBegun parts name None
undefined_told parts name none = λ no_root begins m i d. none no_root m i d

-- ---- the arcs of a value

-- a value that has arcs is told with their list
pub arcs_told : (parts : PartTerms) (row : Row) (m i : ℕ) (list : Option ℕ) (arcs : List ℕ) →
    TellsSaid parts row (arcs_at parts m i) list → ValueHasArcs parts m i arcs → list ≡ None → ⊥
arcs_told parts row m i list arcs tells has none =
    subst (TellsArcs parts row has.text) none
    (subst (λ said. TellsSaid parts row said list) has.reads tells) arcs has.has

-- what a list that is told is that of
pub record HasList (parts : PartTerms) (row : Row) (m i n : ℕ) : Type 0 where
  pub arcs : List ℕ
  pub list : IsList row n arcs
  pub has : ValueHasArcs parts m i arcs

pub list_told : (parts : PartTerms) (row : Row) (m i n : ℕ) (said : Option (Option IdentifierTerm)) →
    arcs_at parts m i ≡ said → said ≢ None → TellsSaid parts row said (Some n) → HasList parts row m i n
list_told parts row m i n None is some tells = absurd (some refl)
list_told parts row m i n (Some None) is some tells = absurd (none-some n (sym tells))
list_told parts row m i n (Some (Some x)) is some tells =
    record { arcs = tells.0; list = tells.1; has = record { text = x; reads = is; has = tells.2 } }

-- the value of an assignment, of which a list is told
pub value_said : (parts : PartTerms) (modules : List Module) (row : Row) (number : ℕ) (x : Numbered) (list : ℕ) →
    HasModules parts modules → numbered_at (module_terms_of parts) number ≡ Some x →
    TellsSaid parts row (arcs_at parts x.in_module x.place) (Some list) → HasList parts row x.in_module x.place list
value_said parts modules row number x list has at tells =
    let said = arcs_there parts modules number x has at in
    list_told parts row x.in_module x.place list (Some (term_arcs x.assignment.assigned)) said
    (λ none. none-some _ (sym none)) (subst (λ s. TellsSaid parts row s (Some list)) said tells)

-- ---- the arcs that a definer gives

-- what is told of a definer, and from what
module _ (parts : PartTerms) (row : Row) (modules : List Module) (number home : ℕ) (a : AssignmentTerm) (name : Token)
    (text : Module) (has : HasModules parts modules) (is : IsAssignment (module_terms modules) number home a)
    (is_named : a.name ≡ name) (home_at : slice_get modules home ≡ Some text) (first list : Option ℕ)
    (tells : (x : Numbered) → numbered_at (module_terms_of parts) number ≡ Some x →
    TellsSaid parts row (arcs_at parts x.in_module x.place) list) (begun : TellsBegun parts name.text first) where
  own_token : (x : Numbered) → numbered_at (module_terms_of parts) number ≡ Some x → x.assignment.name ≡ name
  own_token x at = ap (λ (y : AssignmentTerm). y.name) (own_numbered parts modules number home a has is x at).1 ∙ is_named

  own_text : (key : List ℕ) → DefinesAt parts key number → key ≡ name.text
  own_text key d = sym (defined_named parts key number d) ∙ ap (λ (t : Token). t.text) (own_token d.numbered d.at)

  nothing_given : (first ≡ None) ⊎ (list ≡ None) → TellsGiven parts row number None
  nothing_given (inl none) key arcs d begins stands =
      let same = own_text key d in
      subst (TellsBegun parts name.text) none begun (subst (λ n. root_arc n ≡ None) same d.no_root)
      (subst (BeginsOne parts) same begins) d.numbered.in_module d.numbered.place
      (subst (λ n. DefinesName parts n d.numbered.in_module d.numbered.place) same d.defines)
  nothing_given (inr none) key arcs d begins stands =
      arcs_told parts row d.numbered.in_module d.numbered.place list arcs (tells d.numbered d.at) stands none

  home_is : (x : Numbered) → numbered_at (module_terms_of parts) number ≡ Some x →
      slice_get (module_terms_of parts) x.in_module ≡ Some (module_term text)
  home_is x at = ap (λ ms. slice_get ms x.in_module) (read_terms parts modules has) ∙
      ap (slice_get (module_terms modules)) (own_numbered parts modules number home a has is x at).0 ∙
      slice_get-map module_term modules home ∙ ap (option_map module_term) home_at

  is_given : (key : List ℕ) → DefinesAt parts key number → (own : Given) → first ≡ Some own.first →
      list ≡ Some own.list → own.document ≡ text.document → own.name.now ≡ name → IsGiven parts row number own
  is_given key d own is_first is_list document token =
      let x = d.numbered in
      let b : TellsBegun parts name.text (Some own.first) = subst (TellsBegun parts name.text) is_first begun in
      let same = own_text key d in
      let l = value_said parts modules row number x own.list has d.at
      (subst (TellsSaid parts row (arcs_at parts x.in_module x.place)) is_list (tells x d.at)) in record {
        name = key;
        defines = d;
        begins = subst (BeginsOne parts) (sym same) b.1;
        is_first = subst (λ n. DefinesFirstAt parts n own.first) (sym same) b.0;
        arcs = l.arcs;
        list = l.list;
        has = l.has;
        home = module_term text;
        home_at = home_is x d.at;
        is_in = sym document;
        is_named = own_token x d.at ∙ sym token;
      }

  pub given_told : (key : List ℕ) → DefinesAt parts key number → (result : Option Given) →
      IfNone result ((first ≡ None) ⊎ (list ≡ None)) → IfSome result (λ own. (first ≡ Some own.first)
      × (list ≡ Some own.list) × (own.document ≡ text.document) × (own.name.now ≡ name)) →
      TellsGiven parts row number result
  given_told key d None none some = nothing_given none
  given_told key d (Some own) none some = is_given key d own some.0 some.1 some.2 some.3

-- no assignment has the number
pub no_definer : (parts : PartTerms) (modules : List Module) (number : ℕ) (key : List ℕ) (P : Type 0) →
    HasModules parts modules → numbered_at (module_terms modules) number ≡ None → DefinesAt parts key number → P
no_definer parts modules number key P has none d = absurd (none-some d.numbered
    (sym none ∙ ap (λ ms. numbered_at ms number) (sym (read_terms parts modules has)) ∙ d.at))

-- or its module isn't there
pub no_home : (parts : PartTerms) (modules : List Module) (number home : ℕ) (a : AssignmentTerm) (P : Type 0) →
    IsAssignment (module_terms modules) number home a → slice_get modules home ≡ None → P
no_home parts modules number home a P is none =
    let there = stands_in (module_terms modules) number is.numbered is.at in
    absurd (none-some there.0 (sym (slice_get-map module_term modules home ∙ ap (option_map module_term) none) ∙
    ap (slice_get (module_terms modules)) (sym is.module_is) ∙ there.1))
