-- ThingsLaws: what names mean in the modules that are kept, and which value a text denotes there (X.680, sections 13.1 and
-- 32).
use Rattle.std.proofs.Common.{◌≡◌, ◌∙◌, ◌+◌, ◌<◌, ◌^◌, ◌≢◌, ℕ, zero, suc, List, [], ◌∷◌, Option, None, Some, refl, sym, ap, map}
use Rattle.std.specs.Prelude.{◌==◌, slice_get, unwrap_or, if◌then◌else◌}
use Rattle.std.specs.Cmp.Lexicographic.{pointwise}
use Rattle.std.proofs.Math.Path.{subst}
use Rattle.token_grammar.specs.Form.{Tree}
use Rattle.term_values.specs.Syntaxes.{TypeSyntax}
use Rattle.term_values.specs.Typed.{TypedValue}
use Rattle.asn1_values_syntax.specs.ValueTrees.{value_tree}
use Rattle.asn1_values_syntax.specs.declared.value.ValueText.{ValueText}
use Rattle.asn1_syntax.specs.declared.module.Assigned.TheVariants.{OfType, OfValue}
use Rattle.asn1_syntax.specs.declared.module.Assignment.{Assignment}
use Rattle.asn1_syntax.specs.declared.module.Module.{Module}
use Rattle.asn1_syntax.specs.declared.type_text.TypeText.{TypeText}
use Rattle.asn1_names.specs.AssignmentNumbers.{numbered_at}
use Rattle.asn1_names.specs.CodeMeanings.{IsTypeNumber, IsValueNumber}
use Rattle.asn1_names.specs.ModuleTerms.{AssignmentTerm, ModuleTerm}
use Rattle.asn1_names.specs.NameMeaning.{assigned_meaning}
use Rattle.asn1_names.specs.NameMeaning.Meaning.{Nothing}
use Rattle.asn1_names.specs.TermViews.{assigned_term, assignment_term, module_term, module_terms, type_term, value_number}
use Rattle.asn1_numbers.proofs.HeldLaws.{get_map}
use Rattle.asn1_leaf_values.specs.Arcs.{NamedArcs, where_arcs}
use Rattle.asn1_leaf_values.specs.FirstNames.{arcs_named}
use Rattle.asn1_leaf_values.specs.Literals.{same_name}
use Rattle.asn1_leaf_values.specs.TextValues.{first_place, said}
use Rattle.asn1_values.specs.Filters.{value_named}
use Rattle.asn1_values.specs.declared.value_refusal.ValueRefusal.{ValueRefusal}
use Rattle.asn1_values.specs.declared.value_refusal.ValueRefusal.TheVariants.{BadValue, Memory}
use Rattle.linked_parts.specs.declared.linked.Linked.{Linked}
use Rattle.filled_syntaxes.specs.KnownThings.{AreFirstNumbers, AreNamedThings}
use Rattle.filled_syntaxes.specs.LinkedMeanings.{assignment_meaning, linked_arcs, meaning_in, meaning_of_assignment}
use Rattle.filled_syntaxes.specs.NotedTexts.{NotesTexts, ThisText}
use Rattle.filled_syntaxes.specs.SaidTexts.{BadText, DenotesNone, DenotesValue}
use Rattle.filled_syntaxes.specs.declared.bad_texts.TextPlace.{TextPlace}
use Rattle.filled_syntaxes.specs.declared.named_things.NamedThings.{NamedThings}
use Rattle.filled_syntaxes.proofs.NamedLaws.{known_value}
use Rattle.filled_syntaxes.proofs.NotingTexts.{none_noted, noted_by}
use Rattle.filled_syntaxes.proofs.SaidLaws.{not_both, one_place}

-- ---- the value of a text

pub value_told : {ms : List ModuleTerm} {linked : Linked} {things : NamedThings} → AreNamedThings ms linked things →
    (syntax : TypeSyntax) (text : ValueText) (value : TypedValue) →
    value_named (arcs_named things.names) syntax (said text) ≡ Some value →
    DenotesValue (linked_arcs linked) syntax (value_tree text) value
value_told {linked = linked} {things = things} known syntax text value is = record {
  text = text;
  told = refl;
  denotes = sym (known_value (arcs_named things.names) (linked_arcs linked) known.names syntax (said text)) ∙ is;
}

pub none_told : {ms : List ModuleTerm} {linked : Linked} {things : NamedThings} → AreNamedThings ms linked things →
    (syntax : TypeSyntax) (text : ValueText) (at : ℕ) → value_named (arcs_named things.names) syntax (said text) ≡ None →
    at ≡ first_place text → DenotesNone (linked_arcs linked) syntax (value_tree text) at
none_told {linked = linked} {things = things} known syntax text at is place = record {
  text = text;
  told = refl;
  denotes = sym (known_value (arcs_named things.names) (linked_arcs linked) known.names syntax (said text)) ∙ is;
  begins = sym place;
}

pub good_noted : (names : NamedArcs) (syntax : TypeSyntax) (tree : Tree) (value : TypedValue) (document : ℕ)
    (before : Option TextPlace) → DenotesValue names syntax tree value →
    NotesTexts (BadText names syntax tree document) before before
good_noted names syntax tree value document before h =
    none_noted (BadText names syntax tree document) before (λ place bad. not_both names syntax tree h bad.1)

pub bad_noted : (names : NamedArcs) (syntax : TypeSyntax) (tree : Tree) (document at : ℕ)
    {before after : Option TextPlace} → DenotesNone names syntax tree at →
    NotesTexts (ThisText document at) before after → NotesTexts (BadText names syntax tree document) before after
bad_noted names syntax tree document at h n =
    noted_by (ThisText document at) (BadText names syntax tree document)
    (λ place is. (is.0, subst (DenotesNone names syntax tree) is.1 h))
    (λ place bad. (bad.0, one_place names syntax tree h bad.1)) n

-- a text that is refused denotes none
pub refused : {Denotes : Type 0} (refusal : ValueRefusal) (token at : ℕ) → refusal ≡ BadValue token →
    (refusal ≢ Memory → (refusal ≡ BadValue at) × Denotes) → (token ≡ at) × Denotes
refused refusal token at is h = let told = h (λ e. apart token (sym is ∙ e)) in (same token at (sym is ∙ told.0), told.1)
  where
    apart : (token : ℕ) → BadValue token ≡ Memory → ⊥
    apart token e = absurd (cc)

    same : (one other : ℕ) → BadValue one ≡ BadValue other → one ≡ other
    same one other e = cc

-- ---- names with which identifiers begin

pub name_set : (before after : NamedArcs) (key text : List ℕ) (value : Option (List ℕ)) (arcs items : List ℕ) →
    key ≡ text → value ≡ where_arcs arcs → arcs ≡ items →
    ((name : List ℕ) → after name ≡ (if pointwise ◌==◌ key name then value else before name)) → (name : List ℕ) →
    after name ≡ (if same_name text name then where_arcs items else before name)
name_set before after key text value arcs items same is list updated name =
    updated name ∙ ap (λ k. if pointwise ◌==◌ k name then value else before name) same ∙
    ap (λ v. if pointwise ◌==◌ text name then v else before name) (is ∙ ap where_arcs list)

-- ---- modules and their assignments

get_none : {X Y : Type 0} (f : X → Y) (xs : List X) (k : ℕ) → slice_get xs k ≡ None → slice_get (map f xs) k ≡ None
get_none f [] k is = refl
get_none f (x ∷ xs) zero is = absurd (cc)
get_none f (x ∷ xs) (suc k) is = get_none f xs k is

pub module_is : (ms : List ModuleTerm) (modules : List Module) (m : ℕ) (text : Module) → module_terms modules ≡ ms →
    slice_get modules m ≡ Some text → slice_get ms m ≡ Some (module_term text)
module_is ms modules m text is at = ap (λ xs. slice_get xs m) (sym is) ∙ get_map module_term modules m text at

pub document_is : (ms : List ModuleTerm) (modules : List Module) (m : ℕ) (text : Module) (x : ModuleTerm) →
    module_terms modules ≡ ms → slice_get modules m ≡ Some text → slice_get ms m ≡ Some x → text.document ≡ x.document
document_is ms modules m text x is at there =
    ap (λ o. (unwrap_or o x).document) (sym (module_is ms modules m text is at) ∙ there)

pub no_module : (ms : List ModuleTerm) (modules : List Module) (m : ℕ) → module_terms modules ≡ ms →
    slice_get modules m ≡ None → slice_get ms m ≡ None
no_module ms modules m is at = ap (λ xs. slice_get xs m) (sym is) ∙ get_none module_term modules m at

pub absent_module : (ms : List ModuleTerm) (modules : List Module) (m i : ℕ) → module_terms modules ≡ ms →
    slice_get modules m ≡ None → assignment_meaning ms m i ≡ Nothing
absent_module ms modules m i is at = ap (meaning_in m i) (no_module ms modules m is at)

assignment_is : (text : Module) (i : ℕ) (found : Assignment) → slice_get text.assignments.items i ≡ Some found →
    slice_get (module_term text).assignments i ≡ Some (assignment_term found)
assignment_is text i found at = get_map assignment_term text.assignments.items i found at

pub absent_assignment : (ms : List ModuleTerm) (modules : List Module) (m i : ℕ) (text : Module) →
    module_terms modules ≡ ms → slice_get modules m ≡ Some text → slice_get text.assignments.items i ≡ None →
    assignment_meaning ms m i ≡ Nothing
absent_assignment ms modules m i text is at none_there =
    ap (meaning_in m i) (module_is ms modules m text is at) ∙
    ap (meaning_of_assignment m i) (get_none assignment_term text.assignments.items i none_there)

meant_is : (ms : List ModuleTerm) (modules : List Module) (m i : ℕ) (text : Module) (found : Assignment) →
    module_terms modules ≡ ms → slice_get modules m ≡ Some text → slice_get text.assignments.items i ≡ Some found →
    assignment_meaning ms m i ≡ assigned_meaning m i (assigned_term found.assigned)
meant_is ms modules m i text found is at there =
    ap (meaning_in m i) (module_is ms modules m text is at) ∙
    ap (meaning_of_assignment m i) (assignment_is text i found there)

-- the number of an assignment, as it is told for all assignments of modules
abbrev pub Counts : List ModuleTerm → ℕ → ℕ → ℕ → Type 0
Counts ms m i number = (x : ModuleTerm) (y : AssignmentTerm) → slice_get ms m ≡ Some x →
    slice_get x.assignments i ≡ Some y →
    numbered_at ms number ≡ Some (record { in_module = m; place = i; assignment = y })

pub type_meant : (ms : List ModuleTerm) (modules : List Module) (m i number : ℕ) (text : Module) (found : Assignment)
    (of : TypeText) → module_terms modules ≡ ms → slice_get modules m ≡ Some text →
    slice_get text.assignments.items i ≡ Some found → found.assigned ≡ OfType of → Counts ms m i number →
    IsTypeNumber ms number (assignment_meaning ms m i)
type_meant ms modules m i number text found of is at there type counts = record {
  numbered = record { in_module = m; place = i; assignment = assignment_term found };
  at = counts (module_term text) (assignment_term found) (module_is ms modules m text is at)
      (assignment_is text i found there);
  of = type_term of;
  assigns = ap assigned_term type;
  is = meant_is ms modules m i text found is at there ∙ ap (λ a. assigned_meaning m i (assigned_term a)) type;
}

pub value_meant : (ms : List ModuleTerm) (modules : List Module) (m i number : ℕ) (text : Module) (found : Assignment)
    (of : TypeText) (value : ValueText) → module_terms modules ≡ ms → slice_get modules m ≡ Some text →
    slice_get text.assignments.items i ≡ Some found → found.assigned ≡ OfValue of value → Counts ms m i number →
    IsValueNumber ms number (assignment_meaning ms m i)
value_meant ms modules m i number text found of value is at there type counts = record {
  numbered = record { in_module = m; place = i; assignment = assignment_term found };
  at = counts (module_term text) (assignment_term found) (module_is ms modules m text is at)
      (assignment_is text i found there);
  of = type_term of;
  stated = value_number value;
  text = value_tree value;
  assigns = ap assigned_term type;
  is = meant_is ms modules m i text found is at there ∙ ap (λ a. assigned_meaning m i (assigned_term a)) type;
}

pub number_told : (ms : List ModuleTerm) (numbers : List ℕ) (m i first : ℕ) (x : ModuleTerm) (y : AssignmentTerm) →
    AreFirstNumbers ms numbers → slice_get ms m ≡ Some x → slice_get x.assignments i ≡ Some y →
    slice_get numbers m ≡ Some first → (first + i < 2 ^ 64)
    × (numbered_at ms (first + i) ≡ Some (record { in_module = m; place = i; assignment = y }))
number_told ms numbers m i first x y are home at got =
    let told = are m i x y home at in
    let same : told.0 ≡ first = ap (λ o. unwrap_or o first) (sym told.1 ∙ got) in
    subst (λ n. (n + i < 2 ^ 64) × (numbered_at ms (n + i) ≡ Some (record { in_module = m; place = i; assignment = y })))
    same (told.2, told.3)

pub no_number : (ms : List ModuleTerm) (numbers : List ℕ) (m i : ℕ) (x : ModuleTerm) (y : AssignmentTerm) →
    AreFirstNumbers ms numbers → slice_get ms m ≡ Some x → slice_get x.assignments i ≡ Some y →
    slice_get numbers m ≡ None → ⊥
no_number ms numbers m i x y are home at got =
    let told = are m i x y home at in none_some told.0 (slice_get numbers m) got told.1
  where
    none_some : (n : ℕ) (o : Option ℕ) → o ≡ None → o ≡ Some n → ⊥
    none_some n o a b = absurd (cc)
