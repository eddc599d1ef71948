-- PassingLaws: a type denotes what the constraints at its names leave of the syntax at their end, and has its nodes
-- (X.680, sections 16 and 49 to 51).
use Rattle.std.proofs.Common.{◌≡◌, ℕ, List, [], ◌∷◌, ◌++◌, Option, None, Some, refl, sym, ap, ◌∙◌, subst}
use Rattle.std.specs.Prelude.{slice_get}
use Rattle.token_grammar.specs.declared.token.Token.{Token}
use Rattle.term_values.specs.Syntaxes.{TypeSyntax}
use Rattle.asn1_names.specs.ModuleTerms.{LimitTerm, TypeTerm, AssignmentTerm, ModuleTerm}
use Rattle.asn1_names.specs.ModuleTerms.TypeTerm.{Reference}
use Rattle.asn1_names.specs.Containment.{ContainsType, IsCyclic}
use Rattle.asn1_names.specs.Containment.ContainsType.{directly, through}
use Rattle.asn1_names.specs.DenotedSyntax.{Denotes}
use Rattle.asn1_names.specs.DenotedSyntax.Denotes.{named, standard}
use Rattle.asn1_names.specs.FirstModuleFault.{AreFaultless}
use Rattle.asn1_names.specs.FirstModuleFault.FaultKind.{TypeCyclic}
use Rattle.asn1_names.specs.NameMeaning.{reference_meaning, type_at, assigned_type}
use Rattle.asn1_names.specs.NameMeaning.Meaning.{TypeAt, StandardType}
use Rattle.asn1_names.specs.NodeCount.{HasNodes, IsNoType}
use Rattle.asn1_names.specs.NodeCount.HasNodes.{named as nodes_named, cyclic as nodes_cyclic}
use Rattle.asn1_names.specs.NodeCount.HasNodes.{standard as nodes_standard, unknown as nodes_unknown}
use Rattle.asn1_names.specs.PassedNames.{Passed, Passes, Returns, passed_type}
use Rattle.asn1_names.specs.PassedNames.Passes.{arrived, further}
use Rattle.asn1_names.specs.PassedNames.Returns.{no_more, another}
use Rattle.asn1_names.proofs.OneNumber.{at_type, not_both, same_types}

-- ---- no type of modules without faults contains itself

record Placed (ms : List ModuleTerm) (m i : ℕ) : Type 0 where
  in_module : ModuleTerm
  module_at : slice_get ms m ≡ Some in_module
  assignment : AssignmentTerm
  stands : slice_get in_module.assignments i ≡ Some assignment

placed_in : (ms : List ModuleTerm) (m i : ℕ) (x : ModuleTerm) (found : Option AssignmentTerm) (of : TypeTerm) →
    slice_get ms m ≡ Some x → slice_get x.assignments i ≡ found → assigned_type found ≡ Some of → Placed ms m i
placed_in ms m i x None of at is e = absurd (cc)
placed_in ms m i x (Some a) of at is e = record { in_module = x; module_at = at; assignment = a; stands = is }

none_some : (of : TypeTerm) → None ≡ Some of → ⊥
none_some of h = absurd (cc)

placed_by : (ms : List ModuleTerm) (m i : ℕ) (found : Option ModuleTerm) (of : TypeTerm) → slice_get ms m ≡ found →
    type_at ms m i ≡ Some of → Placed ms m i
unfolding type_at
placed_by ms m i None of at e = absurd (none_some of (sym (ap (λ f. elim f as (λ _. Option TypeTerm) [
  | None ↦ None
  | Some x ↦ assigned_type (slice_get x.assignments i)
]) at) ∙ e))
placed_by ms m i (Some x) of at e = placed_in ms m i x (slice_get x.assignments i) of at refl
    (sym (ap (λ f. elim f as (λ _. Option TypeTerm) [
      | None ↦ None
      | Some y ↦ assigned_type (slice_get y.assignments i)
    ]) at) ∙ e)

first_type : {ms : List ModuleTerm} {m i v j : ℕ} → ContainsType ms m i v j →
    (of : TypeTerm) × (type_at ms m i ≡ Some of)
first_type (directly {of = of} e names) = (of, e)
first_type (through c e names) = first_type c

pub acyclic : (ms : List ModuleTerm) (v i : ℕ) → AreFaultless ms → ¬ IsCyclic ms v i
acyclic ms v i sound = λ cyclic.
    let first = first_type cyclic in
    let placed = placed_by ms v i (slice_get ms v) first.0 refl first.1 in
    sound TypeCyclic placed.in_module.document placed.assignment.name.at (record {
      m = v;
      in_module = placed.in_module;
      is_in = record { module_at = placed.module_at; numbered = refl };
      i = i;
      assignment = placed.assignment;
      stands = placed.stands;
      cyclic = cyclic;
      at = refl;
    })

-- ---- the type that is named has the nodes of the name

pub named_nodes : {ms : List ModuleTerm} {m n v i : ℕ} {module_name : Option Token} {name : Token}
    {limits : List LimitTerm} {of : TypeTerm} → AreFaultless ms →
    reference_meaning ms m module_name name ≡ TypeAt v i of → HasNodes ms m (Reference module_name name limits) n →
    HasNodes ms v of n
named_nodes {ms = ms} {n = n} {v = v} {i = i} {of = of} sound e (nodes_named {v = w} {i = j} {of = its} f unless h) =
    at_type (λ x y. HasNodes ms x y n) v w of its (same_types _ v i w j of its e f) h
named_nodes {ms = ms} sound e (nodes_cyclic {v = w} {i = j} f cyclic) = absurd (acyclic ms w j sound cyclic)
named_nodes {v = v} {i = i} {of = of} sound e (nodes_standard {syntax = its} f count) =
    absurd (not_both _ v i of its e f)
named_nodes sound e (nodes_unknown no_type) = absurd (subst IsNoType e no_type)

pub passed_nodes : {ms : List ModuleTerm} {m n v : ℕ} {of end : TypeTerm} {path : List Passed} → AreFaultless ms →
    Passes ms m of path v end → HasNodes ms m of n → HasNodes ms v end n
passed_nodes sound arrived h = h
passed_nodes sound (further e rest) h = passed_nodes sound rest (named_nodes sound e h)

-- ---- one more name is passed

pub passes_more : {ms : List ModuleTerm} {m v i : ℕ} {of named : TypeTerm} {path : List Passed} (x : Passed) →
    Passes ms m of path x.home (passed_type x) → reference_meaning ms x.home x.module_name x.name ≡ TypeAt v i named →
    Passes ms m of (path ++ x ∷ []) v named
passes_more x arrived e = further e arrived
passes_more x (further f rest) e = further f (passes_more x rest e)

-- ---- what is denoted at the end, and what the constraints on the way back leave of it

pub passed_denotes : {ms : List ModuleTerm} {m v : ℕ} {of end : TypeTerm} {path : List Passed}
    {before after : TypeSyntax} → Passes ms m of path v end → Denotes ms v end before → Returns ms path before after →
    Denotes ms m of after
passed_denotes arrived d no_more = d
passed_denotes (further e rest) d (another back c) = named e (passed_denotes rest d back) c

pub passed_standard : {ms : List ModuleTerm} {m : ℕ} {of : TypeTerm} {path : List Passed} (x : Passed)
    {before after : TypeSyntax} → Passes ms m of path x.home (passed_type x) →
    reference_meaning ms x.home x.module_name x.name ≡ StandardType before →
    Returns ms (path ++ x ∷ []) before after → Denotes ms m of after
passed_standard x arrived e (another no_more c) = standard e c
passed_standard x (further f rest) e (another back c) = named f (passed_standard x rest e back) c
