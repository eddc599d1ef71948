-- TextLaws: each text of DEFAULT beside the syntax of a name in linked parts, and the text of a value that it has, is
-- told by the tree of a text (X.680, sections 17.7 and 25.1).
use Rattle.std.proofs.Common.{◌≡◌, ◌∙◌, ℕ, List, Option, None, Some, ap, refl, subst}
use Rattle.std.specs.Prelude.{slice_get}
use Rattle.token_grammar.specs.Form.{Tree}
use Rattle.asn1_syntax.specs.declared.module.Module.{Module}
use Rattle.asn1_names.specs.DefaultTexts.{HasDefault}
use Rattle.asn1_names.specs.DefaultTexts.HasDefault.{alternative, component, element, here, named as by_name}
use Rattle.asn1_names.specs.DefaultTexts.HasDefault.{tagged as in_tag}
use Rattle.asn1_names.specs.ModuleTerms.{AssignedTerm, AssignmentTerm, ModuleTerm, TypeTerm}
use Rattle.asn1_names.specs.ModuleTerms.AssignedTerm.{AssignsType, AssignsValue}
use Rattle.asn1_names.specs.NameMeaning.{Meaning, assigned_meaning, assigned_type, type_at}
use Rattle.asn1_names.specs.NameMeaning.Meaning.{Nothing, StandardType, TypeAt, ValueAt}
use Rattle.asn1_names.specs.ResolvedTypes.{HasDefaultText}
use Rattle.asn1_names.specs.ResolvedTypes.HasDefaultText.{of_type, of_value}
use Rattle.asn1_names.specs.TermViews.{assignment_term, module_term, module_terms}
use Rattle.asn1_numbers.proofs.HeldLaws.{get_mapped}
use Rattle.asn1_numbers.proofs.MeantLaws.{reference_type}
use Rattle.meant_names.proofs.TextTrees.{AssignedTold, IsTold, TypeTold, assigned_told, member_told}

-- ---- what modules assign

-- each assignment of the modules has told texts
abbrev pub AreAllTold : List ModuleTerm → Type 0
AreAllTold ms = (m i : ℕ) (x : ModuleTerm) (a : AssignmentTerm) → slice_get ms m ≡ Some x →
    slice_get x.assignments i ≡ Some a → AssignedTold a.assigned

pub all_told : (modules : List Module) → AreAllTold (module_terms modules)
all_told modules m i x a at stands =
    let home = get_mapped module_term modules m x at in
    let own : slice_get (module_term home.0).assignments i ≡ Some a =
    ap (λ (y : ModuleTerm). slice_get y.assignments i) home.2 ∙ stands in
    let found = get_mapped assignment_term home.0.assignments.items i a own in
    subst (λ (y : AssignmentTerm). AssignedTold y.assigned) found.2 (assigned_told found.0.assigned)

-- so have the types that are assigned
type_there : (ms : List ModuleTerm) → AreAllTold ms → (m i : ℕ) (of : TypeTerm) → type_at ms m i ≡ Some of →
    TypeTold of
unfolding type_at
type_there ms all m i of is = by (slice_get ms m) refl is
  where
    assigns : (assigned : AssignedTerm) → AssignedTold assigned → (elim assigned as (λ _. Option TypeTerm) [
      | AssignsType its ↦ Some its
      | AssignsValue its number text ↦ None
    ]) ≡ Some of → TypeTold of
    assigns (AssignsType its) told e = subst TypeTold (same e) told
      where
        same : {one other : TypeTerm} → Some one ≡ Some other → one ≡ other
        same e = cc
    assigns (AssignsValue its number text) told e = absurd (cc)

    in_module : (x : ModuleTerm) → slice_get ms m ≡ Some x → (found : Option AssignmentTerm) →
        slice_get x.assignments i ≡ found → assigned_type found ≡ Some of → TypeTold of
    in_module x at None stands e = absurd (cc)
    in_module x at (Some a) stands e = assigns a.assigned (all m i x a at stands) e

    by : (found : Option ModuleTerm) → slice_get ms m ≡ found → (elim found as (λ _. Option TypeTerm) [
      | None ↦ None
      | Some x ↦ assigned_type (slice_get x.assignments i)
    ]) ≡ Some of → TypeTold of
    by None at e = absurd (cc)
    by (Some x) at e = in_module x at (slice_get x.assignments i) refl e

-- ---- texts of DEFAULT

default_told : {ms : List ModuleTerm} {m v : ℕ} {of : TypeTerm} {path : List ℕ} {text : Tree} → AreAllTold ms →
    HasDefault ms m of path v text → TypeTold of → IsTold text
default_told all (here is) told = (member_told is told).1
default_told all (component is h) told = default_told all h (member_told is told).0
default_told all (alternative is h) told = default_told all h (member_told is told).0
default_told all (in_tag h) told = default_told all h told
default_told all (element h) told = default_told all h told
default_told {ms = ms} {m = m} all (by_name {v = v} {i = i} {module_name = module_name} {name = name} {of = of} e h)
    told =
    default_told all h (type_there ms all v i of (reference_type ms m v i module_name name of e))

-- what a meaning has has told texts
abbrev pub MeaningTold : Meaning → Type 0
MeaningTold (TypeAt m i of) = TypeTold of
MeaningTold (ValueAt m i of number text) = TypeTold of × IsTold text
MeaningTold (StandardType syntax) = Unit {0}
MeaningTold Nothing = Unit {0}

pub assigned_meaning_told : (m i : ℕ) (assigned : AssignedTerm) → AssignedTold assigned →
    MeaningTold (assigned_meaning m i assigned)
assigned_meaning_told m i (AssignsType of) told = told
assigned_meaning_told m i (AssignsValue of number text) told = told

pub text_is_told : {ms : List ModuleTerm} {meant : Meaning} {path : List ℕ} {v : ℕ} {text : Tree} → AreAllTold ms →
    MeaningTold meant → HasDefaultText ms meant path v text → IsTold text
text_is_told all told (of_type h) = default_told all h told
text_is_told all told (of_value h) = default_told all h told.0
