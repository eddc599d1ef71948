-- DefaultLaws: where nothing is wrong with the classes, each text of DEFAULT beside the syntax of what a linked name
-- means denotes a value (X.680, section 25; docs/PROFILE.md, sections 11 and 18).
use Rattle.std.proofs.Common.{◌≡◌, ℕ, List, [], Option, None, Some, refl, slice_get}
use Rattle.token_grammar.specs.Form.{Tree}
use Rattle.term_values.specs.Syntaxes.{TypeSyntax}
use Rattle.asn1_names.specs.DefaultTexts.{HasDefault}
use Rattle.asn1_names.specs.DefaultTexts.HasDefault.{alternative, component, element, here, named as by_name}
use Rattle.asn1_names.specs.DefaultTexts.HasDefault.{tagged as in_tag}
use Rattle.asn1_names.specs.ModuleTerms.{AssignedTerm, AssignmentTerm, ModuleTerm, TypeTerm}
use Rattle.asn1_names.specs.ModuleTerms.AssignedTerm.{AssignsType, AssignsValue}
use Rattle.asn1_names.specs.NameMeaning.{Meaning, assigned_meaning, assigned_type, standard_meaning, type_at}
use Rattle.asn1_names.specs.ResolvedTypes.{HasDefaultText}
use Rattle.asn1_names.specs.ResolvedTypes.HasDefaultText.{of_type, of_value}
use Rattle.asn1_names.specs.StandardModule.{standard_type}
use Rattle.asn1_leaf_values.specs.Arcs.{NamedArcs}
use Rattle.asn1_numbers.proofs.MeantLaws.{reference_type}
use Rattle.linked_parts.specs.declared.linked.Linked.{Linked}
use Rattle.linked_parts.specs.declared.linked.NamedMeaning.{NamedMeaning}
use Rattle.linked_parts.specs.declared.linked.NamedMeaning.TheVariants.{Assigned, Standard}
use Rattle.filled_syntaxes.specs.FilledSyntaxes.{HasFilled, texts_beside}
use Rattle.filled_syntaxes.specs.LinkedMeanings.{assignment_meaning, linked_arcs, linked_meaning, meaning_in}
use Rattle.filled_syntaxes.specs.LinkedMeanings.{meaning_of_assignment}
use Rattle.class_faults.specs.BadValues.BadValueAt.{of_default}
use Rattle.class_faults.specs.FirstClassFault.{AreFaultless}
use Rattle.class_faults.specs.FirstClassFault.ClassFault.{ValueBad}
use Rattle.alike_laws.proofs.FilledAlike.{IsSaid}
use Rattle.alike_laws.proofs.TextPaths.{AreEachAt}

-- ---- the module of a text

-- a module stands at this place
abbrev IsHome : List ModuleTerm → ℕ → Type 0
IsHome ms m = (x : ModuleTerm) × (slice_get ms m ≡ Some x)

type_home : (ms : List ModuleTerm) (m i : ℕ) (of : TypeTerm) → type_at ms m i ≡ Some of → IsHome ms m
unfolding type_at
type_home ms m i of is = by (slice_get ms m) refl is
  where
    by : (found : Option ModuleTerm) → slice_get ms m ≡ found → (elim found as (λ _. Option TypeTerm) [
      | None ↦ None
      | Some x ↦ assigned_type (slice_get x.assignments i)
    ]) ≡ Some of → IsHome ms m
    by None at e = absurd (cc)
    by (Some x) at e = (x, at)

default_home : {ms : List ModuleTerm} {m v : ℕ} {of : TypeTerm} {path : List ℕ} {text : Tree} → IsHome ms m →
    HasDefault ms m of path v text → IsHome ms v
default_home home (here is) = home
default_home home (component is h) = default_home home h
default_home home (alternative is h) = default_home home h
default_home home (in_tag h) = default_home home h
default_home home (element h) = default_home home h
default_home {ms = ms} {m = m} home (by_name {v = v} {i = i} {module_name = module_name} {name = name} {of = of} e h) =
    default_home (type_home ms v i of (reference_type ms m v i module_name name of e)) h

-- a text that stands beside what an assignment gives
assigned_home : {ms : List ModuleTerm} (m i : ℕ) (assigned : AssignedTerm) {path : List ℕ} {v : ℕ} {text : Tree} →
    IsHome ms m → HasDefaultText ms (assigned_meaning m i assigned) path v text → IsHome ms v
assigned_home m i (AssignsType of) home (of_type h) = default_home home h
assigned_home m i (AssignsValue of number text) home (of_value h) = default_home home h

text_home : (ms : List ModuleTerm) (m i : ℕ) (path : List ℕ) (v : ℕ) (text : Tree) →
    HasDefaultText ms (assignment_meaning ms m i) path v text → IsHome ms v
text_home ms m i path v text stands = by (slice_get ms m) refl stands
  where
    in_module : (x : ModuleTerm) → slice_get ms m ≡ Some x → (found : Option AssignmentTerm) →
        HasDefaultText ms (meaning_of_assignment m i found) path v text → IsHome ms v
    in_module x at None h = elim h [ ]
    in_module x at (Some a) h = assigned_home m i a.assigned (x, at) h

    by : (found : Option ModuleTerm) → slice_get ms m ≡ found → HasDefaultText ms (meaning_in m i found) path v text →
        IsHome ms v
    by None at h = elim h [ ]
    by (Some x) at h = in_module x at (slice_get x.assignments i) h

-- beside a type of CMIP-1 stands none
no_text : {ms : List ModuleTerm} (found : Option TypeSyntax) {path : List ℕ} {v : ℕ} {text : Tree} →
    HasDefaultText ms (standard_meaning found) path v text → ⊥
no_text None there = elim there [ ]
no_text (Some syntax) there = elim there [ ]

-- ---- each text denotes a value

-- a syntax that a meaning has, with the values of its DEFAULTs, each of which has one
pub record HasSaid (ms : List ModuleTerm) (names : NamedArcs) (meant : Meaning) (syntax : TypeSyntax) : Type 0 where
  pub filled : HasFilled ms names meant syntax
  pub said : AreEachAt (IsSaid names) (texts_beside ms meant) [] syntax

pub linked_said : (ms : List ModuleTerm) (linked : Linked) → AreFaultless ms linked → (meaning : NamedMeaning)
    (syntax : TypeSyntax) → HasFilled ms (linked_arcs linked) (linked_meaning ms meaning) syntax →
    HasSaid ms (linked_arcs linked) (linked_meaning ms meaning) syntax
linked_said ms linked faultless (Assigned m i) syntax has = record {
  filled = has;
  said = λ path part is text there at bad.
      let home = text_home ms m i path there.0 text there.1 in
      faultless ValueBad home.0.document at (of_default (record {
        m = m;
        i = i;
        syntax = syntax;
        has = has;
        path = path;
        component = part;
        is_part = is;
        v = there.0;
        text = text;
        stands = there.1;
        is_of = (home.0, home.1, refl);
        none = bad;
      }));
}
linked_said ms linked faultless (Standard name) syntax has = record {
  filled = has;
  said = λ path part is text there at bad. no_text (standard_type name.text) there.1;
}
