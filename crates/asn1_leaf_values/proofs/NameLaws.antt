-- A table of first names keeps the first of what is told of a name.
use Rattle.std.specs.Prelude.{◌≡◌, ◌==◌, ℕ, List, [], Bool, true, false, Option, None, Some, refl}
use Rattle.std.specs.Prelude.{if◌then◌else◌}
use Rattle.std.specs.Cmp.Lexicographic.{pointwise, same_text}
use Rattle.std.specs.Borrow.{Bor}
use Rattle.std.specs.Map.{lookup}
use Rattle.indexmap.specs.IndexMap.{IndexMap}
use Rattle.std.proofs.Common.{ap, sym, ◌∙◌}
use Rattle.asn1_leaf_values.specs.Arcs.{NamedArcs, no_names}
use Rattle.asn1_leaf_values.specs.FirstNames.{arcs_named, first_of, with_name}

pub first_none : (x : Option (List ℕ)) → first_of x None ≡ x
first_none None = refl
first_none (Some x) = refl

-- a table that had nothing under a name, and has it now
pub name_kept : (before after : NamedArcs) (key value : List ℕ) → before key ≡ None →
    ((name : List ℕ) → after name ≡ (if pointwise ◌==◌ key name then Some value else before name)) →
    (name : List ℕ) → after name ≡ with_name before key value name
name_kept before after key value new updated name = updated name ∙ by (pointwise ◌==◌ key name) refl
  where
    by : (same : Bool) → pointwise ◌==◌ key name ≡ same → (if same then Some value else before name) ≡
        first_of (before name) (if same then Some value else None)
    by true same = sym (ap (λ x. first_of x (Some value)) (ap before (sym (same_text key name (sym same))) ∙ new))
    by false same = sym (first_none (before name))

-- a table without names has arcs for none
pub empty_named : {S : Type 0} (table : IndexMap (Bor (List ℕ)) (List ℕ) S) → table.entries ≡ [] →
    arcs_named table ≡ no_names
empty_named table is = λ i name. ap (λ es. lookup (λ key. pointwise ◌==◌ name key.now) es) is i
