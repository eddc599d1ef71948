-- KeptLaws: a table of which each entry is kept.
use Rattle.std.proofs.Common.{◌≡◌, ◌++◌, ◌∷◌, [], ℕ, List, Some, Bool, true, false, refl, sym, subst, ◌∙◌}
use Rattle.std.proofs.lemmas.Bool.{eqb-true}
use Rattle.std.specs.Cmp.{unsigned_tied}
use Rattle.std.specs.Prelude.{cond}
use Rattle.std.specs.BTreeMap.{get, is_at}
use Rattle.std.specs.Map.{lookup}
use Rattle.std.specs.Ordering.{nat_cmp}
use Rattle.joined_statements.specs.JoinedStatements.{Attributes, Values}
use Rattle.joined_statements.specs.declared.joined.Joined.{Joined}
use Rattle.joined_properties.specs.SameTables.{AreKept, IsKept}

-- what each of these entries says the table says too
abbrev pub AreEachKept : Values → Attributes → List (ℕ × Joined) → Type 0
AreEachKept values other [] = Unit {0}
AreEachKept values other (entry ∷ entries) =
    IsKept values (Some entry.1) (get nat_cmp other entry.0) × AreEachKept values other entries

pub one_more : (values : Values) (other : Attributes) (entries : List (ℕ × Joined)) (entry : ℕ × Joined) →
    AreEachKept values other entries → IsKept values (Some entry.1) (get nat_cmp other entry.0) →
    AreEachKept values other (entries ++ entry ∷ [])
one_more values other [] entry each kept = (kept, tt)
one_more values other (first ∷ entries) entry each kept =
    (each.0, one_more values other entries entry each.1 kept)

found_kept : (values : Values) (other : Attributes) (entries : List (ℕ × Joined)) (q : ℕ) →
    AreEachKept values other entries → IsKept values (lookup (is_at (nat_cmp q)) entries) (get nat_cmp other q)
found_kept values other [] q each = tt
found_kept values other (entry ∷ entries) q each =
    by (is_at (nat_cmp q) entry.0) refl (found_kept values other entries q each.1)
  where
    by : (b : Bool) → is_at (nat_cmp q) entry.0 ≡ b →
        IsKept values (lookup (is_at (nat_cmp q)) entries) (get nat_cmp other q) →
        IsKept values (cond b (Some entry.1) (lookup (is_at (nat_cmp q)) entries)) (get nat_cmp other q)
    by true e rest =
        subst (λ n. IsKept values (Some entry.1) (get nat_cmp other n))
        (sym (eqb-true q entry.0 (sym (unsigned_tied q entry.0) ∙ e))) each.0
    by false e rest = rest

pub all_kept : (values : Values) (one other : Attributes) (entries : List (ℕ × Joined)) → entries ≡ one.entries →
    AreEachKept values other entries → AreKept values one other
all_kept values one other entries all each q =
    subst (λ (xs : List (ℕ × Joined)). IsKept values (lookup (is_at (nat_cmp q)) xs) (get nat_cmp other q)) all
    (found_kept values other entries q each)
