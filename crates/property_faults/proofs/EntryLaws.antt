-- EntryLaws: what holds of no entry of a table, in turn; and what a lookup finds there.
use Rattle.std.proofs.Common.{◌≡◌, ◌++◌, ◌∷◌, [], ℕ, List, Some, sym, subst, ⊎_elim, arith}
use Rattle.std.specs.Prelude.{Contains}
use Rattle.std.specs.BTreeMap.{get}
use Rattle.std.specs.Cmp.{nat_cmp_total}
use Rattle.std.specs.Ordering.{nat_cmp}
use Rattle.std.proofs.lemmas.List.Elements.{Contains-push_cases}
use Rattle.std.proofs.lemmas.Map.Lookups.{exact_unsigned}
use Rattle.std.proofs.lemmas.Map.Views.{IfSome-get}
use Rattle.std.proofs.lemmas.Option.{MatchOption-at_some}
use Rattle.std.specs.Prelude.{⊤}
use Rattle.joined_statements.specs.declared.joined.Joined.{Joined}
use Rattle.joined_statements.specs.JoinedStatements.{Attributes}

-- this holds of no entry
pub record NoneSuch (Such : ℕ → Joined → Type 0) (entries : List (ℕ × Joined)) : Type 0 where
  pub not_one : (q : ℕ) (x : Joined) → Contains entries (q, x) → ¬ Such q x

pub none_yet : (Such : ℕ → Joined → Type 0) → NoneSuch Such []
none_yet Such = record { not_one = λ q x c. let past = c.1 in absurd (omega arith) }

pub none_more : (Such : ℕ → Joined → Type 0) (entries : List (ℕ × Joined)) (entry : ℕ × Joined) →
    NoneSuch Such entries → ¬ Such entry.0 entry.1 → NoneSuch Such (entries ++ entry ∷ [])
none_more Such entries entry so_far not_this = record {
  not_one = λ q x c.
      ⊎_elim (λ (d : Contains entries (q, x)). so_far.not_one q x d)
      (λ (same : entry ≡ (q, x)). subst (λ (e : ℕ × Joined). ¬ Such e.0 e.1) same not_this)
      (Contains-push_cases entries entry (q, x) c);
}

-- where it holds of no entry it holds of nothing that is found
pub none_found : (Such : ℕ → Joined → Type 0) (table : Attributes) (entries : List (ℕ × Joined)) →
    entries ≡ table.entries → NoneSuch Such entries → (q : ℕ) (x : Joined) → get nat_cmp table q ≡ Some x → ¬ Such q x
none_found Such table entries all h q x found =
    h.not_one q x (subst (λ (es : List (ℕ × Joined)). Contains es (q, x)) (sym all)
    (MatchOption-at_some ⊤ (λ v. Contains table.entries (q, v)) x found
    (IfSome-get nat_cmp_total exact_unsigned table q)))
