-- A scope that ends at the base reaches none of the names behind it.
use Rattle.std.proofs.Common.{◌≡◌, ℕ, zero, suc, Bool, true, false, List, [], ◌∷◌, ◌++◌, Option, None, Some, length}
use Rattle.std.proofs.Common.{arith, refl, sym, ap, ◌∙◌}
use Rattle.std.specs.Prelude.{filter}
use Rattle.std.specs.declared.cmp.Ordering.TheVariants.{Less, Equal}
use Rattle.std.proofs.lemmas.Cmp.{tied_itself}
use Rattle.std.proofs.lemmas.List.{append-nil}
use Rattle.term_model.specs.declared.name.Rdn.{Rdn}
use Rattle.term_model.specs.declared.scope.Scope.{Scope}
use Rattle.term_model.specs.NameLaws.{name_total}
use Rattle.term_model.specs.NameOrder.{name_cmp}
use Rattle.term_model.specs.Scope.{is_within, level_below}
use Rattle.scope_select.specs.Ranges.{EndsAtBase, follows, names_behind}
use Rattle.scope_select.proofs.ListLaws.{kept, left_out}
use Rattle.scope_select.proofs.PrefixLaws.{level_is, level_within, none_within}
use Rattle.scope_select.proofs.RangeLaws.{Names, behind_is}

no_parts : (behind : List Rdn) → 0 ≡ length behind → behind ≡ []
no_parts [] e = refl
no_parts (x ∷ xs) e = absurd (omega arith)

not_itself : (base name : List Rdn) → name ≡ base → name_cmp base name ≡ Less → ⊥
not_itself base name same low =
    equal_less (sym (tied_itself name_total base) ∙ (ap (name_cmp base) (sym same) ∙ low))
  where
    equal_less : Equal ≡ Less → ⊥
    equal_less e = absurd (cc)

pub none_at : (base : List Rdn) (scope : Scope) (name : List Rdn) → EndsAtBase scope → name_cmp base name ≡ Less
    → is_within base scope name ≡ false
none_at base scope name ends low = by (level_below base name) refl
  where
    by : (o : Option ℕ) → level_below base name ≡ o → is_within base scope name ≡ false
    by None e = none_within base scope name e
    by (Some zero) e =
        let parts = level_is base name 0 e in
        absurd (not_itself base name
        (parts.1 ∙ (ap (λ (ns : List Rdn). base ++ ns) (no_parts parts.0 parts.2) ∙ append-nil base)) low)
    by (Some (suc level)) e = level_within base scope name (suc level) e ∙ ends level

pub none_below : (base : List Rdn) (scope : Scope) (names : Names) → EndsAtBase scope
    → filter (is_within base scope) (names_behind base names) ≡ []
none_below base scope [] ends = refl
none_below base scope (name ∷ names) ends = by (none_below base scope names ends) (follows base name) refl
  where
    by : filter (is_within base scope) (names_behind base names) ≡ [] → (b : Bool) → follows base name ≡ b
        → filter (is_within base scope) (names_behind base (name ∷ names)) ≡ []
    by again true comes =
        ap (filter (is_within base scope)) (kept (follows base) name names comes)
        ∙ (left_out (is_within base scope) name (names_behind base names)
        (none_at base scope name ends (behind_is base name comes))
        ∙ again)
    by again false other =
        ap (filter (is_within base scope)) (left_out (follows base) name names other) ∙ again

-- so what was found of the base itself is all
pub all_at_base : (base : List Rdn) (scope : Scope) (names reached : Names) → EndsAtBase scope
    → filter (is_within base scope) names ≡ reached ++ filter (is_within base scope) (names_behind base names)
    → reached ≡ filter (is_within base scope) names
all_at_base base scope names reached ends before =
    sym (before ∙ (ap (λ (ns : Names). reached ++ ns) (none_below base scope names ends) ∙ append-nil reached))
