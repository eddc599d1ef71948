-- Of names in their order, those that a base begins are the base, where it is one of them, and names behind it.
use Rattle.std.proofs.Common.{◌≡◌, Bool, true, false, List, [], ◌∷◌, refl, sym, ap, ◌∙◌, subst}
use Rattle.std.specs.Bool.{Decides}
use Rattle.std.specs.Prelude.{◌||◌, filter}
use Rattle.std.specs.List.{list_any}
use Rattle.std.specs.List.Sorted.{IsStrictlySortedBy}
use Rattle.std.specs.Ordering.{is_eq, is_lt, ordering_reverse}
use Rattle.std.specs.declared.cmp.Ordering.{Ordering}
use Rattle.std.specs.declared.cmp.Ordering.TheVariants.{Less, Equal, Greater}
use Rattle.std.proofs.lemmas.Bool.{false≢true, or_from, or_left}
use Rattle.std.proofs.lemmas.Slice.Eq.{slice_eq-Decides}
use Rattle.term_model.specs.declared.name.Rdn.{Rdn}
use Rattle.term_model.specs.declared.scope.Scope.{Scope}
use Rattle.term_model.specs.Comparing.{is_same_name, is_same_rdn}
use Rattle.term_model.specs.NameLaws.{name_ties, name_total}
use Rattle.term_model.specs.NameOrder.{name_cmp}
use Rattle.term_model.specs.Scope.{is_within}
use Rattle.scope_select.specs.Ranges.{follows, names_behind}
use Rattle.scope_select.proofs.ListLaws.{left_out}
use Rattle.scope_select.proofs.PrefixLaws.{begun_is_behind, none_within, rdn_same, rdns_are}
use Rattle.scope_select.proofs.RangeLaws.{AllBehind, Names, all_behind}

abbrev pub is_there : List Rdn → Names → Bool
is_there base names = list_any (λ (name : List Rdn). is_same_name name base) names

rdn_Decides : (x y : Rdn) → Decides (is_same_rdn x y) (x ≡ y)
rdn_Decides x y = (rdns_are x y, λ e. subst (λ (z : Rdn). is_same_rdn x z ≡ true) e (rdn_same x))

pub same_name : (xs ys : List Rdn) → name_cmp xs ys ≡ Equal → xs ≡ ys
same_name xs ys e = (slice_eq-Decides rdn_Decides xs ys (is_same_name xs ys) refl).0 (name_ties xs ys ∙ ap is_eq e)

told : (base name : List Rdn) (o : Ordering) → name_cmp base name ≡ o
    → is_same_name name base ≡ is_eq (ordering_reverse o)
told base name o e = name_ties name base ∙ ap is_eq (name_total.antisymm name base ∙ ap ordering_reverse e)

-- no name behind the base is the base
not_there : (base : List Rdn) (names : Names) → AllBehind base names → is_there base names ≡ false
not_there base [] h = refl
not_there base (name ∷ names) h =
    or_from _ _ (told base name Less h.0) (not_there base names h.1)

all_after : (base name : List Rdn) (names : Names) → name_cmp base name ≡ Less → AllBehind name names
    → AllBehind base names
all_after base name [] low h = tt
all_after base name (other ∷ names) low h =
    (name_total.trans base name other low h.0, all_after base name names low h.1)

pub base_there : (base : List Rdn) (scope : Scope) (names : Names) → IsStrictlySortedBy name_cmp names
    → is_there base names ≡ true
    → filter (is_within base scope) names ≡ filter (is_within base scope) (base ∷ names_behind base names)
unfolding IsStrictlySortedBy
base_there base scope [] sorted e = absurd (false≢true e)
base_there base scope (name ∷ names) sorted e =
    by (base_there base scope names sorted.1) (name_cmp base name) refl
  where
    by : (is_there base names ≡ true
        → filter (is_within base scope) names ≡ filter (is_within base scope) (base ∷ names_behind base names))
        → (o : Ordering) → name_cmp base name ≡ o
        → filter (is_within base scope) (name ∷ names)
        ≡ filter (is_within base scope) (base ∷ names_behind base (name ∷ names))
    by again Less f =
        absurd (false≢true
        (sym (not_there base (name ∷ names) (f, all_after base name names f sorted.0)) ∙ e))
    by again Equal f =
        let same = same_name base name f in
        ap (filter (is_within base scope))
        (ap (λ n. n ∷ names) (sym same)
        ∙ ap (λ ns. base ∷ ns)
        (sym (left_out (follows base) name names (ap is_lt f)
        ∙ all_behind base names (subst (λ (n : List Rdn). AllBehind n names) (sym same) sorted.0))))
    by again Greater f =
        left_out (is_within base scope) name names (none_within base scope name (begun_is_behind base name f))
        ∙ (again (ap (λ b. b || is_there base names) (sym (told base name Greater f)) ∙ e)
        ∙ ap (λ ns. filter (is_within base scope) (base ∷ ns)) (sym (left_out (follows base) name names (ap is_lt f))))

pub base_missing : (base : List Rdn) (scope : Scope) (names : Names) → IsStrictlySortedBy name_cmp names
    → is_there base names ≡ false
    → filter (is_within base scope) names ≡ filter (is_within base scope) (names_behind base names)
unfolding IsStrictlySortedBy
base_missing base scope [] sorted e = refl
base_missing base scope (name ∷ names) sorted e =
    by (base_missing base scope names sorted.1) (name_cmp base name) refl
  where
    by : (is_there base names ≡ false
        → filter (is_within base scope) names ≡ filter (is_within base scope) (names_behind base names))
        → (o : Ordering) → name_cmp base name ≡ o
        → filter (is_within base scope) (name ∷ names) ≡ filter (is_within base scope)
        (names_behind base (name ∷ names))
    by again Less f =
        ap (filter (is_within base scope))
        (sym (all_behind base (name ∷ names) (f, all_after base name names f sorted.0)))
    by again Equal f = absurd (false≢true (sym e ∙ or_left _ _ (told base name Equal f)))
    by again Greater f =
        left_out (is_within base scope) name names (none_within base scope name (begun_is_behind base name f))
        ∙ (again (ap (λ b. b || is_there base names) (sym (told base name Greater f)) ∙ e)
        ∙ ap (filter (is_within base scope)) (sym (left_out (follows base) name names (ap is_lt f))))
