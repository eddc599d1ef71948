-- Walking the names that a base begins, in the order of names: they stand together behind it.
use Rattle.std.proofs.Common.{◌≡◌, Bool, true, false, List, [], ◌∷◌, None, Some, refl, sym, ap, ◌∙◌}
use Rattle.std.specs.Prelude.{filter, find}
use Rattle.std.specs.List.{AllByRecursion}
use Rattle.std.specs.List.Sorted.{IsStrictlySortedBy}
use Rattle.std.specs.Ordering.{is_lt}
use Rattle.std.specs.declared.cmp.Ordering.{Ordering}
use Rattle.std.specs.declared.cmp.Ordering.TheVariants.{Less, Equal, Greater}
use Rattle.std.proofs.lemmas.Bool.{false≢true}
use Rattle.std.proofs.lemmas.Option.{none-some, same_Some}
use Rattle.term_model.specs.declared.name.Rdn.{Rdn}
use Rattle.term_model.specs.declared.scope.Scope.{Scope}
use Rattle.term_model.specs.NameLaws.{name_total}
use Rattle.term_model.specs.NameOrder.{name_cmp}
use Rattle.term_model.specs.Scope.{is_within, level_below}
use Rattle.scope_select.specs.Ranges.{follows, names_behind}
use Rattle.scope_select.proofs.ListLaws.{kept, left_out}
use Rattle.scope_select.proofs.PrefixLaws.{none_within, outside_stays}

abbrev pub Names : Type 0
Names = List (List Rdn)

-- all of these stand behind a name
abbrev pub AllBehind : List Rdn → Names → Type 0
AllBehind here names = AllByRecursion (λ (name : List Rdn). name_cmp here name ≡ Less) names

pub behind_is : (here name : List Rdn) → follows here name ≡ true → name_cmp here name ≡ Less
behind_is here name e = by (name_cmp here name) e
  where
    by : (o : Ordering) → is_lt o ≡ true → o ≡ Less
    by Less e = refl
    by Equal e = absurd (false≢true e)
    by Greater e = absurd (false≢true e)

is_behind : (here name : List Rdn) → name_cmp here name ≡ Less → follows here name ≡ true
is_behind here name e = ap is_lt e

-- a name that isn't behind another one isn't behind a later one either
not_behind : (here next name : List Rdn) → name_cmp here next ≡ Less → follows here name ≡ false
    → follows next name ≡ false
not_behind here next name low e = by (name_cmp next name) refl
  where
    by : (o : Ordering) → name_cmp next name ≡ o → follows next name ≡ false
    by Less f =
        absurd (false≢true (sym e ∙ is_behind here name (name_total.trans here next name low f)))
    by Equal f = ap is_lt f
    by Greater f = ap is_lt f

pub all_behind : (here : List Rdn) (names : Names) → AllBehind here names → names_behind here names ≡ names
all_behind here [] h = refl
all_behind here (name ∷ names) h =
    kept (follows here) name names (is_behind here name h.0) ∙ ap (λ ns. name ∷ ns) (all_behind here names h.1)

all_further : (here next : List Rdn) (names : Names) → name_cmp here next ≡ Less → AllBehind next names
    → AllBehind here names
all_further here next [] low h = tt
all_further here next (name ∷ names) low h =
    (name_total.trans here next name low h.0, all_further here next names low h.1)

found_here : (here name : List Rdn) (names : Names) → follows here name ≡ true
    → find (follows here) (name ∷ names) ≡ Some name
found_here here name names e = rw e refl

found_later : (here name : List Rdn) (names : Names) → follows here name ≡ false
    → find (follows here) (name ∷ names) ≡ find (follows here) names
found_later here name names e = rw e refl

pub found_behind : (here next : List Rdn) (names : Names) → find (follows here) names ≡ Some next
    → name_cmp here next ≡ Less
found_behind here next [] e = absurd (none-some next e)
found_behind here next (name ∷ names) e = by (found_behind here next names) (follows here name) refl
  where
    by : (find (follows here) names ≡ Some next → name_cmp here next ≡ Less) → (b : Bool) → follows here name ≡ b
        → name_cmp here next ≡ Less
    by again true comes =
        let same = same_Some name next (sym (found_here here name names comes) ∙ e) in
        ap (name_cmp here) (sym same) ∙ behind_is here name comes
    by again false other = again (sym (found_later here name names other) ∙ e)

-- the names behind one are the next one and those behind that
pub next_behind : (here next : List Rdn) (names : Names) → IsStrictlySortedBy name_cmp names
    → find (follows here) names ≡ Some next → names_behind here names ≡ next ∷ names_behind next names
unfolding IsStrictlySortedBy
next_behind here next [] sorted e = absurd (none-some next e)
next_behind here next (name ∷ names) sorted e =
    by (next_behind here next names sorted.1) (follows here name) refl
  where
    self : (x : List Rdn) → follows x x ≡ false
    self x = by-self (name_cmp x x) refl
      where
        by-self : (o : Ordering) → name_cmp x x ≡ o → follows x x ≡ false
        by-self Less f = absurd (cc (f, name_total.antisymm x x))
        by-self Equal f = ap is_lt f
        by-self Greater f = ap is_lt f

    by : (find (follows here) names ≡ Some next → names_behind here names ≡ next ∷ names_behind next names)
        → (b : Bool) → follows here name ≡ b
        → names_behind here (name ∷ names) ≡ next ∷ names_behind next (name ∷ names)
    by again true comes =
        let same = same_Some name next (sym (found_here here name names comes) ∙ e) in
        kept (follows here) name names comes
        ∙ (ap (λ ns. name ∷ ns)
        (all_behind here names (all_further here name names (behind_is here name comes) sorted.0)
        ∙ sym (left_out (follows name) name names (self name) ∙ all_behind name names sorted.0))
        ∙ ap (λ n. n ∷ names_behind n (name ∷ names)) same)
    by again false other =
        let later = sym (found_later here name names other) ∙ e in
        let low = found_behind here next names later in
        left_out (follows here) name names other
        ∙ (again later
        ∙ ap (λ ns. next ∷ ns) (sym (left_out (follows next) name names (not_behind here next name low other))))

pub none_behind : (here : List Rdn) (names : Names) → find (follows here) names ≡ None → names_behind here names ≡ []
none_behind here [] e = refl
none_behind here (name ∷ names) e = by (none_behind here names) (follows here name) refl
  where
    by : (find (follows here) names ≡ None → names_behind here names ≡ []) → (b : Bool) → follows here name ≡ b
        → names_behind here (name ∷ names) ≡ []
    by again true comes = absurd (none-some name (sym e ∙ found_here here name names comes))
    by again false other =
        left_out (follows here) name names other ∙ again (sym (found_later here name names other) ∙ e)

-- behind a name that the base doesn't begin no name is within it
pub none_further : (base next : List Rdn) (scope : Scope) (names : Names) → name_cmp base next ≡ Less
    → level_below base next ≡ None → filter (is_within base scope) (names_behind next names) ≡ []
none_further base next scope [] low outside = refl
none_further base next scope (name ∷ names) low outside =
    by (none_further base next scope names low outside) (follows next name) refl
  where
    by : filter (is_within base scope) (names_behind next names) ≡ [] → (b : Bool) → follows next name ≡ b
        → filter (is_within base scope) (names_behind next (name ∷ names)) ≡ []
    by again true comes =
        ap (filter (is_within base scope)) (kept (follows next) name names comes)
        ∙ (left_out (is_within base scope) name (names_behind next names)
        (none_within base scope name (outside_stays base next name low outside (behind_is next name comes)))
        ∙ again)
    by again false other =
        ap (filter (is_within base scope)) (left_out (follows next) name names other) ∙ again
