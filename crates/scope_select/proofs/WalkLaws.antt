-- One step of the way through the names that a base begins, and its end.
use Rattle.std.proofs.Common.{◌≡◌, ◌+◌, ◌⊎◌, ◌<◌, ℕ, Bool, true, false, List, [], ◌∷◌, ◌++◌, Option, None, Some, length}
use Rattle.std.proofs.Common.{refl, sym, ap, ◌∙◌}
use Rattle.std.proofs.Common.{append_assoc, arith, length-append, ⊎_elim}
use Rattle.std.specs.Prelude.{is_some, MatchOption, filter, if◌then◌else◌}
use Rattle.std.specs.List.Sorted.{IsStrictlySortedBy}
use Rattle.std.specs.declared.cmp.Ordering.TheVariants.{Less}
use Rattle.std.proofs.lemmas.List.{append-nil}
use Rattle.term_model.specs.declared.name.Rdn.{Rdn}
use Rattle.term_model.specs.declared.scope.Scope.{Scope}
use Rattle.term_model.specs.NameLaws.{name_total}
use Rattle.term_model.specs.NameOrder.{name_cmp}
use Rattle.term_model.specs.Scope.{has_level, is_within, level_below}
use Rattle.scope_select.specs.Ranges.{IsLast, IsNext, begins, begun_behind, names_behind, next_name}
use Rattle.scope_select.proofs.BaseLaws.{base_there, is_there}
use Rattle.scope_select.proofs.ListLaws.{kept, left_out}
use Rattle.scope_select.proofs.PrefixLaws.{is_level, level_within, none_within}
use Rattle.scope_select.proofs.RangeLaws.{Names, found_behind, next_behind, none_behind, none_further}

-- the name is the base or stands behind it
abbrev pub IsFrom : List Rdn → List Rdn → Type 0
IsFrom base here = (here ≡ base) ⊎ (name_cmp base here ≡ Less)

abbrev pub within : List Rdn → Scope → Names → Names
within base scope names = filter (is_within base scope) names

-- the name alone, where the scope reaches its level
abbrev pub one_reached : Scope → ℕ → List Rdn → Names
one_reached scope level name = if has_level scope level then name ∷ [] else []

first_within : (base : List Rdn) (scope : Scope) (name : List Rdn) (level : ℕ) (names : Names)
    → level_below base name ≡ Some level
    → within base scope (name ∷ names) ≡ one_reached scope level name ++ within base scope names
first_within base scope name level names e = by (has_level scope level) refl
  where
    by : (b : Bool) → has_level scope level ≡ b
        → within base scope (name ∷ names) ≡ one_reached scope level name ++ within base scope names
    by true f =
        kept (is_within base scope) name names (level_within base scope name level e ∙ f)
        ∙ ap (λ (c : Bool). (if c then name ∷ [] else []) ++ within base scope names) (sym f)
    by false f =
        left_out (is_within base scope) name names (level_within base scope name level e ∙ f)
        ∙ ap (λ (c : Bool). (if c then name ∷ [] else []) ++ within base scope names) (sym f)

pub next_from : (base here next : List Rdn) (names : Names) (level : ℕ) → IsFrom base here
    → IsNext base here names next level → name_cmp base next ≡ Less
next_from base here next names level from is =
    let low = found_behind here next names is.next_is in
    ⊎_elim
    (λ (same : here ≡ base). ap (λ (n : List Rdn). name_cmp n next) (sym same) ∙ low)
    (λ (behind : name_cmp base here ≡ Less). name_total.trans base here next behind low)
    from

-- the names within the base that stand behind a name: the next one, where the scope reaches it, and those behind it
pub step_within : (base here next : List Rdn) (scope : Scope) (names : Names) (level : ℕ)
    → IsStrictlySortedBy name_cmp names → IsNext base here names next level
    → within base scope (names_behind here names)
    ≡ one_reached scope level next ++ within base scope (names_behind next names)
step_within base here next scope names level sorted is =
    ap (within base scope) (next_behind here next names sorted is.next_is)
    ∙ first_within base scope next level (names_behind next names) is.level_is

pub step_reached : (base here next : List Rdn) (scope : Scope) (names reached longer : Names) (level : ℕ)
    → IsStrictlySortedBy name_cmp names → IsNext base here names next level
    → within base scope names ≡ reached ++ within base scope (names_behind here names)
    → longer ≡ reached ++ one_reached scope level next
    → within base scope names ≡ longer ++ within base scope (names_behind next names)
step_reached base here next scope names reached longer level sorted is before added =
    before
    ∙ (ap (λ (ns : Names). reached ++ ns) (step_within base here next scope names level sorted is)
    ∙ (sym (append_assoc reached (one_reached scope level next) (within base scope (names_behind next names)))
    ∙ ap (λ (ns : Names). ns ++ within base scope (names_behind next names)) (sym added)))

pub step_shorter : (base here next : List Rdn) (names : Names) (level : ℕ)
    → IsStrictlySortedBy name_cmp names → IsNext base here names next level
    → length (names_behind next names) < length (names_behind here names)
step_shorter base here next names level sorted is =
    omega (arith, ap length (next_behind here next names sorted is.next_is))

-- one more than were reached
pub one_more : (all reached rest : Names) (scope : Scope) (level : ℕ) (name : List Rdn)
    → all ≡ reached ++ (one_reached scope level name ++ rest) → has_level scope level ≡ true
    → length reached < length all
one_more all reached rest scope level name e f =
    let more = e ∙ ap (λ (c : Bool). reached ++ ((if c then name ∷ [] else []) ++ rest)) f in
    omega (arith, ap length more, length-append reached (name ∷ rest))

pub step_many : (base here next : List Rdn) (scope : Scope) (names reached : Names) (level : ℕ)
    → IsStrictlySortedBy name_cmp names → IsNext base here names next level
    → within base scope names ≡ reached ++ within base scope (names_behind here names)
    → has_level scope level ≡ true → length reached < length (within base scope names)
step_many base here next scope names reached level sorted is before f =
    one_more (within base scope names) reached (within base scope (names_behind next names)) scope level next
    (before ∙ ap (λ (ns : Names). reached ++ ns) (step_within base here next scope names level sorted is)) f

-- nothing is left behind the last name
pub none_left : (base here : List Rdn) (scope : Scope) (names : Names) → IsStrictlySortedBy name_cmp names
    → IsFrom base here → IsLast base here names → within base scope (names_behind here names) ≡ []
none_left base here scope names sorted from last = by (next_name here names) refl last
  where
    by : (o : Option (List Rdn)) → next_name here names ≡ o
        → MatchOption o (Unit {0}) (λ next. level_below base next ≡ None)
        → within base scope (names_behind here names) ≡ []
    by None e h = ap (within base scope) (none_behind here names e)
    by (Some next) e h =
        let low = found_behind here next names e in
        let behind =
        ⊎_elim
        (λ (same : here ≡ base). ap (λ (n : List Rdn). name_cmp n next) (sym same) ∙ low)
        (λ (above : name_cmp base here ≡ Less). name_total.trans base here next above low)
        from in
        ap (within base scope) (next_behind here next names sorted e)
        ∙ (left_out (is_within base scope) next (names_behind next names) (none_within base scope next h)
        ∙ none_further base next scope names behind h)

pub all_reached : (base here : List Rdn) (scope : Scope) (names reached : Names) → IsStrictlySortedBy name_cmp names
    → IsFrom base here → IsLast base here names
    → within base scope names ≡ reached ++ within base scope (names_behind here names)
    → reached ≡ within base scope names
all_reached base here scope names reached sorted from last before =
    sym (before ∙ (ap (λ (ns : Names). reached ++ ns) (none_left base here scope names sorted from last)
    ∙ append-nil reached))

-- the base itself
own_level : (base : List Rdn) → level_below base base ≡ Some 0
own_level base = ap (level_below base) (sym (append-nil base)) ∙ is_level base []

pub base_first : (base : List Rdn) (scope : Scope) (names : Names) → IsStrictlySortedBy name_cmp names
    → is_there base names ≡ true
    → within base scope names ≡ one_reached scope 0 base ++ within base scope (names_behind base names)
base_first base scope names sorted e =
    base_there base scope names sorted e ∙ first_within base scope base 0 (names_behind base names) (own_level base)

pub base_many : (base : List Rdn) (scope : Scope) (names : Names) → IsStrictlySortedBy name_cmp names
    → is_there base names ≡ true → has_level scope 0 ≡ true → 0 < length (within base scope names)
base_many base scope names sorted e f =
    one_more (within base scope names) [] (within base scope (names_behind base names)) scope 0 base
    (base_first base scope names sorted e) f

-- one name fewer is left behind the next one
pub step_fewer : (base here next : List Rdn) (names : Names) (level : ℕ)
    → IsStrictlySortedBy name_cmp names → IsNext base here names next level
    → length (begun_behind base here names) ≡ length (begun_behind base next names) + 1
step_fewer base here next names level sorted is =
    let all =
    ap (filter (begins base)) (next_behind here next names sorted is.next_is)
    ∙ kept (begins base) next (names_behind next names) (ap is_some is.level_is) in
    omega (arith, ap length all)
