-- The objects that a scope reaches, among those at and below its base.
use Rattle.std.proofs.Common.{◌≡◌, ℕ, suc, zero, ◌+◌, ◌-◌, ◌<◌, ◌≤◌, Bool, true, false, List, [], ◌∷◌, ◌++◌, Option, None, Some}
use Rattle.std.proofs.Common.{Bor, append_assoc, arith, drop, get_or, length, length-append, refl, subst, sym, ap, ◌∙◌}
use Rattle.std.specs.Prelude.{is_some, if◌then◌else◌}
use Rattle.std.specs.List.Sorted.{IsStrictlySortedBy}
use Rattle.std.specs.declared.cmp.Ordering.{Ordering}
use Rattle.std.specs.declared.cmp.Ordering.TheVariants.{Less, Equal, Greater}
use Rattle.std.proofs.lemmas.Bool.{false≢true}
use Rattle.std.proofs.lemmas.List.{append-nil, drop_all}
use Rattle.std.proofs.lemmas.Option.{none-some, same_Some}
use Rattle.term_model.specs.declared.name.Rdn.{Rdn}
use Rattle.term_model.specs.declared.objects.NamedObject.{NamedObject}
use Rattle.term_model.specs.declared.scope.Scope.{Scope}
use Rattle.term_model.specs.Comparing.{is_same_name}
use Rattle.term_model.specs.NameOrder.{name_cmp}
use Rattle.term_model.specs.NamedObjects.{IsByName, names}
use Rattle.term_model.specs.Scope.{is_within, level_below, names_in_scope}
use Rattle.term_model.proofs.MapLaws.{name_Decides}
use Rattle.scope_select.specs.Ranges.{EndsAtBase, begins}
use Rattle.scope_select.specs.Subtrees.{AllBegun, entries_in_scope, entry_of, referred, subtree_of}
use Rattle.scope_select.proofs.BaseLaws.{same_name}
use Rattle.scope_select.proofs.BelowLaws.{none_at}
use Rattle.scope_select.proofs.ListLaws.{kept, left_out}
use Rattle.scope_select.proofs.PrefixLaws.{begun_is_behind, is_level, level_is, none_within}
use Rattle.scope_select.proofs.RangeLaws.{AllBehind}

-- ---- levels

pub level_counted : (base name : List Rdn) → begins base name ≡ true
    → level_below base name ≡ Some (length name - length base)
level_counted base name begun = by (level_below base name) refl
  where
    by : (o : Option ℕ) → level_below base name ≡ o → level_below base name ≡ Some (length name - length base)
    by None e = absurd (false≢true (sym (ap is_some e) ∙ begun))
    by (Some level) e =
        let parts = level_is base name level e in
        let counted : level ≡ length name - length base =
        omega (arith, parts.2, ap length parts.1, length-append base parts.0) in
        e ∙ ap Some counted

-- ---- the base alone

pub itself_begun : (base : List Rdn) → begins base base ≡ true
itself_begun base = ap (λ n. is_some (level_below base n)) (sym (append-nil base)) ∙ ap is_some (is_level base [])

pub found_begun : (objects : List NamedObject) (base : List Rdn) (e : NamedObject) → entry_of objects base ≡ Some e
    → begins base e.name ≡ true
found_begun [] base e is = absurd (none-some e is)
found_begun (x ∷ xs) base e is = by (is_same_name x.name base) refl (found_begun xs base e)
  where
    by : (b : Bool) → is_same_name x.name base ≡ b → (entry_of xs base ≡ Some e → begins base e.name ≡ true)
        → begins base e.name ≡ true
    by true h again =
        let here : entry_of (x ∷ xs) base ≡ Some x = rw h refl in
        let same : x ≡ e = same_Some x e (sym here ∙ is) in
        subst (λ (y : NamedObject). begins base y.name ≡ true) same
        (subst (λ n. begins base n ≡ true) (sym ((name_Decides x.name base).0 h)) (itself_begun base))
    by false h again =
        let later : entry_of (x ∷ xs) base ≡ entry_of xs base = rw h refl in
        again (sym later ∙ is)

-- another name isn't reached
other_out : (base : List Rdn) (scope : Scope) (name : List Rdn) → EndsAtBase scope → is_same_name name base ≡ false
    → is_within base scope name ≡ false
other_out base scope name ends other = by (name_cmp base name) refl
  where
    by : (o : Ordering) → name_cmp base name ≡ o → is_within base scope name ≡ false
    by Less e = none_at base scope name ends e
    by Equal e =
        absurd (false≢true (sym other ∙ (name_Decides name base).1 (sym (same_name base name e))))
    by Greater e = none_within base scope name (begun_is_behind base name e)

pub base_none : (objects : List NamedObject) (base : List Rdn) (scope : Scope) → EndsAtBase scope
    → entry_of objects base ≡ None → entries_in_scope objects base scope ≡ []
base_none [] base scope ends is = refl
base_none (x ∷ xs) base scope ends is = by (is_same_name x.name base) refl (base_none xs base scope ends)
  where
    by : (b : Bool) → is_same_name x.name base ≡ b
        → (entry_of xs base ≡ None → entries_in_scope xs base scope ≡ []) → entries_in_scope (x ∷ xs) base scope ≡ []
    by true h again =
        let here : entry_of (x ∷ xs) base ≡ Some x = rw h refl in
        absurd (none-some x (sym is ∙ here))
    by false h again =
        let later : entry_of (x ∷ xs) base ≡ entry_of xs base = rw h refl in
        left_out (λ (entry : NamedObject). is_within base scope entry.name) x xs (other_out base scope x.name ends h)
        ∙ again (sym later ∙ is)

behind_out : (base : List Rdn) (scope : Scope) (xs : List NamedObject) → EndsAtBase scope → AllBehind base (names xs)
    → entries_in_scope xs base scope ≡ []
behind_out base scope [] ends all = refl
behind_out base scope (x ∷ xs) ends all =
    left_out (λ (entry : NamedObject). is_within base scope entry.name) x xs (none_at base scope x.name ends all.0)
    ∙ behind_out base scope xs ends all.1

-- the object alone, where the scope reaches it
abbrev pub one_entry : List Rdn → Scope → NamedObject → List NamedObject
one_entry base scope entry = if is_within base scope entry.name then entry ∷ [] else []

pub first_entry : (base : List Rdn) (scope : Scope) (x : NamedObject) (xs : List NamedObject)
    → entries_in_scope (x ∷ xs) base scope ≡ one_entry base scope x ++ entries_in_scope xs base scope
first_entry base scope x xs = by (is_within base scope x.name) refl
  where
    by : (b : Bool) → is_within base scope x.name ≡ b
        → entries_in_scope (x ∷ xs) base scope ≡ one_entry base scope x ++ entries_in_scope xs base scope
    by true e = rw e refl
    by false e = rw e refl

pub base_some : (objects : List NamedObject) (base : List Rdn) (scope : Scope) (e : NamedObject) → IsByName objects
    → EndsAtBase scope → entry_of objects base ≡ Some e → entries_in_scope objects base scope ≡ one_entry base scope e
unfolding IsStrictlySortedBy
base_some [] base scope e rising ends is = absurd (none-some e is)
base_some (x ∷ xs) base scope e rising ends is =
    by (is_same_name x.name base) refl (base_some xs base scope e rising.1 ends)
  where
    by : (b : Bool) → is_same_name x.name base ≡ b
        → (entry_of xs base ≡ Some e → entries_in_scope xs base scope ≡ one_entry base scope e)
        → entries_in_scope (x ∷ xs) base scope ≡ one_entry base scope e
    by true h again =
        let here : entry_of (x ∷ xs) base ≡ Some x = rw h refl in
        let same : x ≡ e = same_Some x e (sym here ∙ is) in
        let behind = subst (λ n. AllBehind n (names xs)) ((name_Decides x.name base).0 h) rising.0 in
        first_entry base scope x xs
        ∙ ap (λ ys. one_entry base scope x ++ ys) (behind_out base scope xs ends behind)
        ∙ append-nil (one_entry base scope x) ∙ ap (one_entry base scope) same
    by false h again =
        let later : entry_of (x ∷ xs) base ≡ entry_of xs base = rw h refl in
        left_out (λ (entry : NamedObject). is_within base scope entry.name) x xs (other_out base scope x.name ends h)
        ∙ again (sym later ∙ is)

-- ---- one object after the other

pub begun_at : (base : List Rdn) (entries : List (Bor NamedObject)) (i : ℕ) (x d : Bor NamedObject)
    → i < length entries → x ≡ get_or entries i d → AllBegun base (referred entries) → begins base x.now.name ≡ true
begun_at base [] i x d within is all = absurd (omega arith)
begun_at base (e ∷ es) zero x d within is all =
    subst (λ (y : Bor NamedObject). begins base y.now.name ≡ true) (sym is) all.0
begun_at base (e ∷ es) (suc i) x d within is all = begun_at base es i x d (omega arith) is all.1

-- what was reached so far, and what is left
abbrev pub IsReached : List Rdn → Scope → List (Bor NamedObject) → List NamedObject → ℕ → Type 0
IsReached base scope entries reached i =
    entries_in_scope (referred entries) base scope
    ≡ reached ++ entries_in_scope (referred (drop i entries)) base scope

pub reached_further : (base : List Rdn) (scope : Scope) (entries : List (Bor NamedObject)) (reached after : List NamedObject)
    (i : ℕ) (x : Bor NamedObject) → drop i entries ≡ x ∷ drop (i + 1) entries
    → IsReached base scope entries reached i → after ≡ reached ++ one_entry base scope x.now
    → IsReached base scope entries after (i + 1)
reached_further base scope entries reached after i x next so_far added =
    let rest = entries_in_scope (referred (drop (i + 1) entries)) base scope in
    so_far
    ∙ ap (λ ys. reached ++ entries_in_scope (referred ys) base scope) next
    ∙ ap (λ ys. reached ++ ys) (first_entry base scope x.now (referred (drop (i + 1) entries)))
    ∙ sym (append_assoc reached (one_entry base scope x.now) rest)
    ∙ ap (λ ys. ys ++ rest) (sym added)

pub all_are_reached : (base : List Rdn) (scope : Scope) (entries : List (Bor NamedObject)) (reached : List NamedObject)
    (i : ℕ) → length entries ≤ i → IsReached base scope entries reached i
    → reached ≡ entries_in_scope (referred entries) base scope
all_are_reached base scope entries reached i past so_far =
    sym (so_far ∙ ap (λ ys. reached ++ entries_in_scope (referred ys) base scope) (drop_all i entries past)
    ∙ append-nil reached)

one_more : (all reached rest : List NamedObject) (x : NamedObject) → all ≡ reached ++ (x ∷ [] ++ rest)
    → length reached < length all
one_more all reached rest x e = omega (arith, ap length e, length-append reached (x ∷ rest))

pub limit_passed : (base : List Rdn) (scope : Scope) (entries : List (Bor NamedObject)) (reached : List NamedObject)
    (i limit : ℕ) (x : Bor NamedObject) → drop i entries ≡ x ∷ drop (i + 1) entries
    → IsReached base scope entries reached i → is_within base scope x.now.name ≡ true → length reached ≡ limit
    → limit < length (entries_in_scope (referred entries) base scope)
limit_passed base scope entries reached i limit x next so_far within full =
    let rest = entries_in_scope (referred (drop (i + 1) entries)) base scope in
    let shown = so_far
    ∙ ap (λ ys. reached ++ entries_in_scope (referred ys) base scope) next
    ∙ ap (λ ys. reached ++ ys) (first_entry base scope x.now (referred (drop (i + 1) entries)))
    ∙ ap (λ (b : Bool). reached ++ ((if b then x.now ∷ [] else []) ++ rest)) within in
    let more = one_more (entries_in_scope (referred entries) base scope) reached rest x.now shown in
    omega (arith, more, full)

pub all_begun : (objects : List NamedObject) (base : List Rdn) → AllBegun base (subtree_of objects base)
all_begun [] base = tt
all_begun (x ∷ xs) base = by (begins base x.name) refl (all_begun xs base)
  where
    by : (b : Bool) → begins base x.name ≡ b → AllBegun base (subtree_of xs base)
        → AllBegun base (subtree_of (x ∷ xs) base)
    by true e again = rw e (e, again)
    by false e again = rw e again

not_begun : (base : List Rdn) (scope : Scope) (name : List Rdn) → begins base name ≡ false
    → is_within base scope name ≡ false
not_begun base scope name = by (level_below base name) refl
  where
    by : (o : Option ℕ) → level_below base name ≡ o → begins base name ≡ false → is_within base scope name ≡ false
    by None e other = none_within base scope name e
    by (Some level) e other = absurd (false≢true (sym other ∙ ap is_some e))

-- the scope reaches objects of the subtree alone
pub subtree_reached : (objects : List NamedObject) (base : List Rdn) (scope : Scope)
    → entries_in_scope (subtree_of objects base) base scope ≡ entries_in_scope objects base scope
subtree_reached [] base scope = refl
subtree_reached (x ∷ xs) base scope = by (begins base x.name) refl (subtree_reached xs base scope)
  where
    by : (b : Bool) → begins base x.name ≡ b
        → entries_in_scope (subtree_of xs base) base scope ≡ entries_in_scope xs base scope
        → entries_in_scope (subtree_of (x ∷ xs) base) base scope ≡ entries_in_scope (x ∷ xs) base scope
    by true e again =
        ap (λ ys. entries_in_scope ys base scope)
        (kept (λ (entry : NamedObject). begins base entry.name) x xs e)
        ∙ first_entry base scope x (subtree_of xs base) ∙ ap (λ ys. one_entry base scope x ++ ys) again
        ∙ sym (first_entry base scope x xs)
    by false e again =
        ap (λ ys. entries_in_scope ys base scope)
        (left_out (λ (entry : NamedObject). begins base entry.name) x xs e)
        ∙ again
        ∙ sym (left_out (λ (entry : NamedObject). is_within base scope entry.name) x xs (not_begun base scope x.name e))

-- their names are the names in scope
pub names_reached : (objects : List NamedObject) (base : List Rdn) (scope : Scope)
    → names (entries_in_scope objects base scope) ≡ names_in_scope objects base scope
names_reached [] base scope = refl
names_reached (x ∷ xs) base scope = by (is_within base scope x.name) refl (names_reached xs base scope)
  where
    by : (b : Bool) → is_within base scope x.name ≡ b
        → names (entries_in_scope xs base scope) ≡ names_in_scope xs base scope
        → names (entries_in_scope (x ∷ xs) base scope) ≡ names_in_scope (x ∷ xs) base scope
    by true e again = rw e (ap (λ ns. x.name ∷ ns) again)
    by false e again = rw e again
