-- A way through objects by rising name.
use Rattle.std.proofs.Common.{◌≡◌, ◌<◌, Bool, true, false, List, [], ◌∷◌, ◌++◌, None, Some, length, refl, sym, ap}
use Rattle.std.proofs.Common.{◌∙◌, arith, subst}
use Rattle.std.specs.Prelude.{filter}
use Rattle.std.specs.List.{AllByRecursion}
use Rattle.std.specs.List.Sorted.{IsStrictlySortedBy}
use Rattle.std.specs.Ordering.{is_lt}
use Rattle.std.specs.declared.cmp.Ordering.{Ordering}
use Rattle.std.specs.declared.cmp.Ordering.TheVariants.{Less, Equal, Greater}
use Rattle.std.proofs.lemmas.Bool.{false≢true}
use Rattle.std.proofs.lemmas.Option.{none-some, same_Some}
use Rattle.term_model.specs.declared.name.Rdn.{Rdn}
use Rattle.term_model.specs.declared.object.Object.{Object}
use Rattle.term_model.specs.declared.objects.NamedObject.{NamedObject}
use Rattle.term_model.specs.Comparing.{is_same_name}
use Rattle.term_model.specs.Following.{entry_after}
use Rattle.term_model.specs.NameLaws.{name_total}
use Rattle.term_model.specs.NameOrder.{name_cmp}
use Rattle.term_model.specs.NamedObjects.{IsByName, names, object_at}
use Rattle.term_model.proofs.MapLaws.{here, later, nothing_below}
use Rattle.mib_opening.specs.Walks.{behind, is_behind}

-- ---- filters

pub kept : {X : Type 0} (p : X → Bool) (x : X) (xs : List X) → p x ≡ true → filter p (x ∷ xs) ≡ x ∷ filter p xs
kept p x xs e = rw e refl

pub left_out : {X : Type 0} (p : X → Bool) (x : X) (xs : List X) → p x ≡ false → filter p (x ∷ xs) ≡ filter p xs
left_out p x xs e = rw e refl

pub one_first : {X : Type 0} (p : X → Bool) (x : X) (xs : List X)
    → filter p (x ∷ xs) ≡ filter p (x ∷ []) ++ filter p xs
one_first p x xs = by (p x) refl
  where
    by : (b : Bool) → p x ≡ b → filter p (x ∷ xs) ≡ filter p (x ∷ []) ++ filter p xs
    by true e = rw e refl
    by false e = rw e refl

-- ---- what stands behind a name

is_less : (o : Ordering) → is_lt o ≡ true → o ≡ Less
is_less Less e = refl
is_less Equal e = absurd (false≢true e)
is_less Greater e = absurd (false≢true e)

-- these all stand behind a name
abbrev pub AllBehind : List Rdn → List NamedObject → Type 0
AllBehind name objects = AllByRecursion (λ (n : List Rdn). name_cmp name n ≡ Less) (names objects)

pub all_behind : (name : List Rdn) (objects : List NamedObject) → AllBehind name objects → behind name objects ≡ objects
all_behind name [] h = refl
all_behind name (x ∷ xs) h =
    kept (is_behind name) x xs (ap is_lt h.0) ∙ ap (λ os. x ∷ os) (all_behind name xs h.1)

pub all_further : (name next : List Rdn) (objects : List NamedObject) → name_cmp name next ≡ Less
    → AllBehind next objects → AllBehind name objects
all_further name next [] low h = tt
all_further name next (x ∷ xs) low h =
    (name_total.trans name next x.name low h.0, all_further name next xs low h.1)

not_itself : (name : List Rdn) → is_lt (name_cmp name name) ≡ false
not_itself name = by (name_cmp name name) refl
  where
    by : (o : Ordering) → name_cmp name name ≡ o → is_lt (name_cmp name name) ≡ false
    by Less e = absurd (cc (e, name_total.antisymm name name))
    by Equal e = ap is_lt e
    by Greater e = ap is_lt e

-- one that isn't behind a name isn't behind a later one either
not_further : (name next : List Rdn) (x : NamedObject) → name_cmp name next ≡ Less → is_behind name x ≡ false
    → is_behind next x ≡ false
not_further name next x low e = by (name_cmp next x.name) refl
  where
    by : (o : Ordering) → name_cmp next x.name ≡ o → is_behind next x ≡ false
    by Less f = absurd (false≢true (sym e ∙ ap is_lt (name_total.trans name next x.name low f)))
    by Equal f = ap is_lt f
    by Greater f = ap is_lt f

found_here : (name : List Rdn) (x : NamedObject) (xs : List NamedObject) → is_behind name x ≡ true
    → entry_after (x ∷ xs) name ≡ Some x
found_here name x xs e = rw e refl

found_later : (name : List Rdn) (x : NamedObject) (xs : List NamedObject) → is_behind name x ≡ false
    → entry_after (x ∷ xs) name ≡ entry_after xs name
found_later name x xs e = rw e refl

pub found_behind : (name : List Rdn) (next : NamedObject) (objects : List NamedObject)
    → entry_after objects name ≡ Some next → name_cmp name next.name ≡ Less
found_behind name next [] e = absurd (none-some next e)
found_behind name next (x ∷ xs) e = by (found_behind name next xs) (is_behind name x) refl
  where
    by : (entry_after xs name ≡ Some next → name_cmp name next.name ≡ Less) → (b : Bool) → is_behind name x ≡ b
        → name_cmp name next.name ≡ Less
    by again true comes =
        let same = same_Some x next (sym (found_here name x xs comes) ∙ e) in
        ap (λ (entry : NamedObject). name_cmp name entry.name) (sym same) ∙ is_less (name_cmp name x.name) comes
    by again false other = again (sym (found_later name x xs other) ∙ e)

-- those behind a name are the next one and those behind that
pub next_behind : (name : List Rdn) (next : NamedObject) (objects : List NamedObject) → IsByName objects
    → entry_after objects name ≡ Some next → behind name objects ≡ next ∷ behind next.name objects
unfolding IsStrictlySortedBy
next_behind name next [] sorted e = absurd (none-some next e)
next_behind name next (x ∷ xs) sorted e = by (next_behind name next xs sorted.1) (is_behind name x) refl
  where
    by : (entry_after xs name ≡ Some next → behind name xs ≡ next ∷ behind next.name xs)
        → (b : Bool) → is_behind name x ≡ b → behind name (x ∷ xs) ≡ next ∷ behind next.name (x ∷ xs)
    by again true comes =
        let same = same_Some x next (sym (found_here name x xs comes) ∙ e) in
        kept (is_behind name) x xs comes
        ∙ (ap (λ os. x ∷ os)
        (all_behind name xs (all_further name x.name xs (is_less (name_cmp name x.name) comes) sorted.0)
        ∙ sym (left_out (is_behind x.name) x xs (not_itself x.name) ∙ all_behind x.name xs sorted.0))
        ∙ ap (λ (entry : NamedObject). entry ∷ behind entry.name (x ∷ xs)) same)
    by again false other =
        let beyond = sym (found_later name x xs other) ∙ e in
        let low = found_behind name next xs beyond in
        left_out (is_behind name) x xs other
        ∙ (again beyond
        ∙ ap (λ os. next ∷ os) (sym (left_out (is_behind next.name) x xs (not_further name next.name x low other))))

pub none_behind : (name : List Rdn) (objects : List NamedObject) → entry_after objects name ≡ None
    → behind name objects ≡ []
none_behind name [] e = refl
none_behind name (x ∷ xs) e = by (none_behind name xs) (is_behind name x) refl
  where
    by : (entry_after xs name ≡ None → behind name xs ≡ []) → (b : Bool) → is_behind name x ≡ b
        → behind name (x ∷ xs) ≡ []
    by again true comes = absurd (none-some x (sym e ∙ found_here name x xs comes))
    by again false other = left_out (is_behind name) x xs other ∙ again (sym (found_later name x xs other) ∙ e)

-- one fewer is left behind the next one
pub one_fewer : (name : List Rdn) (next : NamedObject) (objects : List NamedObject) → IsByName objects
    → entry_after objects name ≡ Some next → length (behind next.name objects) < length (behind name objects)
one_fewer name next objects sorted e = omega (arith, ap length (next_behind name next objects sorted e))

-- ---- the root stands in front

root_least : (part : Rdn) (rest : List Rdn) → name_cmp [] (part ∷ rest) ≡ Less
root_least part rest = refl

below_none : (name : List Rdn) → name_cmp name [] ≡ Less → ⊥
below_none [] e = absurd (cc)
below_none (part ∷ rest) e = absurd (cc)

pub root_first : (object : Object) (objects : List NamedObject) → IsByName objects → object_at objects [] ≡ Some object
    → objects ≡ record { name = []; object = object } ∷ behind [] objects
unfolding IsStrictlySortedBy
root_first object [] sorted e = absurd (none-some object e)
root_first object (x ∷ xs) sorted e = by x.name refl
  where
    by : (name : List Rdn) → x.name ≡ name → (x ∷ xs) ≡ record { name = []; object = object } ∷ behind [] (x ∷ xs)
    by [] is =
        let all = subst (λ (n : List Rdn). AllBehind n xs) is sorted.0 in
        let held = same_Some x.object object (sym (here x xs [] (ap (λ n. is_same_name n []) is)) ∙ e) in
        let rest = left_out (is_behind []) x xs (ap (λ n. is_lt (name_cmp [] n)) is) ∙ all_behind [] xs all in
        (λ i. record { name = is i; object = held i } ∷ sym rest i)
    by (part ∷ parts) is =
        let low : name_cmp [] x.name ≡ Less = ap (name_cmp []) is in
        let none = nothing_below xs [] (all_further [] x.name xs low sorted.0) in
        absurd (none-some object (sym none ∙ sym (later x xs [] (ap (λ n. is_same_name n []) is)) ∙ e))

pub root_none : (objects : List NamedObject) → IsByName objects → object_at objects [] ≡ None
    → objects ≡ behind [] objects
unfolding IsStrictlySortedBy
root_none [] sorted e = refl
root_none (x ∷ xs) sorted e = by x.name refl
  where
    by : (name : List Rdn) → x.name ≡ name → (x ∷ xs) ≡ behind [] (x ∷ xs)
    by [] is = absurd (none-some x.object (sym e ∙ here x xs [] (ap (λ n. is_same_name n []) is)))
    by (part ∷ parts) is =
        let low : name_cmp [] x.name ≡ Less = ap (name_cmp []) is in
        sym (all_behind [] (x ∷ xs) (low, all_further [] x.name xs low sorted.0))
