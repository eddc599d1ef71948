-- What follows a name has the least greater one, and what was taken out is gone.
use Rattle.std.proofs.Common.{◌≡◌, ℕ, zero, suc, ◌<◌, Bool, true, false, List, [], ◌∷◌, length, get_or, None, Some}
use Rattle.std.proofs.Common.{refl, sym, ap, ◌∙◌, subst, arith}
use Rattle.std.proofs.lemmas.Bool.{false≢true}
use Rattle.std.proofs.lemmas.Option.{same_Some}
use Rattle.std.specs.List.{AllByRecursion}
use Rattle.std.specs.List.Sorted.{IsStrictlySortedBy}
use Rattle.std.specs.Ordering.{is_lt}
use Rattle.std.specs.declared.cmp.Ordering.{Ordering}
use Rattle.std.specs.declared.cmp.Ordering.TheVariants.{Less, Equal, Greater}
use Rattle.term_model.specs.declared.name.Rdn.{Rdn}
use Rattle.term_model.specs.declared.objects.NamedObject.{NamedObject}
use Rattle.term_model.specs.Comparing.{is_same_name}
use Rattle.term_model.specs.Following.{IsLeastGreater, entry_after}
use Rattle.term_model.specs.MapLaws.{NextIsLeast, NoneIsGreater, OthersAreLeft, RemovedIsGone}
use Rattle.term_model.specs.NameOrder.{name_cmp}
use Rattle.term_model.specs.NamedObjects.{IsByName, names, object_at, removed}
use Rattle.term_model.proofs.MapLaws.{here, later, name_Decides, turned}

-- ---- what follows

lesser : (o : Ordering) → is_lt o ≡ true → o ≡ Less
lesser Less h = refl
lesser Equal h = absurd (false≢true h)
lesser Greater h = absurd (false≢true h)

never_both : (o : Ordering) → o ≡ Less → o ≡ Greater → ⊥
never_both o e f = absurd (cc (sym e ∙ f))

not_itself : (name : List Rdn) → name_cmp name name ≡ Less → ⊥
not_itself name e = never_both (name_cmp name name) e (turned name name Less e)

all_of : (P : List Rdn → Type 0) (objects : List NamedObject) (k : ℕ) (x : NamedObject) → k < length objects
    → get_or objects k x ≡ x
    → AllByRecursion P (names objects) → P x.name
all_of P [] k x h is all = absurd (omega arith)
all_of P (y ∷ ys) zero x h is all = subst (λ (z : NamedObject). P z.name) is all.0
all_of P (y ∷ ys) (suc k) x h is all = all_of P ys k x (omega arith) is all.1

none_less : (x : NamedObject) (xs : List NamedObject) (k : ℕ) (other : NamedObject) → IsByName (x ∷ xs)
    → k < length (x ∷ xs)
    → get_or (x ∷ xs) k other ≡ other → name_cmp other.name x.name ≡ Less → ⊥
unfolding IsStrictlySortedBy
none_less x xs zero other rising h is below =
    not_itself x.name (subst (λ (z : NamedObject). name_cmp z.name x.name ≡ Less) (sym is) below)
none_less x xs (suc k) other rising h is below =
    never_both (name_cmp other.name x.name) below
    (turned x.name other.name Less (all_of (λ n. name_cmp x.name n ≡ Less) xs k other (omega arith) is rising.0))

head_least : (name : List Rdn) (x : NamedObject) (xs : List NamedObject) → IsByName (x ∷ xs)
    → name_cmp name x.name ≡ Less
    → IsLeastGreater (x ∷ xs) name x
head_least name x xs rising less = record {
  there = (0, omega arith, refl);
  greater = less;
  least = λ other held greater below. none_less x xs held.0 other rising held.1 held.2 below;
}

not_less_at : (name : List Rdn) (x : NamedObject) (xs : List NamedObject) (entry : NamedObject)
    → is_lt (name_cmp name x.name) ≡ false
    → IsLeastGreater xs name entry → (k : ℕ) (other : NamedObject) → k < length (x ∷ xs)
    → get_or (x ∷ xs) k other ≡ other
    → name_cmp name other.name ≡ Less → name_cmp other.name entry.name ≡ Less → ⊥
not_less_at name x xs entry h so zero other within is greater below =
    absurd (false≢true (sym h ∙ ap is_lt (subst (λ (z : NamedObject). name_cmp name z.name ≡ Less) (sym is) greater)))
not_less_at name x xs entry h so (suc k) other within is greater below =
    so.least other (k, omega arith, is) greater below

later_least : (name : List Rdn) (x : NamedObject) (xs : List NamedObject) (entry : NamedObject)
    → is_lt (name_cmp name x.name) ≡ false
    → IsLeastGreater xs name entry → IsLeastGreater (x ∷ xs) name entry
later_least name x xs entry h so = record {
  there = (suc so.there.0, omega (arith, so.there.1), so.there.2);
  greater = so.greater;
  least = λ other held greater below. not_less_at name x xs entry h so held.0 other held.1 held.2 greater below;
}

after_here : (name : List Rdn) (x : NamedObject) (xs : List NamedObject) → is_lt (name_cmp name x.name) ≡ true
    → entry_after (x ∷ xs) name ≡ Some x
after_here name x xs h = rw h refl

after_later : (name : List Rdn) (x : NamedObject) (xs : List NamedObject) → is_lt (name_cmp name x.name) ≡ false
    → entry_after (x ∷ xs) name ≡ entry_after xs name
after_later name x xs h = rw h refl

least : (objects : List NamedObject) (name : List Rdn) (entry : NamedObject) → IsByName objects
    → entry_after objects name ≡ Some entry
    → IsLeastGreater objects name entry
unfolding IsStrictlySortedBy
least [] name entry rising is = absurd cc
least (x ∷ xs) name entry rising is = by (is_lt (name_cmp name x.name)) refl (least xs name entry rising.1)
  where
    by : (b : Bool) → is_lt (name_cmp name x.name) ≡ b
        → (entry_after xs name ≡ Some entry → IsLeastGreater xs name entry)
        → IsLeastGreater (x ∷ xs) name entry
    by true h rest =
        subst (λ z. IsLeastGreater (x ∷ xs) name z) (same_Some x entry (sym (after_here name x xs h) ∙ is))
        (head_least name x xs rising (lesser (name_cmp name x.name) h))
    by false h rest = later_least name x xs entry h (rest (sym (after_later name x xs h) ∙ is))

pub next_is_least : NextIsLeast
next_is_least = least

nothing_greater : (objects : List NamedObject) (name : List Rdn) (other : NamedObject) (k : ℕ)
    → entry_after objects name ≡ None
    → k < length objects → get_or objects k other ≡ other → name_cmp name other.name ≡ Less → ⊥
nothing_greater [] name other k is h at greater = absurd (omega arith)
nothing_greater (x ∷ xs) name other k is h at greater =
    by (is_lt (name_cmp name x.name)) refl k h at
    (λ j none there held. nothing_greater xs name other j none there held greater)
  where
    by : (b : Bool) → is_lt (name_cmp name x.name) ≡ b → (j : ℕ) → j < length (x ∷ xs) → get_or (x ∷ xs) j other ≡ other
        → ((i : ℕ) → entry_after xs name ≡ None → i < length xs → get_or xs i other ≡ other → ⊥) → ⊥
    by true e j h at rest = absurd (cc (sym (after_here name x xs e) ∙ is))
    by false e zero h at rest =
        absurd (false≢true (sym e
        ∙ ap is_lt (subst (λ (z : NamedObject). name_cmp name z.name ≡ Less) (sym at) greater)))
    by false e (suc j) h at rest = rest j (sym (after_later name x xs e) ∙ is) (omega arith) at

pub none_is_greater : NoneIsGreater
none_is_greater = λ objects name other is held greater. nothing_greater objects name other held.0 is held.1
    held.2 greater

-- ---- what was taken out

drop_head : (name : List Rdn) (x : NamedObject) (xs : List NamedObject) → is_same_name x.name name ≡ true
    → removed name (x ∷ xs) ≡ removed name xs
drop_head name x xs h = rw h refl

keep_head : (name : List Rdn) (x : NamedObject) (xs : List NamedObject) → is_same_name x.name name ≡ false
    → removed name (x ∷ xs) ≡ x ∷ removed name xs
keep_head name x xs h = rw h refl

gone : (name : List Rdn) (objects : List NamedObject) → object_at (removed name objects) name ≡ None
gone name [] = refl
gone name (x ∷ xs) = by (is_same_name x.name name) refl (gone name xs)
  where
    by : (b : Bool) → is_same_name x.name name ≡ b → object_at (removed name xs) name ≡ None
        → object_at (removed name (x ∷ xs)) name ≡ None
    by true h rest = ap (λ os. object_at os name) (drop_head name x xs h) ∙ rest
    by false h rest = ap (λ os. object_at os name) (keep_head name x xs h) ∙ later x (removed name xs) name h ∙ rest

pub removed_is_gone : RemovedIsGone
removed_is_gone = gone

left : (name : List Rdn) (objects : List NamedObject) (other : List Rdn) → is_same_name name other ≡ false
    → object_at (removed name objects) other ≡ object_at objects other
left name [] other apart = refl
left name (x ∷ xs) other apart = by (is_same_name x.name name) refl (left name xs other apart)
  where
    behind : object_at (removed name xs) other ≡ object_at xs other → (b : Bool) → is_same_name x.name other ≡ b
        → object_at (x ∷ removed name xs) other ≡ object_at (x ∷ xs) other
    behind rest true e = here x (removed name xs) other e ∙ sym (here x xs other e)
    behind rest false e = later x (removed name xs) other e ∙ rest ∙ sym (later x xs other e)

    by : (b : Bool) → is_same_name x.name name ≡ b → object_at (removed name xs) other ≡ object_at xs other
        → object_at (removed name (x ∷ xs)) other ≡ object_at (x ∷ xs) other
    by true h rest =
        let is : x.name ≡ name = (name_Decides x.name name).0 h in
        ap (λ os. object_at os other) (drop_head name x xs h) ∙ rest
        ∙ sym (later x xs other (ap (λ n. is_same_name n other) is ∙ apart))
    by false h rest =
        ap (λ os. object_at os other) (keep_head name x xs h) ∙ behind rest (is_same_name x.name other) refl

pub others_are_left : OthersAreLeft
others_are_left = left
