-- The objects are a finite map: what is stored is found, the others stay, and equal maps are equal lists.
use Rattle.std.proofs.Common.{◌≡◌, ℕ, Bool, true, false, List, [], ◌∷◌, None, Some, refl, sym, ap, ◌∙◌, subst}
use Rattle.std.specs.Bool.{Decides}
use Rattle.std.specs.List.{AllByRecursion}
use Rattle.std.specs.List.Sorted.{IsStrictlySortedBy}
use Rattle.std.specs.Ordering.{is_eq, ordering_reverse}
use Rattle.std.specs.declared.cmp.Ordering.{Ordering}
use Rattle.std.specs.declared.cmp.Ordering.TheVariants.{Less, Equal, Greater}
use Rattle.std.proofs.lemmas.Bool.{and_parts}
use Rattle.std.proofs.lemmas.Option.{same_Some}
use Rattle.std.proofs.lemmas.Slice.Eq.{bytes_eq-Decides, slice_eq-Decides}
use Rattle.term_model.specs.declared.name.Rdn.{Rdn}
use Rattle.term_model.specs.declared.objects.NamedObject.{NamedObject}
use Rattle.term_model.specs.Comparing.{is_same_name, is_same_oid, is_same_octets, is_same_rdn}
use Rattle.term_model.specs.MapLaws.{StoredIsFound, OthersStay, NamesRise, EqualMaps}
use Rattle.term_model.specs.NameLaws.{name_ties, name_total}
use Rattle.term_model.specs.NameOrder.{name_cmp}
use Rattle.term_model.specs.NamedObjects.{IsByName, names, object_at, stored, stored_by}

-- ---- names

pub rdn_Decides : (x y : Rdn) → Decides (is_same_rdn x y) (x ≡ y)
rdn_Decides x y = (
  λ e.
      let parts = and_parts (is_same_oid x.attribute y.attribute) (is_same_octets x.value y.value) e in
      by_parts x.attribute y.attribute x.value y.value ((bytes_eq-Decides x.attribute y.attribute).0 parts.0)
      ((bytes_eq-Decides x.value y.value).0 parts.1),
  λ e. subst (λ z. is_same_rdn x z ≡ true) e (same x),
)
  where
    by_parts : (a b c d : List ℕ) → a ≡ b → c ≡ d
        → ◌≡◌ {A = Rdn} (record { attribute = a; value = c }) (record { attribute = b; value = d })
    by_parts a b c d e f = λ i. record { attribute = e i; value = f i }

    same : (z : Rdn) → is_same_rdn z z ≡ true
    same z = rw ((bytes_eq-Decides z.attribute z.attribute).1 refl) ((bytes_eq-Decides z.value z.value).1 refl)

pub name_Decides : (xs ys : List Rdn) → Decides (is_same_name xs ys) (xs ≡ ys)
name_Decides xs ys = slice_eq-Decides rdn_Decides xs ys (is_same_name xs ys) refl

pub same_itself : (xs : List Rdn) → is_same_name xs xs ≡ true
same_itself xs = (name_Decides xs xs).1 refl

pub not_same : (xs ys : List Rdn) (o : Ordering) → name_cmp xs ys ≡ o → is_eq o ≡ false → is_same_name xs ys ≡ false
not_same xs ys o e h = name_ties xs ys ∙ ap is_eq e ∙ h

pub turned : (xs ys : List Rdn) (o : Ordering) → name_cmp xs ys ≡ o → name_cmp ys xs ≡ ordering_reverse o
turned xs ys o e = name_total.antisymm ys xs ∙ ap ordering_reverse e

pub same_place : (xs ys : List Rdn) → name_cmp xs ys ≡ Equal → xs ≡ ys
same_place xs ys e = (name_Decides xs ys).0 (name_ties xs ys ∙ ap is_eq e)

-- ---- what is found

pub here : (x : NamedObject) (xs : List NamedObject) (name : List Rdn) → is_same_name x.name name ≡ true
    → object_at (x ∷ xs) name ≡ Some x.object
here x xs name h = rw h refl

pub later : (x : NamedObject) (xs : List NamedObject) (name : List Rdn) → is_same_name x.name name ≡ false
    → object_at (x ∷ xs) name ≡ object_at xs name
later x xs name h = rw h refl

found : (entry : NamedObject) (objects : List NamedObject)
    → object_at (stored entry objects) entry.name ≡ Some entry.object
found entry [] = here entry [] entry.name (same_itself entry.name)
found entry (x ∷ xs) = by (found entry xs) (name_cmp entry.name x.name) refl
  where
    by : object_at (stored entry xs) entry.name ≡ Some entry.object → (o : Ordering) → name_cmp entry.name x.name ≡ o
        → object_at (stored_by o entry x xs (stored entry xs)) entry.name ≡ Some entry.object
    by behind Less e = here entry (x ∷ xs) entry.name (same_itself entry.name)
    by behind Equal e = here entry xs entry.name (same_itself entry.name)
    by behind Greater e = later x (stored entry xs) entry.name
        (not_same x.name entry.name Less (turned entry.name x.name Greater e) refl) ∙ behind

pub stored_is_found : StoredIsFound
stored_is_found = found

stay : (entry : NamedObject) (objects : List NamedObject) (name : List Rdn) → is_same_name entry.name name ≡ false
    → object_at (stored entry objects) name ≡ object_at objects name
stay entry [] name other = later entry [] name other
stay entry (x ∷ xs) name other =
    by (behind (stay entry xs name other) (is_same_name x.name name) refl) (name_cmp entry.name x.name) refl
  where
    behind : object_at (stored entry xs) name ≡ object_at xs name → (b : Bool) → is_same_name x.name name ≡ b
        → object_at (x ∷ stored entry xs) name ≡ object_at (x ∷ xs) name
    behind rest true h = here x (stored entry xs) name h ∙ sym (here x xs name h)
    behind rest false h = later x (stored entry xs) name h ∙ rest ∙ sym (later x xs name h)

    by : object_at (x ∷ stored entry xs) name ≡ object_at (x ∷ xs) name → (o : Ordering)
        → name_cmp entry.name x.name ≡ o
        → object_at (stored_by o entry x xs (stored entry xs)) name ≡ object_at (x ∷ xs) name
    by last Less e = later entry (x ∷ xs) name other
    by last Equal e = later entry xs name other
        ∙ sym (later x xs name (ap (λ n. is_same_name n name) (sym (same_place entry.name x.name e)) ∙ other))
    by last Greater e = last

pub others_stay : OthersStay
others_stay = stay

-- ---- rising names

pub none_rise : IsByName []
unfolding IsStrictlySortedBy
none_rise = tt

all_stored : (P : List Rdn → Type 0) (entry : NamedObject) (objects : List NamedObject) → P entry.name
    → AllByRecursion P (names objects) → AllByRecursion P (names (stored entry objects))
all_stored P entry [] one all = (one, tt)
all_stored P entry (x ∷ xs) one all = by (all_stored P entry xs one all.1) (name_cmp entry.name x.name)
  where
    by : AllByRecursion P (names (stored entry xs)) → (o : Ordering)
        → AllByRecursion P (names (stored_by o entry x xs (stored entry xs)))
    by rest Less = (one, all)
    by rest Equal = (one, all.1)
    by rest Greater = (all.0, rest)

pub all_by : (P Q : List Rdn → Type 0) (ns : List (List Rdn)) → ((n : List Rdn) → P n → Q n) → AllByRecursion P ns
    → AllByRecursion Q ns
all_by P Q [] f all = tt
all_by P Q (n ∷ ns) f all = (f n all.0, all_by P Q ns f all.1)

rise : (entry : NamedObject) (objects : List NamedObject) → IsByName objects → IsByName (stored entry objects)
unfolding IsStrictlySortedBy
rise entry [] h = (tt, tt)
rise entry (x ∷ xs) h = by (rise entry xs h.1) (name_cmp entry.name x.name) refl
  where
    by : IsByName (stored entry xs) → (o : Ordering) → name_cmp entry.name x.name ≡ o
        → IsByName (stored_by o entry x xs (stored entry xs))
    by rest Less e = (
      (
        e,
        all_by (λ n. name_cmp x.name n ≡ Less) (λ n. name_cmp entry.name n ≡ Less) (names xs)
            (λ n below. name_total.trans entry.name x.name n e below) h.0,
      ),
      h,
    )
    by rest Equal e = (
      all_by (λ n. name_cmp x.name n ≡ Less) (λ n. name_cmp entry.name n ≡ Less) (names xs)
          (λ n below. name_total.congr entry.name x.name n e ∙ below) h.0,
      h.1,
    )
    by rest Greater e = (
      all_stored (λ n. name_cmp x.name n ≡ Less) entry xs
          (turned entry.name x.name Greater e) h.0,
      rest,
    )

pub names_rise : NamesRise
names_rise = rise

-- ---- equal maps

pub nothing_below : (xs : List NamedObject) (name : List Rdn) → AllByRecursion (λ n. name_cmp name n ≡ Less) (names xs)
    → object_at xs name ≡ None
nothing_below [] name all = refl
nothing_below (x ∷ xs) name all =
    later x xs name (not_same x.name name Greater (turned name x.name Less all.0) refl) ∙ nothing_below xs name all.1

-- a name in front of those of a map is none of the other one, where both have the same
in_front : (x : NamedObject) (xs ys : List NamedObject) → AllByRecursion (λ n. name_cmp x.name n ≡ Less) (names ys)
    → ((name : List Rdn) → object_at (x ∷ xs) name ≡ object_at ys name) → ⊥
in_front x xs ys all same =
    absurd (cc (sym (here x xs x.name (same_itself x.name)) ∙ same x.name ∙ nothing_below ys x.name all))

first_in_front : (x y : NamedObject) (xs ys : List NamedObject) → IsByName (y ∷ ys) → name_cmp x.name y.name ≡ Less
    → ((name : List Rdn) → object_at (x ∷ xs) name ≡ object_at (y ∷ ys) name) → ⊥
unfolding IsStrictlySortedBy
first_in_front x y xs ys h e same =
    in_front x xs (y ∷ ys) (
      e,
      all_by (λ n. name_cmp y.name n ≡ Less) (λ n. name_cmp x.name n ≡ Less) (names ys)
          (λ n below. name_total.trans x.name y.name n e below) h.0,
    ) same

-- without the first entries, which are the same
rest_same : (x y : NamedObject) (xs ys : List NamedObject) → IsByName (x ∷ xs) → IsByName (y ∷ ys) → x.name ≡ y.name
    → ((name : List Rdn) → object_at (x ∷ xs) name ≡ object_at (y ∷ ys) name) → (name : List Rdn)
    → object_at xs name ≡ object_at ys name
unfolding IsStrictlySortedBy
rest_same x y xs ys hx hy e same name = by (is_same_name x.name name) refl
  where
    by : (b : Bool) → is_same_name x.name name ≡ b → object_at xs name ≡ object_at ys name
    by true h =
        let is : x.name ≡ name = (name_Decides x.name name).0 h in
        nothing_below xs name (subst (λ m. AllByRecursion (λ n. name_cmp m n ≡ Less) (names xs)) is hx.0)
        ∙ sym (nothing_below ys name
        (subst (λ m. AllByRecursion (λ n. name_cmp m n ≡ Less) (names ys)) (sym e ∙ is) hy.0))
    by false h = sym (later x xs name h) ∙ same name ∙ later y ys name (ap (λ m. is_same_name m name) (sym e) ∙ h)

same_entry : (x y : NamedObject) → x.name ≡ y.name → x.object ≡ y.object → x ≡ y
same_entry x y e f = λ i. record { name = e i; object = f i }

equal : (xs ys : List NamedObject) → IsByName xs → IsByName ys
    → ((name : List Rdn) → object_at xs name ≡ object_at ys name) → xs ≡ ys
unfolding IsStrictlySortedBy
equal [] [] hx hy same = refl
equal [] (y ∷ ys) hx hy same = absurd (in_front y ys [] tt (λ name. sym (same name)))
equal (x ∷ xs) [] hx hy same = absurd (in_front x xs [] tt same)
equal (x ∷ xs) (y ∷ ys) hx hy same = by (equal xs ys hx.1 hy.1) (name_cmp x.name y.name) refl
  where
    by : (((name : List Rdn) → object_at xs name ≡ object_at ys name) → xs ≡ ys) → (o : Ordering)
        → name_cmp x.name y.name ≡ o → x ∷ xs ≡ y ∷ ys
    by rest Less e = absurd (first_in_front x y xs ys hy e same)
    by rest Greater e = absurd (first_in_front y x ys xs hx (turned x.name y.name Greater e) (λ name. sym (same name)))
    by rest Equal e =
        let is : x.name ≡ y.name = same_place x.name y.name e in
        let one : x.object ≡ y.object =
        same_Some x.object y.object (sym (here x xs x.name (same_itself x.name)) ∙ same x.name
        ∙ here y ys x.name (ap (λ m. is_same_name m x.name) (sym is) ∙ same_itself x.name)) in
        let both : x ≡ y = same_entry x y is one in
        ap (λ z. z ∷ xs) both ∙ ap (λ zs. y ∷ zs) (rest (rest_same x y xs ys hx hy is same))

pub equal_maps : EqualMaps
equal_maps = equal
