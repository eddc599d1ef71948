-- The objects of a unit as a map of its own: what is found there, and what storing does to it.
use Rattle.std.proofs.Common.{◌≡◌, Bool, true, false, List, [], ◌∷◌, None, Some, refl, sym, ap, ◌∙◌}
use Rattle.std.proofs.Common.{subst}
use Rattle.std.specs.Prelude.{filter, not}
use Rattle.std.specs.List.Sorted.{IsStrictlySortedBy}
use Rattle.std.proofs.lemmas.List.Kept.{IsStrictlySortedBy-filter}
use Rattle.std.proofs.lemmas.Bool.{false≢true}
use Rattle.term_model.specs.declared.name.Rdn.{Rdn}
use Rattle.term_model.specs.declared.objects.NamedObject.{NamedObject}
use Rattle.term_model.specs.Comparing.{is_same_name}
use Rattle.term_model.specs.NameOrder.{name_cmp}
use Rattle.term_model.specs.NamedObjects.{IsByName, names, object_at, removed, stored}
use Rattle.term_model.proofs.MapLaws.{equal_maps, here, later, name_Decides, names_rise, others_stay, stored_is_found}
use Rattle.operation_model.specs.WholeOperation.{Changed, installed}

-- ---- filters by name

abbrev pub by_name : (List Rdn → Bool) → NamedObject → Bool
by_name test entry = test entry.name

pub kept : {A : Type 0} (p : A → Bool) (x : A) (xs : List A) → p x ≡ true → filter p (x ∷ xs) ≡ x ∷ filter p xs
kept p x xs e = rw e refl

pub left_out : {A : Type 0} (p : A → Bool) (x : A) (xs : List A) → p x ≡ false → filter p (x ∷ xs) ≡ filter p xs
left_out p x xs e = rw e refl

pub names_filter : (test : List Rdn → Bool) (objects : List NamedObject)
    → names (filter (by_name test) objects) ≡ filter test (names objects)
names_filter test [] = refl
names_filter test (x ∷ xs) = by (names_filter test xs) (test x.name) refl
  where
    by : names (filter (by_name test) xs) ≡ filter test (names xs) → (b : Bool) → test x.name ≡ b
        → names (filter (by_name test) (x ∷ xs)) ≡ filter test (names (x ∷ xs))
    by again true e = ap names (kept (by_name test) x xs e) ∙ ap (λ ns. x.name ∷ ns) again
        ∙ sym (kept test x.name (names xs) e)
    by again false e = ap names (left_out (by_name test) x xs e) ∙ again
        ∙ sym (left_out test x.name (names xs) e)

pub filter_rises : (test : List Rdn → Bool) (objects : List NamedObject) → IsByName objects
    → IsByName (filter (by_name test) objects)
filter_rises test objects h =
    subst (IsStrictlySortedBy name_cmp) (sym (names_filter test objects))
    (IsStrictlySortedBy-filter name_cmp test (names objects) h)

-- what is found among those that are kept
pub found_kept : (test : List Rdn → Bool) (objects : List NamedObject) (name : List Rdn) → test name ≡ true
    → object_at (filter (by_name test) objects) name ≡ object_at objects name
found_kept test [] name h = refl
found_kept test (x ∷ xs) name h = by (found_kept test xs name h) (test x.name) (is_same_name x.name name) refl refl
  where
    by : object_at (filter (by_name test) xs) name ≡ object_at xs name → (b c : Bool) → test x.name ≡ b
        → is_same_name x.name name ≡ c
        → object_at (filter (by_name test) (x ∷ xs)) name ≡ object_at (x ∷ xs) name
    by again true true e f = ap (λ zs. object_at zs name) (kept (by_name test) x xs e)
        ∙ here x (filter (by_name test) xs) name f ∙ sym (here x xs name f)
    by again true false e f = ap (λ zs. object_at zs name) (kept (by_name test) x xs e)
        ∙ later x (filter (by_name test) xs) name f ∙ again ∙ sym (later x xs name f)
    by again false true e f = absurd (false≢true (sym e ∙ ap test ((name_Decides x.name name).0 f) ∙ h))
    by again false false e f = ap (λ zs. object_at zs name) (left_out (by_name test) x xs e)
        ∙ again ∙ sym (later x xs name f)

pub found_out : (test : List Rdn → Bool) (objects : List NamedObject) (name : List Rdn) → test name ≡ false
    → object_at (filter (by_name test) objects) name ≡ None
found_out test [] name h = refl
found_out test (x ∷ xs) name h = by (found_out test xs name h) (test x.name) (is_same_name x.name name) refl refl
  where
    by : object_at (filter (by_name test) xs) name ≡ None → (b c : Bool) → test x.name ≡ b
        → is_same_name x.name name ≡ c
        → object_at (filter (by_name test) (x ∷ xs)) name ≡ None
    by again true true e f = absurd (false≢true (sym h ∙ ap test (sym ((name_Decides x.name name).0 f)) ∙ e))
    by again true false e f = ap (λ zs. object_at zs name) (kept (by_name test) x xs e)
        ∙ later x (filter (by_name test) xs) name f ∙ again
    by again false c e f = ap (λ zs. object_at zs name) (left_out (by_name test) x xs e) ∙ again

-- ---- maps that agree under the names of a test

pub record Agree (test : List Rdn → Bool) (one other : List NamedObject) : Type 0 where
  pub rises : IsByName one
  pub other_rises : IsByName other
  pub same : (name : List Rdn) → test name ≡ true → object_at one name ≡ object_at other name

pub agree_from : (test : List Rdn → Bool) (one other : List NamedObject) → IsByName one → IsByName other
    → filter (by_name test) one ≡ filter (by_name test) other → Agree test one other
agree_from test one other h k e = record {
  rises = h;
  other_rises = k;
  same = λ name within. sym (found_kept test one name within)
      ∙ ap (λ objects. object_at objects name) e ∙ found_kept test other name within;
}

pub agree_less : (more test : List Rdn → Bool) (one other : List NamedObject)
    → ((name : List Rdn) → test name ≡ true → more name ≡ true) → Agree more one other → Agree test one other
agree_less more test one other less h = record {
  rises = h.rises;
  other_rises = h.other_rises;
  same = λ name within. h.same name (less name within);
}

pub agree_kept : (test : List Rdn → Bool) (one other : List NamedObject) → Agree test one other
    → filter (by_name test) one ≡ filter (by_name test) other
agree_kept test one other h =
    equal_maps (filter (by_name test) one) (filter (by_name test) other) (filter_rises test one h.rises)
    (filter_rises test other h.other_rises) (λ name. at name (test name) refl)
  where
    at : (name : List Rdn) (b : Bool) → test name ≡ b
        → object_at (filter (by_name test) one) name ≡ object_at (filter (by_name test) other) name
    at name true e = found_kept test one name e ∙ h.same name e ∙ sym (found_kept test other name e)
    at name false e = found_out test one name e ∙ sym (found_out test other name e)

-- ---- changes

pub stored_agrees : (test : List Rdn → Bool) (one other : List NamedObject) (entry : NamedObject)
    → Agree test one other → Agree test (stored entry one) (stored entry other)
stored_agrees test one other entry h = record {
  rises = names_rise entry one h.rises;
  other_rises = names_rise entry other h.other_rises;
  same = λ name within. at name within (is_same_name entry.name name) refl;
}
  where
    at : (name : List Rdn) → test name ≡ true → (b : Bool) → is_same_name entry.name name ≡ b
        → object_at (stored entry one) name ≡ object_at (stored entry other) name
    at name within true e =
        let is : entry.name ≡ name = (name_Decides entry.name name).0 e in
        subst (λ n. object_at (stored entry one) n ≡ object_at (stored entry other) n) is
        (stored_is_found entry one ∙ sym (stored_is_found entry other))
    at name within false e =
        others_stay entry one name e ∙ h.same name within ∙ sym (others_stay entry other name e)

abbrev pub differs_from : List Rdn → List Rdn → Bool
differs_from name other = not (is_same_name other name)

pub removed_agrees : (test : List Rdn → Bool) (one other : List NamedObject) (gone : List Rdn)
    → Agree test one other → Agree test (removed gone one) (removed gone other)
removed_agrees test one other gone h = record {
  rises = filter_rises (differs_from gone) one h.rises;
  other_rises = filter_rises (differs_from gone) other h.other_rises;
  same = λ name within. at name within (differs_from gone name) refl;
}
  where
    at : (name : List Rdn) → test name ≡ true → (b : Bool) → differs_from gone name ≡ b
        → object_at (removed gone one) name ≡ object_at (removed gone other) name
    at name within true e =
        found_kept (differs_from gone) one name e ∙ h.same name within
        ∙ sym (found_kept (differs_from gone) other name e)
    at name within false e =
        found_out (differs_from gone) one name e ∙ sym (found_out (differs_from gone) other name e)

pub installed_agrees : (test : List Rdn → Bool) (one other : List NamedObject) (changes : Changed)
    → Agree test one other → Agree test (installed one changes) (installed other changes)
installed_agrees test one other [] h = h
installed_agrees test one other ((name, None) ∷ changes) h =
    installed_agrees test (removed name one) (removed name other) changes (removed_agrees test one other name h)
installed_agrees test one other ((name, Some object) ∷ changes) h =
    let entry : NamedObject = record { name = name; object = object } in
    installed_agrees test (stored entry one) (stored entry other) changes (stored_agrees test one other entry h)

-- each change is of an object inside
abbrev pub AreInside : (List Rdn → Bool) → Changed → Type 0
AreInside test [] = Unit {0}
AreInside test (change ∷ changes) = (test change.0 ≡ true) × AreInside test changes

other_name : (test : List Rdn → Bool) (one other : List Rdn) → test one ≡ true → test other ≡ false
    → is_same_name one other ≡ false
other_name test one other h k = by (is_same_name one other) refl
  where
    by : (b : Bool) → is_same_name one other ≡ b → is_same_name one other ≡ false
    by true e = absurd (false≢true (sym k ∙ ap test (sym ((name_Decides one other).0 e)) ∙ h))
    by false e = e

pub installed_outside : (test : List Rdn → Bool) (objects : List NamedObject) (changes : Changed) (name : List Rdn)
    → AreInside test changes → test name ≡ false → object_at (installed objects changes) name ≡ object_at objects name
installed_outside test objects [] name all out = refl
installed_outside test objects ((at, None) ∷ changes) name all out =
    installed_outside test (removed at objects) changes name all.1 out
    ∙ found_kept (differs_from at) objects name
    (ap not (other_name (λ n. not (test n)) name at (ap not out) (ap not all.0)))
installed_outside test objects ((at, Some object) ∷ changes) name all out =
    let entry : NamedObject = record { name = at; object = object } in
    installed_outside test (stored entry objects) changes name all.1 out
    ∙ others_stay entry objects name (other_name test at name all.0 out)

pub installed_rises : (objects : List NamedObject) (changes : Changed) → IsByName objects
    → IsByName (installed objects changes)
installed_rises objects [] h = h
installed_rises objects ((at, None) ∷ changes) h =
    installed_rises (removed at objects) changes (filter_rises (differs_from at) objects h)
installed_rises objects ((at, Some object) ∷ changes) h =
    let entry : NamedObject = record { name = at; object = object } in
    installed_rises (stored entry objects) changes (names_rise entry objects h)
