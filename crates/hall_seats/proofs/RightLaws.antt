-- Rights in lists, and which entries are whose.
use Rattle.std.proofs.Common.{◌≡◌, ◌⊎◌, ℕ, ◌+◌, ◌==◌, ◌||◌, Bool, true, false, cond, List, [], ◌∷◌, ◌++◌}
use Rattle.std.proofs.Common.{refl, sym, ap, subst, ◌∙◌, inl, inr, ⊎_elim, eq-eqb, ne_eqb, arith}
use Rattle.std.proofs.Common.{append_assoc}
use Rattle.std.specs.List.{filter}
use Rattle.std.proofs.lemmas.Bool.{or_left, or_parts}
use Rattle.std.proofs.lemmas.List.{append-nil}
use Rattle.std.proofs.lemmas.List.Elements.{filter-append}
use mathlib.Core.Logic.{dite}
use native.Mathlib.Decide.{ℕ_discrete}
use Rattle.agent_model.specs.declared.entry.Entry.{Entry}
use Rattle.agent_model.specs.declared.entry.Entry.TheVariants as entry
use Rattle.hall_seats.specs.declared.right.Right.{Right}
use Rattle.hall_seats.specs.declared.right.Right.TheVariants as right
use Rattle.hall_seats.specs.Rights.{Distinct, Has, Holds, Shares, admissions, association, given}
use Rattle.hall_seats.specs.Rights.{given_by, is_opened, is_own, opens, own}
use Rattle.hall_seats.specs.Passes.{MayAdd}

pub own-append : (r : Right) (xs ys : List Entry) → own r (xs ++ ys) ≡ own r xs ++ own r ys
own-append r xs ys = filter-append (is_own r) xs ys

pub opened-append : (a : ℕ) (xs ys : List Entry) → is_opened a (xs ++ ys) ≡ (is_opened a xs || is_opened a ys)
opened-append a [] ys = refl
opened-append a (x ∷ xs) ys =
    ap (λ b. opens a x || b) (opened-append a xs ys) ∙ grouped (opens a x) (is_opened a xs) (is_opened a ys)
  where
    grouped : (x y z : Bool) → (x || (y || z)) ≡ ((x || y) || z)
    grouped true y z = refl
    grouped false y z = refl

-- an association that was opened stays so
pub opened_later : (a : ℕ) (xs ys : List Entry) → is_opened a xs ≡ true → is_opened a (xs ++ ys) ≡ true
opened_later a xs ys h = opened-append a xs ys ∙ or_left (is_opened a xs) (is_opened a ys) h

-- one that isn't opened wasn't before
pub unopened_before : (a : ℕ) (xs ys : List Entry) → is_opened a (xs ++ ys) ≡ false → is_opened a xs ≡ false
unopened_before a xs ys h = (or_parts (is_opened a xs) (is_opened a ys) (sym (opened-append a xs ys) ∙ h)).0

pub admissions-append : (xs ys : List Entry) → admissions (xs ++ ys) ≡ admissions xs + admissions ys
admissions-append [] ys = omega arith
admissions-append (x ∷ xs) ys = omega (arith, admissions-append xs ys)

pub given_by-append : (xs ys : List Entry) → given_by (xs ++ ys) ≡ given_by ys ++ given_by xs
given_by-append [] ys = sym (append-nil (given_by ys))
given_by-append (x ∷ xs) ys = ap (λ rs. rs ++ given x) (given_by-append xs ys)
    ∙ append_assoc (given_by ys) (given_by xs) (given x)

pub has_left : (xs ys : List Right) (r : Right) → Has xs r → Has (xs ++ ys) r
has_left [] ys r h = absurd h
has_left (x ∷ xs) ys r (inl e) = inl e
has_left (x ∷ xs) ys r (inr h) = inr (has_left xs ys r h)

pub has_right : (xs ys : List Right) (r : Right) → Has ys r → Has (xs ++ ys) r
has_right [] ys r h = h
has_right (x ∷ xs) ys r h = inr (has_right xs ys r h)

pub has_either : (xs ys : List Right) (r : Right) → Has (xs ++ ys) r → Has xs r ⊎ Has ys r
has_either [] ys r h = inr h
has_either (x ∷ xs) ys r (inl e) = inl (inl e)
has_either (x ∷ xs) ys r (inr h) = ⊎_elim (λ t. inl (inr t)) (λ t. inr t) (has_either xs ys r h)

pub distinct_both : (xs ys : List Right) → Distinct xs → Distinct ys → ((r : Right) → Has xs r → Has ys r → ⊥)
    → Distinct (xs ++ ys)
distinct_both [] ys d e apart = e
distinct_both (x ∷ xs) ys d e apart = (
  (λ h. ⊎_elim d.0 (apart x (inl refl)) (has_either xs ys x h)),
  distinct_both xs ys d.1 e (λ r h. apart r (inr h)),
)

pub has_filtered : (test : Right → Bool) (rights : List Right) (r : Right) → Has (filter test rights) r
    → Has rights r × (test r ≡ true)
has_filtered test [] r h = absurd h
has_filtered test (x ∷ xs) r h = first (test x) refl h (has_filtered test xs r)
  where
    first : (b : Bool) → test x ≡ b → Has (cond b (x ∷ filter test xs) (filter test xs)) r
        → (Has (filter test xs) r → Has xs r × (test r ≡ true)) → Has (x ∷ xs) r × (test r ≡ true)
    first true e (inl same) others = (inl same, subst (λ q. test q ≡ true) same e)
    first true e (inr there) others = (inr (others there).0, (others there).1)
    first false e there others = (inr (others there).0, (others there).1)

pub distinct_filtered : (test : Right → Bool) (rights : List Right) → Distinct rights → Distinct (filter test rights)
distinct_filtered test [] d = tt
distinct_filtered test (x ∷ xs) d =
    first (test x) (λ h. d.0 (has_filtered test xs x h).0) (distinct_filtered test xs d.1)
  where
    first : (b : Bool) → ¬ (Has (filter test xs) x) → Distinct (filter test xs)
        → Distinct (cond b (x ∷ filter test xs) (filter test xs))
    first true away others = (away, others)
    first false away others = others

-- more rights hold more
pub holds_more : (xs ys : List Right) → ((r : Right) → Has xs r → Has ys r) → (r : Right) → Holds xs r → Holds ys r
holds_more xs ys more (right.Arriving a) h = more (right.Arriving a) h
holds_more xs ys more (right.Taking a) h = more (right.Taking a) h
holds_more xs ys more (right.Closing a) h = (more (right.Arriving a) h.0, more (right.Taking a) h.1)

-- without rights nothing is held
pub holds_none : (r : Right) → Holds [] r → ⊥
holds_none (right.Arriving a) h = h
holds_none (right.Taking a) h = h
holds_none (right.Closing a) h = h.0

-- who may add the entries of a right has a right of its association, which whoever holds it has too
pub shared_right : (xs ys : List Right) (r : Right) → Shares xs r → Holds ys r
    → (q : Right) × Has xs q × Has ys q
shared_right xs ys (right.Arriving a) s h = (right.Arriving a, s, h)
shared_right xs ys (right.Taking a) s h = (right.Taking a, s, h)
shared_right xs ys (right.Closing a) (inl s) h = (right.Arriving a, s, h.0)
shared_right xs ys (right.Closing a) (inr s) h = (right.Taking a, s, h.1)

pub right_of : (xs : List Right) (r : Right) → Shares xs r → (q : Right) × Has xs q × (association q ≡ association r)
right_of xs (right.Arriving a) s = (right.Arriving a, s, refl)
right_of xs (right.Taking a) s = (right.Taking a, s, refl)
right_of xs (right.Closing a) (inl s) = (right.Arriving a, s, refl)
right_of xs (right.Closing a) (inr s) = (right.Taking a, s, refl)

pub held_right : (xs : List Right) (r : Right) → Holds xs r → (q : Right) × Has xs q × (association q ≡ association r)
held_right xs (right.Arriving a) h = (right.Arriving a, h, refl)
held_right xs (right.Taking a) h = (right.Taking a, h, refl)
held_right xs (right.Closing a) h = (right.Arriving a, h.0, refl)

-- a number is another one, or a fact of it is one of the other
one_or : (n a : ℕ) (P : ℕ → Type 0) → P n → ((n == a) ≡ false) ⊎ P a
one_or n a P p = dite (ℕ_discrete n a) (λ e. inr (subst P e p)) (λ apart. inl (ne_eqb n a apart))

-- an entry that may be added is of no right, or of one whose entries may be added
pub may_own : (rights : List Right) (journal : List Entry) (e : Entry) → MayAdd rights journal e → (r : Right)
    → (is_own r e ≡ false) ⊎ Shares rights r
may_own rights journal (entry.Arrived n apdu) may (right.Arriving a) =
    one_or n a (λ k. Has rights (right.Arriving k)) may
may_own rights journal (entry.Finished n) may (right.Arriving a) = one_or n a (λ k. Has rights (right.Arriving k)) may
may_own rights journal (entry.Taken n count) may (right.Taking a) = one_or n a (λ k. Has rights (right.Taking k)) may
may_own rights journal (entry.Closed n why) may (right.Closing a) =
    one_or n a (λ k. Has rights (right.Arriving k) ⊎ Has rights (right.Taking k)) may
may_own rights journal (entry.Arrived n apdu) may (right.Taking a) = inl refl
may_own rights journal (entry.Arrived n apdu) may (right.Closing a) = inl refl
may_own rights journal (entry.Finished n) may (right.Taking a) = inl refl
may_own rights journal (entry.Finished n) may (right.Closing a) = inl refl
may_own rights journal (entry.Taken n count) may (right.Arriving a) = inl refl
may_own rights journal (entry.Taken n count) may (right.Closing a) = inl refl
may_own rights journal (entry.Closed n why) may (right.Arriving a) = inl refl
may_own rights journal (entry.Closed n why) may (right.Taking a) = inl refl
may_own rights journal (entry.Opened n bind) may (right.Arriving a) = inl refl
may_own rights journal (entry.Opened n bind) may (right.Taking a) = inl refl
may_own rights journal (entry.Opened n bind) may (right.Closing a) = inl refl
may_own rights journal (entry.Begun n log) may (right.Arriving a) = inl refl
may_own rights journal (entry.Begun n log) may (right.Taking a) = inl refl
may_own rights journal (entry.Begun n log) may (right.Closing a) = inl refl
may_own rights journal (entry.Granted n moment) may (right.Arriving a) = inl refl
may_own rights journal (entry.Granted n moment) may (right.Taking a) = inl refl
may_own rights journal (entry.Granted n moment) may (right.Closing a) = inl refl
may_own rights journal (entry.Committed n) may (right.Arriving a) = inl refl
may_own rights journal (entry.Committed n) may (right.Taking a) = inl refl
may_own rights journal (entry.Committed n) may (right.Closing a) = inl refl
may_own rights journal (entry.Starved n) may (right.Arriving a) = inl refl
may_own rights journal (entry.Starved n) may (right.Taking a) = inl refl
may_own rights journal (entry.Starved n) may (right.Closing a) = inl refl

-- the rights that it brings are of an association that wasn't opened, which it opens
pub given_new : (rights : List Right) (journal : List Entry) (e : Entry) → MayAdd rights journal e → (r : Right)
    → Has (given e) r → (is_opened (association r) journal ≡ false) × (opens (association r) e ≡ true)
given_new rights journal (entry.Opened n bind) may r (inl same) =
    subst (λ q. (is_opened (association q) journal ≡ false) × ((n == association q) ≡ true)) same (may, eq-eqb n n refl)
given_new rights journal (entry.Opened n bind) may r (inr (inl same)) =
    subst (λ q. (is_opened (association q) journal ≡ false) × ((n == association q) ≡ true)) same (may, eq-eqb n n refl)
given_new rights journal (entry.Opened n bind) may r (inr (inr h)) = absurd h
given_new rights journal (entry.Arrived n apdu) may r h = absurd h
given_new rights journal (entry.Begun n log) may r h = absurd h
given_new rights journal (entry.Granted n moment) may r h = absurd h
given_new rights journal (entry.Committed n) may r h = absurd h
given_new rights journal (entry.Starved n) may r h = absurd h
given_new rights journal (entry.Taken n count) may r h = absurd h
given_new rights journal (entry.Finished n) may r h = absurd h
given_new rights journal (entry.Closed n why) may r h = absurd h

-- and they are two
pub given_once : (e : Entry) → Distinct (given e)
given_once (entry.Opened n bind) = ((λ h. two n h), ((λ h. h), tt))
  where
    two : (n : ℕ) → (right.Taking n ≡ right.Arriving n) ⊎ ⊥ → ⊥
    two n (inl e) = absurd (cc e)
    two n (inr h) = h
given_once (entry.Arrived n apdu) = tt
given_once (entry.Begun n log) = tt
given_once (entry.Granted n moment) = tt
given_once (entry.Committed n) = tt
given_once (entry.Starved n) = tt
given_once (entry.Taken n count) = tt
given_once (entry.Finished n) = tt
given_once (entry.Closed n why) = tt
