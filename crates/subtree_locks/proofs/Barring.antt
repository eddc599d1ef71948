-- Who holds a mode that doesn't go with a wanted one.
use Rattle.std.proofs.Common.{◌≡◌, ◌<◌, ◌≤◌, ℕ, zero, suc, Bool, true, false, [], ◌∷◌}
use Rattle.std.proofs.Common.{take}
use Rattle.std.proofs.Common.{None, Some, refl, sym, ap, ◌∙◌, subst, arith, inl, inr}
use Rattle.std.specs.Prelude.{◌&&◌, ◌||◌, Contains, not, slice_get}
use Rattle.std.specs.List.{list_any}
use Rattle.std.proofs.lemmas.Bool.{and_parts, false≢true}
use Rattle.std.proofs.lemmas.Option.{none-some, same_Some}
use Rattle.lock_model.specs.declared.lock_name.LockName.{LockName}
use Rattle.lock_model.specs.declared.lock_name.Mode.{Mode}
use Rattle.lock_model.specs.declared.lock_name.Part.{Part}
use Rattle.lock_model.specs.declared.lock_name.Part.TheVariants as extents
use Rattle.lock_model.specs.LockPath.{IsWay, Path, depth, goes_with, is_same_lock, is_same_part}
use Rattle.lock_model.specs.Holdings.{conflicts}
use Rattle.lock_model.proofs.Granting.{symmetric}
use Rattle.lock_model.proofs.Standing.{first_or_later, same_lock_is}
use Rattle.term_model.proofs.MapLaws.{same_itself}

abbrev Place : Type 0
Place = LockName × Mode

-- none of the first ones passes
pub none_taken : (test : Place → Bool) (xs : Path) (k : ℕ)
    → ((i : ℕ) (x : Place) → i < k → slice_get xs i ≡ Some x → test x ≡ false) → list_any test (take k xs) ≡ false
none_taken test [] zero h = refl
none_taken test [] (suc k) h = refl
none_taken test (x ∷ xs) zero h = refl
none_taken test (x ∷ xs) (suc k) h =
    ap (λ b. b || list_any test (take k xs)) (h 0 x (omega arith) refl)
    ∙ none_taken test xs k (λ i y within is. h (suc i) y (omega arith) is)

-- of those that may pass at one place alone
pub one_taken : (test : Place → Bool) (xs : Path) (k at : ℕ) (place : Place)
    → ((i : ℕ) (x : Place) → slice_get xs i ≡ Some x → test x ≡ true → i ≡ at)
    → at < k → slice_get xs at ≡ Some place → list_any test (take k xs) ≡ test place
one_taken test xs zero at place only within is = absurd (omega arith)
one_taken test [] (suc k) at place only within is = absurd (none-some place is)
one_taken test (x ∷ xs) (suc k) zero place only within is =
    subst (λ (p : Place). list_any test (x ∷ take k xs) ≡ test p) (same_Some x place is) (by (test x) refl)
  where
    later : (i : ℕ) (y : Place) → i < k → slice_get xs i ≡ Some y → (b : Bool) → test y ≡ b → b ≡ false
    later i y h has true e = absurd (let z = only (suc i) y has e in omega arith)
    later i y h has false e = refl

    by : (b : Bool) → test x ≡ b → (b || list_any test (take k xs)) ≡ b
    by true e = refl
    by false e = none_taken test xs k (λ i y h has. later i y h has (test y) refl)
one_taken test (x ∷ xs) (suc k) (suc at) place only within is =
    ap (λ b. b || list_any test (take k xs)) (first (test x) refl)
    ∙ one_taken test xs k at place (λ i y has e. (let z = only (suc i) y has e in omega arith)) (omega arith) is
  where
    first : (b : Bool) → test x ≡ b → b ≡ false
    first true e = absurd (let z = only 0 x refl e in omega arith)
    first false e = refl

or_parts : (a b : Bool) → (a || b) ≡ false → (a ≡ false) × (b ≡ false)
or_parts true b h = absurd (false≢true (sym h))
or_parts false b h = (refl, h)

part_itself : (part : Part) → is_same_part part part ≡ true
part_itself extents.Tree = refl
part_itself extents.Own = refl

lock_itself : (lock : LockName) → is_same_lock lock lock ≡ true
lock_itself lock =
    ap (λ b. b && is_same_part lock.part lock.part) (same_itself lock.name) ∙ part_itself lock.part

-- a conflict stands at the depth of the lock name
conflict_deep : (path : Path) (wanted : Place) → IsWay path → (i : ℕ) (x : Place) → slice_get path i ≡ Some x
    → conflicts wanted x ≡ true → i ≡ depth wanted.0
conflict_deep path wanted way i x is e =
    let parts = and_parts (is_same_lock x.0 wanted.0) (not (goes_with x.1 wanted.1)) e in
    way i x is ∙ ap depth (same_lock_is x.0 wanted.0 parts.0)

pub bars_there : (path : Path) (wanted place : Place) (held at : ℕ) → IsWay path → at ≡ depth wanted.0 → at < held
    → slice_get path at ≡ Some place → list_any (conflicts wanted) (take held path) ≡ conflicts wanted place
bars_there path wanted place held at way deep within is =
    one_taken (conflicts wanted) path held at place
    (λ i x has e. conflict_deep path wanted way i x has e ∙ sym deep) within is

pub bars_none : (path : Path) (wanted : Place) (held at : ℕ) → IsWay path → at ≡ depth wanted.0 → held ≤ at
    → list_any (conflicts wanted) (take held path) ≡ false
bars_none path wanted held at way deep less =
    none_taken (conflicts wanted) path held (λ i x within has. by i x within has (conflicts wanted x) refl)
  where
    by : (i : ℕ) (x : Place) → i < held → slice_get path i ≡ Some x → (b : Bool) → conflicts wanted x ≡ b → b ≡ false
    by i x within has true e = absurd (let z = conflict_deep path wanted way i x has e in omega arith)
    by i x within has false e = refl

pub bars_gone : (path : Path) (wanted : Place) (held at : ℕ) → IsWay path → at ≡ depth wanted.0
    → slice_get path at ≡ None → list_any (conflicts wanted) (take held path) ≡ false
bars_gone path wanted held at way deep away =
    none_taken (conflicts wanted) path held (λ i x within has. by i x has (conflicts wanted x) refl)
  where
    by : (i : ℕ) (x : Place) → slice_get path i ≡ Some x → (b : Bool) → conflicts wanted x ≡ b → b ≡ false
    by i x has true e =
        absurd (none-some x (sym away ∙ subst (λ k. slice_get path k ≡ Some x)
        (conflict_deep path wanted way i x has e ∙ sym deep) has))
    by i x has false e = refl

-- where none of what is held conflicts, what is held on the lock name goes with the wanted mode
pub any_conflict : (lock : LockName) (m n : Mode) (held : Path) → Contains held (lock, n)
    → list_any (conflicts (lock, m)) held ≡ false → goes_with m n ≡ true
any_conflict lock m n [] theirs none_ = absurd (omega (arith, theirs.1))
any_conflict lock m n (x ∷ xs) theirs none_ = elim (first_or_later x xs (lock, n) theirs) [
  | inl is ↦ first (subst (λ (p : Place). conflicts (lock, m) p ≡ false) is (neither.0))
  | inr later ↦ any_conflict lock m n xs later neither.1
]
  where
    neither : (conflicts (lock, m) x ≡ false) × (list_any (conflicts (lock, m)) xs ≡ false)
    neither = or_parts (conflicts (lock, m) x) (list_any (conflicts (lock, m)) xs) none_

    first : conflicts (lock, m) (lock, n) ≡ false → goes_with m n ≡ true
    first h = symmetric n m (by (goes_with n m) (ap (λ b. b && not (goes_with n m)) (sym (lock_itself lock)) ∙ h))
      where
        by : (b : Bool) → not b ≡ false → b ≡ true
        by true e = refl
        by false e = absurd (false≢true (sym e))
