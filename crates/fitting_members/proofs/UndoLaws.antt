-- Members taken out and put in by their places, and changes that are taken back.
use Rattle.std.proofs.Common.{◌≡◌, ℕ, zero, suc, ◌<◌, ◌≤◌, List, [], ◌∷◌, ◌++◌, get_or, insert, length, min, remove}
use Rattle.std.proofs.Common.{refl, ap, arith}
use Rattle.term_values.specs.Typed.{TypedValue, TypedValues, listed}
use Rattle.term_values.specs.Typed.TypedValue.{Many}
use Rattle.term_values.specs.Typed.TypedValues.{Then}
use Rattle.fitting_members.specs.TakingBack.{value_before, with_all, with_at, without_all, without_at}
use Rattle.fitting_members.specs.declared.member_change.Removal.{Removal}
use Rattle.fitting_members.specs.declared.member_change.Undo.TheVariants as changed

pub nothing_back : (value : TypedValue) → value_before changed.Nothing value ≡ value
nothing_back (Many members) = refl
nothing_back value = refl

-- ---- one member

pub taken_at : (items : List TypedValue) (at : ℕ) → at < length items
    → listed (remove items at) ≡ without_at at (listed items)
taken_at [] at h = absurd (omega arith)
taken_at (v ∷ vs) zero h = refl
taken_at (v ∷ vs) (suc at) h = ap (Then v) (taken_at vs at (omega arith))

pub none_at : (items : List TypedValue) (at : ℕ) → length items ≤ at → listed items ≡ without_at at (listed items)
none_at [] at h = refl
none_at (v ∷ vs) zero h = absurd (omega arith)
none_at (v ∷ vs) (suc at) h = ap (Then v) (none_at vs at (omega arith))

pub put_at : (items : List TypedValue) (at place : ℕ) (v : TypedValue) → place ≡ min at (length items)
    → listed (insert items place v) ≡ with_at at v (listed items)
put_at [] at zero v e = refl
put_at [] at (suc place) v e = absurd (omega arith)
put_at (w ∷ ws) zero zero v e = refl
put_at (w ∷ ws) zero (suc place) v e = absurd (omega arith)
put_at (w ∷ ws) (suc at) zero v e = absurd (omega arith)
put_at (w ∷ ws) (suc at) (suc place) v e = ap (Then w) (put_at ws at place v (omega arith))

-- ---- one after the other, the last first

pub last_out : (places : List ℕ) (at : ℕ) (members : TypedValues)
    → without_all (places ++ at ∷ []) members ≡ without_all places (without_at at members)
last_out [] at members = refl
last_out (p ∷ ps) at members = ap (without_at p) (last_out ps at members)

pub last_in : (removals : List Removal) (removal : Removal) (members : TypedValues)
    → with_all (removals ++ removal ∷ []) members ≡ with_all removals (with_at removal.at removal.member members)
last_in [] removal members = refl
last_in (r ∷ rs) removal members = ap (with_at r.at r.member) (last_in rs removal members)

-- ---- a change that is taken back

pub back_out : (items : List TypedValue) (at : ℕ) (v : TypedValue) → at ≤ length items
    → without_at at (listed (insert items at v)) ≡ listed items
back_out [] zero v h = refl
back_out [] (suc at) v h = absurd (omega arith)
back_out (w ∷ ws) zero v h = refl
back_out (w ∷ ws) (suc at) v h = ap (Then w) (back_out ws at v (omega arith))

pub back_in : (items : List TypedValue) (at : ℕ) (d : TypedValue) → at < length items
    → with_at at (get_or items at d) (listed (remove items at)) ≡ listed items
back_in [] at d h = absurd (omega arith)
back_in (w ∷ ws) zero d h = first ws
  where
    first : (us : List TypedValue) → with_at zero w (listed us) ≡ Then w (listed us)
    first [] = refl
    first (u ∷ us) = refl
back_in (w ∷ ws) (suc at) d h = ap (Then w) (back_in ws at d (omega arith))
