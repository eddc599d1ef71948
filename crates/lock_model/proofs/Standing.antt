-- Somebody can always go on: who bars another one holds more places.
use Rattle.std.proofs.Common.{◌≡◌, ◌<◌, ◌≤◌, ◌+◌, ◌⊎◌, ℕ, zero, suc, Bool, true, false, List, [], ◌∷◌, length}
use Rattle.std.proofs.Common.{Option, None, Some, refl, sym, ap, ◌∙◌, subst, arith, inl, inr}
use Rattle.std.specs.Prelude.{◌==◌, Contains, find, is_none, not, slice_get, slice_index_or, take}
use Rattle.std.specs.List.{list_any}
use Rattle.std.specs.Option.{option_map_or}
use Rattle.std.proofs.lemmas.Bool.{and_parts, false≢true, or_cases}
use Rattle.std.proofs.lemmas.Option.{none-some, same_Some, slice_get_within}
use Rattle.term_model.specs.Comparing.{is_same_name}
use Rattle.term_model.proofs.MapLaws.{name_Decides}
use Rattle.lock_model.specs.declared.lock_name.LockName.{LockName}
use Rattle.lock_model.specs.declared.lock_name.Mode.{Mode}
use Rattle.lock_model.specs.declared.lock_name.Part.{Part}
use Rattle.lock_model.specs.LockPath.{IsWay, depth, goes_with, is_same_lock, is_same_part}
use Rattle.lock_model.specs.Holdings.{BarringIsDeeper, Holding, Holdings, NoStandstill, bars, bars_other, barring}
use Rattle.lock_model.specs.Holdings.{conflicts}
use Rattle.lock_model.specs.Holdings.{may_go, next_place}
use Rattle.lock_model.proofs.Ways.{has_first, has_later}
use Rattle.lock_model.specs.declared.lock_name.Part.TheVariants as extents

abbrev Place : Type 0
Place = LockName × Mode

-- an element of the first ones passes
any_at : {A : Type 0} (p : A → Bool) (xs : List A) (n : ℕ) → list_any p (take n xs) ≡ true
    → (i : ℕ) × (x : A) × (i < n) × (slice_get xs i ≡ Some x) × (p x ≡ true)
any_at p [] zero h = absurd (false≢true h)
any_at p [] (suc n) h = absurd (false≢true h)
any_at p (x ∷ xs) zero h = absurd (false≢true h)
any_at p (x ∷ xs) (suc n) h = elim (or_cases (p x) (list_any p (take n xs)) h) [
  | inl is ↦ (zero, x, omega arith, refl, is)
  | inr later ↦ (
      let rest = any_at p xs n later in
      let within = rest.2 in
      (suc rest.0, rest.1, omega arith, rest.3, rest.4))
]

same_part_is : (a b : Part) → is_same_part a b ≡ true → a ≡ b
same_part_is extents.Tree extents.Tree h = refl
same_part_is extents.Tree extents.Own h = absurd (false≢true h)
same_part_is extents.Own extents.Tree h = absurd (false≢true h)
same_part_is extents.Own extents.Own h = refl

pub same_lock_is : (a b : LockName) → is_same_lock a b ≡ true → a ≡ b
same_lock_is a b h =
    let parts = and_parts (is_same_name a.name b.name) (is_same_part a.part b.part) h in
    let n = (name_Decides a.name b.name).0 parts.0 in
    let p = same_part_is a.part b.part parts.1 in
    λ i. record { name = n i; part = p i }

deeper : (h by : Holding) (place : Place) → IsWay h.path → IsWay by.path → next_place h ≡ Some place
    → bars place by ≡ true → h.held < by.held
deeper h by place way other_way wants stands =
    let at = any_at (conflicts place) by.path by.held stands in
    let parts = and_parts (is_same_lock at.1.0 place.0) (not (goes_with at.1.1 place.1)) at.4 in
    let same = ap depth (same_lock_is at.1.0 place.0 parts.0) in
    let here = way h.held place wants in
    let there = other_way at.0 at.1 at.3 in
    let within = at.2 in
    omega arith

pub barring_is_deeper : BarringIsDeeper
barring_is_deeper = λ table h by place way other_way wants stands. deeper h by place way other_way wants stands

pub found : {A : Type 0} (p : A → Bool) (xs : List A) (x : A) → find p xs ≡ Some x → Contains xs x × (p x ≡ true)
found p [] x h = absurd (none-some x h)
found {A} p (y ∷ ys) x h = by (found p ys x) (p y) refl
  where
    here : p y ≡ true → find p (y ∷ ys) ≡ Some y
    here e = rw e refl

    later : p y ≡ false → find p (y ∷ ys) ≡ find p ys
    later e = rw e refl

    by : (find p ys ≡ Some x → Contains ys x × (p x ≡ true)) → (b : Bool) → p y ≡ b
        → Contains (y ∷ ys) x × (p x ≡ true)
    by again true e =
        let is : y ≡ x = same_Some y x (sym (here e) ∙ h) in
        (subst (λ z. Contains (y ∷ ys) z) is (has_first y ys), ap p (sym is) ∙ e)
    by again false e =
        let rest = again (sym (later e) ∙ h) in
        (has_later y ys x rest.0, rest.1)

-- the paths of a table have a longest one
abbrev Longest : Holdings → ℕ → Type 0
Longest table bound = (h : Holding) → Contains table h → length h.path ≤ bound

abbrev Somebody : Holdings → Type 0
Somebody table = (g : Holding) × Contains table g × (may_go table g ≡ true)

going : (table : Holdings) (bound fuel : ℕ) → Longest table bound
    → ((other : Holding) → Contains table other → IsWay other.path)
    → (h : Holding) → Contains table h → bound ≤ h.held + fuel
    → (g : Holding) × Contains table g × (may_go table g ≡ true)
going table bound zero long ways h at enough = by (next_place h) refl
  where
    by : (o : Option Place) → next_place h ≡ o → (g : Holding) × Contains table g × (may_go table g ≡ true)
    by None e = (h, at, ap (λ (o : Option Place). option_map_or (λ place. is_none (barring table h.op place)) o true) e)
    by (Some place) e =
        let within = slice_get_within h.path h.held place e in
        let most = long h at in
        absurd (omega arith)
going table bound (suc fuel) long ways h at enough = by (going table bound fuel long ways) (next_place h) refl
  where
    by_barring : ((k : Holding) → Contains table k → bound ≤ k.held + fuel → Somebody table) → (place : Place)
        → next_place h ≡ Some place → (o : Option Holding) → barring table h.op place ≡ o → Somebody table
    by_barring again place e None f = (
      h,
      at,
      ap (λ (o : Option Place). option_map_or (λ p. is_none (barring table h.op p)) o true) e ∙ ap is_none f,
    )
    by_barring again place e (Some other) f =
        let there = found (bars_other h.op place) table other f in
        let stands = (and_parts (not (other.op == h.op)) (bars place other) there.1).1 in
        let more = deeper h other place (ways h at) (ways other there.0) e stands in
        again other there.0 (omega arith)

    by : ((k : Holding) → Contains table k → bound ≤ k.held + fuel → Somebody table) → (o : Option Place)
        → next_place h ≡ o → Somebody table
    by again None e =
        (h, at, ap (λ (o : Option Place). option_map_or (λ place. is_none (barring table h.op place)) o true) e)
    by again (Some place) e = by_barring again place e (barring table h.op place) refl

pub first_or_later : {A : Type 0} (x : A) (xs : List A) (y : A) → Contains (x ∷ xs) y → (x ≡ y) ⊎ Contains xs y
first_or_later {A} x xs y h = by h.0 h.1 h.2
  where
    by : (k : ℕ) → k < length (x ∷ xs) → slice_index_or (x ∷ xs) k y ≡ y → (x ≡ y) ⊎ Contains xs y
    by zero within is = inl is
    by (suc k) within is = inr (k, omega arith, is)

longest : (table : Holdings) → (bound : ℕ) × Longest table bound
longest [] = (0, λ h at. absurd (omega (arith, at.1)))
longest (first ∷ others) =
    let rest = longest others in (
      length first.path + rest.0,
      λ h at. elim (first_or_later first others h at) [
        | inl is ↦ (let same = ap (λ (k : Holding). length k.path) is in omega arith)
        | inr later ↦ (let most = rest.1 h later in omega arith)
      ],
    )

pub no_standstill : NoStandstill
no_standstill = λ table h at ways.
    let most = longest table in
    going table most.0 most.0 most.1 ways h at (omega arith)
