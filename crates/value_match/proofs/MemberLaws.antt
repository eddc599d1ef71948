-- Members of values, by place.
use Rattle.std.proofs.Common.{◌≡◌, ◌⊎◌, ◌≤◌, ◌+◌, ℕ, zero, suc, List, [], ◌∷◌, length, take, drop, Option, None, Some}
use Rattle.std.proofs.Common.{refl, sym, subst, inl, inr, ⊎_elim, arith, length-drop, length-take}
use Rattle.term_values.specs.Typed.{TypedValue, TypedValues, listed}
use Rattle.term_values.specs.Matching.{Have, AreHeld}
use Rattle.value_match.specs.MemberPlaces.{IsPlaceOf}

pub have_drop : (i : ℕ) (xs : List TypedValue) (v : TypedValue) → Have (listed (drop i xs)) v → Have (listed xs) v
have_drop zero xs v h = h
have_drop (suc i) [] v h = h
have_drop (suc i) (x ∷ xs) v h = inr (have_drop i xs v h)

pub have_take : (i : ℕ) (xs : List TypedValue) (v : TypedValue) → Have (listed (take i xs)) v → Have (listed xs) v
have_take zero xs v h = absurd h
have_take (suc i) [] v h = h
have_take (suc i) (x ∷ xs) v (inl e) = inl e
have_take (suc i) (x ∷ xs) v (inr h) = inr (have_take i xs v h)

pub have_either : (i : ℕ) (xs : List TypedValue) (v : TypedValue) → Have (listed xs) v
    → Have (listed (take i xs)) v ⊎ Have (listed (drop i xs)) v
have_either zero xs v h = inr h
have_either (suc i) [] v h = absurd h
have_either (suc i) (x ∷ xs) v (inl e) = inl (inl e)
have_either (suc i) (x ∷ xs) v (inr h) =
    ⊎_elim (λ before. inl (inr before)) (λ behind. inr behind) (have_either i xs v h)

-- the first of the members from a place on
pub have_here : (i : ℕ) (xs rest : List TypedValue) (x : TypedValue) → drop i xs ≡ x ∷ rest → Have (listed xs) x
have_here i xs rest x e = have_drop i xs x (subst (λ zs. Have (listed zs) x) (sym e) (inl refl))

pub have_later : (xs rest : List TypedValue) (x v : TypedValue) → xs ≡ x ∷ rest → ¬ (x ≡ v) → Have (listed xs) v
    → Have (listed rest) v
have_later xs rest x v e other h =
    ⊎_elim
    (λ (same : x ≡ v). absurd (other same))
    (λ (later : Have (listed rest) v). later)
    (subst (λ zs. Have (listed zs) v) e h)

pub have_none : (xs : List TypedValue) (v : TypedValue) → xs ≡ [] → ¬ Have (listed xs) v
have_none xs v e h = subst (λ zs. Have (listed zs) v) e h

pub place_behind : (xs : List TypedValue) (v : TypedValue) (from at : ℕ) → from ≤ length xs
    → IsPlaceOf v (drop from xs) (Some at) → IsPlaceOf v xs (Some (from + at))
place_behind xs v from at within p = (omega (arith, p.0, length-drop from xs), have_drop from xs v p.1)

pub place_before : (xs : List TypedValue) (v : TypedValue) (from : ℕ) (found : Option ℕ)
    → IsPlaceOf v (drop from xs) None → IsPlaceOf v (take from xs) found → IsPlaceOf v xs found
place_before xs v from None behind before = λ h. ⊎_elim before behind (have_either from xs v h)
place_before xs v from (Some at) behind before =
    (omega (arith, before.0, length-take from xs), have_take from xs v before.1)

-- one asserted member is held
pub held_more : (xs rest : List TypedValue) (x : TypedValue) (ys : TypedValues) → xs ≡ x ∷ rest → Have ys x
    → AreHeld (listed rest) ys → AreHeld (listed xs) ys
held_more xs rest x ys e h others member m =
    ⊎_elim
    (λ (same : x ≡ member). subst (λ z. Have ys z) same h)
    (λ (later : Have (listed rest) member). others member later)
    (subst (λ zs. Have (listed zs) member) e m)

pub held_all : (xs : List TypedValue) (ys : TypedValues) → xs ≡ [] → AreHeld (listed xs) ys
held_all xs ys e member m = absurd (have_none xs member e m)

pub not_held : (i : ℕ) (xs rest : List TypedValue) (x : TypedValue) (ys : TypedValues) → drop i xs ≡ x ∷ rest
    → ¬ Have ys x → ¬ AreHeld (listed xs) ys
not_held i xs rest x ys e never all = never (all x (have_here i xs rest x e))
