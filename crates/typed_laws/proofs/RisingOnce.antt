-- Members of which no two have one encoding have one rising order: X.690, section 11.6.
use Rattle.std.proofs.Common.{◌≡◌, Bool, true, false, cond, refl, ap, sym, ◌∙◌, subst, ℕ, List, [], ◌∷◌, map, inl, inr}
use Rattle.term_values.proofs.RisingLaws.{may_precede_both, may_precede_through}
use Rattle.term_values.specs.Decoding.{inserted_by, rising_by}
use Rattle.term_values.specs.Fits.{AllFit}
use Rattle.term_values.specs.Rearranged.{IsAmong, IsRearrangement, IsRising, may_precede}
use Rattle.term_values.specs.Typed.{TypedValue, listed}
use Rattle.term_values.specs.Typed.TypedValues.{Then}
use Rattle.typed_laws.specs.Distinct.{IsMember, OneEach}
use Rattle.typed_laws.proofs.AnyOrderRead.{Each, each_among}

abbrev Before : (TypedValue → List ℕ) → TypedValue → TypedValue → Type 0
Before encoding x y = may_precede (encoding x) (encoding y) ≡ true

-- each stands before all behind it
abbrev Sorted : (TypedValue → List ℕ) → List TypedValue → Type 0
Sorted encoding [] = Unit {0}
Sorted encoding (x ∷ xs) = Each (Before encoding x) xs × Sorted encoding xs

before_through : (encoding : TypedValue → List ℕ) (x y : TypedValue) (ys : List TypedValue) → Before encoding x y
    → Each (Before encoding y) ys → Each (Before encoding x) ys
before_through encoding x y [] h b = tt
before_through encoding x y (z ∷ zs) h b =
    (may_precede_through (encoding x) (encoding y) (encoding z) h b.0, before_through encoding x y zs h b.1)

sorted_from : (encoding : TypedValue → List ℕ) (xs : List TypedValue) → IsRising (map encoding xs)
    → Sorted encoding xs
sorted_from encoding [] r = tt
sorted_from encoding (x ∷ []) r = (tt, tt)
sorted_from encoding (x ∷ (y ∷ ys)) r =
    let rest = sorted_from encoding (y ∷ ys) r.1 in
    ((r.0, before_through encoding x y ys r.0 rest.0), rest)

sorted_without : (encoding : TypedValue → List ℕ) (x : TypedValue) (others ms : List TypedValue)
    → IsAmong x others ms → Sorted encoding ms → Sorted encoding others
sorted_without encoding x others [] a s = absurd a
sorted_without encoding x others (y ∷ ys) (inl p) s = subst (Sorted encoding) p.1 s.1
sorted_without encoding x others (y ∷ ys) (inr p) s =
    subst (Sorted encoding) (sym p.1)
    ((each_among (Before encoding y) x p.0 ys p.2 s.0).1, sorted_without encoding x p.0 ys p.2 s.1)

first_inserted : (encoding : TypedValue → List ℕ) (x : TypedValue) (ys : List TypedValue)
    → Each (Before encoding x) ys → inserted_by encoding x (listed ys) ≡ Then x (listed ys)
first_inserted encoding x [] b = refl
first_inserted encoding x (y ∷ ys) b = rw b.0 refl

abbrev Told : (TypedValue → List ℕ) → TypedValue → TypedValue → Type 0
Told encoding x z = encoding x ≡ encoding z → x ≡ z

inserted_among : (encoding : TypedValue → List ℕ) (x : TypedValue) (others ms : List TypedValue)
    → IsAmong x others ms → Sorted encoding ms → Each (Told encoding x) ms
    → inserted_by encoding x (listed others) ≡ listed ms
inserted_among encoding x others [] a s one = absurd a
inserted_among encoding x others (y ∷ ys) (inl p) s one =
    let before : Each (Before encoding x) others =
    subst (λ z. Each (Before encoding z) others) p.0 (subst (Each (Before encoding y)) p.1 s.0) in
    first_inserted encoding x others before ∙ (λ i. Then (sym p.0 i) (listed (sym p.1 i)))
inserted_among encoding x others (y ∷ ys) (inr p) s one =
    ap (λ os. inserted_by encoding x (listed os)) p.1
    ∙ either (may_precede (encoding x) (encoding y)) refl (inserted_among encoding x p.0 ys p.2 s.1 one.1)
  where
    either : (c : Bool) → may_precede (encoding x) (encoding y) ≡ c
        → inserted_by encoding x (listed p.0) ≡ listed ys
        → cond c (Then x (Then y (listed p.0))) (Then y (inserted_by encoding x (listed p.0))) ≡ Then y (listed ys)
    either true e later =
        let b = each_among (Before encoding y) x p.0 ys p.2 s.0 in
        let same : x ≡ y = one.0 (may_precede_both (encoding x) (encoding y) e b.0) in
        let first : inserted_by encoding x (listed p.0) ≡ Then x (listed p.0) =
        first_inserted encoding x p.0 (subst (λ z. Each (Before encoding z) p.0) (sym same) b.1) in
        (λ i. Then (same i) (Then (sym same i) (listed p.0))) ∙ ap (Then y) (sym first ∙ later)
    either false e later = ap (Then y) later

among_member : (x : TypedValue) (others ms : List TypedValue) → IsAmong x others ms → IsMember x (listed ms)
among_member x others [] a = absurd a
among_member x others (y ∷ ys) (inl p) = inl (sym p.0)
among_member x others (y ∷ ys) (inr p) = inr (among_member x p.0 ys p.2)

other_member : (x z : TypedValue) (others ms : List TypedValue) → IsAmong x others ms → IsMember z (listed others)
    → IsMember z (listed ms)
other_member x z others [] a m = absurd a
other_member x z others (y ∷ ys) (inl p) m = inr (subst (λ os. IsMember z (listed os)) (sym p.1) m)
other_member x z others (y ∷ ys) (inr p) m =
    either (subst (λ os. IsMember z (listed os)) p.1 m) (λ k. other_member x z p.0 ys p.2 k)
  where
    either : IsMember z (Then y (listed p.0)) → (IsMember z (listed p.0) → IsMember z (listed ys))
        → IsMember z (Then y (listed ys))
    either (inl e) later = inl e
    either (inr k) later = inr (later k)

each_told : (encoding : TypedValue → List ℕ) (x : TypedValue) (ys : List TypedValue)
    → ((z : TypedValue) → IsMember z (listed ys) → Told encoding x z) → Each (Told encoding x) ys
each_told encoding x [] h = tt
each_told encoding x (y ∷ ys) h = (h y (inl refl), each_told encoding x ys (λ z m. h z (inr m)))

sorted_once : (encoding : TypedValue → List ℕ) (found members : List TypedValue) → IsRearrangement found members
    → Sorted encoding members → OneEach encoding (listed members) → rising_by encoding (listed found) ≡ listed members
sorted_once encoding [] members r s one = ap listed (sym r)
sorted_once encoding (x ∷ xs) members r s one =
    let is = among_member x r.0 members r.1 in
    ap (inserted_by encoding x) (sorted_once encoding xs r.0 r.2 (sorted_without encoding x r.0 members r.1 s)
    (λ v w a b e. one v w (other_member x v r.0 members r.1 a) (other_member x w r.0 members r.1 b) e))
    ∙ inserted_among encoding x r.0 members r.1 s (each_told encoding x members (λ z m e. one x z is m e))

pub rising_once : (encoding : TypedValue → List ℕ) (found members : List TypedValue) → IsRearrangement found members
    → IsRising (map encoding members) → OneEach encoding (listed members)
    → rising_by encoding (listed found) ≡ listed members
rising_once encoding found members r up one = sorted_once encoding found members r (sorted_from encoding members up) one

pub each_of : (P : TypedValue → Type 0) (xs : List TypedValue) → AllFit P (listed xs) → Each P xs
each_of P [] h = tt
each_of P (x ∷ xs) h = (h.0, each_of P xs h.1)
