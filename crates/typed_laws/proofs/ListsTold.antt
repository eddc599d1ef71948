-- Trees and members in rows, and in other orders: X.690, sections 8.9 to 8.12 and 11.6.
use Rattle.std.proofs.Common.{◌≡◌, Bool, true, false, cond, Option, Some, refl, ap, sym, ◌∙◌, subst, ℕ, suc, List, []}
use Rattle.std.proofs.Common.{◌∷◌, length, map, arith, inl, inr}
use Rattle.std.specs.Prelude.{option_map}
use Rattle.std.proofs.lemmas.Option.{none-some, same_Some, some_pair_parts}
use Rattle.term_values.proofs.RisingLaws.{may_precede_back}
use Rattle.term_values.specs.Decoding.{members_in, inserted_by, rising_by, taken_out}
use Rattle.term_values.specs.Denotes.{AllDenote}
use Rattle.term_values.specs.Fits.{count}
use Rattle.term_values.specs.Rearranged.{IsAmong, IsRearrangement, IsRising, may_precede}
use Rattle.term_values.specs.Tree.{TreeValue, TreeValues, listed as trees_listed}
use Rattle.term_values.specs.Tree.TreeValues.{Nothing as NoTrees, Then as AndTrees}
use Rattle.term_values.specs.TreeTags.{tag_of}
use Rattle.term_values.specs.Typed.{TypedValue, TypedValues, listed}
use Rattle.term_values.specs.Typed.TypedValues.{Nothing, Then}
use Rattle.term_values.specs.declared.tag.Tag.{Tag}
use Rattle.typed_laws.specs.TreeOctets.{HasOctets, HaveOctets}
use Rattle.typed_laws.proofs.Choosing.{map_some, then_some}

-- ---- rows as lists

abbrev pub trees_of : TreeValues → List TreeValue
trees_of NoTrees = []
trees_of (AndTrees x xs) = x ∷ trees_of xs

pub trees_again : (xs : TreeValues) → trees_listed (trees_of xs) ≡ xs
trees_again NoTrees = refl
trees_again (AndTrees x xs) = ap (AndTrees x) (trees_again xs)

abbrev pub values_of : TypedValues → List TypedValue
values_of Nothing = []
values_of (Then x xs) = x ∷ values_of xs

pub values_again : (xs : TypedValues) → listed (values_of xs) ≡ xs
values_again Nothing = refl
values_again (Then x xs) = ap (Then x) (values_again xs)

pub count_is : (xs : TypedValues) → count xs ≡ length (values_of xs)
count_is Nothing = refl
count_is (Then x xs) = let e = count_is xs in omega arith

-- ---- members one after the other

pub members_told : (member : TreeValue → Option TypedValue) (holds : TreeValue → TypedValue → Type 0)
    → ((x : TreeValue) (v : TypedValue) → HasOctets x → member x ≡ Some v → holds x v)
    → (xs : TreeValues) (vs : TypedValues) → HaveOctets xs → members_in member xs ≡ Some vs
    → AllDenote holds (trees_of xs) (values_of vs)
members_told member holds each NoTrees vs h e = subst (λ ws. AllDenote holds [] (values_of ws))
    (same_Some Nothing vs e) tt
members_told member holds each (AndTrees x xs) vs h e =
    let f = then_some _ (member x) vs e in
    let r = map_some (Then f.0) (members_in member xs) vs f.2 in
    subst (λ ws. AllDenote holds (x ∷ trees_of xs) (values_of ws)) r.2
    (each x f.0 h.0 f.1, members_told member holds each xs r.0 h.1 r.1)

-- ---- the rising order

among_inserted : (encoding : TypedValue → List ℕ) (x : TypedValue) (xs : TypedValues)
    → IsAmong x (values_of xs) (values_of (inserted_by encoding x xs))
among_inserted encoding x Nothing = inl (refl, refl)
among_inserted encoding x (Then y ys) =
    either (may_precede (encoding x) (encoding y)) (among_inserted encoding x ys)
  where
    either : (c : Bool) → IsAmong x (values_of ys) (values_of (inserted_by encoding x ys))
        → IsAmong x (y ∷ values_of ys) (values_of (cond c (Then x (Then y ys)) (Then y (inserted_by encoding x ys))))
    either true later = inl (refl, refl)
    either false later = inr (values_of ys, refl, later)

pub rising_rearranges : (encoding : TypedValue → List ℕ) (xs : TypedValues)
    → IsRearrangement (values_of xs) (values_of (rising_by encoding xs))
rising_rearranges encoding Nothing = refl
rising_rearranges encoding (Then x xs) = (
  values_of (rising_by encoding xs),
  among_inserted encoding x (rising_by encoding xs),
  rising_rearranges encoding
      xs,
)

pub rising_inserted : (encoding : TypedValue → List ℕ) (x : TypedValue) (ys : TypedValues)
    → IsRising (map encoding (values_of ys)) → IsRising (map encoding (values_of (inserted_by encoding x ys)))
rising_inserted encoding x Nothing r = tt
rising_inserted encoding x (Then y Nothing) r = either (may_precede (encoding x) (encoding y)) refl
  where
    either : (c : Bool) → may_precede (encoding x) (encoding y) ≡ c
        → IsRising (map encoding (values_of (cond c (Then x (Then y Nothing)) (Then y (Then x Nothing)))))
    either true e = (e, tt)
    either false e = (may_precede_back (encoding x) (encoding y) e, tt)
rising_inserted encoding x (Then y (Then z zs)) r =
    either (may_precede (encoding x) (encoding y)) refl (may_precede (encoding x) (encoding z)) refl
    (rising_inserted encoding x (Then z zs) r.1)
  where
    either : (c : Bool) → may_precede (encoding x) (encoding y) ≡ c → (d : Bool)
        → may_precede (encoding x) (encoding z) ≡ d
        → IsRising (map encoding (values_of (cond d (Then x (Then z zs)) (Then z (inserted_by encoding x zs)))))
        → IsRising (map encoding (values_of (cond c (Then x (Then y (Then z zs)))
        (Then y (cond d (Then x (Then z zs)) (Then z (inserted_by encoding x zs)))))))
    either true e d f later = (e, r)
    either false e true f later = (may_precede_back (encoding x) (encoding y) e, later)
    either false e false f later = (r.0, later)

pub rising_rises : (encoding : TypedValue → List ℕ) (xs : TypedValues)
    → IsRising (map encoding (values_of (rising_by encoding xs)))
rising_rises encoding Nothing = tt
rising_rises encoding (Then x xs) =
    rising_inserted encoding x (rising_by encoding xs) (rising_rises encoding xs)

inserted_counts : (encoding : TypedValue → List ℕ) (x : TypedValue) (ys : TypedValues)
    → count (inserted_by encoding x ys) ≡ suc (count ys)
inserted_counts encoding x Nothing = refl
inserted_counts encoding x (Then y ys) =
    either (may_precede (encoding x) (encoding y)) (inserted_counts encoding x ys)
  where
    either : (c : Bool) → count (inserted_by encoding x ys) ≡ suc (count ys)
        → count (cond c (Then x (Then y ys)) (Then y (inserted_by encoding x ys))) ≡ suc (suc (count ys))
    either true later = refl
    either false later = ap suc later

pub rising_counts : (encoding : TypedValue → List ℕ) (xs : TypedValues) → count (rising_by encoding xs) ≡ count xs
rising_counts encoding Nothing = refl
rising_counts encoding (Then x xs) =
    inserted_counts encoding x (rising_by encoding xs) ∙ ap suc (rising_counts encoding xs)

among_counts : {A : Type 0} (x : A) (others ys : List A) → IsAmong x others ys → length ys ≡ suc (length others)
among_counts x others [] a = absurd a
among_counts x others (y ∷ ys) (inl p) = let e = ap length p.1 in omega arith
among_counts x others (y ∷ ys) (inr p) =
    let e = ap length p.1 in
    let f = among_counts x p.0 ys p.2 in
    omega arith

pub rearranged_counts : {A : Type 0} (xs ys : List A) → IsRearrangement xs ys → length xs ≡ length ys
rearranged_counts [] ys r = ap length (sym r)
rearranged_counts (x ∷ xs) ys r =
    let e = among_counts x r.0 ys r.1 in
    let f = rearranged_counts xs r.0 r.2 in
    omega arith

-- ---- what is taken out of a row

pub taken_octets : (starts : Tag → Bool) (trees : TreeValues) (x : TreeValue) (others : TreeValues)
    → HaveOctets trees → taken_out starts trees ≡ Some (x, others) → HasOctets x × HaveOctets others
taken_octets starts NoTrees x others h e = absurd (none-some _ e)
taken_octets starts (AndTrees y ys) x others h e =
    either (starts (tag_of y)) (λ z os q. taken_octets starts ys z os h.1 q) e
  where
    either : (c : Bool)
        → ((z : TreeValue) (os : TreeValues) → taken_out starts ys ≡ Some (z, os) → HasOctets z × HaveOctets os)
        → cond {A = Option (TreeValue × TreeValues)} c (Some (y, ys))
        (option_map (λ (rest : TreeValue × TreeValues). (rest.0, AndTrees y rest.1))
        (taken_out starts ys)) ≡ Some (x, others)
        → HasOctets x × HaveOctets others
    either true later e =
        let p = some_pair_parts y x ys others e in
        (subst HasOctets p.0 h.0, subst HaveOctets p.1 h.1)
    either false later e =
        let f = map_some (λ (rest : TreeValue × TreeValues). (rest.0, AndTrees y rest.1)) (taken_out starts ys)
        (x, others) e in
        let q = some_pair_parts f.0.0 x (AndTrees y f.0.1) others (ap Some f.2) in
        let r = later f.0.0 f.0.1 f.1 in
        (subst HasOctets q.0 r.0, subst HaveOctets q.1 (h.0, r.1))

pub taken_rearranges : (starts : Tag → Bool) (trees : TreeValues) (x : TreeValue) (others : TreeValues)
    (ordered : List TreeValue) → taken_out starts trees ≡ Some (x, others)
    → IsRearrangement (trees_of others) ordered → IsRearrangement (trees_of trees) (x ∷ ordered)
taken_rearranges starts NoTrees x others ordered e r = absurd (none-some _ e)
taken_rearranges starts (AndTrees y ys) x others ordered e r =
    either (starts (tag_of y)) (λ front os t q. (
      front ∷ q.0,
      inr (q.0, refl, q.1),
      taken_rearranges starts ys front os q.0 t q.2,
    )) e
  where
    either : (c : Bool)
        → ((front : TreeValue) (os : TreeValues) → taken_out starts ys ≡ Some (front, os)
        → IsRearrangement (y ∷ trees_of os) ordered → IsRearrangement (y ∷ trees_of ys) (front ∷ ordered))
        → cond {A = Option (TreeValue × TreeValues)} c (Some (y, ys))
        (option_map (λ (rest : TreeValue × TreeValues). (rest.0, AndTrees y rest.1))
        (taken_out starts ys)) ≡ Some (x, others)
        → IsRearrangement (y ∷ trees_of ys) (x ∷ ordered)
    either true moved e =
        let p = some_pair_parts y x ys others e in
        (ordered, inl (sym p.0, refl), subst (λ os. IsRearrangement (trees_of os) ordered) (sym p.1) r)
    either false moved e =
        let f = map_some (λ (rest : TreeValue × TreeValues). (rest.0, AndTrees y rest.1)) (taken_out starts ys)
        (x, others) e in
        let q = some_pair_parts f.0.0 x (AndTrees y f.0.1) others (ap Some f.2) in
        subst (λ z. IsRearrangement (y ∷ trees_of ys) (z ∷ ordered)) q.0
        (moved f.0.0 f.0.1 f.1 (subst (λ os. IsRearrangement (trees_of os) ordered) (sym q.1) r))
