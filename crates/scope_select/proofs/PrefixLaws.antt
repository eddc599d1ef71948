-- Names that another one begins, and the order of names.
use Rattle.std.proofs.Common.{◌≡◌, ℕ, Bool, true, false, List, [], ◌∷◌, ◌++◌, Option, None, Some, length, refl, sym, ap}
use Rattle.std.proofs.Common.{◌∙◌}
use Rattle.std.specs.Option.{option_map_or}
use Rattle.std.specs.Ordering.{is_eq, ordering_then}
use Rattle.std.specs.declared.cmp.Ordering.{Ordering}
use Rattle.std.specs.declared.cmp.Ordering.TheVariants.{Less, Equal, Greater}
use Rattle.std.proofs.lemmas.Bool.{and_from, and_parts, false≢true}
use Rattle.std.proofs.lemmas.Option.{none-some, same_Some}
use Rattle.std.proofs.lemmas.Slice.Eq.{bytes_eq-Decides}
use Rattle.std.proofs.lemmas.Cmp.{alike_right}
use Rattle.term_model.specs.declared.name.Rdn.{Rdn}
use Rattle.term_model.specs.declared.scope.Scope.{Scope}
use Rattle.term_model.specs.Comparing.{is_same_octets, is_same_oid, is_same_rdn}
use Rattle.term_model.specs.NameLaws.{rdn_ties, rdn_total}
use Rattle.term_model.specs.NameOrder.{name_cmp, rdn_cmp}
use Rattle.term_model.specs.Scope.{IsWithin, has_level, is_within, level_below}

-- at a part that is the base's, what is below the base is told by the other parts; at another one nothing is below it
same_part : (p a : Rdn) (ps others : List Rdn) → is_same_rdn p a ≡ true
    → level_below (p ∷ ps) (a ∷ others) ≡ level_below ps others
same_part p a ps others e = rw e refl

other_part : (p a : Rdn) (ps others : List Rdn) → is_same_rdn p a ≡ false → level_below (p ∷ ps) (a ∷ others) ≡ None
other_part p a ps others e = rw e refl

tied_parts : (p a : Rdn) → rdn_cmp p a ≡ Equal → is_same_rdn p a ≡ true
tied_parts p a e = rdn_ties p a ∙ ap is_eq e

apart_less : (p a : Rdn) → rdn_cmp p a ≡ Less → is_same_rdn p a ≡ false
apart_less p a e = rdn_ties p a ∙ ap is_eq e

apart_greater : (p a : Rdn) → rdn_cmp p a ≡ Greater → is_same_rdn p a ≡ false
apart_greater p a e = rdn_ties p a ∙ ap is_eq e

cmp_parts : (p a : Rdn) (ps others : List Rdn) (o : Ordering) → rdn_cmp p a ≡ o
    → name_cmp (p ∷ ps) (a ∷ others) ≡ ordering_then o (name_cmp ps others)
cmp_parts p a ps others o e = ap (λ q. ordering_then q (name_cmp ps others)) e

less_greater : Less ≡ Greater → ⊥
less_greater e = absurd (cc)

-- a name behind the base that the base doesn't begin stands behind each one that it begins
pub outside_stays : (base x y : List Rdn) → name_cmp base x ≡ Less → level_below base x ≡ None → name_cmp x y ≡ Less
    → level_below base y ≡ None
outside_stays [] x y low none high = absurd cc
outside_stays (p ∷ ps) [] y low none high = absurd cc
outside_stays (p ∷ ps) (a ∷ others) [] low none high = absurd cc
outside_stays (p ∷ ps) (a ∷ others) (b ∷ bs) low none high =
    by (outside_stays ps others bs) (rdn_cmp p a) (rdn_cmp a b) refl refl
  where
    by : (name_cmp ps others ≡ Less → level_below ps others ≡ None → name_cmp others bs ≡ Less
        → level_below ps bs ≡ None)
        → (o q : Ordering) → rdn_cmp p a ≡ o → rdn_cmp a b ≡ q → level_below (p ∷ ps) (b ∷ bs) ≡ None
    by again Less Less e f = other_part p b ps bs (apart_less p b (rdn_total.trans p a b e f))
    by again Less Equal e f =
        other_part p b ps bs
        (apart_less p b (sym (alike_right rdn_total a b p f) ∙ e))
    by again Less Greater e f = absurd (less_greater (sym high ∙ cmp_parts a b others bs Greater f))
    by again Equal Less e f = other_part p b ps bs (apart_less p b (rdn_total.congr p a b e ∙ f))
    by again Equal Equal e f =
        same_part p b ps bs (tied_parts p b (rdn_total.congr p a b e ∙ f))
        ∙ again (sym (cmp_parts p a ps others Equal e) ∙ low)
        (sym (same_part p a ps others (tied_parts p a e)) ∙ none)
        (sym (cmp_parts a b others bs Equal f) ∙ high)
    by again Equal Greater e f = absurd (less_greater (sym high ∙ cmp_parts a b others bs Greater f))
    by again Greater q e f = absurd (less_greater (sym low ∙ cmp_parts p a ps others Greater e))

-- a name that the base begins doesn't stand before it
pub begun_is_behind : (base x : List Rdn) → name_cmp base x ≡ Greater → level_below base x ≡ None
begun_is_behind [] [] high = absurd (cc)
begun_is_behind [] (a ∷ others) high = absurd (cc)
begun_is_behind (p ∷ ps) [] high = refl
begun_is_behind (p ∷ ps) (a ∷ others) high = by (begun_is_behind ps others) (rdn_cmp p a) refl
  where
    by : (name_cmp ps others ≡ Greater → level_below ps others ≡ None) → (o : Ordering) → rdn_cmp p a ≡ o
        → level_below (p ∷ ps) (a ∷ others) ≡ None
    by again Less e = absurd (less_greater (sym (cmp_parts p a ps others Less e) ∙ high))
    by again Equal e =
        same_part p a ps others (tied_parts p a e)
        ∙ again (sym (cmp_parts p a ps others Equal e) ∙ high)
    by again Greater e = other_part p a ps others (apart_greater p a e)

pub none_within : (base : List Rdn) (scope : Scope) (name : List Rdn) → level_below base name ≡ None
    → is_within base scope name ≡ false
none_within base scope name e = ap (λ o. option_map_or (has_level scope) o false) e

pub level_within : (base : List Rdn) (scope : Scope) (name : List Rdn) (level : ℕ) → level_below base name ≡ Some level
    → is_within base scope name ≡ has_level scope level
level_within base scope name level e = ap (λ o. option_map_or (has_level scope) o false) e

pub rdns_are : (p a : Rdn) → is_same_rdn p a ≡ true → p ≡ a
rdns_are p a e =
    let parts = and_parts (is_same_oid p.attribute a.attribute) (is_same_octets p.value a.value) e in
    let attribute = (bytes_eq-Decides p.attribute a.attribute).0 parts.0 in
    let value = (bytes_eq-Decides p.value a.value).0 parts.1 in
    λ i. record { attribute = attribute i; value = value i }

pub rdn_same : (p : Rdn) → is_same_rdn p p ≡ true
rdn_same p =
    and_from _ _ ((bytes_eq-Decides p.attribute p.attribute).1 refl) ((bytes_eq-Decides p.value p.value).1 refl)

-- the levels are those of the names behind the base
pub level_is : (base name : List Rdn) (level : ℕ) → level_below base name ≡ Some level
    → (behind : List Rdn) × (name ≡ base ++ behind) × (level ≡ length behind)
level_is [] name level e = (name, refl, sym (same_Some (length name) level e))
level_is (p ∷ ps) [] level e = absurd (none-some level e)
level_is (p ∷ ps) (a ∷ others) level e = by (level_is ps others level) (is_same_rdn p a) refl
  where
    by : (level_below ps others ≡ Some level → (behind : List Rdn) × (others ≡ ps ++ behind) × (level ≡ length behind))
        → (b : Bool) → is_same_rdn p a ≡ b
        → (behind : List Rdn) × ((a ∷ others) ≡ (p ∷ ps) ++ behind) × (level ≡ length behind)
    by again true same =
        let rest = again (sym (same_part p a ps others same) ∙ e) in
        let first = rdns_are p a same in
        (rest.0, (λ i. sym first i ∷ rest.1 i), rest.2)
    by again false other = absurd (none-some level (sym (other_part p a ps others other) ∙ e))

pub is_level : (base behind : List Rdn) → level_below base (base ++ behind) ≡ Some (length behind)
is_level [] behind = refl
is_level (p ∷ ps) behind = same_part p p ps (ps ++ behind) (rdn_same p) ∙ is_level ps behind

pub within_is : (base : List Rdn) (scope : Scope) (name : List Rdn) → is_within base scope name ≡ true
    → IsWithin base scope name
within_is base scope name e = by (level_below base name) refl
  where
    by : (o : Option ℕ) → level_below base name ≡ o → IsWithin base scope name
    by None is = absurd (false≢true (sym (none_within base scope name is) ∙ e))
    by (Some level) is =
        let parts = level_is base name level is in
        (parts.0, parts.1, ap (has_level scope) (sym parts.2) ∙ (sym (level_within base scope name level is) ∙ e))

pub is_then_within : (base : List Rdn) (scope : Scope) (name : List Rdn) → IsWithin base scope name
    → is_within base scope name ≡ true
is_then_within base scope name h =
    level_within base scope name (length h.0) (ap (level_below base) h.1 ∙ is_level base h.0) ∙ h.2
