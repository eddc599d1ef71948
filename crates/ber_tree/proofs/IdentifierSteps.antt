-- The arcs of an identifier, as they are read one after the other: X.690, section 8.19.
use Rattle.std.proofs.Common.{◌≡◌, ℕ, suc, ◌+◌, ◌*◌, ◌<◌, ◌≤◌, true, IsTrue, List, [], ◌∷◌, ◌++◌, length, take, drop}
use Rattle.std.proofs.Common.{All, flat_map, nat_le, sym, ap, ◌∙◌, refl, arith, append_assoc, length-append}
use Rattle.std.proofs.Common.{length-drop}
use Rattle.std.proofs.lemmas.Bool.{and_parts, leb-true, false≢true}
use Rattle.std.proofs.lemmas.Bool.Decides.{nat_tests}
use Rattle.std.proofs.lemmas.List.{append-nil, drop-drop, take-append-drop}
use Rattle.term_values.specs.Oid.{subidentifier, oid_contents, is_oid, begins}
use Rattle.std.proofs.lemmas.List.Elements.{All-push}
use Rattle.ber_tree.proofs.SubidentifierLaws.{one_subidentifier, some_octets}

-- arcs of 32 bits
abbrev pub AreArcs : List ℕ → Type 0
AreArcs arcs = All (λ arc. arc < 4294967296) arcs

-- the octets up to a place are those of these arcs
pub record Spelt (octets : List ℕ) (at : ℕ) (arcs : List ℕ) : Type 0 where
  pub first : ℕ
  pub second : ℕ
  pub others : List ℕ
  pub arcs_are : arcs ≡ first ∷ second ∷ others
  pub begun : begins first second ≡ true
  pub few : length arcs ≤ 64
  pub fit : AreArcs others
  pub within : at ≤ length octets
  pub spelt : octets ≡ oid_contents arcs ++ drop at octets

flat_map_append : (xs ys : List ℕ) → flat_map subidentifier (xs ++ ys) ≡ flat_map subidentifier xs
    ++ flat_map subidentifier ys
flat_map_append [] ys = refl
flat_map_append (x ∷ xs) ys =
    ap (λ zs. subidentifier x ++ zs) (flat_map_append xs ys)
    ∙ sym (append_assoc (subidentifier x) (flat_map subidentifier xs) (flat_map subidentifier ys))

contents_push : (first second arc : ℕ) (others rest : List ℕ) → oid_contents (first ∷ second ∷ (others ++ arc ∷ []))
    ++ rest ≡ oid_contents (first ∷ second ∷ others) ++ (subidentifier arc ++ rest)
contents_push first second arc others rest =
    let front = subidentifier (first * 40 + second) in
    let back = flat_map subidentifier others in
    let one : flat_map subidentifier (arc ∷ []) ≡ subidentifier arc = append-nil (subidentifier arc) in
    ap (λ zs. (front ++ zs) ++ rest) (flat_map_append others (arc ∷ []) ∙ ap (λ zs. back ++ zs) one)
    ∙ (ap (λ zs. zs ++ rest) (sym (append_assoc front back (subidentifier arc)))
    ∙ append_assoc (front ++ back) (subidentifier arc) rest)

arcs_push : (arcs : List ℕ) (arc : ℕ) → AreArcs arcs → arc < 4294967296 → AreArcs (arcs ++ arc ∷ [])
arcs_push arcs arc f h = All-push (λ a. a < 4294967296) arcs arc f h

-- one arc more is read
pub spelt_more : (octets : List ℕ) (at size arc : ℕ) (arcs : List ℕ) → Spelt octets at arcs → length arcs < 64
    → size ≤ length (drop at octets) → take size (drop at octets) ≡ subidentifier arc → arc < 4294967296
    → Spelt octets (at + size) (arcs ++ arc ∷ [])
spelt_more octets at size arc arcs s h fits e small =
    let back : drop at octets ≡ subidentifier arc ++ drop (at + size) octets =
    sym (take-append-drop size (drop at octets))
    ∙ (ap (λ zs. zs ++ drop size (drop at octets)) e
    ∙ ap (λ zs. subidentifier arc ++ zs) (drop-drop size at octets)) in
    let arcs_are : arcs ++ arc ∷ [] ≡ s.first ∷ s.second ∷ (s.others ++ arc ∷ []) =
    ap (λ zs. zs ++ arc ∷ []) s.arcs_are in
    record {
      first = s.first;
      second = s.second;
      others = s.others ++ arc ∷ [];
      arcs_are = arcs_are;
      begun = s.begun;
      few = omega (arith, length-append arcs (arc ∷ []));
      fit = arcs_push s.others arc s.fit small;
      within = let w = s.within in omega (arith, length-drop at octets);
      spelt =
          s.spelt
          ∙ (ap (λ zs. oid_contents zs ++ drop at octets) s.arcs_are
          ∙ (ap (λ zs. oid_contents (s.first ∷ s.second ∷ s.others) ++ zs) back
          ∙ (sym (contents_push s.first s.second arc s.others (drop (at + size) octets))
          ∙ ap (λ zs. oid_contents zs ++ drop (at + size) octets) (sym arcs_are))));
    }

-- what stands behind the arcs that were read
pub record Behind (arcs : List ℕ) (rest : List ℕ) (all : List ℕ) : Type 0 where
  pub others : List ℕ
  pub long : length all ≡ length arcs + length others
  pub spelt : rest ≡ flat_map subidentifier others
  pub fit : AreArcs others

tail_fits : (x : ℕ) (xs : List ℕ) → AreArcs (x ∷ xs) → AreArcs xs
tail_fits x xs h = λ k d i. h (suc k) d (omega arith)

behind : (xs ys rest : List ℕ) → AreArcs xs → AreArcs ys → flat_map subidentifier xs ++ rest ≡ flat_map subidentifier ys
    → Behind xs rest ys
behind [] ys rest f g e = record { others = ys; long = omega arith; spelt = e; fit = g }
behind (x ∷ xs) [] rest f g e =
    absurd (let l = some_octets x (f 0 x (omega arith)) in let a = ap length e in let b =
    length-append (subidentifier x ++ flat_map subidentifier xs) rest in let d =
    length-append (subidentifier x) (flat_map subidentifier xs) in omega arith)
behind (x ∷ xs) (y ∷ ys) rest f g e =
    let one = one_subidentifier x y (flat_map subidentifier xs ++ rest) (flat_map subidentifier ys)
    (f 0 x (omega arith)) (g 0 y (omega arith))
    (sym (append_assoc (subidentifier x) (flat_map subidentifier xs) rest) ∙ e) in
    let b = behind xs ys rest (tail_fits x xs f) (tail_fits y ys g) one.1 in
    let long = b.long in
    record { others = b.others; long = omega arith; spelt = b.spelt; fit = b.fit }

begins_small : (first second : ℕ) → begins first second ≡ true → first * 40 + second < 4294967296
begins_small first second e = grind (arith, nat_tests)

-- an identifier of which these are the contents octets goes on behind what was read
pub record GoesOn (octets : List ℕ) (at : ℕ) (arcs : List ℕ) : Type 0 where
  pub arc : ℕ
  pub rest : List ℕ
  pub small : arc < 4294967296
  pub spelt : drop at octets ≡ subidentifier arc ++ rest
  pub few : length arcs < 64

next_arc : (octets : List ℕ) (at : ℕ) (arcs all : List ℕ) (more : List ℕ) → length all + 2 ≤ 64
    → length arcs + length more ≡ length all + 2 → drop at octets ≡ flat_map subidentifier more → AreArcs more
    → 0 < length (drop at octets) → GoesOn octets at arcs
next_arc octets at arcs all [] h l e f i = absurd (let a = ap length e in omega arith)
next_arc octets at arcs all (w ∷ ws) h l e f i =
    record { arc = w; rest = flat_map subidentifier ws; small = f 0 w (omega arith); spelt = e; few = omega arith }

pub goes_on : (octets : List ℕ) (at : ℕ) (arcs all : List ℕ) → Spelt octets at arcs → at < length octets
    → IsTrue (is_oid all) → AreArcs all → octets ≡ oid_contents all → GoesOn octets at arcs
goes_on octets at arcs [] s h oid fits e = absurd (false≢true oid)
goes_on octets at arcs (first ∷ []) s h oid fits e = absurd (false≢true oid)
goes_on octets at arcs (first ∷ second ∷ others) s h oid fits e =
    let parts = and_parts (nat_le (length others) 62) (begins first second) oid in
    let few = leb-true (length others) 62 parts.0 in
    let same : subidentifier (s.first * 40 + s.second)
    ++ (flat_map subidentifier s.others ++ drop at octets) ≡ subidentifier (first * 40 + second)
    ++ flat_map subidentifier others =
    sym (append_assoc (subidentifier (s.first * 40 + s.second)) (flat_map subidentifier s.others) (drop at octets))
    ∙ (ap (λ zs. oid_contents zs ++ drop at octets) (sym s.arcs_are) ∙ (sym s.spelt ∙ e)) in
    let one = one_subidentifier (s.first * 40 + s.second) (first * 40 + second) (flat_map subidentifier s.others
    ++ drop at octets) (flat_map subidentifier others) (begins_small s.first s.second s.begun)
    (begins_small first second parts.1) same in
    let b = behind s.others others (drop at octets) s.fit
    (tail_fits second others (tail_fits first (second ∷ others) fits)) one.1 in
    let long = b.long in
    let all_are : length arcs ≡ suc (suc (length s.others)) = ap length s.arcs_are in
    next_arc octets at arcs others b.others (omega arith) (omega arith) b.spelt b.fit
    (omega (arith, length-drop at octets))
