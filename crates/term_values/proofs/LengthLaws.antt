-- Length octets that are read are those of a length, or have the fault: X.690, section 8.1.3.
use Rattle.std.proofs.Common.{◌≡◌, ◌⊎◌, ℕ, ◌+◌, ◌-◌, ◌*◌, ◌^◌, ◌<◌, ◌≤◌, ◌==◌, ◌||◌, Bool, true, false, List, [], ◌∷◌}
use Rattle.std.proofs.Common.{◌++◌, length, take, drop, Option, Some, None, nat_lt, nat_le, sym, ap, ◌∙◌, refl, subst}
use Rattle.std.proofs.Common.{inl, inr, ⊎_elim, arith, length-append, length-drop, length-take}
use Rattle.std.specs.Prelude.{Result, Ok, Err}
use Rattle.std.proofs.lemmas.Bool.{cases_Bool, lt-ltb, le-ltb, ltb-true, ltb-false, leb-true, leb-false, le-leb, lt-leb}
use Rattle.std.proofs.lemmas.Bool.{eqb-true, eqb-false, ne_eqb, or_from, or_parts, or_left, or_right, false≢true}
use Rattle.std.proofs.lemmas.List.{length-take-le, take-append-drop, take_all, take_at, drop_at}
use Rattle.std.proofs.Math.Seq.{take-append-add}
use Rattle.std.proofs.lemmas.Nat.{pow-add}
use Rattle.std.proofs.Math.Nat.{mul_assoc, mul-le-mul_right, le-mul_of_pos_right, one-le-pow}
use Rattle.term_values.specs.declared.ber_kind.BerKind.{BerKind}
use Rattle.term_values.specs.declared.ber_kind.BerKind.TheVariants.{BadLength}
use Rattle.term_values.specs.Octets.{number}
use Rattle.term_values.specs.Ber.{IsLength, IsExtent}
use Rattle.term_values.specs.FirstFault.{IsPast, least, LengthFault}
use Rattle.term_values.specs.BerReading.{is_past, long_length, length_at}
use Rattle.term_values.specs.SpellingLaws.{AreOctets}
use Rattle.term_values.proofs.NumberLaws.{number-append}

pub past_true : (behind : Option ℕ) (octets : List ℕ) (needed : ℕ) → is_past behind octets needed ≡ true →
    IsPast behind octets needed
past_true None octets needed e = absurd (false≢true e)
past_true (Some missing) octets needed e = ltb-true (length octets + missing) needed e

pub past_false : (behind : Option ℕ) (octets : List ℕ) (needed : ℕ) → is_past behind octets needed ≡ false →
    ¬ (IsPast behind octets needed)
past_false None octets needed e p = p
past_false (Some missing) octets needed e p = let l = ltb-false (length octets + missing) needed e in
    let h : length octets + missing < needed = p in omega arith

pub past_is : (behind : Option ℕ) (octets : List ℕ) (needed : ℕ) → IsPast behind octets needed →
    is_past behind octets needed ≡ true
past_is None octets needed p = absurd p
past_is (Some missing) octets needed p = lt-ltb (length octets + missing) needed p

pub past_not : (behind : Option ℕ) (octets : List ℕ) (needed : ℕ) → ¬ (IsPast behind octets needed) →
    is_past behind octets needed ≡ false
past_not behind octets needed n =
    ⊎_elim
    (λ (t : is_past behind octets needed ≡ true). absurd (n (past_true behind octets needed t)))
    (λ (f : is_past behind octets needed ≡ false). f)
    (cases_Bool (is_past behind octets needed))

past_more : (behind : Option ℕ) (octets : List ℕ) (m n : ℕ) → m ≤ n → IsPast behind octets m → IsPast behind octets n
past_more None octets m n h p = p
past_more (Some missing) octets m n h p = let l : length octets + missing < m = p in omega arith

-- so many octets were read
past_behind : (behind : Option ℕ) (octets rest : List ℕ) (count n : ℕ) → length octets ≡ count + length rest →
    IsPast behind rest n → IsPast behind octets (count + n)
past_behind None octets rest count n e p = p
past_behind (Some missing) octets rest count n e p = let l : length rest + missing < n = p in omega arith

past_before : (behind : Option ℕ) (octets rest : List ℕ) (count n : ℕ) → length octets ≡ count + length rest →
    IsPast behind octets (count + n) → IsPast behind rest n
past_before None octets rest count n e p = p
past_before (Some missing) octets rest count n e p = let l : length octets + missing < count + n = p in omega arith

-- the contents of a definite length are within the definite value round it
abbrev pub IsWithin : Option ℕ → Option ℕ → List ℕ → Type 0
IsWithin behind None rest = Unit {0}
IsWithin behind (Some n) rest = ¬ (IsPast behind rest n)

-- octets of a length, and what stands behind them
pub record LengthSplit (constructed : Bool) (behind : Option ℕ) (octets : List ℕ) (extent : Option ℕ)
    (rest : List ℕ) : Type 0 where
  pub size : List ℕ
  pub whole : octets ≡ size ++ rest
  pub is_extent : IsExtent constructed extent size
  pub within : IsWithin behind extent rest

abbrev pub LengthTold : Bool → Option ℕ → List ℕ → Result (Option ℕ × List ℕ) BerKind → Type 0
LengthTold constructed behind octets (Ok p) = LengthSplit constructed behind octets p.0 p.1
LengthTold constructed behind octets (Err kind) = LengthFault constructed behind octets kind

-- as many octets as are announced come to the number that they give
least_whole : (count : ℕ) (more : List ℕ) → length more ≡ count → least count more ≡ count + number more
least_whole count more e =
    let left : count - length more ≡ 0 = omega arith in
    let one : 256 ^ (count - length more) ≡ 1 = ap (λ k. 256 ^ k) left in
    rw one (omega arith)

long_told : (constructed : Bool) (behind : Option ℕ) (first : ℕ) (octets : List ℕ) → 128 < first → first < 255 →
    LengthTold constructed behind (first ∷ octets) (long_length behind (first - 128) octets)
long_told constructed behind first octets l h =
    let count = first - 128 in
    let more = take count octets in
    let first_is : first ≡ 128 + count = omega arith in
    let split : octets ≡ more ++ drop count octets = sym (take-append-drop count octets) in
    let whole : first ∷ octets ≡ (128 + count) ∷ (more ++ drop count octets) = ap (λ o. o ∷ octets) first_is
    ∙ ap (λ xs. (128 + count) ∷ xs) split in
    let few : length more ≤ count = omega (arith, length-take count octets) in
    ⊎_elim
    (λ (t : (nat_le 4294967296 (number more) || is_past behind octets (least count more)) ≡ true).
    let which : (4294967296 ≤ number more) ⊎ IsPast behind (more ++ drop count octets) (least count more) = ⊎_elim
    (λ (p : nat_le 4294967296 (number more) ≡ true). inl (leb-true 4294967296 (number more) p))
    (λ (p : nat_le 4294967296 (number more) ≡ false).
    inr (subst (λ xs. IsPast behind xs (least count more)) split
    (past_true behind octets (least count more) (rw p at t))))
    (cases_Bool (nat_le 4294967296 (number more))) in
    rw t (LengthFault.long_past count more (drop count octets) whole (omega arith) (omega arith) few which refl))
    (λ (f : (nat_le 4294967296 (number more) || is_past behind octets (least count more)) ≡ false).
    let parts = or_parts (nat_le 4294967296 (number more)) (is_past behind octets (least count more)) f in
    let small : number more < 4294967296 = leb-false 4294967296 (number more) parts.0 in
    let here : ¬ (IsPast behind octets (least count more)) = past_false behind octets (least count more) parts.1 in
    ⊎_elim
    (λ (s : nat_lt (length octets) count ≡ true).
    let short = ltb-true (length octets) count s in
    let all : more ≡ octets = take_all count octets (omega arith) in
    rw (f, s)
    (LengthFault.long_cut count octets (ap (λ o. o ∷ octets) first_is) (omega arith) (omega arith) short
    (subst (λ xs. number xs < 4294967296) all small)
    (subst (λ xs. ¬ (IsPast behind octets (least count xs))) all here) refl))
    (λ (s : nat_lt (length octets) count ≡ false).
    let enough : count ≤ length octets = ltb-false (length octets) count s in
    let long : length more ≡ count = length-take-le count octets enough in
    let left : length octets ≡ count + length (drop count octets) = omega (arith, length-drop count octets) in
    rw (f, s) (record {
      size = first ∷ more;
      whole = ap (λ xs. first ∷ xs) split;
      is_extent = inr (omega arith, omega arith, omega arith, refl, small);
      within = λ p.
          here (subst (λ n. IsPast behind octets n) (sym (least_whole count more long))
          (past_behind behind octets (drop count octets) count (number more) left p));
    }))
    (cases_Bool (nat_lt (length octets) count)))
    (cases_Bool (nat_le 4294967296 (number more) || is_past behind octets (least count more)))

endless_told : (constructed : Bool) (behind : Option ℕ) (octets : List ℕ) →
    LengthTold constructed behind (128 ∷ octets) (length_at constructed behind (128 ∷ octets))
unfolding length_at
endless_told true behind octets = record { size = 128 ∷ []; whole = refl; is_extent = (refl, refl); within = tt }
endless_told false behind octets = LengthFault.no_indefinite octets refl refl refl

pub length_told : (constructed : Bool) (behind : Option ℕ) (octets : List ℕ) → AreOctets octets →
    LengthTold constructed behind octets (length_at constructed behind octets)
unfolding length_at endless_told
length_told constructed behind [] h = LengthFault.length_cut refl refl
length_told constructed behind (first ∷ octets) h =
    let top : first < 256 = h 0 0 (omega arith) in
    ⊎_elim
    (λ (s : nat_lt first 128 ≡ true).
    let short = ltb-true first 128 s in
    ⊎_elim
    (λ (p : is_past behind octets first ≡ true).
    rw (s, p) (LengthFault.short_past first octets refl short (past_true behind octets first p) refl))
    (λ (p : is_past behind octets first ≡ false).
    rw (s, p) (record {
      size = first ∷ [];
      whole = refl;
      is_extent = inl (short, refl, refl);
      within =
          past_false behind octets first p;
    }))
    (cases_Bool (is_past behind octets first)))
    (λ (s : nat_lt first 128 ≡ false).
    let long = ltb-false first 128 s in
    ⊎_elim
    (λ (e : (first == 128) ≡ true).
    subst (λ f. LengthTold constructed behind (f ∷ octets) (length_at constructed behind (f ∷ octets)))
    (sym (eqb-true first 128 e)) (endless_told constructed behind octets))
    (λ (e : (first == 128) ≡ false).
    let other = eqb-false first 128 e in
    ⊎_elim
    (λ (r : nat_le 255 first ≡ true).
    let last = leb-true 255 first r in
    let is : first ≡ 255 = omega arith in
    rw (s, e, r) (LengthFault.reserved octets (ap (λ f. f ∷ octets) is) refl))
    (λ (r : nat_le 255 first ≡ false).
    let below = leb-false 255 first r in
    rw (s, e, r) (long_told constructed behind first octets (omega arith) below))
    (cases_Bool (nat_le 255 first)))
    (cases_Bool (first == 128)))
    (cases_Bool (nat_lt first 128))

-- what is certain stays certain when more octets are read
number_grows : (more extra : List ℕ) → number more ≤ number (more ++ extra)
number_grows more extra =
    let e = number-append more extra in
    let l : number more ≤ number more * 256 ^ length extra =
    le-mul_of_pos_right (number more) (one-le-pow (length extra) 256 (omega arith)) in
    omega arith

least_grows : (count : ℕ) (more extra : List ℕ) → length more + length extra ≤ count →
    least count more ≤ least count (more ++ extra)
least_grows count more extra h =
    let a = number more in
    let p = 256 ^ length extra in
    let q = 256 ^ (count - length (more ++ extra)) in
    let l = length-append more extra in
    let left : count - length more ≡ length extra + (count - length (more ++ extra)) = omega arith in
    let power : 256 ^ (count - length more) ≡ p * q = ap (λ k. 256 ^ k) left
    ∙ pow-add 256 (length extra) (count - length (more ++ extra)) in
    let grown : a * p ≤ number (more ++ extra) = (let e = number-append more extra in omega arith) in
    let row : a * p * q ≤ number (more ++ extra) * q = mul-le-mul_right q grown in
    let same : a * 256 ^ (count - length more) ≡ a * p * q = ap (λ k. a * k) power ∙ sym (mul_assoc a p q) in
    omega arith

long_bad : (behind : Option ℕ) (count : ℕ) (more others : List ℕ) → length more ≤ count → (4294967296 ≤ number more)
    ⊎ IsPast behind (more ++ others) (least count more) → long_length behind count (more ++ others) ≡ Err BadLength
long_bad behind count more others few which =
    let extra = take (count - length more) others in
    let at : take count (more ++ others) ≡ more ++ extra =
    ap (λ k. take k (more ++ others)) (let e : count ≡ length more + (count - length more) = omega arith in e)
    ∙ take-append-add more others (count - length more) in
    let long : length more + length extra ≤ count = omega (arith, length-take (count - length more) others) in
    let bad : (nat_le 4294967296 (number (more ++ extra)) || is_past behind (more ++ others)
    (least count (more ++ extra))) ≡ true = elim which [
      | inl past ↦ let g = number_grows more extra in
          or_left _ _ (le-leb 4294967296 (number (more ++ extra)) (omega arith))
      | inr past ↦
          or_right _ _
          (past_is behind (more ++ others) (least count (more ++ extra))
          (past_more behind (more ++ others) (least count more) (least count (more ++ extra))
          (least_grows count more extra long) past))
    ] in
    rw (at, bad) refl

-- the tests on a length octet of the long form
long_tests : (constructed : Bool) (behind : Option ℕ) (count : ℕ) (octets : List ℕ) → 0 < count → count < 127 →
    length_at constructed behind ((128 + count) ∷ octets) ≡ long_length behind count octets
unfolding length_at
long_tests constructed behind count octets some few =
    let back : 128 + count - 128 ≡ count = omega arith in
    rw (
      le-ltb (128 + count) 128 (omega arith),
      ne_eqb (128 + count) 128 (λ e. omega arith),
      lt-leb 255 (128 + count)
          (omega arith),
      back,
    ) refl

pub length_faulty : (constructed : Bool) (behind : Option ℕ) (octets : List ℕ) (kind : BerKind) →
    LengthFault constructed behind octets kind → length_at constructed behind octets ≡ Err kind
unfolding length_at
length_faulty constructed behind octets kind (LengthFault.length_cut e k) = ap (length_at constructed behind) e
    ∙ ap Err (sym k)
length_faulty constructed behind octets kind (LengthFault.reserved others e k) = ap (length_at constructed behind) e
    ∙ ap Err (sym k)
length_faulty constructed behind octets kind (LengthFault.no_indefinite others e p k) =
    ap (length_at constructed behind) e ∙ rw p (ap Err (sym k))
length_faulty constructed behind octets kind (LengthFault.short_past first others e short past k) =
    ap (length_at constructed behind) e ∙ rw (lt-ltb first 128 short, past_is behind others first past) (ap Err (sym k))
length_faulty constructed behind octets kind (LengthFault.long_past count more others e some few size which k) =
    ap (length_at constructed behind) e
    ∙ (long_tests constructed behind count (more ++ others) some few
    ∙ (long_bad behind count more others size which ∙ ap Err (sym k)))
length_faulty constructed behind octets kind (LengthFault.long_cut count more e some few short small here k) =
    let all : take count more ≡ more = take_all count more (omega arith) in
    let good : (nat_le 4294967296 (number more) || is_past behind more (least count more)) ≡ false =
    or_from _ _ (lt-leb 4294967296 (number more) small) (past_not behind more (least count more) here) in
    ap (length_at constructed behind) e
    ∙ (long_tests constructed behind count more some few
    ∙ rw (all, good, lt-ltb (length more) count short) (ap Err (sym k)))

definite_read : (constructed : Bool) (behind : Option ℕ) (n : ℕ) (size rest : List ℕ) → IsLength size n →
    ¬ (IsPast behind rest n) → length_at constructed behind (size ++ rest) ≡ Ok (Some n, rest)
unfolding length_at
definite_read constructed behind n [] rest l within = absurd l
definite_read constructed behind n (first ∷ more) rest l within =
    elim l [
      | inl s ↦
          let octets : (first ∷ more) ++ rest ≡ n ∷ rest = ap (λ xs. first ∷ (xs ++ rest)) s.1
          ∙ ap (λ f. f ∷ rest) (sym s.2) in
          let n_is = s.2 in
          let short = s.0 in
          ap (length_at constructed behind) octets ∙ rw (lt-ltb n 128 (omega arith), past_not behind rest n within) refl
      | inr s ↦
          let first_is = s.0 in
          let some = s.1 in
          let few = s.2 in
          let n_is = s.3 in
          let small : n < 4294967296 = s.4 in
          let count = length more in
          let number_small : number more < 4294967296 = omega arith in
          let all : take count (more ++ rest) ≡ more = take_at more rest count refl in
          let left : length (more ++ rest) ≡ count + length rest = length-append more rest in
          let here : ¬ (IsPast behind (more ++ rest) (least count more)) =
          λ p. within
          (subst (λ k. IsPast behind rest k) (sym n_is)
          (past_before behind (more ++ rest) rest count (number more) left
          (subst (λ k. IsPast behind (more ++ rest) k) (least_whole count more refl) p))) in
          let good : (nat_le 4294967296 (number more) || is_past behind (more ++ rest) (least count more)) ≡ false =
          or_from _ _ (lt-leb 4294967296 (number more) number_small)
          (past_not behind (more ++ rest) (least count more) here) in
          ap (λ f. length_at constructed behind (f ∷ (more ++ rest))) first_is
          ∙ (long_tests constructed behind count (more ++ rest) some few
          ∙ rw (all, good, le-ltb (length (more ++ rest)) count (omega arith), drop_at more rest count refl)
          (ap (λ k. Ok (Some k, rest)) (sym n_is)))
    ]

pub length_read : (constructed : Bool) (behind extent : Option ℕ) (size rest : List ℕ) →
    IsExtent constructed extent size → IsWithin behind extent rest →
    length_at constructed behind (size ++ rest) ≡ Ok (extent, rest)
unfolding length_at
length_read constructed behind (Some n) size rest is within = definite_read constructed behind n size rest is within
length_read constructed behind None size rest is within = ap (λ xs. length_at constructed behind (xs ++ rest)) is.1
    ∙ rw is.0 refl
