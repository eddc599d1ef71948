-- What the parts of a writing come to when they stand together: X.690, sections 8.1, 8.3 and 8.19.
use Rattle.std.proofs.Common.{◌≡◌, ℕ, zero, suc, ◌+◌, ◌*◌, ◌/◌, ◌%◌, ◌^◌, ◌<◌, ◌≤◌, Bool, true, false, List, [], ◌∷◌}
use Rattle.std.proofs.Common.{◌++◌, sym, ap, ◌∙◌, refl, ⊎_elim, arith, append_assoc, add-one}
use Rattle.std.proofs.lemmas.Bool.{lt-ltb, le-ltb, cases_lt}
use Rattle.std.proofs.lemmas.Nat.{pow-add}
use Rattle.std.proofs.Math.Nat.{pow-suc}
use Rattle.term_values.specs.Oid.{subidentifier}
use Rattle.ber_tree.specs.Integers.{octet_turned}
use Rattle.ber_tree.specs.Writing.{group, last_octets}

group_none : (unit n : ℕ) → n < unit → group unit n ≡ []
group_none unit n h = rw (lt-ltb n unit h) refl

group_one : (unit n : ℕ) → unit ≤ n → group unit n ≡ (128 + n / unit % 128) ∷ []
group_one unit n h = rw (le-ltb n unit h) refl

-- the groups in their order are the subidentifier
groups_in_order : (n : ℕ) → group 268435456 n
    ++ (group 2097152 n ++ (group 16384 n ++ (group 128 n ++ (n % 128 ∷ [])))) ≡ subidentifier n
unfolding subidentifier
groups_in_order n =
    ⊎_elim
    (λ (h : n < 128). rw (
      group_none 268435456 n (omega arith),
      group_none 2097152 n (omega arith),
      group_none 16384 n (omega arith),
      group_none 128 n h,
      lt-ltb n 128 h,
    ) refl)
    (λ (h : 128 ≤ n). ⊎_elim
    (λ (i : n < 16384). rw (
      group_none 268435456 n (omega arith),
      group_none 2097152 n (omega arith),
      group_none 16384 n i,
      group_one 128 n h,
      le-ltb n 128 h,
      lt-ltb n 16384 i,
    ) refl)
    (λ (i : 16384 ≤ n). ⊎_elim
    (λ (j : n < 2097152). rw (
      group_none 268435456 n (omega arith),
      group_none 2097152 n j,
      group_one 16384 n i,
      group_one 128 n h,
      le-ltb n 128 h,
      le-ltb n 16384 i,
      lt-ltb n 2097152 j,
    ) refl)
    (λ (j : 2097152 ≤ n). ⊎_elim
    (λ (k : n < 268435456). rw (
      group_none 268435456 n k,
      group_one 2097152 n j,
      group_one 16384 n i,
      group_one 128 n h,
      le-ltb n 128 h,
      le-ltb n 16384 i,
      le-ltb n 2097152 j,
      lt-ltb n 268435456 k,
    ) refl)
    (λ (k : 268435456 ≤ n). rw (
      group_one 268435456 n k,
      group_one 2097152 n j,
      group_one 16384 n i,
      group_one 128 n h,
      le-ltb n 128 h,
      le-ltb n 16384 i,
      le-ltb n 2097152 j,
      le-ltb n 268435456 k,
    ) refl)
    (cases_lt n 268435456))
    (cases_lt n 2097152))
    (cases_lt n 16384))
    (cases_lt n 128)

pub groups_appended : (xs : List ℕ) (n : ℕ)
    → ((((xs ++ group 268435456 n) ++ group 2097152 n) ++ group 16384 n) ++ group 128 n) ++ (n % 128 ∷ []) ≡ xs
    ++ subidentifier n
groups_appended xs n = simp append_assoc (ap (λ ys. xs ++ ys) (groups_in_order n))

pow_of_octets : (p : ℕ) → 2 ^ (8 * p) ≡ 256 ^ p
pow_of_octets zero = refl
pow_of_octets (suc p) =
    let e : 8 * suc p ≡ 8 * p + 8 = omega arith in
    ap (λ k. 2 ^ k) e ∙ (pow-add 2 (8 * p) 8 ∙ (ap (λ x. x * 256) (pow_of_octets p) ∙ sym (pow-suc 256 p)))

last_octets_more : (turned : Bool) (p n : ℕ)
    → last_octets turned (p + 1) n ≡ octet_turned turned (n / 2 ^ (8 * p) % 256) ∷ last_octets turned p n
last_octets_more true p n = rw (add-one p, pow_of_octets p) refl
last_octets_more false p n = rw (add-one p, pow_of_octets p) refl

-- one octet more is written, and one less is to be written
pub octet_pushed : (turned : Bool) (old now goal : List ℕ) (place p n octet : ℕ) → place ≡ p + 1
    → octet ≡ octet_turned turned (n / 2 ^ (8 * p) % 256) → now ≡ old ++ octet ∷ [] → old
    ++ last_octets turned place n ≡ goal → now ++ last_octets turned p n ≡ goal
octet_pushed turned old now goal place p n octet e f g h =
    ap (λ xs. xs ++ last_octets turned p n) g
    ∙ (append_assoc old (octet ∷ []) (last_octets turned p n)
    ∙ (ap (λ x. old ++ (x ∷ last_octets turned p n)) f
    ∙ (ap (λ xs. old ++ xs) (sym (last_octets_more turned p n))
    ∙ (ap (λ k. old ++ last_octets turned k n) (sym e) ∙ h))))
