-- Laws of numbers and the octets that stand for them: X.690, sections 8.1.3.5 and 8.3.
use Rattle.std.proofs.Common.{◌≡◌, ℕ, zero, suc, ◌+◌, ◌*◌, ◌/◌, ◌%◌, ◌^◌, ◌<◌, ◌≤◌, List, [], ◌∷◌, ◌++◌, length, get_or}
use Rattle.std.proofs.Common.{take, drop, All, sym, ap, ◌∙◌, refl, arith, length-append}
use Rattle.std.proofs.lemmas.Nat.{pow-add, mul-add-lt, div-mul-add}
use Rattle.std.proofs.Math.Nat.{mul_comm, mod-one, mod-eq_of_lt, mul-add-div_right, mul-add-mod_self_right, pow-suc}
use Rattle.std.proofs.Math.Nat.{one-le-pow, add-mul, mul_assoc, le-mul_of_pos_right}
use Rattle.std.proofs.Math.Arith.{mod-mul}
use Rattle.std.proofs.lemmas.List.{take_more, take-append-drop}
use Rattle.term_values.specs.Octets.{number, octets}

regrouped : (x a p n m : ℕ) → x * (a * p) + (n * p + m) ≡ (x * a + n) * p + m
regrouped x a p n m = rw (add-mul (x * a) n p, mul_assoc x a p) (omega arith)

pub number-append : (xs ys : List ℕ) → number (xs ++ ys) ≡ number xs * 256 ^ length ys + number ys
number-append [] ys = omega arith
number-append (x ∷ xs) ys =
    rw (length-append xs ys, number-append xs ys, pow-add 256 (length xs) (length ys))
    (regrouped x (256 ^ length xs) (256 ^ length ys) (number xs) (number ys))

pub number-push : (xs : List ℕ) (y : ℕ) → number (xs ++ y ∷ []) ≡ number xs * 256 + y
number-push xs y = number-append xs (y ∷ []) ∙ omega arith

pub number-take_more : (xs : List ℕ) (i : ℕ) → i < length xs
    → number (take (i + 1) xs) ≡ number (take i xs) * 256 + get_or xs i 0
number-take_more xs i h = ap number (take_more xs i 0 h) ∙ number-push (take i xs) (get_or xs i 0)

pub number-take-le : (xs : List ℕ) (i : ℕ) → number (take i xs) ≤ number xs
number-take-le xs i =
    let whole : number xs ≡ number (take i xs) * 256 ^ length (drop i xs) + number (drop i xs) =
    ap number (sym (take-append-drop i xs)) ∙ number-append (take i xs) (drop i xs) in
    let least : number (take i xs) ≤ number (take i xs) * 256 ^ length (drop i xs) =
    le-mul_of_pos_right (number (take i xs)) (one-le-pow (length (drop i xs)) 256 (omega arith)) in
    omega arith

pub tail_of : (x : ℕ) (xs : List ℕ) → All (λ x. x < 256) (x ∷ xs) → All (λ x. x < 256) xs
tail_of x xs h = λ k d i. h (suc k) d (omega arith)

-- octets that stand for a number below 2 ^ (8 * count)
pub number-below : (xs : List ℕ) → All (λ x. x < 256) xs → number xs < 256 ^ length xs
number-below [] h = omega arith
number-below (x ∷ xs) h =
    let top : x < 256 = h 0 x (omega arith) in
    let all : 256 ^ suc (length xs) ≡ 256 ^ length xs * 256 = pow-suc 256 (length xs) in
    let rest : number xs < 256 ^ length xs = number-below xs (tail_of x xs h) in
    let row : x * 256 ^ length xs + number xs < 256 ^ length xs * 256 =
    mul-add-lt x (256 ^ length xs) (number xs) 256 top rest in
    rw all row

-- what stands above the last octets does not change them
octets-add : (count x p n : ℕ) → p ≡ 256 ^ count → octets count (x * p + n) ≡ octets count n
octets-add zero x p n e = refl
octets-add (suc count) x p n e =
    let q = 256 ^ count in
    let above : 0 < q = one-le-pow count 256 (omega arith) in
    let split : x * p ≡ x * 256 * q = ap (λ w. x * w) (e ∙ pow-suc 256 count ∙ mul_comm q 256)
    ∙ sym (mul_assoc x 256 q) in
    let moved : (x * p + n) / q % 256 ≡ n / q % 256 =
    rw (split, mul-add-div_right above (x * 256) n) (mul-add-mod_self_right x 256 (n / q)) in
    let rest : octets count (x * p + n) ≡ octets count n = rw split (octets-add count (x * 256) q n refl) in
    cc

-- the octets of the number that octets stand for are those octets
pub octets-number : (xs : List ℕ) → All (λ x. x < 256) xs → octets (length xs) (number xs) ≡ xs
octets-number [] h = refl
octets-number (x ∷ xs) h =
    let top : x < 256 = h 0 x (omega arith) in
    let below : number xs < 256 ^ length xs = number-below xs (tail_of x xs h) in
    let first : (x * 256 ^ length xs + number xs) / 256 ^ length xs % 256 ≡ x =
    rw (div-mul-add x (256 ^ length xs) (number xs) below) (mod-eq_of_lt top) in
    let rest : octets (length xs) (x * 256 ^ length xs + number xs) ≡ xs =
    octets-add (length xs) x (256 ^ length xs) (number xs) refl ∙ octets-number xs (tail_of x xs h) in
    cc

pub length-octets : (count n : ℕ) → length (octets count n) ≡ count
length-octets zero n = refl
length-octets (suc count) n = ap suc (length-octets count n)

-- the number of the last octets of a number
pub number-octets : (count n : ℕ) → number (octets count n) ≡ n % 256 ^ count
number-octets zero n = sym (mod-one n)
number-octets (suc count) n =
    rw (length-octets count n, number-octets count n, pow-suc 256 count, mul_comm (256 ^ count) 256)
    (sym (mod-mul n (omega arith) (one-le-pow count 256 (omega arith))))

-- a number that the octets hold
pub number-octets_all : (count n : ℕ) → n < 256 ^ count → number (octets count n) ≡ n
number-octets_all count n h = number-octets count n ∙ mod-eq_of_lt h
