-- PartLaws: a text is split at a byte in one way, and the digits of numbers and octets are without other bytes.
use Rattle.std.proofs.Common.{◌≡◌, ℕ, suc, ◌+◌, ◌/◌, ◌%◌, ◌<◌, List, [], ◌∷◌, ◌++◌, slice_index, Option, Some, None}
use Rattle.std.proofs.Common.{Result, Ok, Err, Bool, false, IsTrue, refl, sym, ap, ◌∙◌, arith}
use Rattle.std.specs.Prelude.{◌↔◌, decimal}
use Rattle.std.specs.Str.Parse.{ParsesUnsigned}
use Rattle.std.proofs.lemmas.Fmt.{decimal_by_steps, parse-decimal}
use Rattle.hex.specs.Hex.{IsBytes, decode_of, encode_upper, encode_with, hex_digit_value, upper_digits}
use Rattle.hex.proofs.HexLemmas.{IsDigits-upper_digits, decode_of-encode_upper, decode_of-same}
use Rattle.script_lines.specs.ScriptText.{IsHeld, IsNumber}
use Rattle.script_lines.specs.LineParts.{IsNumberIn, IsWithout}

-- ---- a byte that stands nowhere in a text

abbrev pub Lacks : ℕ → List ℕ → Type 0
Lacks byte [] = Unit {0}
Lacks byte (x ∷ xs) = (x ≡ byte → ⊥) × Lacks byte xs

pub lacks : (byte : ℕ) (xs : List ℕ) → IsWithout byte xs → Lacks byte xs
lacks byte [] h = tt
lacks byte (x ∷ xs) h = (h 0 (omega arith), lacks byte xs (λ k lt. h (suc k) (omega (arith, lt))))

pub lacks_both : (byte : ℕ) (xs ys : List ℕ) → Lacks byte xs → Lacks byte ys → Lacks byte (xs ++ ys)
lacks_both byte [] ys hx hy = hy
lacks_both byte (x ∷ xs) ys hx hy = (hx.0, lacks_both byte xs ys hx.1 hy)

-- a text with the byte is not without it
pub stands : (byte : ℕ) (front behind : List ℕ) → Lacks byte (front ++ (byte ∷ behind)) → ⊥
stands byte [] behind h = h.0 refl
stands byte (x ∷ front) behind h = stands byte front behind h.1

abbrev pub head_of : List ℕ → ℕ
head_of [] = 0
head_of (x ∷ xs) = x

abbrev tail_of : List ℕ → List ℕ
tail_of [] = []
tail_of (x ∷ xs) = xs

-- a text is split at its first such byte in one way
pub one_split : (byte : ℕ) (a b r s : List ℕ) → Lacks byte a → Lacks byte b → a ++ (byte ∷ r) ≡ b ++ (byte ∷ s)
    → (a ≡ b) × (r ≡ s)
one_split byte [] [] r s ha hb e = (refl, ap tail_of e)
one_split byte [] (y ∷ b) r s ha hb e = absurd (hb.0 (sym (ap head_of e)))
one_split byte (x ∷ a) [] r s ha hb e = absurd (ha.0 (ap head_of e))
one_split byte (x ∷ a) (y ∷ b) r s ha hb e =
    let same = one_split byte a b r s ha.1 hb.1 (ap tail_of e) in
    (ap (λ l. x ∷ l) same.0 ∙ ap (λ z. z ∷ b) (ap head_of e), same.1)

-- ---- digits

-- digits are the bytes 48 to 57
pub decimal_lacks : (byte number : ℕ) → byte < 48 → IsNumber number → Lacks byte (decimal number)
decimal_lacks byte number low small =
    decimal_by_steps (λ n ds. Lacks byte ds) (λ n lt. (λ e. omega (arith, e, low), tt))
    (λ n ds ten h. lacks_both byte ds ((48 + n % 10) ∷ []) h (λ e. omega (arith, e, low), tt)) number small

digit_lacks : (byte d : ℕ) → hex_digit_value byte ≡ None → d < 16 → slice_index upper_digits d ≡ byte → ⊥
digit_lacks byte d other lt e =
    let none : ◌≡◌ {A = Option ℕ} None (Some d) = sym other ∙ (sym (ap hex_digit_value e) ∙ IsDigits-upper_digits d lt) in
    cc none

pub digits_lack : (byte : ℕ) (xs : List ℕ) → hex_digit_value byte ≡ None → IsBytes xs → Lacks byte (encode_upper xs)
unfolding encode_with
digits_lack byte [] other h = tt
digits_lack byte (x ∷ xs) other h =
    let fits : x < 256 = h 0 in
    let high : x / 16 < 16 = omega (arith, fits) in
    let low : x % 16 < 16 = omega arith in (
      digit_lacks byte (x / 16) other high,
      (digit_lacks byte (x % 16) other low, digits_lack byte xs other (λ k. h (suc k))),
    )

pub same_octets : (a b : List ℕ) → encode_upper a ≡ encode_upper b → IsHeld a → IsHeld b → a ≡ b
same_octets a b e ha hb =
    decode_of-same (encode_upper a) a b (decode_of-encode_upper a ha.octets_all)
    (ap decode_of e ∙ decode_of-encode_upper b hb.octets_all)

-- ---- a number

abbrev SameAnswer : (E : Type 0) → Result ℕ E → Result ℕ E → Type 0
SameAnswer E one other = one ≡ other

one_number : {E : Type 0} (a b : ℕ) → SameAnswer E (Ok a) (Ok b) → a ≡ b
one_number a b same = ap (λ r. elim r [ Ok n ↦ n | Err e ↦ a ]) same

-- a text that is parsed as a number whose text it isn't is that of none
pub no_number : {E : Type 0} (digits : List ℕ) (number : ℕ) (r : Result ℕ E) (is : Bool) → r ≡ Ok number →
    ParsesUnsigned 64 10 digits r → IsTrue is ↔ (digits ≡ decimal number) → is ≡ false → IsNumberIn digits None
no_number digits number r is read parses told false' n small e =
    let same = one_number number n (sym read ∙ parse-decimal 64 n digits r small small e parses) in
    let yes = told.1 (e ∙ ap (λ k. decimal k) (sym same)) in
    absurd (cc (yes, false'))

-- a text that isn't parsed is that of none
pub unparsed : {E : Type 0} (digits : List ℕ) (r : Result ℕ E) (e : E) → r ≡ Err e → ParsesUnsigned 64 10 digits r →
    IsNumberIn digits None
unparsed digits r e is parses n small spelt = differ (sym is ∙ parse-decimal 64 n digits r small small spelt parses)
  where
    differ : {E : Type 0} {e : E} {n : ℕ} → SameAnswer E (Err e) (Ok n) → ⊥
    differ same = absurd (cc)
